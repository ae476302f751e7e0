-- The tokens of a text, and its first fault.
use Rattle.std.specs.Prelude.{ℕ, ◌-◌, ◌^◌, ◌≡◌, ◌≢◌, ◌<◌, ◌≤◌, ◌⊎◌, true, false, pos, List, [], ◌∷◌, ◌++◌, length, take}
use Rattle.std.specs.Prelude.{drop, take_while, Result, Ok, Err}
use Rattle.std.specs.List.{prefix_len, slice_range}
use Rattle.std.specs.Char.{is_ascii_digit}
use Rattle.tj_lex.specs.declared.bytes.TheConstants.{MAX_NAME}
use Rattle.tj_lex.specs.declared.place.Place.{Place}
use Rattle.tj_lex.specs.declared.token.Token.{Token}
use Rattle.tj_lex.specs.declared.token.Tok.{Tok}
use Rattle.tj_lex.specs.declared.token.Tok.TheVariants as toks
use Rattle.tj_lex.specs.declared.token.Key.{Key}
use Rattle.tj_lex.specs.declared.token.Mark.{Mark}
use Rattle.tj_lex.specs.declared.token.LexFault.{LexFault}
use Rattle.tj_lex.specs.declared.token.LexFault.TheVariants as faults
use Rattle.tj_lex.specs.Bytes.{is_blank, is_name_start, is_name_byte, is_gap_start, begins_with, line_feed, hash}
use Rattle.tj_lex.specs.Positions.{position_after}
use Rattle.tj_lex.specs.Spelling.{key_text, mark_text, decimal}

abbrev mutual
  -- what may stand between tokens: blanks, and comments of any bytes up to their line feed
  pub IsGap : List ℕ → Type 0
  IsGap [] = Unit {0}
  IsGap (b ∷ rest) = ((is_blank b ≡ true) × IsGap rest) ⊎ ((b ≡ hash) × IsComment rest)

  -- the rest of a comment, its line feed, and what may stand behind it
  -- a comment takes its line feed along, so a text is at its end where its rest, with a line feed added, is a gap
  pub IsComment : List ℕ → Type 0
  IsComment [] = ⊥
  IsComment (b ∷ rest) = ((b ≡ line_feed) × IsGap rest) ⊎ ((b ≢ line_feed) × IsComment rest)

-- the greatest number, 9223372036854775807
abbrev pub greatest_number : ℕ
greatest_number = 2 ^ 63 - 1

-- the most bytes of a name
abbrev pub longest_name : ℕ
longest_name = MAX_NAME

-- the text begins with these bytes
abbrev pub StartsWith : List ℕ → List ℕ → Type 0
StartsWith bytes text = take (length bytes) text ≡ bytes

-- the text begins with a token of these bytes: the longest name, number or mark
abbrev pub Spells : (text bytes : List ℕ) → Tok → Type 0
Spells text bytes (toks.Name word) =
    (begins_with is_name_start text ≡ true) × (bytes ≡ take_while is_name_byte text)
    × (length bytes ≤ longest_name) × (word ≡ bytes) × ((key : Key) → key_text key ≢ bytes)
Spells text bytes (toks.Key key) =
    (begins_with is_name_start text ≡ true) × (bytes ≡ take_while is_name_byte text) × (key_text key ≡ bytes)
Spells text bytes (toks.Num number) =
    (begins_with is_ascii_digit text ≡ true) × (bytes ≡ take_while is_ascii_digit text)
    × (decimal bytes ≤ greatest_number) × (number ≡ pos (decimal bytes))
Spells text bytes (toks.Mark mark) =
    (mark_text mark ≡ bytes) × StartsWith bytes text
    × ((other : Mark) → StartsWith (mark_text other) text → length (mark_text other) ≤ length bytes)
Spells text bytes toks.End = ⊥

-- the text begins with a fault, which stands at this position
abbrev pub IsFaultAt : Place → List ℕ → LexFault → Type 0
IsFaultAt position text (faults.Byte at) =
    (at ≡ position) × (begins_with is_name_start text ≡ false) × (begins_with is_ascii_digit text ≡ false)
    × ((mark : Mark) → StartsWith (mark_text mark) text → ⊥)
IsFaultAt position text (faults.Number at) =
    (at ≡ position) × (begins_with is_ascii_digit text ≡ true)
    × (greatest_number < decimal (take_while is_ascii_digit text))
IsFaultAt position text (faults.Long at) =
    (at ≡ position) × (begins_with is_name_start text ≡ true) × (longest_name < prefix_len is_name_byte text)
IsFaultAt position text faults.Oom = ⊥

-- from index start on, the next thing in the text is this token
pub record IsToken (text : List ℕ) (start : ℕ) (token : Token) : Type 0 where
  pub behind : start ≤ token.from
  pub some : token.from < token.to
  pub within : token.to ≤ length text
  pub gap : IsGap (slice_range text start token.from)
  pub spelled : Spells (drop token.from text) (slice_range text token.from token.to) token.what
  pub position : token.at ≡ position_after (take token.from text)

-- from index start on, nothing is left but the end; a last comment may lack its line feed
pub record IsEnd (text : List ℕ) (start : ℕ) (token : Token) : Type 0 where
  pub what : token.what ≡ toks.End
  pub from : token.from ≡ length text
  pub to : token.to ≡ length text
  pub gap : IsGap (drop start text ++ line_feed ∷ [])
  pub position : token.at ≡ position_after text

-- from index start on, the next thing in the text is this fault, at index i
pub record IsFaultFrom (text : List ℕ) (start i : ℕ) (fault : LexFault) : Type 0 where
  pub behind : start ≤ i
  pub within : i < length text
  pub gap : IsGap (slice_range text start i)
  pub no_gap : begins_with is_gap_start (drop i text) ≡ false
  pub stands : IsFaultAt (position_after (take i text)) (drop i text) fault

-- from index start up to index stop the text has these tokens, one behind the other
abbrev pub HasTokens : (text : List ℕ) (start : ℕ) → List Token → (stop : ℕ) → Type 0
HasTokens text start [] stop = start ≡ stop
HasTokens text start (token ∷ rest) stop = IsToken text start token × HasTokens text token.to rest stop

-- from index start on the text has these tokens, and the end last
pub record AreTokensFrom (text : List ℕ) (start : ℕ) (tokens : List Token) : Type 0 where
  pub front : List Token
  pub stop : ℕ
  pub last : Token
  pub whole : tokens ≡ front ++ last ∷ []
  pub has_front : HasTokens text start front stop
  pub ends : IsEnd text stop last

-- the whole text has these tokens
abbrev pub AreTokens : List ℕ → List Token → Type 0
AreTokens text tokens = AreTokensFrom text 0 tokens

-- behind some tokens the text has this fault, its first
pub record IsFirstFault (text : List ℕ) (fault : LexFault) : Type 0 where
  pub front : List Token
  pub stop : ℕ
  pub index : ℕ
  pub has_front : HasTokens text 0 front stop
  pub faults : IsFaultFrom text stop index fault

-- what a text is: its tokens, or its first fault
abbrev pub Answers : List ℕ → Result (List Token) LexFault → Type 0
Answers text (Ok tokens) = AreTokens text tokens
Answers text (Err fault) = IsFirstFault text fault

-- the fault is want of memory, or else meets the fact
abbrev pub OrMemory : (LexFault → Type 0) → LexFault → Type 0
OrMemory P faults.Oom = Unit {0}
OrMemory P fault = P fault
