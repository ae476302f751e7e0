-- The text of a listing has the listing's tokens, and they are the script.
use Rattle.std.specs.Prelude.{flat_map, ◌==◌, ◌||◌, not}
use Rattle.std.proofs.Common.{◌≡◌, ℕ, Bool, true, false, List, [], ◌∷◌, ◌++◌, refl, ap, sym, ◌∙◌, subst, arith, Vec}
use Rattle.std.proofs.Common.{Global, Result, Ok, Err}
use Rattle.std.specs.List.{AllByRecursion}
use Rattle.std.specs.Char.{is_ascii_digit}
use Rattle.std.proofs.lemmas.List.{append-nil}
use Rattle.std.proofs.lemmas.Bool.Decides.{nat_tests}
use Rattle.std.specs.Result.{IfOk}
use Rattle.tj_base.specs.declared.memory.Oom.{Oom}
use Rattle.tj_lex.proofs.Determined.{Answers-one}
use Rattle.tj_lex.proofs.Laying.{AreTokens-pieces}
use Rattle.tj_lex.specs.declared.token.LexFault.{LexFault}
use Rattle.tj_lex.specs.declared.token.Token.{Token}
use Rattle.tj_lex.specs.declared.token.Tok.{Tok}
use Rattle.tj_lex.specs.declared.token.Tok.TheVariants as toks
use Rattle.tj_lex.specs.declared.token.Mark.{Mark}
use Rattle.tj_lex.specs.declared.token.Mark.TheVariants as m
use Rattle.tj_lex.specs.Bytes.{is_blank, is_name_start, is_name_byte, begins_with}
use Rattle.tj_lex.specs.Spelling.{key_text, mark_text}
use Rattle.tj_lex.specs.Tokens.{IsGap, AreTokens}
use Rattle.tj_lex.specs.Pieces as pieces
use Rattle.tj_lex.specs.Pieces.{extends, AreLaidOut}
use Rattle.tj_syntax.specs.Trees.{Task}
use Rattle.tj_syntax.specs.Faults.{kinds_of, IsScript}
use Rattle.tj_syntax.specs.Listing.{Part, token, blanks, spelling, text_of, CanStand, script as script_parts}
use Rattle.tj_syntax.specs.Listing.{task as task_parts, names_of, listing}
use Rattle.tj_syntax.specs.Marks.{Name}
use Rattle.tj_syntax.proofs.Listed.Again.{toks_of, Stands}
use Rattle.tj_syntax.specs.Back.{Says}
use Rattle.tj_syntax.proofs.Listed.Script.{script_again}
use Rattle.tj_syntax.proofs.Listed.Apart.{script_clears}
use Rattle.tj_syntax.proofs.Listed.Clear.{not_equals, clear, AreClear, leading, pieces_of, text-pieces, blank_gap}
use Rattle.tj_syntax.proofs.Listed.Clear.{key_spells, token_spells}

or_none : (s t : Bool) → (s || t) ≡ false → (s ≡ false) × (t ≡ false)
or_none true t e = absurd (cc)
or_none false t e = (refl, e)

not_true : (s : Bool) → not s ≡ true → s ≡ false
not_true true e = absurd (cc)
not_true false e = refl

-- a byte that makes no token longer, and no other
abbrev plain : ℕ → Bool
plain b = not (is_name_byte b || b == 61)

plain_extends : (t : Tok) (b : ℕ) → plain b ≡ true → extends t b ≡ false
plain_extends (toks.Num n) b h = (or_none _ _ (or_none _ _ (not_true _ h)).0).1
plain_extends (toks.Mark mark) b h = (or_none _ _ (not_true _ h)).1
plain_extends toks.End b h = refl
plain_extends t b h = (or_none _ _ (not_true _ h)).0

begins_plain : (t : Tok) (bytes : List ℕ) → begins_with plain bytes ≡ true → begins_with (extends t) bytes ≡ false
begins_plain t [] h = absurd (cc)
begins_plain t (b ∷ bytes) h = plain_extends t b h

blank_plain : (b : ℕ) → is_blank b ≡ true → plain b ≡ true
blank_plain b h = grind (arith, nat_tests)

mark_plain : (mark : Mark) (rest : List ℕ) → not_equals mark ≡ true → begins_with plain (mark_text mark ++ rest) ≡ true
mark_plain m.Assign rest h = absurd (cc)
mark_plain m.Eq rest h = absurd (cc)
mark_plain mark rest h = refl

name_start_else : (b : ℕ) → is_name_start b ≡ true → (b == 61) ≡ false
name_start_else b h = grind (arith, nat_tests)

digit_else : (b : ℕ) → is_ascii_digit b ≡ true → (b == 61) ≡ false
digit_else b h = grind (arith, nat_tests)

word_begins : (word rest : List ℕ) → begins_with is_name_start word ≡ true
    → begins_with (λ b. b == 61) (word ++ rest) ≡ false
word_begins [] rest h = absurd (cc)
word_begins (b ∷ word) rest h = name_start_else b h

digits_begin : (digits rest : List ℕ) → begins_with is_ascii_digit digits ≡ true
    → begins_with (λ b. b == 61) (digits ++ rest) ≡ false
digits_begin [] rest h = absurd (cc)
digits_begin (b ∷ digits) rest h = digit_else b h

-- what is clear behind a token doesn't extend it
clear_begins : (t : Tok) (parts : List Part) → clear t parts ≡ true → AllByRecursion Stands parts
    → begins_with (extends t) (text_of parts) ≡ false
clear_begins t [] h s = refl
clear_begins t (blanks [] ∷ rest) h s = clear_begins t rest h s.1
clear_begins t (blanks (b ∷ bytes) ∷ rest) h s = begins_plain t (b ∷ (bytes ++ text_of rest)) (blank_plain b s.0.0)
clear_begins t (token (toks.Mark u) ∷ rest) h s =
    begins_plain t (mark_text u ++ text_of rest) (mark_plain u (text_of rest) h)
clear_begins (toks.Mark t) (token (toks.Name word) ∷ rest) h s = word_begins word (text_of rest) s.0.0
clear_begins (toks.Mark t) (token (toks.Key key) ∷ rest) h s =
    word_begins (key_text key) (text_of rest) (key_spells key).0
clear_begins (toks.Mark t) (token (toks.Num n) ∷ rest) h s =
    digits_begin (spelling (toks.Num n)) (text_of rest) (token_spells (toks.Num n) refl s.0).0
clear_begins t (token u ∷ rest) h s = absurd (cc)

-- parts that stand apart are laid out
record Laid (parts : List Part) : Type 0 where
  laid : AreLaidOut (pieces_of parts)
  gap : IsGap (leading parts)

lay : (parts : List Part) → AreClear parts [] → AllByRecursion Stands parts → Laid parts
lay [] h s = record { laid = tt; gap = tt }
lay (token t ∷ rest) h s =
    let more = lay rest h.2 s.1 in
    let behind : clear t rest ≡ true = ap (clear t) (sym (append-nil rest)) ∙ h.1 in
    record {
      laid = (
        token_spells t h.0 s.0,
        more.gap,
        subst (λ text. begins_with (extends t) text ≡ false) (text-pieces rest) (clear_begins t rest behind s.1),
        more.laid,
      );
      gap = tt;
    }
lay (blanks bytes ∷ rest) h s =
    let more = lay rest h s.1 in
    record { laid = more.laid; gap = blank_gap bytes (leading rest) s.0 more.gap }

-- the tokens of the pieces
kinds-pieces : (before : List ℕ) (parts : List Part)
    → kinds_of (pieces.tokens_of before (pieces_of parts)) ≡ toks_of parts ++ toks.End ∷ []
kinds-pieces before [] = refl
kinds-pieces before (token t ∷ rest) = ap (λ ts. t ∷ ts) (kinds-pieces (before ++ (spelling t ++ leading rest)) rest)
kinds-pieces before (blanks bytes ∷ rest) = kinds-pieces before rest

-- a script's listing begins with a token, if it isn't empty
no_blanks : (names : List Name) (script : List Task) → leading (flat_map (task_parts names) script) ≡ []
no_blanks names [] = refl
no_blanks names (t ∷ script) = refl

-- the text of a listing says the script
pub says_again : (tokens : List Tok) (script : List Task) → AllByRecursion CanStand tokens → IsScript tokens script
    → Says (listing script) script
says_again tokens script stand h =
    let again = script_again tokens script stand h in
    let parts = script_parts script in
    let laid = lay parts (script_clears script) again.stand in
    let text : pieces.text_of (pieces_of parts) ≡ text_of parts =
    sym (text-pieces parts ∙ ap (λ front. front ++ pieces.text_of (pieces_of parts))
    (no_blanks (names_of script) script)) in
    record {
      tokens = pieces.tokens_of [] (pieces_of parts);
      has = subst (λ bytes. AreTokens bytes (pieces.tokens_of [] (pieces_of parts))) text
          (AreTokens-pieces (pieces_of parts) laid.laid);
      is = subst (λ (kinds : List Tok). IsScript kinds script) (sym (kinds-pieces [] parts)) again.is;
    }

-- the tokens of a script's listing are it
pub listed_script : (script : List Task) (given : List Tok) (tokens : List Token) → AllByRecursion CanStand given
    → IsScript given script
    → AreTokens (listing script) tokens → IsScript (kinds_of tokens) script
listed_script script given tokens stand h has =
    let says = says_again given script stand h in
    let both : ◌≡◌ {A = Result (List Token) LexFault} (Ok says.tokens) (Ok tokens) = Answers-one (listing script)
    (Ok says.tokens) (Ok tokens) says.has has in
    let same : says.tokens ≡ tokens = cc in
    subst (λ ts. IsScript (kinds_of ts) script) same says.is

-- so does what is written, if it is the listing
pub says_text : (result : Result (Vec ℕ Global) Oom) (script : List Task)
    → IfOk result (λ text. text.items ≡ listing script)
    → (tokens : List Tok) → AllByRecursion CanStand tokens → IsScript tokens script
    → IfOk result (λ text. Says text.items script)
says_text (Ok text) script e tokens stand h =
    subst (λ bytes. Says bytes script) (sym e) (says_again tokens script stand h)
says_text (Err out) script e tokens stand h = tt
