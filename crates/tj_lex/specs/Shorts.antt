-- Tokens in a short form, whose names and numbers stay in the text.
use Rattle.std.specs.Prelude.{ℕ, ◌≡◌, ◌≤◌, pos, List, length, map, take}
use Rattle.std.specs.Char.{is_ascii_digit}
use Rattle.std.specs.List.{AllPass, slice_range}
use Rattle.tj_lex.specs.declared.shorts.Kind.{Kind}
use Rattle.tj_lex.specs.declared.shorts.Kind.TheVariants as kinds
use Rattle.tj_lex.specs.declared.shorts.Seen.{Seen}
use Rattle.tj_lex.specs.declared.shorts.Seen.TheVariants as seen
use Rattle.tj_lex.specs.declared.shorts.Short.{Short}
use Rattle.tj_lex.specs.declared.token.Token.{Token}
use Rattle.tj_lex.specs.declared.token.Tok.{Tok}
use Rattle.tj_lex.specs.declared.token.Tok.TheVariants as toks
use Rattle.tj_lex.specs.Positions.{position_after}
use Rattle.tj_lex.specs.Spelling.{decimal}
use Rattle.tj_lex.specs.Tokens.{greatest_number}

-- what a token of this kind with these bytes is
abbrev pub tok_of : Kind → List ℕ → Tok
tok_of kinds.Name bytes = toks.Name bytes
tok_of kinds.Num bytes = toks.Num (pos (decimal bytes))
tok_of (kinds.Key key) bytes = toks.Key key
tok_of (kinds.Mark mark) bytes = toks.Mark mark
tok_of kinds.End bytes = toks.End

-- what a token is of which this is seen
abbrev pub tok_seen : Seen → Tok
tok_seen (seen.Name bytes) = toks.Name bytes.now
tok_seen (seen.Num number) = toks.Num number
tok_seen (seen.Key key) = toks.Key key
tok_seen (seen.Mark mark) = toks.Mark mark
tok_seen seen.End = toks.End

-- what a short token of a text is
abbrev pub what_of : List ℕ → Short → Tok
what_of text short = tok_of short.what (slice_range text short.from short.to)

-- the token that a short one of a text stands for
abbrev pub token_of : List ℕ → Short → Token
token_of text short = record {
  what = what_of text short;
  at = position_after (take short.from text);
  from = short.from;
  to = short.to;
}

-- the tokens that short ones of a text stand for
abbrev pub whole_tokens : List ℕ → List Short → List Token
whole_tokens text shorts = map (token_of text) shorts

-- the bytes are those of a number
pub record IsNumber (bytes : List ℕ) : Type 0 where
  pub digits : AllPass is_ascii_digit bytes
  pub fits : decimal bytes ≤ greatest_number

-- the text has the bytes of the token, and a number's are those of a number
pub record IsIn (text : List ℕ) (short : Short) : Type 0 where
  pub ordered : short.from ≤ short.to
  pub within : short.to ≤ length text
  pub number : short.what ≡ kinds.Num → IsNumber (slice_range text short.from short.to)
