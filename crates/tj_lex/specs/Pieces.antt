-- A text that is laid out token by token, with blanks and comments behind each.
use Rattle.std.specs.Prelude.{ℕ, ◌+◌, ◌≡◌, ◌==◌, Bool, false, List, [], ◌∷◌, ◌++◌, length}
use Rattle.std.specs.List.{flat_map}
use Rattle.std.specs.Char.{is_ascii_digit}
use Rattle.tj_lex.specs.declared.token.Token.{Token}
use Rattle.tj_lex.specs.declared.token.Tok.{Tok}
use Rattle.tj_lex.specs.declared.token.Tok.TheVariants as toks
use Rattle.tj_lex.specs.Bytes.{is_name_byte, begins_with}
use Rattle.tj_lex.specs.Positions.{position_after}
use Rattle.tj_lex.specs.Tokens.{IsGap, Spells}

-- a token, its bytes, and the blanks and comments behind it
pub record Piece : Type 0 where
  pub what : Tok
  pub bytes : List ℕ
  pub gap : List ℕ

-- the bytes of the pieces, one behind the other
abbrev pub text_of : List Piece → List ℕ
text_of pieces = flat_map (λ piece. piece.bytes ++ piece.gap) pieces

-- a byte that could make the token longer, or another
abbrev pub extends : Tok → ℕ → Bool
extends (toks.Name word) b = is_name_byte b
extends (toks.Key key) b = is_name_byte b
extends (toks.Num number) b = is_ascii_digit b
extends (toks.Mark mark) b = b == 61
extends toks.End b = false

-- the bytes of each piece are its token by themselves, and what stands behind them doesn't extend it
abbrev pub AreLaidOut : List Piece → Type 0
AreLaidOut [] = Unit {0}
AreLaidOut (piece ∷ pieces) =
    Spells piece.bytes piece.bytes piece.what × IsGap piece.gap
    × (begins_with (extends piece.what) (piece.gap ++ text_of pieces) ≡ false) × AreLaidOut pieces

-- the tokens of the pieces that stand behind these bytes, and the end
abbrev pub tokens_of : List ℕ → List Piece → List Token
tokens_of before [] =
    record { what = toks.End; at = position_after before; from = length before; to = length before } ∷ []
tokens_of before (piece ∷ pieces) =
    record {
      what = piece.what;
      at = position_after before;
      from = length before;
      to = length before + length piece.bytes;
    } ∷ tokens_of (before ++ (piece.bytes ++ piece.gap)) pieces
