-- What a text begins with, and the order of its tokens.
use Rattle.std.specs.Prelude.{ℕ, ◌<◌, ◌≤◌, List, [], ◌∷◌, length, take}
use Rattle.tj_lex.specs.Shorts.{tok_of}
use Rattle.tj_lex.specs.Tokens.{Spells}
use Rattle.tj_lex.specs.declared.shorts.Lexeme.{Lexeme}
use Rattle.tj_lex.specs.declared.shorts.Short.{Short}

-- the text begins with a token of this kind, and it has this many bytes
pub record IsLexeme (text : List ℕ) (lexeme : Lexeme) : Type 0 where
  pub some : 0 < lexeme.len
  pub within : lexeme.len ≤ length text
  pub spelled : Spells text (take lexeme.len text) (tok_of lexeme.what (take lexeme.len text))

-- each token begins at this index or behind it, and none in front of the one before it
abbrev pub AreInOrder : ℕ → List Short → Type 0
AreInOrder start [] = Unit {0}
AreInOrder start (short ∷ rest) = (start ≤ short.from) × AreInOrder short.from rest
