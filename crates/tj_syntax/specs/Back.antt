-- What a text says: the script that its tokens are.
use Rattle.std.specs.Prelude.{ℕ, List}
use Rattle.tj_lex.specs.declared.token.Token.{Token}
use Rattle.tj_lex.specs.Tokens.{AreTokens}
use Rattle.tj_syntax.specs.Trees.{Task}
use Rattle.tj_syntax.specs.Faults.{kinds_of, IsScript}

-- the text has tokens, whatever its length, and they are this script
pub record Says (text : List ℕ) (script : List Task) : Type 0 where
  pub tokens : List Token
  pub has : AreTokens text tokens
  pub is : IsScript (kinds_of tokens) script
