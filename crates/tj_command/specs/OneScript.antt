-- What a text is: one script at most, or one first fault.
use Rattle.std.specs.Prelude.{ℕ, ◌≡◌, List}
use Rattle.tj_lex.specs.Tokens.{AreTokens}
use Rattle.tj_lex.specs.declared.token.Token.{Token}
use Rattle.tj_syntax.specs.ScriptTexts.{IsFirstFault, IsScriptOf}
use Rattle.tj_syntax.specs.Trees.{Task}
use Rattle.tj_syntax.specs.declared.script_text.NoScript.{NoScript}

-- a text has its tokens once, is one script at most, has one first fault at most, and none where it is a script
pub record IsOneScript (text : List ℕ) : Type 0 where
  pub tokens : (a b : List Token) → AreTokens text a → AreTokens text b → a ≡ b
  pub script : (a b : List Task) → IsScriptOf text a → IsScriptOf text b → a ≡ b
  pub fault : (a b : NoScript) → IsFirstFault text a → IsFirstFault text b → a ≡ b
  pub not_both : (script : List Task) (fault : NoScript) → IsScriptOf text script → IsFirstFault text fault → ⊥
