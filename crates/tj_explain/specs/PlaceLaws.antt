-- The law of positions: what has a position in an input's script stands at a token of the input.
use Rattle.std.specs.Prelude.{◌≡◌, ◌⊎◌, ℕ, List, [], ◌∷◌, map, slice_get, unwrap_or, Some}
use Rattle.tj_faults.specs.TokenLines.{StandsInLine}
use Rattle.tj_findings.specs.Scenes.{told_spot}
use Rattle.tj_lex.specs.declared.token.Mark.TheVariants as m
use Rattle.tj_lex.specs.declared.token.Token.{Token}
use Rattle.tj_syntax.specs.Marks.{Noted, mark}
use Rattle.tj_syntax.specs.Parts.{StandsAt, StatementStandsAt}
use Rattle.tj_syntax.specs.ScriptTexts.{IsScriptOf}
use Rattle.tj_syntax.specs.Starts.{Start}
use Rattle.tj_syntax.specs.Trees.{Statement, Task}
use Rattle.tj_trace.specs.RightLines.{IsBraceAt, IsStatementAt}
use Rattle.tj_trace.specs.SpotLaws.{HasPlace}
use Rattle.tj_explain.specs.ToldFindings.{own_places}

-- behind n tokens of a script the statement with this number of the declaration begins, or its ask, if it has one
pub record BeginsBehind (script : List Task) (notes : List Noted) (decl at n : ℕ) : Type 0 where
  pub statement : Statement
  pub is_at : IsStatementAt script decl at statement
  pub start : Start
  pub stands : StatementStandsAt (map (λ t. t.name) script) notes statement start
  pub behind : n ≡ unwrap_or start.ask start.at

-- behind n tokens of a script what this number tells begins: a statement, or the closing brace of the declaration
abbrev pub IsBehind : List Task → List Noted → ℕ → ℕ → ℕ → Type 0
IsBehind script notes decl at n =
    BeginsBehind script notes decl at n
    ⊎ (IsBraceAt script decl at × StandsAt notes (mark m.BraceClose ∷ []) n)

-- The position that is told of the number is that of a token of the input, at which what the number tells begins; the
-- token stands in the source line that is told for it, above the caret.
pub record IsOfToken (input : List ℕ) (script : List Task) (is : IsScriptOf input script) (decl at : ℕ) : Type 0 where
  pub n : ℕ
  pub token : Token
  pub is_there : slice_get is.tokens n ≡ Some token
  pub begins : IsBehind script is.is_script.notes decl at n
  pub told : told_spot (slice_get (own_places input script is) decl) at ≡ Some token.at
  pub line : StandsInLine input token.at token.from token.to

-- of each number that has a position in an input's script that of a token is told
abbrev pub PlacesAreOfTokens : Type 0
PlacesAreOfTokens = (input : List ℕ) (script : List Task) (is : IsScriptOf input script) (decl at : ℕ)
    → HasPlace (own_places input script is) decl at → IsOfToken input script is decl at
