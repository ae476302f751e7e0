-- What is told of a script, or of a text that is none, as it is asked for.
use Rattle.std.specs.Prelude.{ℕ, Bool, true, false, cond, List}
use Rattle.tj_lex.specs.declared.token.Token.{Token}
use Rattle.tj_mean.specs.declared.outcome.Outcome.{Outcome}
use Rattle.tj_syntax.specs.declared.script_text.NoScript.{NoScript}
use Rattle.tj_trace.specs.declared.line.TraceLine.{TraceLine}
use Rattle.tj_trace.specs.declared.most.Most.{Most}
use Rattle.tj_forest.specs.DotTexts.{dot_text}
use Rattle.tj_faults.specs.FaultJson.{fault_json}
use Rattle.tj_faults.specs.FaultWords.{told_fault_text}
use Rattle.tj_explain.specs.FullTexts.{full_json, full_text}
use Rattle.tj_json.specs.JsonTexts.{fine_json, told_json}
use Rattle.tj_findings.specs.Scenes.{Told}
use Rattle.tj_texts.specs.WhyTexts.{fine_text, told_text}
use Rattle.tj_explain.specs.declared.telling.Telling.{Telling}
use Rattle.tj_explain.specs.declared.telling.Telling.TheVariants as telling

-- what is told, where the script, its places and its text are looked up
abbrev pub why_text : Told → List TraceLine → Outcome → Telling → List ℕ
why_text s lines o telling.Wrong = told_text s lines o false
why_text s lines o telling.All = told_text s lines o true
why_text s lines o telling.Dot = dot_text s lines o.cycles
why_text s lines o telling.Json = told_json s lines o

-- it is told as objects of JSON
abbrev pub is_json : Telling → Bool
is_json telling.Json = true
is_json other = false

-- what is told where nothing went wrong with so many tasks
abbrev pub fine_told : Telling → ℕ → List ℕ
fine_told telling n = cond (is_json telling) (fine_json n) (fine_text n)

-- what is told of a run that needs more cells than these, where this statement made most
abbrev pub full_told : Telling → Told → ℕ → Most → List ℕ
full_told telling s cells most = cond (is_json telling) (full_json s cells most) (full_text s cells most)

-- what is told of a text with this fault and these tokens
abbrev pub fault_told : Telling → List ℕ → List Token → NoScript → List ℕ
fault_told telling text tokens fault =
    cond (is_json telling) (fault_json text tokens fault) (told_fault_text text tokens fault)
