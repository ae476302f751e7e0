-- The law of lines: no name of a script and no source line has a line feed, so what is told of findings is lines.
use Rattle.std.specs.Prelude.{ℕ, List}
use Rattle.tj_syntax.specs.PlacesOf.{PlacesOfTask}
use Rattle.tj_syntax.specs.ScriptTexts.{IsScriptOf}
use Rattle.tj_syntax.specs.Trees.{Task}
use Rattle.tj_findings.specs.LinesTold.{HasPlainNames}
use Rattle.tj_findings.specs.Scenes.{Told}
use Rattle.tj_json.specs.LineLaws.{AreOneLine}
use Rattle.tj_texts.specs.LineLaws.{HasPlainLines, HaveLines}
use Rattle.tj_explain.specs.WhyOutput.{scene_of}
use Rattle.tj_explain.specs.declared.line.WhyCommand.{WhyCommand}

-- no name and no source line has a line feed; so findings that are told together have as many lines as the law of texts
-- says, and the object of each finding is one line
abbrev pub TellsLines : Told → Type 0
TellsLines s = HasPlainNames s × HasPlainLines s × HaveLines s × AreOneLine s

-- so it is of what is told of each input that is a script
abbrev pub ScenesTellLines : Type 0
ScenesTellLines = (command : WhyCommand) (input : List ℕ) (script : List Task) → IsScriptOf input script
    → (places : List PlacesOfTask) → TellsLines (scene_of command input script places)
