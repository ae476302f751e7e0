-- The law of full runs: the statement that is told to have made most of the first cells stands at a token of the input.
use Rattle.std.specs.Prelude.{◌≡◌, ℕ, suc, ◌*◌, List, [], ◌∷◌, String, Some, slice_get}
use Rattle.std.specs.declared.alloc.Global.{Global}
use Rattle.tj_base.specs.ForkOrder.{Name, child}
use Rattle.tj_body.specs.Points.{IsIn}
use Rattle.tj_body.specs.Programs.{Program}
use Rattle.tj_body.specs.Rounds.{IsFull, given, tasks}
use Rattle.tj_body.specs.declared.point.Task.{Task}
use Rattle.tj_command.specs.declared.status.Status.TheVariants.{Full}
use Rattle.tj_eval.specs.Stands.{IsPlacedMain, PlacedState}
use Rattle.tj_syntax.specs.ScriptTexts.{IsScriptOf}
use Rattle.tj_syntax.specs.Trees as trees
use Rattle.tj_trace.specs.Logs.{logged_program}
use Rattle.tj_trace.specs.MadeAt.{made_until, placed_program}
use Rattle.tj_trace.specs.MostMade.{IsMostMade}
use Rattle.tj_trace.specs.TraceLaws.{script_program}
use Rattle.tj_trace.specs.declared.line.Maker.{Maker}
use Rattle.tj_trace.specs.declared.most.Most.{Most}
use Rattle.tj_explain.specs.PlaceLaws.{IsOfToken}
use Rattle.tj_explain.specs.Tellings.{full_told}
use Rattle.tj_explain.specs.ToldFindings.{own_places}
use Rattle.tj_explain.specs.WhyLine.{IsCommand}
use Rattle.tj_explain.specs.WhyOutput.{IsOutput, scene_of}
use Rattle.tj_explain.specs.declared.line.WhyCommand.{WhyCommand}

-- the cell is a thing that a task of round n + 1 made, and at this statement the history of the task stood as it did so
pub record IsMadeThere (program : Program PlacedState) (n : ℕ) (q : Name) (m : Maker) : Type 0 where
  pub task : Task PlacedState
  pub of_round : IsIn task (tasks program (suc n))
  pub thing : ℕ
  pub named : q ≡ child task.name (suc thing)
  pub stood : slice_get (made_until program.rules (given program n) task (2 * suc (program.rules.left task.body))) thing
      ≡ Some m

-- so it is of each of these cells, one after another
abbrev pub AreMadeThere : Program PlacedState → ℕ → List Name → List Maker → Type 0
AreMadeThere program n [] [] = Unit {0}
AreMadeThere program n [] (m ∷ ms) = ⊥
AreMadeThere program n (q ∷ qs) [] = ⊥
AreMadeThere program n (q ∷ qs) (m ∷ ms) = IsMadeThere program n q m × AreMadeThere program n qs ms

-- the input is a script whose run needs more cells than the limit; the statement that is told to have made most of the
-- first cells did so, at each of them the history of its task stood where it is noted, and the position that is told is
-- that of a token of the input
pub record TellsFull (command : WhyCommand) (input text : List ℕ) : Type 0 where
  pub script : List trees.Task
  pub is : IsScriptOf input script
  pub root : PlacedState
  pub main : IsPlacedMain script command.limits.steps root
  pub full : IsFull (script_program command.limits.strict root) command.limits.cells
  pub most : Most
  pub made : IsMostMade (logged_program command.limits.strict root) command.limits.cells most
  pub stood : AreMadeThere (placed_program command.limits.strict root) made.round made.others made.makers
  pub stands : IsOfToken input script is most.maker.decl most.maker.at
  pub told : text ≡ full_told command.telling (scene_of command input script (own_places input script is))
      command.limits.cells most

-- each output whose status is that of a run which needs more cells than the limit tells it so
abbrev pub TextsTellFull : Type 0
TextsTellFull = (words : List (String Global)) (input text : List ℕ) → IsOutput words input Full text
    → (command : WhyCommand) → IsCommand words command → TellsFull command input text
