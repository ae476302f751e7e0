-- A run that meets what the laws ask for: the generated script of size 1 in four cells, where each task may begin
-- eleven statements; and its meaning, computed.
use Rattle.std.proofs.Common.{ℕ, ◌≡◌, ◌≤◌, ℤ, pos, false, List, [], ◌∷◌, map, refl, arith, length}
use Rattle.tj_base.specs.ForkOrder.{Name}
use Rattle.tj_base.specs.declared.cause.Cause.TheVariants as cause
use Rattle.tj_body.specs.Rounds.{IsFull, cells, last_round, meaning}
use Rattle.tj_body.specs.declared.point.Close.TheVariants as close
use Rattle.tj_body.specs.declared.point.Value.TheVariants as value
use Rattle.tj_body.specs.declared.point.PointStage.{PointStage}
use Rattle.tj_body.specs.declared.point.PointStage.TheVariants as stage
use Rattle.tj_body.specs.declared.point.Point.{Point}
use Rattle.tj_command.specs.declared.limits.Limits.{Limits}
use Rattle.tj_eval.specs.Statements.{TaskState}
use Rattle.tj_eval.specs.declared.body.TheConstants.{MAX_STEPS}
use Rattle.tj_gen.specs.Script.{script_text}
use Rattle.tj_modes.specs.Generated.{IsGenerated, generated_script, main_task}
use Rattle.tj_modes.specs.Output.{IsStartOfText}
use Rattle.tj_modes.specs.Runs.{start_of}
use Rattle.tj_syntax.specs.ScriptTexts.{IsScriptOf}
use Rattle.tj_gen_laws.specs.GeneratedRuns.{cells_taken, main_statements}
use Rattle.tj_gen_laws.proofs.MainSteps.{program}
use Rattle.tj_gen_laws.proofs.Meant.{root}

-- what is shown of a history: its task, how that stands, what it printed, and how many statements it may still begin
abbrev shown : Point TaskState → Name × PointStage × List ℤ × ℕ
shown p = (p.name, p.stage, p.prints, p.body.steps)

-- it ended with 1
abbrev with_one : PointStage
with_one = stage.Closed (close.Done (value.Num (pos 1)))

-- `main` prints 1 and ends with it, after all of its statements, and so does the node, which prints nothing
ended : map shown (meaning (program false (root 1 11)) 4)
    ≡ ([], with_one, pos 1 ∷ [], 0) ∷ (3 ∷ [], with_one, [], 8) ∷ []
ended = refl

-- with a statement less `main` prints 1 and fails with Steps
failed : map shown (meaning (program false (root 1 10)) 4)
    ≡ ([], stage.Closed (close.Failed cause.Steps), pos 1 ∷ [], 0) ∷ (3 ∷ [], with_one, [], 7) ∷ []
failed = refl

-- it has four cells, and needs them where it may have three
four_cells : length (cells (program false (root 1 11)) (last_round 4)) ≡ 4
four_cells = refl

full : IsFull (program false (root 1 11)) 3
full = let four : length (cells (program false (root 1 11)) (last_round 3)) ≡ 4 = refl in omega arith

-- the limits of this run
abbrev limits : Limits
limits = record { cells = 4; steps = 11; strict = false }

-- it is a run of the text that is generated for size 1, under limits that the laws allow
meets : IsGenerated 1 → IsStartOfText limits (script_text 1) (start_of false 4 (root 1 11))
meets g =
    let short = g.short in
    let script : IsScriptOf (script_text 1) (generated_script 1) =
    record { short = omega arith; tokens = g.tokens; has_tokens = g.has; is_script = g.is } in
    (generated_script 1, script, (root 1 11, (main_task 1, refl, refl), refl))

allowed : (main_statements 1 ≤ limits.steps) × (limits.steps ≤ MAX_STEPS) × (cells_taken 1 ≤ limits.cells)
allowed = (omega arith, omega arith, omega arith)
