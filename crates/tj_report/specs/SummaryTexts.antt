-- The text of a summary.
use Rattle.std.specs.Prelude.{ℕ, Bool, true, false, cond, List, [], ◌∷◌, ◌++◌, codes, length}
use Rattle.std.specs.List.{count_by, sum_by}
use Rattle.tj_base.specs.Texts.{counted}
use Rattle.tj_mean.specs.Outcomes.{is_nil, is_marked}
use Rattle.tj_mean.specs.declared.outcome.Ending.{Ending}
use Rattle.tj_mean.specs.declared.outcome.Ending.TheVariants as ending
use Rattle.tj_mean.specs.declared.outcome.TaskLine.{TaskLine}
use Rattle.tj_mean.specs.declared.outcome.Outcome.{Outcome}
use Rattle.tj_mean.specs.ReportTexts.{shown_text, line_feed, verdict_line}

-- the task is done
abbrev pub is_done : Ending → Bool
is_done (ending.Done v) = true
is_done (ending.Failed c) = false
is_done (ending.Waits q) = false

-- the task failed
abbrev pub has_failed : Ending → Bool
has_failed (ending.Done v) = false
has_failed (ending.Failed c) = true
has_failed (ending.Waits q) = false

-- the task waits
abbrev pub is_waiting : Ending → Bool
is_waiting (ending.Done v) = false
is_waiting (ending.Failed c) = false
is_waiting (ending.Waits q) = true

-- how many of the tasks have such an ending
abbrev pub count_with : (Ending → Bool) → List TaskLine → ℕ
count_with test lines = count_by (λ l. test l.ending) lines

-- the numbers of tasks: all, those that are done, those that failed, and those that wait
abbrev pub task_counts : List TaskLine → List ℕ
task_counts lines =
    counted (codes " tasks ") (length lines)
    ++ counted (codes " done ") (count_with is_done lines)
    ++ counted (codes " failed ") (count_with has_failed lines)
    ++ counted (codes " waiting ") (count_with is_waiting lines)

-- what a task with this ending returned, and a dash where it isn't done
abbrev pub done_text : Ending → List ℕ
done_text (ending.Done v) = shown_text v
done_text (ending.Failed c) = codes "-"
done_text (ending.Waits q) = codes "-"

-- what the root, whose name is the empty list, returned, and a dash where it isn't done
abbrev pub root_result : List TaskLine → List ℕ
root_result [] = codes "-"
root_result (l ∷ ls) = cond (is_nil l.name) (done_text l.ending) (root_result ls)

-- the summary of the outcome of a script of this size: the counts and the root's result, and whether it is marked
abbrev pub summary : ℕ → Outcome → List ℕ
summary size o =
    counted (codes "size ") size
    ++ task_counts o.lines
    ++ counted (codes " owed ") (sum_by (λ l. length l.owes) o.lines)
    ++ counted (codes " cycles ") (length o.cycles)
    ++ codes " result " ++ root_result o.lines ++ line_feed
    ++ verdict_line (is_marked o)
