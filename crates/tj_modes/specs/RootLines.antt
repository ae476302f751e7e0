-- The line of a watch: what became of the root.
use Rattle.std.specs.Prelude.{ℕ, List, [], ◌∷◌, ◌++◌, codes, cond}
use Rattle.tj_mean.specs.Outcomes.{is_nil}
use Rattle.tj_mean.specs.declared.outcome.Ending.{Ending}
use Rattle.tj_mean.specs.declared.outcome.Ending.TheVariants as ending
use Rattle.tj_mean.specs.declared.outcome.TaskLine.{TaskLine}
use Rattle.tj_mean.specs.ReportTexts.{line_feed, shown_text}

-- the line of a root with this ending: its value, that it failed, or that it waits
abbrev pub ending_line : Ending → List ℕ
ending_line (ending.Done v) = codes "root " ++ shown_text v ++ line_feed
ending_line (ending.Failed c) = codes "root broken\n"
ending_line (ending.Waits q) = codes "root waits\n"

-- the line of the root among these tasks, whose name is the empty list
abbrev pub root_line : List TaskLine → List ℕ
root_line [] = []
root_line (l ∷ ls) = cond (is_nil l.name) (ending_line l.ending) (root_line ls)
