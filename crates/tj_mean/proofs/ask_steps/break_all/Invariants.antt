use Rattle.std.proofs.Common.{◌≡◌, ◌++◌, map, take}
use Rattle.tj_body.specs.History.{with_entry}
use Rattle.tj_body.specs.declared.point.Entry.TheVariants as entry
use Rattle.tj_mean.proofs.ask_steps.break_all.Given as goal

abbrev pub invariant-loop-name : goal.invariant-loop-name
invariant-loop-name l = l.writes ≡ l.initial.writes ++ map (with_entry entry.Broken) (take l.name-index l.owed)
