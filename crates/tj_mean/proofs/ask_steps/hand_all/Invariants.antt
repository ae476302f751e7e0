use Rattle.std.proofs.Common.{◌≡◌, ◌++◌, drop}
use Rattle.std.specs.List.Sorted.{IsPermutation}
use Rattle.tj_body.specs.History as history
use Rattle.tj_mean.proofs.ask_steps.hand_all.Given as goal

-- what is left of the rest decides, and no name is lost
abbrev pub invariant-loop-reference : goal.invariant-loop-reference
invariant-loop-reference l =
    (history.hand_all l.fn.holds l.handed ≡ history.hand_all l.left.items (drop l.reference-index l.handed))
    × IsPermutation l.fn.holds (l.taken.items ++ l.left.items)
