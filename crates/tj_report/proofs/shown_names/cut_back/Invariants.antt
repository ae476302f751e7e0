use Rattle.std.proofs.Common.{◌≡◌, length}
use Rattle.tj_base.specs.Texts.{name_text}
use Rattle.tj_report.proofs.shown_names.cut_back.Given as goal

-- the text is that of the name that is left
abbrev pub invariant-loop-at : goal.invariant-loop-at
invariant-loop-at l = l.text.items ≡ name_text l.at

abbrev pub decreases-loop-at : goal.decreases-loop-at
decreases-loop-at l = length l.at
