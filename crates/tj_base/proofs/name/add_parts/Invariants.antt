use Rattle.std.proofs.Common.{◌≡◌, ◌++◌, drop}
use Rattle.tj_base.specs.Texts.{parts_text}
use Rattle.tj_base.proofs.name.add_parts.Given as goal

-- the text so far and that of the numbers to come are the text before and that of all of them
abbrev pub invariant-loop-number : goal.invariant-loop-number
invariant-loop-number l = l.text.items ++ parts_text (drop l.number-index l.numbers)
    ≡ l.fn.text.items ++ parts_text l.fn.numbers
