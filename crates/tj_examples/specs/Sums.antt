-- The sum of a slice by halves: what a task does.
use mir.Syntax.{w64}
use Rattle.std.specs.Int.{int_wrap}
use Rattle.std.specs.Prelude.{ℤ, ◌+◌, ◌-◌, ◌/◌, ◌+ℤ◌, ◌&&◌, nat_lt, nat_le, cond, pos, List, length, fold, slice_range}
use Rattle.tj_base.specs.declared.value.Pay.TheVariants as pay
use Rattle.tj_base.specs.declared.cause.Trouble.TheVariants as trouble
use Rattle.tj_task.specs.declared.turn.Told.{Told}
use Rattle.tj_task.specs.declared.turn.Told.TheVariants as told
use Rattle.tj_task.specs.declared.turn.Turn.{Turn}
use Rattle.tj_task.specs.declared.turn.Turn.TheVariants as turns
use Rattle.tj_examples.specs.declared.sum.Part.{Part}
use Rattle.tj_examples.specs.declared.sum.Sum.{Sum}
use Rattle.tj_examples.specs.declared.sum.Sum.TheVariants.{Of, Second, Both, Other, Last}

-- the sum of these
abbrev pub total : List ℤ → ℤ
total part = fold (λ a x. int_wrap w64 (a +ℤ x)) (pos 0) part

-- the sum of a short part
abbrev pub sum_short : Part → Turn Sum
sum_short p = cond (nat_le p.from p.to && nat_le p.to (length p.all.now))
    (turns.End (pay.Num (total (slice_range p.all.now p.from p.to)))) (turns.Fail trouble.Kind)

-- what a task does with a part
abbrev pub sum_part : Part → Turn Sum
sum_part p = let middle = (p.from + p.to) / 2 in cond (nat_lt 1000 (p.to - p.from))
    (turns.Fork (Of (record p { to = middle })) (Second (record p { from = middle }))) (sum_short p)

-- what a task does with what it is told
abbrev pub turn : Sum → Told → Turn Sum
turn (Of p) told.Start = sum_part p
turn (Second p) (told.Forked first) = turns.Fork (Of p) (Both first)
turn (Both first) (told.Forked second) = turns.Join first (Other second)
turn (Other second) (told.Num x) = turns.Join second (Last x)
turn (Last x) (told.Num y) = turns.End (pay.Num (int_wrap w64 (x +ℤ y)))
turn t w = turns.Fail trouble.Kind
