use Rattle.std.proofs.Common.{◌≡◌, ◌++◌, take}
use Rattle.std.specs.Prelude.{filter}
use Rattle.tj_trace.specs.Inner.RoundMakers.{is_of}
use Rattle.tj_trace.proofs.found.note_all.Given as goal

-- those of the makers so far
abbrev pub invariant-loop-maker : goal.invariant-loop-maker
invariant-loop-maker l =
    l.makers.items ≡ l.initial.makers.items ++ filter (is_of l.sort) (take l.maker-index l.made)
