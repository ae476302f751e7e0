use Rattle.std.proofs.Common.{◌≡◌, ◌++◌}
use Rattle.std.specs.List.{flat_map}
use Rattle.tj_gen.specs.Script.{head_lines, steps_lines, ended}
use Rattle.tj_gen.proofs.script.gen_script.Given as goal

-- the steps so far
abbrev pub invariant-loop-i : goal.invariant-loop-i
invariant-loop-i l = l.text.items ≡ flat_map ended head_lines ++ flat_map ended (steps_lines l.i)
