use Rattle.std.proofs.Common.{ℕ, ◌≡◌, ◌<◌, length, arith, ap, ◌∙◌}
use Rattle.tj_core.specs.Inner.Births.{name_of}
use Rattle.tj_core.proofs.Columns.BirthNames.{length-name-above, name_of-root}
use Rattle.tj_core.proofs.births.Births.depth.Goals as goal

pub loop-above-preserved : goal.loop-above-preserved
loop-above-preserved c =
    let self = c.args.self.now in let i = c.loop-above.invariant in
    let some : 0 < c.loop-above.above = omega arith in
    let e = length-name-above self.births.items self.born c.loop-above.above some i.there in
    let m = ap (λ (k : ℕ). length (name_of self.births.items k)) c.maker-above.ensures.maker in
    let b = c.maker-above.ensures.below some in
    record { there = omega arith; low = omega arith; deep = omega arith }

pub returns : goal.returns
returns c =
    let self = c.args.self.now in let i = c.loop-above.invariant in
    let e : c.loop-above.above ≡ 0 = omega arith in
    let n = ap (λ (k : ℕ). length (name_of self.births.items k)) e ∙ ap length (name_of-root self.births.items) in
    omega arith
