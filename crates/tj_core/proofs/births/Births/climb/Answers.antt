use Rattle.std.proofs.Common.{ℕ, ◌<◌, ◌-◌, length, take, arith, sym, ap, ◌∙◌}
use Rattle.tj_core.specs.Inner.Births.{name_of}
use Rattle.tj_core.proofs.Columns.BirthNames.{length-name-above, climb-step, name-nonzero}
use Rattle.tj_core.proofs.births.Births.climb.Goals as goal

pub loop-left-preserved : goal.loop-left-preserved
loop-left-preserved c =
    let self = c.args.self.now in let i = c.loop-left.invariant in let bs = self.births.items in
    let short = i.short in let left : 0 < c.loop-left.left = omega arith in
    let some : 0 < c.loop-left.above = name-nonzero bs self.born c.loop-left.above (omega arith) in
    let e = length-name-above bs self.born c.loop-left.above some i.there in
    let m = ap (λ (k : ℕ). length (name_of bs k)) c.maker-above.ensures.maker in
    let b = c.maker-above.ensures.below some in let t = i.there in
    record {
      there = omega arith;
      short = omega arith;
      same = i.same ∙ (climb-step bs self.born c.loop-left.above c.loop-left.left some i.there left i.short
          ∙ ap (λ (k : ℕ). take (length (name_of bs k) - (c.loop-left.left - 1)) (name_of bs k))
          (sym c.maker-above.ensures.maker));
    }
