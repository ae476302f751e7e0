use Rattle.std.proofs.Common.{ℕ, [], ◌≡◌, ◌<◌, ◌-◌, length, arith, sym, ap, ◌∙◌}
use Rattle.tj_core.specs.Inner.Births.{name_of}
use Rattle.tj_core.proofs.Columns.BirthNames.{before_else, levels, level-step, name_of-root}
use Rattle.tj_core.proofs.births.Births.is_before.Goals as goal

pub loop-up_a-init : goal.loop-up_a-init
loop-up_a-init c =
    let bs = c.args.self.now.births.items in
    let na = c.climb-up_a.ensures.name in let nb = c.climb-up_b.ensures.name in
    let l = levels (name_of bs c.args.a) (name_of bs c.args.b) in
    let sa : c.saturating_sub.result ≡ length (name_of bs c.args.a) - length (name_of bs c.args.b) = cc in
    let sb : c.saturating_sub-2.result ≡ length (name_of bs c.args.b) - length (name_of bs c.args.a) = cc in
    record {
      there_a = c.climb-up_a.ensures.there;
      there_b = c.climb-up_b.ensures.there;
      level = let e = l.0 in cc;
      same = let e = l.1 in cc;
    }

pub number-y-requires-clause-some : goal.number-y-requires-clause-some
number-y-requires-clause-some c =
    let i = c.loop-up_a.invariant in let bs = c.args.self.now.births.items in let some : 0 < c.loop-up_a.up_a = omega
    arith in
    (level-step bs c.args.self.now.born c.loop-up_a.before c.loop-up_a.up_a c.loop-up_a.up_b some i.there_a i.there_b
    i.level).0

pub loop-up_a-preserved : goal.loop-up_a-preserved
loop-up_a-preserved c =
    let i = c.loop-up_a.invariant in let bs = c.args.self.now.births.items in let some : 0 < c.loop-up_a.up_a = omega
    arith in
    let s = level-step bs c.args.self.now.born c.loop-up_a.before c.loop-up_a.up_a c.loop-up_a.up_b some i.there_a
    i.there_b i.level in
    let ba = c.maker-up_a.ensures.below some in let bb = c.maker-up_b.ensures.below s.0 in
    let ta = i.there_a in let tb = i.there_b in
    record {
      there_a = omega arith;
      there_b = omega arith;
      level = ap (λ (k : ℕ). length (name_of bs k)) c.maker-up_a.ensures.maker
          ∙ (s.1 ∙ sym (ap (λ (k : ℕ). length (name_of bs k)) c.maker-up_b.ensures.maker));
      same = let ma = c.maker-up_a.ensures.maker in let mb = c.maker-up_b.ensures.maker in let all = i.same ∙ s.2 in cc;
    }

pub returns : goal.returns
returns c =
    let i = c.loop-up_a.invariant in let bs = c.args.self.now.births.items in
    let e : c.loop-up_a.up_a ≡ 0 = omega arith in
    let r : name_of bs c.loop-up_a.up_a ≡ [] = ap (λ (k : ℕ). name_of bs k) e ∙ name_of-root bs in
    sym (i.same ∙ ap (λ n. before_else c.loop-up_a.before n (name_of bs c.loop-up_a.up_b)) r)
