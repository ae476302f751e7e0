use Rattle.std.proofs.Common.{◌≡◌, sym, ◌∙◌, arith, eqb-true, eq-eqb}
use Rattle.std.proofs.lemmas.List.{get_or_default}
use Rattle.tj_core.specs.Inner.Owners.{owned_count}
use Rattle.tj_core.proofs.Columns.OwnedCounts.{owned_count-alone, owned_count-one}
use Rattle.tj_core.proofs.owners.Owners.owns_result_alone.Goals as goal

pub returns : goal.returns
returns c =
    let s = c.args.self.now in let os = s.owners.items in let t = c.args.t in
    let l = s.same in let i = s.inside t t c.requires in
    let n = s.counted t (omega arith) in
    let r : c.index.result.now ≡ owned_count os t = c.index.ensures
    ∙ (get_or_default s.counts.items t c.index.result.now 0 (omega arith) ∙ n) in (
      (λ h. owned_count-alone os t t c.requires (sym r ∙ eqb-true c.index.result.now 1 h)),
      λ h. eq-eqb
          c.index.result.now 1 (r ∙ owned_count-one os t t c.requires h),
    )
