use Rattle.tj_report.proofs.Prelude.{[], get_or, subst, sym, ◌++◌, ◌∷◌}
use Rattle.std.proofs.Common.{take}
use Rattle.std.proofs.lemmas.List.{take_more}
use Rattle.tj_report.specs.Inner.AwaitedCells.{AreNextBy, IsNextAt}
use Rattle.tj_report.proofs.NextOwners.{pairs_more}
use Rattle.tj_report.proofs.awaited_cells.next_by.Goals as goal

pub loop-t-preserved : goal.loop-t-preserved
loop-t-preserved g c =
    let rest = c.args.rest.now in let order = c.args.order.now in let ranks = c.args.ranks.now in
    let i = c.loop-t.t-index in let t = get_or order i 0 in
    let more = pairs_more (IsNextAt rest.cells rest.records ranks) (take i order) c.loop-t.next.items t
    c.rank_of.result c.loop-t.invariant (c.owner_at.result, c.owner_at.ensures, c.rank_of.ensures) in
    subst (λ l. AreNextBy rest.cells rest.records ranks l c.push.new.self.items)
    (sym (take_more order i 0 c.loop-t-test.true))
    (subst (λ ns. AreNextBy rest.cells rest.records ranks (take i order ++ t ∷ []) ns)
    (sym c.in_ok-push.ensures.items) more)
