use Rattle.std.proofs.Common.{map, subst, sym}
use Rattle.std.specs.List.Sorted.{IsPermutation}
use Rattle.std.proofs.lemmas.List.Sorted.{IsPermutation-map}
use Rattle.tj_report.proofs.ClosedOutcomes.{if_ok}
use Rattle.tj_report.specs.declared.walk_order.Placed.{Placed}
use Rattle.tj_report.proofs.walk_order.in_walk_order.Goals as goal

pub returns : goal.returns
returns g c =
    let of = λ (p : Placed). p.task in
    let moved = IsPermutation-map of c.in_ok-placed.placed.items c.sort_by_key.new.self.items
    c.in_ok-sort_by_key.ensures.permutation in
    if_ok c.without_places.result
    (λ tasks e. subst (IsPermutation c.args.tasks.items) (sym e)
    (subst (λ l. IsPermutation l (map of c.sort_by_key.new.self.items)) c.in_ok-placed.ensures moved))
    c.without_places.ensures
