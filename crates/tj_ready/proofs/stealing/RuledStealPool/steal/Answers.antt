use Rattle.std.proofs.Common.{◌≡◌, ◌∙◌, All, map, subst, sym}
use Rattle.crossbeam_deque.specs.Handles.{stealer_deque}
use Rattle.tj_ready.specs.Orders.{left_there}
use Rattle.tj_ready.specs.Seats.{AreSeats, known_in}
use Rattle.tj_ready.proofs.Steps.{all_found, found_below}
use Rattle.tj_ready.proofs.stealing.RuledStealPool.steal.Goals as goal

pub steal_first-requires-clause-seated : goal.steal_first-requires-clause-seated
steal_first-requires-clause-seated g c =
    let end = c.args.self.now in
    subst (λ ds. AreSeats (map stealer_deque ds.items) end.seats.items) (sym c.deref.ensures) end.seated

pub invariant_of-self : goal.invariant_of-self
invariant_of-self g c =
    let end = c.args.self.now in
    let limit = g.K.PoolRule.limit in
    let law = g.met.K.PoolRule.kept in
    record {
      flavor = end.flavor;
      own_cells = end.own_cells;
      spare_cells = end.spare_cells;
      other_cells = all_found (λ v. limit v ≡ end.cells) g.K.PoolRule.takes
          (All (left_there g.K.PoolRule.newest g.K.PoolRule.empty g.K.PoolRule.few))
          (known_in end.seats.items) c.steal_first.result _
          (λ v w t by is. law.taken_limit v w t by ∙ is) c.steal_first.ensures.taken end.other_cells;
      flavors = end.flavors;
      count = c.steal_first.ensures.count ∙ end.count;
      seated = subst (λ ds. AreSeats (map stealer_deque ds.items) c.steal_first.new.seats.items) c.deref.ensures
          c.steal_first.ensures.seated;
    }

pub returns-clause-below : goal.returns-clause-below
returns-clause-below g c =
    let end = c.args.self.now in
    found_below g.K.PoolRule.takes g.K.PoolRule.limit end.cells
    (All (left_there g.K.PoolRule.newest g.K.PoolRule.empty g.K.PoolRule.few)) (known_in end.seats.items)
    c.steal_first.result
    (known_in c.steal_first.new.seats.items) g.met.K.PoolRule.kept.taken_below c.steal_first.ensures.taken
    end.other_cells
