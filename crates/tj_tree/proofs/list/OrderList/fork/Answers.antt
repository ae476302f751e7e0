use Rattle.std.proofs.Common.{length, arith, subst, sym, ap}
use Rattle.tj_tree.specs.Forks.{IsNumbering}
use Rattle.tj_tree.proofs.Lists.{IsNumbering-insert_after}
use Rattle.tj_tree.proofs.list.OrderList.fork.Goals as goal

pub index_behind-index-requires : goal.index_behind-index-requires
index_behind-index-requires c =
    rw c.as_slice.ensures.value (c.self.invariant.each c.args.parent.0
    (omega (arith, c.requires.parent_there, ap length c.self.view_is)))

pub invariant_of-self : goal.invariant_of-self
invariant_of-self c = subst IsNumbering (sym c.in_err-insert.ensures.items) c.self.invariant

pub invariant_of-self-2 : goal.invariant_of-self-2
invariant_of-self-2 c =
    let directly = c.index_behind-index.ensures.directly c.len-child.result in
    IsNumbering-insert_after c.args.parent.0 c.self.inside.tasks.items c.insert.new.self.items
    (omega (arith, c.requires.parent_there, ap length c.self.view_is))
    (omega (arith, c.requires.room, ap length c.self.view_is)) c.self.invariant
    (cc (directly, c.in_ok-insert.ensures.items))
