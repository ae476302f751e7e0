use Rattle.tj_cells.proofs.Prelude.{Node, ap, arith, later_on, wrote_word, ◌+◌, ◌∙◌}
use Rattle.tj_words.proofs.SeatLoads.NodeLooks.{shown_later}
use Rattle.tj_cells.proofs.CallLogs.{node_made}
use Rattle.tj_cells.proofs.MakingViews.{may_depth, may_jump}
use Rattle.tj_words.specs.declared.offsets.Once.TheVariants as once
use Rattle.tj_cells.proofs.making.put_node.Goals as goal

pub put_once-requires-clause-may : goal.put_once-requires-clause-may
put_once-requires-clause-may g c κs within =
    let look = c.see_node-maker in
    let s = c.child_jump-jump.new.seat in
    let later = later_on c.args.seat.now look.new.seat s look.ensures.later c.child_jump-jump.ensures.later in
    may_depth c.args.laid.now.cells c.args.t.0 c.args.c.0 c.args.seat.now.me.0 s.me.0 c.requires.hand later.1
    (look.result.depth + 1)
    (λ forks h has.
    let e = (has c.args.t.0 look.result
    (shown_later look.new.seat.me.0 s.me.0 c.child_jump-jump.ensures.later.1 c.args.t.0 look.result
    look.ensures.shown.1)).1 in
    omega (arith, ap (λ (n : Node). n.depth) e))

pub put_once-requires-2-clause-may : goal.put_once-requires-2-clause-may
put_once-requires-2-clause-may g c κs within =
    let look = c.see_node-maker in
    let jump = c.child_jump-jump in
    let s = jump.new.seat in
    let later = later_on c.args.seat.now look.new.seat s look.ensures.later jump.ensures.later in
    may_jump c.args.laid.now.cells c.args.t.0 c.args.c.0 c.args.seat.now.me.0 s.me.0 c.requires.hand later.1
    c.put_once.new.seat.me.0 (look.result.depth + 1) c.put_once.ensures.view c.link_word.result
    (λ forks h has. let e = jump.ensures.jump forks h (λ m node k. has m node k.1) in
    omega (arith, e, c.link_word.ensures))

pub returns-clause-node : goal.returns-clause-node
returns-clause-node g c =
    let look = c.see_node-maker in
    let jump = c.child_jump-jump in
    let later = later_on c.args.seat.now look.new.seat jump.new.seat look.ensures.later jump.ensures.later in
    record {
      read = jump.new.seat.me.0;
      reads = later.1;
      loads = omega (arith, look.ensures.loads, jump.ensures.loads);
      depth = look.result.depth + 1;
      jump = c.link_word.result;
      view = c.put_once-2.ensures.view ∙ ap (wrote_word c.args.c.0 once.Jump c.link_word.result)
          c.put_once.ensures.view;
    }

pub returns-clause-log : goal.returns-clause-log
returns-clause-log g c =
    let look = c.see_node-maker in
    let jump = c.child_jump-jump in
    node_made c.args.seat.now look.new.seat jump.new.seat c.put_once.new.seat c.put_once-2.new.seat c.args.t.0
    c.args.c.0 c.link_word.result look.result look.ensures.log jump.ensures.log c.put_once.ensures.log
    c.put_once-2.ensures.log
