use Rattle.tj_words.proofs.Prelude.{refl}
use Rattle.tj_words.proofs.SeatLoads.NodeLooks.{four_logged, four_shown, four_parent, four_jump, four_go_on, four_later}
use Rattle.tj_words.proofs.table.Laid.see_node.Goals as goal

pub returns-clause-shown : goal.returns-clause-shown
returns-clause-shown g c = four_shown c.args.seat.now c.see_once-parent.new.seat c.see_once-kid.new.seat
    c.see_once-depth.new.seat c.see_once-jump.new.seat c.requires c.see_once-parent.ensures.seat
    c.see_once-kid.ensures.seat
    c.see_once-depth.ensures.seat c.see_once-jump.ensures.seat c.see_once-parent.ensures.sees
    c.see_once-kid.ensures.sees c.see_once-depth.ensures.sees c.see_once-jump.ensures.sees _ c.link_cell.ensures
    refl refl c.link_cell-2.ensures

pub returns-clause-parent : goal.returns-clause-parent
returns-clause-parent g c = four_parent c.args.seat.now c.see_once-parent.new.seat c.see_once-kid.new.seat
    c.see_once-depth.new.seat c.see_once-jump.new.seat c.requires c.see_once-parent.ensures.seat
    c.see_once-kid.ensures.seat
    c.see_once-depth.ensures.seat c.see_once-jump.ensures.seat c.see_once-parent.ensures.sees
    c.see_once-kid.ensures.sees c.see_once-depth.ensures.sees c.see_once-jump.ensures.sees _ c.link_cell.ensures

pub returns-clause-jump : goal.returns-clause-jump
returns-clause-jump g c = four_jump c.args.seat.now c.see_once-parent.new.seat c.see_once-kid.new.seat
    c.see_once-depth.new.seat c.see_once-jump.new.seat c.requires c.see_once-parent.ensures.seat
    c.see_once-kid.ensures.seat
    c.see_once-depth.ensures.seat c.see_once-jump.ensures.seat c.see_once-parent.ensures.sees
    c.see_once-kid.ensures.sees c.see_once-depth.ensures.sees c.see_once-jump.ensures.sees _ c.link_cell-2.ensures

pub returns-clause-goes_on : goal.returns-clause-goes_on
returns-clause-goes_on g c = four_go_on c.args.seat.now c.see_once-parent.new.seat c.see_once-kid.new.seat
    c.see_once-depth.new.seat c.see_once-jump.new.seat c.requires c.see_once-parent.ensures.seat
    c.see_once-kid.ensures.seat
    c.see_once-depth.ensures.seat c.see_once-jump.ensures.seat c.see_once-parent.ensures.sees
    c.see_once-kid.ensures.sees c.see_once-depth.ensures.sees c.see_once-jump.ensures.sees

pub returns-clause-later : goal.returns-clause-later
returns-clause-later g c = four_later c.args.seat.now c.see_once-parent.new.seat c.see_once-kid.new.seat
    c.see_once-depth.new.seat c.see_once-jump.new.seat c.requires c.see_once-parent.ensures.seat
    c.see_once-kid.ensures.seat
    c.see_once-depth.ensures.seat c.see_once-jump.ensures.seat c.see_once-parent.ensures.sees
    c.see_once-kid.ensures.sees c.see_once-depth.ensures.sees c.see_once-jump.ensures.sees

pub returns-clause-log : goal.returns-clause-log
returns-clause-log g c = four_logged c.args.seat.now c.see_once-parent.new.seat c.see_once-kid.new.seat
    c.see_once-depth.new.seat c.see_once-jump.new.seat c.requires c.see_once-parent.ensures.seat
    c.see_once-kid.ensures.seat c.see_once-depth.ensures.seat c.see_once-jump.ensures.seat
    c.see_once-parent.ensures.sees c.see_once-kid.ensures.sees c.see_once-depth.ensures.sees
    c.see_once-jump.ensures.sees _ c.link_cell.ensures refl refl c.link_cell-2.ensures c.see_once-parent.ensures.log
    c.see_once-kid.ensures.log c.see_once-depth.ensures.log c.see_once-jump.ensures.log
