use Rattle.tj_run.proofs.Prelude.{HasWoken, IsFilledWith, MayWake, [], ◌∙◌, ◌≡◌}
use Rattle.tj_cells.proofs.FillSteps.{bits_next, filled_next, tag_next}
use Rattle.tj_table_tests.proofs.StepEnds.{ended_at, ends_at, ends_next, fills, gives_up, left_so, lowers_next}
use Rattle.tj_table_tests.proofs.StepEnds.{nobody_woken, slot_next}
use Rattle.tj_table_tests.proofs.StepEnds.{wakes_next}
use Rattle.tj_table_tests.proofs.by_hand.Rig.end_in_steps.Given.{Over}
use Rattle.tj_table_tests.proofs.by_hand.Rig.end_in_steps.Goals as goal
use Rattle.tj_table_tests.proofs.by_hand.Rig.end_in_steps.Goals.{After-lay_in_steps, After-put_once-2, In-Empty}

pub put_owner-requires-clause-may : goal.put_owner-requires-clause-may
put_owner-requires-clause-may g c κs within =
    (gives_up (ends_at c.cell-t.result c.cell-t.ensures c.ends_alone.ensures.ends)).0

pub put_once-requires-clause-may : goal.put_once-requires-clause-may
put_once-requires-clause-may g c κs within =
    let h = ends_at c.cell-t.result c.cell-t.ensures c.ends_alone.ensures.ends in
    let w = c.value_words-tag in
    bits_next (gives_up h) (fills h) c.put_owner.ensures.view w.result.1 w.ensures.tag w.ensures.bits

pub put_once-requires-2-clause-may : goal.put_once-requires-2-clause-may
put_once-requires-2-clause-may g c κs within =
    let h = ends_at c.cell-t.result c.cell-t.ensures c.ends_alone.ensures.ends in
    let w = c.value_words-tag in
    tag_next (gives_up h) (fills h) c.put_owner.ensures.view w.result.1 w.ensures.tag w.ensures.bits
    c.put_once.ensures.view

-- its result is filled
filled : (g : Over) (c : After-put_once-2 g)
    → IsFilledWith c.cell-t.result.0 c.cell-t.result.0 c.args.v c.args.seat.now.me.0 c.put_once-2.new.seat.me.0
filled g c = let h = ends_at c.cell-t.result c.cell-t.ensures c.ends_alone.ensures.ends in let w = c.value_words-tag in
    filled_next (gives_up h) (fills h) c.put_owner.ensures.view w.result.1 w.ensures.tag w.ensures.bits
    c.put_once.ensures.view c.put_once-2.ensures.view

-- and the slots are as they were
same : (g : Over) (c : After-put_once-2 g) → c.put_once-2.new.seat.me.1 ≡ c.args.seat.now.me.1
same g c = c.put_once-2.ensures.seat.2 ∙ (c.put_once.ensures.seat.2 ∙ c.put_owner.ensures.seat.2)

pub lay_in_steps-requires-clause-slot : goal.lay_in_steps-requires-clause-slot
lay_in_steps-requires-clause-slot g c κs within =
    let b = (goal.at.lay_in_steps-requires-clause-slot g c).After-put_once-2 in let e = c.ended_alone-ended in
    slot_next (ends_at c.cell-t.result c.cell-t.ensures c.ends_alone.ensures.ends)
    c.put_once-2.new.seat.me (filled g b) (same g b) e.result
    (ended_at c.args.rec c.cell-t.result c.cell-t.ensures e.ensures)

pub lay_in_steps-requires-clause-may : goal.lay_in_steps-requires-clause-may
lay_in_steps-requires-clause-may g c κs within =
    let b = (goal.at.lay_in_steps-requires-clause-may g c).After-put_once-2 in let e = c.ended_alone-ended in
    ends_next (ends_at c.cell-t.result c.cell-t.ensures c.ends_alone.ensures.ends)
    c.put_once-2.new.seat.me (filled g b) (same g b) e.result
    (ended_at c.args.rec c.cell-t.result c.cell-t.ensures e.ensures)

module _ (g : Over) (c : After-lay_in_steps g)
    (f : IsFilledWith c.cell-t.result.0 c.cell-t.result.0 c.args.v c.args.seat.now.me.0 c.put_once-2.new.seat.me.0)
    (s : c.put_once-2.new.seat.me.1 ≡ c.args.seat.now.me.1) where
  -- the head of its result may be shut
  wakes : MayWake c.cell-t.result.0 c.lay_in_steps.new.seat.me
  wakes = let e = c.ended_alone-ended in let y = c.lay_in_steps in
      wakes_next (ends_at c.cell-t.result c.cell-t.ensures c.ends_alone.ensures.ends)
      c.put_once-2.new.seat.me f s e.result
      (ended_at c.args.rec c.cell-t.result c.cell-t.ensures e.ensures) y.new.seat.me y.ensures.me

pub shut-head-requires-clause-entry : goal.shut-head-requires-clause-entry
shut-head-requires-clause-entry g c κs within =
    let at = goal.at.shut-head-requires-clause-entry g c in let b = at.After-put_once-2 in
    (wakes g at.After-lay_in_steps (filled g b) (same g b)).entry

pub shut-head-requires-clause-rest : goal.shut-head-requires-clause-rest
shut-head-requires-clause-rest g c κs within =
    let at = goal.at.shut-head-requires-clause-rest g c in let b = at.After-put_once-2 in
    (wakes g at.After-lay_in_steps (filled g b) (same g b)).no_rest

pub shut-head-requires-clause-backed : goal.shut-head-requires-clause-backed
shut-head-requires-clause-backed g c κs within =
    let at = goal.at.shut-head-requires-clause-backed g c in let b = at.After-put_once-2 in
    (wakes g at.After-lay_in_steps (filled g b) (same g b)).wakes.backed

-- nobody was there
nobody : (g : Over) (c : In-Empty g) → MayWake c.cell-t.result.0 c.lay_in_steps.new.seat.me
    → HasWoken c.cell-t.result.0 [] [] c.lay_in_steps.new.seat.me.0 c.shut-head.new.seat.me.0
nobody g c may = let z = c.shut-head in
    nobody_woken c.args.self.now.laid.cells c.cell-t.result.0 z.result c.lay_in_steps.new.seat.me.0 z.new.seat.me.0
    c.in-Empty.is may.no_rest z.ensures.again z.ensures.chain

pub live_down-requires-clause-may : goal.live_down-requires-clause-may
live_down-requires-clause-may g c κs within =
    let at = goal.at.live_down-requires-clause-may g c in let b = at.After-put_once-2 in
    let e = c.ended_alone-ended in let y = c.lay_in_steps in
    lowers_next (ends_at c.cell-t.result c.cell-t.ensures c.ends_alone.ensures.ends)
    c.put_once-2.new.seat.me (filled g b) (same g b) e.result
    (ended_at c.args.rec c.cell-t.result c.cell-t.ensures e.ensures)
    y.new.seat.me y.ensures.me c.shut-head.new.seat.me
    (nobody g at.In-Empty (wakes g at.After-lay_in_steps (filled g b) (same g b))) c.shut-head.ensures.seat.2

pub returns-clause-left : goal.returns-clause-left
returns-clause-left g c =
    let at = goal.at.returns-clause-left g c in let b = at.After-put_once-2 in
    let e = c.ended_alone-ended in let y = c.lay_in_steps in
    left_so (ends_at c.cell-t.result c.cell-t.ensures c.ends_alone.ensures.ends)
    c.put_once-2.new.seat.me (filled g b) (same g b) e.result
    (ended_at c.args.rec c.cell-t.result c.cell-t.ensures e.ensures)
    y.new.seat.me y.ensures.me c.shut-head.new.seat.me
    (nobody g at.In-Empty (wakes g at.After-lay_in_steps (filled g b) (same g b))) c.shut-head.ensures.seat.2
    c.live_down.new.seat.me c.live_down.ensures.me
