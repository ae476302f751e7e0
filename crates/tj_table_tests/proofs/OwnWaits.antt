-- A task that a test runs has asked to get a promise: what the calls of its wait need, up to an alarm.
use Rattle.tj_run.proofs.Prelude.{Blocked, Bool, HasSlot, Held, IsAsked, Laid, MayBlock, MayShelve, PointsAsk, Program}
use Rattle.tj_run.proofs.Prelude.{Rec, RunsTask, SeatMe, Verdict, ap, false, held_at, length, subst, sym}
use Rattle.tj_run.proofs.Prelude.{table_program, waits_at, ℕ, ◌<◌, ◌∙◌, ◌≡◌}
use Rattle.tj_run.proofs.Waiting.JoinTests.{get_inside, get_waits, promise_way}
use Rattle.tj_run.proofs.Waiting.WaitConditions.{IsToWait, held_as, may_block, may_shelve, slot_last, task_cell, wait_cell}
use Rattle.tj_base.specs.declared.cell.Sort.TheVariants as sort
use Rattle.tj_body.specs.declared.ask.Ask.TheVariants as ask
use Rattle.tj_events.specs.declared.walk.Way.TheVariants as way
use Rattle.tj_detect.specs.declared.blocking.Verdict.TheVariants as verdict

-- the seat runs the task of the record, which has asked to get the promise at the place
pub record IsToGet {B : Type 0} (program : Bool → B → Program B) (laid : Laid B) (r : Rec B) (k : ℕ)
    (me : SeatMe B) : Type 0 where
  pub runs : RunsTask laid r me
  pub asked : IsAsked (table_program program laid) me.0 r (ask.Get k)
  pub law : PointsAsk (table_program program laid)

module _ {B : Type 0} {program : Bool → B → Program B} {laid : Laid B} {r : Rec B} {k : ℕ} {me : SeatMe B}
    (to : IsToGet program laid r k me) where
  -- the place is one of the record
  pub inside_gotten : k < length r.held
  inside_gotten = get_inside (table_program program laid) me.0 to.law r k false to.asked

  module _ (h : Held) (is : h ≡ held_at r.held k) (promise : h.sort ≡ sort.Promise) where
    to_wait : IsToWait program laid r k false me h
    to_wait = record {
      runs = to.runs;
      waits = get_waits (table_program program laid) me.0 to.law r k false to.asked
          (ap (λ (z : Held). z.sort) (sym is) ∙ promise);
      is = is;
    }

    -- task and promise are cells of the table
    pub gets_task : r.cell.0 < laid.cells
    gets_task = task_cell to_wait

    pub gets_cell : h.cell.0 < laid.cells
    gets_cell = wait_cell to_wait

    -- it may block
    pub gets_may : MayBlock r.cell.0 h.cell.0 way.Other me.0
    gets_may = let i = held_as to_wait in
        may_block to_wait way.Other (promise_way me.0.born r.cell.0 h.cell.0 i.reference i.is (i.sort ∙ promise))

    module _ (m : SeatMe B) (same : m.1 ≡ me.1) where
      pub gets_slot : HasSlot r.cell.0 m
      gets_slot = slot_last to_wait m same

      -- and be shelved where it has alarmed
      pub gets_shelved : (v : Verdict) → v ≡ verdict.Alarm → Blocked v r.cell.0 h.cell.0 way.Other me.0 m.0
          → MayShelve program r.cell.0 (waits_at k false r) m.0
      gets_shelved v alarmed b = may_shelve to_wait way.Other m same
          (subst (λ z. Blocked z r.cell.0 h.cell.0 way.Other me.0 m.0) alarmed b)
