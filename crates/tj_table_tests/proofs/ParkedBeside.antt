-- The other task of a seat that runs one may block on the promise for which it has asked, and may be parked; then the
-- seat runs its first task as before.
use Rattle.tj_run.proofs.Prelude.{Blocked, Bool, Custody, Does, HasAlarmed, HasNoRecord, HasParked, HasSlot, Held}
use Rattle.tj_run.proofs.Prelude.{Holds, KnowsMore, Laid, LeftTask, MayAct, MayBlock, MayParkTask, None, Program, Rec}
use Rattle.tj_run.proofs.Prelude.{RunsTask, SeatMe, Some, Verdict, View, [], about_table, ap, arith}
use Rattle.tj_run.proofs.Prelude.{cond, custody_of, does_after, does_first, doing, eq-eqb, false, held_in, hold, let_go}
use Rattle.tj_run.proofs.Prelude.{more_on, more_same, nat_eq, no_some, nothing_same, now_does, refl, rest, same_some}
use Rattle.tj_run.proofs.Prelude.{subst, sym, table_program, true, waits_at, way_by, ℕ, ◌<◌, ◌∙◌, ◌∷◌, ◌≡◌}
use Rattle.tj_words.proofs.Holders.NotedEntries.{noted_here}
use Rattle.tj_words.proofs.Holders.NotedTasks.{noted_is}
use Rattle.tj_run.proofs.Waiting.JoinTests.{promise_way}
use Rattle.tj_run.proofs.Waiting.WaitConditions.{IsToWait, held_as, may_block, may_park, task_cell, wait_cell}
use Rattle.tj_run.proofs.Seats.WorkersSteps.{runs_on}
use Rattle.tj_table_tests.proofs.TwoTasks.{back, first_stays, slots_now, tasks_now}
use Rattle.tj_run.proofs.Seats.QuietTasks.{acts_quietly}
use Rattle.tj_events.specs.declared.walk.Way.TheVariants as way
use Rattle.tj_detect.specs.declared.blocking.Verdict.TheVariants as verdict
use Rattle.tj_table_tests.specs.Beside.{WaitsBeside, alone}

-- a seat with two tasks holds an alarmed one only where one of them has alarmed
two_alarmed : {B : Type 0} (v : View B) (c d : Custody B) → v.tasks ≡ c ∷ (d ∷ []) → ¬ HasAlarmed c.does
    → ¬ HasAlarmed d.does → ¬ Holds HasAlarmed v
two_alarmed {B = B} v c d e n m h =
    by (nat_eq c.task h.0) (nat_eq d.task h.0) h.1 (subst (λ l. held_in l h.0 ≡ Some h.1) e h.2) h.3
  where
    by : (b o : Bool) (k : Custody B) → cond b (Some c) (cond o (Some d) None) ≡ Some k → HasAlarmed k.does → ⊥
    by true o k q a = n (subst (λ (x : Custody B). HasAlarmed x.does) (sym (same_some refl q)) a)
    by false true k q a = m (subst (λ (x : Custody B). HasAlarmed x.does) (sym (same_some refl q)) a)
    by false false k q a = no_some refl q

-- a record whose body has gone on is of the same task
pub runs_body : {B : Type 0} (laid : Laid B) (r : Rec B) (b : B) (me : SeatMe B) → RunsTask laid r me
    → RunsTask laid (record r { body = b }) me
runs_body laid r b me h = record {
  worker = h.worker;
  custody = h.custody;
  tasks = h.tasks;
  slots = h.slots;
  task = h.task;
  runs = h.runs;
  out = h.out;
  has = record { cell = h.has.cell; owned = h.has.owned; made = h.has.made; knows = h.has.knows };
  result = h.result;
  owned_apart = h.owned_apart;
}

module _ {B : Type 0} {program : Bool → B → Program B} {laid : Laid B} {r0 r : Rec B} {p : ℕ} {h : Held}
    {old m : SeatMe B} (w : WaitsBeside program laid r0 r p h old m) where
  abbrev its : Program B
  its = table_program program laid

  abbrev t : ℕ
  t = r.cell.0

  abbrev q : ℕ
  q = h.cell.0

  abbrev first : Rec B
  first = record r { body = w.body }

  abbrev k0 : Custody B
  k0 = w.begun.runs.custody

  abbrev k : Custody B
  k = custody_of r

  abbrev me : SeatMe B
  me = (alone r m.0, (t, None) ∷ [])

  runs : RunsTask laid r me
  runs = runs_body laid first r.body me (back program laid r0 first old m w.begun).runs

  waits : IsToWait program laid r p false me h
  waits = record { runs = runs; waits = w.waits; is = w.held }

  pub cell_there : q < laid.cells
  cell_there = wait_cell waits

  pub task_there : t < laid.cells
  task_there = task_cell waits

  other_way : way.Other ≡ way_by m.0.born t q
  other_way = let i = held_as waits in
      promise_way m.0.born t q i.reference i.is (i.sort ∙ w.promise)

  blocks_alone : MayBlock t q way.Other (alone r m.0)
  blocks_alone = may_block waits way.Other other_way

  -- it may block
  pub blocks_too : MayBlock t q way.Other m.0
  blocks_too = record {
    custody = k;
    held = w.begun.claimed.taken.held;
    out = refl;
    runs = subst (λ a. MayAct (does_first a)) (sym w.begun.start) tt;
    result = w.begun.claimed.taken.owns_result;
    task_known = blocks_alone.task_known;
    cell_known = blocks_alone.cell_known;
    its_way = blocks_alone.its_way;
    wakes = blocks_alone.wakes;
    room = blocks_alone.room;
  }

  -- it has blocked
  module _ (n : SeatMe B) (v : Verdict) (walked : v ≡ verdict.Walked) (d : Blocked v t q way.Other m.0 n.0)
      (same : n.1 ≡ m.1) where
    blocked : Blocked verdict.Walked t q way.Other m.0 n.0
    blocked = subst (λ z. Blocked z t q way.Other m.0 n.0) walked d

    abbrev does_now : Does
    does_now = does_after verdict.Walked q way.Other blocked.walker

    abbrev walks : View B
    walks = doing t does_now blocked.steps 0 (alone r m.0)

    parks_alone : MayParkTask program t q way.Other (waits_at p false r) walks
    parks_alone = may_park waits way.Other (walks, (t, None) ∷ []) refl
        verdict.Walked tt (record {
          walker = blocked.walker;
          steps = blocked.steps;
          ends = blocked.ends;
          view = refl;
        })

    abbrev now : View B
    now = doing t does_now blocked.steps 0 m.0

    abbrev k_walks : Custody B
    k_walks = now_does does_now k

    stays : let_go t (k0 ∷ []) ≡ k0 ∷ []
    stays = first_stays program laid r0 first old m w.begun

    tasks_walked : now.tasks ≡ k_walks ∷ (k0 ∷ [])
    tasks_walked = noted_is m.0.tasks t k (now_does does_now) w.begun.claimed.taken.held
        ∙ (ap (hold k_walks) (tasks_now program laid r0 first old m w.begun)
        ∙ (ap (λ b. k_walks ∷ cond b (let_go t (k0 ∷ [])) (k ∷ let_go t (k0 ∷ []))) (eq-eqb t t refl)
        ∙ ap (λ l. k_walks ∷ l) stays))

    parks_now : MayParkTask program t q way.Other (waits_at p false r) now
    parks_now = let a = parks_alone in record {
      walks = record {
        custody = k_walks;
        walker = blocked.walker;
        held = noted_here m.0.tasks t k (now_does does_now) w.begun.claimed.taken.held refl;
        walks = refl;
        room = a.walks.room;
      };
      settles = blocked.ends.0;
      leaves = record {
        has = record { cell = refl; owned = refl; made = refl; knows = a.leaves.has.knows };
        told = a.leaves.told;
        unfinished = a.leaves.unfinished;
      };
      waits = a.waits;
      idle = nothing_same walks now a.idle;
      room = a.room;
      alarms = λ z. absurd (two_alarmed now k_walks k0 tasks_walked (λ y. y)
          (acts_quietly k0.does w.begun.runs.runs) z);
    }

    -- it may be parked
    pub parks_too : MayParkTask program t q way.Other (waits_at p false r) n.0
    parks_too = subst (MayParkTask program t q way.Other (waits_at p false r)) (sym blocked.view) parks_now

    slots_then : n.1 ≡ (t, None) ∷ ((r0.cell.0, None) ∷ [])
    slots_then = same ∙ slots_now program laid r0 first old m w.begun

    pub slot_first : HasSlot t n
    slot_first = (None, slots_then ∙ ap (λ l. (t, None) ∷ rest l) (sym slots_then))

    pub no_other : HasNoRecord (rest n.1)
    no_other = subst (λ l. HasNoRecord (rest l)) (sym slots_then) tt

    -- once it is parked the seat runs its first task
    module _ (z : SeatMe B) (left : LeftTask laid.cells t n.0 z.0) (slots : z.1 ≡ rest n.1) where
      knows_walked : KnowsMore m.0 now
      knows_walked = more_same m.0 now ([], refl)

      parked : HasParked laid.cells now z.0
      parked = subst (λ y. HasParked laid.cells y z.0) blocked.view left.parked

      pub knows_on : KnowsMore old.0 z.0
      knows_on = more_on old.0 m.0 z.0 w.begun.claimed.knows (more_on m.0 now z.0 knows_walked parked.knows)

      tasks_left : z.0.tasks ≡ k0 ∷ []
      tasks_left = left.tasks ∙ (ap (λ (v : View B). let_go t v.tasks) blocked.view
          ∙ (ap (let_go t) tasks_walked
          ∙ (ap (λ b. cond b (let_go t (k0 ∷ [])) (k_walks ∷ let_go t (k0 ∷ []))) (eq-eqb t t refl)
          ∙ stays)))

      pub runs_on_still : RunsTask laid r0 z
      runs_on_still = let c = w.begun.claimed in let u = w.begun.runs in runs_on laid r0 old z knows_on
          (record { hand = parked.hand.hand ∙ c.hand.hand; dues = parked.hand.dues ∙ c.hand.dues })
          (record {
            pushes = parked.wakes.pushes ∙ c.wakes.pushes;
            shuts = parked.wakes.shuts ∙ c.wakes.shuts;
            rest = parked.wakes.rest ∙ c.wakes.rest;
          })
          (record {
            tokens = (let a = parked.counts.tokens in let b = c.counts.tokens in omega arith);
            cleared = parked.counts.cleared ∙ c.counts.cleared;
            refused = parked.counts.refused ∙ c.counts.refused;
          })
          (parked.all (about_table laid) (c.knows.about ∙ u.worker.of_table) refl
          (c.taken.all (about_table laid) (c.knows.about ∙ u.worker.of_table)))
          (tasks_left ∙ sym u.tasks)
          (slots ∙ (ap rest slots_then ∙ sym u.slots))
          u
