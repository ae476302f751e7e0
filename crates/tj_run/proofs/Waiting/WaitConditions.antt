-- A task that waits may block, and may then be parked or shelved; how it leaves its worker, or comes back.
use Rattle.tj_run.proofs.Prelude.{Answer, Blocked, Bool, ComesBack, Custody, Does, Finish, GaveBack, HasParked}
use Rattle.tj_run.proofs.Prelude.{HasReadTree, HasSlot, Held, HeldSays, IsHeldAs, IsIn, IsLeft, IsWaiting, IsWorkers}
use Rattle.tj_run.proofs.Prelude.{KnowsMore, KnowsTask, Laid, LeftTask, List, MayAct, MayParkTask, MayShelve, None}
use Rattle.tj_run.proofs.Prelude.{Option, Point, Program, Rec, Reference, RunsTask, SeatMe, Some, Tells, TellsStage}
use Rattle.tj_run.proofs.Prelude.{Verdict, View, Way, [], about_table, ap, arith, cond, custody_of, does_first, doing}
use Rattle.tj_run.proofs.Prelude.{false, held_at, held_in, inl, inr, length, let_go, more_on, more_same, nat_eq}
use Rattle.tj_run.proofs.Prelude.{no_some, noted, nothing_same, now_does, numbers, refl, rest, same_some, shelved}
use Rattle.tj_run.proofs.Prelude.{subst, sym, table_program, true, waits_at, way_by, ℕ, ◌<◌, ◌∙◌, ◌∷◌, ◌≡◌, ◌≤◌, ◌⊎◌}
use Rattle.std.proofs.lemmas.Option.{slice_get-get_or}
use Rattle.tj_events.specs.declared.walk.LastRead.TheVariants.{SawOthers}
use Rattle.tj_events.specs.declared.walk.Walker.{Walker}
use Rattle.tj_events.specs.Events.{EndsWalk, MaySettle, raised_by_way}
use Rattle.tj_words.specs.LawParts.LiveCount.{HasAlarmed, HasWakeToCome, Holds}
use Rattle.tj_words.specs.LawParts.RecordPhases.{WaitsFor}
use Rattle.tj_detect.specs.Blocks.{EndsWith, MayBlock, does_after, tokens_given}
use Rattle.tj_park.specs.Records.{HasNoRecord, HasNothingToCome, HasTaken, MayGoHome}
use Rattle.tj_run.proofs.Seats.OneTask.{held_one, let_go_one, noted_one}
use Rattle.tj_run.proofs.Asks.PointSteps.{pairs_length}
use Rattle.tj_run.proofs.Cells.ToldCells.{cell_known, task_known, told_cell, told_held, told_knows, told_task}
use Rattle.tj_run.proofs.Seats.WorkersSteps.{back_on, left_on, read_more, runs_read, waits_on, workers_on}
use Rattle.tj_run.proofs.Seats.FreeSeats.{workers_same}
use Rattle.tj_base.specs.declared.cell.Sort.TheVariants as sort
use Rattle.tj_body.specs.declared.ask.Answer.TheVariants as answer
use Rattle.tj_events.specs.declared.walk.Way.TheVariants as way
use Rattle.tj_words.specs.declared.view.Does.TheVariants as does
use Rattle.tj_detect.specs.declared.blocking.Verdict.TheVariants as verdict

-- what a record tells of a point, one tells that has the same but for its answer and how it ends
pub tells_same : {B : Type 0} (born : List Reference) (r : Rec B) (p : Point B) (given : Answer) (spare : Bool)
    (finish : Option Finish)
    → Tells born r p
    → Tells born (record r { answer = given; spare = spare; finish = finish }) p
tells_same born r p given spare finish t = record {
  of = t.of;
  body = t.body;
  held = t.held;
  owned_cells = t.owned_cells;
  made = t.made;
  prints = t.prints;
  owed = t.owed;
}

-- the walk has ended without an alarm
abbrev pub IsQuiet : Verdict → Type 0
IsQuiet verdict.Alarm = ⊥
IsQuiet verdict.Walked = Unit {0}
IsQuiet verdict.Skipped = Unit {0}

pub quiet_either : (d : Verdict) → (d ≡ verdict.Walked) ⊎ (d ≡ verdict.Skipped) → IsQuiet d
quiet_either d (inl e) = subst IsQuiet (sym e) tt
quiet_either d (inr e) = subst IsQuiet (sym e) tt

-- then the task walks, its walk is at its end, and no token was given
skips : (w : Walker) → w.last ≡ SawOthers 0 → MaySettle w
skips w e = subst (λ l. EndsWalk (length w.trail) w.bound l) (sym e) refl

quiet_settles : (d : Verdict) (t : ℕ) (wait : Way) (w : Walker) → IsQuiet d → EndsWith d t wait w → MaySettle w
quiet_settles verdict.Alarm t wait w n h = absurd n
quiet_settles verdict.Walked t wait w n h = h.0
quiet_settles verdict.Skipped t wait w n h = skips w h.1

quiet_walks : (d : Verdict) (q : ℕ) (wait : Way) (w : Walker) → IsQuiet d
    → does_after d q wait w ≡ does.Walking q wait w
quiet_walks verdict.Alarm q wait w n = absurd n
quiet_walks d q wait w n = refl

quiet_tokens : (d : Verdict) → IsQuiet d → tokens_given d ≡ 0
quiet_tokens verdict.Alarm n = absurd n
quiet_tokens d n = refl

-- an other wait is counted once in OTHERS
raised_few : (wait : Way) → raised_by_way wait ≤ 1
raised_few way.Along = omega arith
raised_few way.Other = omega arith

-- a seat with one task alone holds an alarmed one only where that has alarmed
pub one_alarmed : {B : Type 0} (v : View B) (c : Custody B) → v.tasks ≡ c ∷ [] → ¬ HasAlarmed c.does
    → ¬ Holds HasAlarmed v
one_alarmed {B = B} v c e n h = n (by (nat_eq c.task h.0) h.1 (subst (λ l. held_in l h.0 ≡ Some h.1) e h.2) h.3)
  where
    by : (b : Bool) (k : Custody B) → cond b (Some c) None ≡ Some k → HasAlarmed k.does → HasAlarmed c.does
    by true k q a = subst (λ (x : Custody B). HasAlarmed x.does) (sym (same_some refl q)) a
    by false k q a = no_some refl q

-- a task that was claimed may act
acts_first : (a : Answer) → MayAct (does_first a)
acts_first answer.Start = tt
acts_first a = tt

-- a seat that has taken the record of a task, and has nothing else, runs it
pub taken_runs : {B : Type 0} (laid : Laid B) (program : Bool → B → Program B) (x : Rec B) (m : SeatMe B)
    → IsWorkers laid m.0
    → (t : ℕ) → HasTaken program t x m.0
    → m.0.tasks ≡ custody_of x ∷ []
    → m.1 ≡ (t, None) ∷ []
    → RunsTask laid x m
taken_runs laid program x m worker t g tasks slots = record {
  worker = worker;
  custody = custody_of x;
  tasks = tasks;
  slots = slots ∙ ap (λ u. (u, None) ∷ []) (sym g.has.cell);
  task = refl;
  runs = acts_first x.answer;
  out = refl;
  has = record { cell = refl; owned = refl; made = refl; knows = g.has.knows };
  result = subst (λ u. IsIn u (numbers x.owned)) (sym g.has.cell) g.owns_result;
  owned_apart = g.owned_apart;
}

module _ {B : Type 0} (program : Bool → B → Program B) (laid : Laid B) (r : Rec B) (k : ℕ) (spare : Bool)
    (me : SeatMe B) (runs : RunsTask laid r me) (h : IsWaiting (table_program program laid) me.0 r k spare) where
  -- the place is one of the record
  pub place_inside : k < length r.held
  place_inside = let e = pairs_length (HeldSays me.0.born) r.held h.point.references h.tells.held in
      let i = h.inside in omega arith

-- the seat runs the task of the record, which is to wait for this cell, the one at the place
pub record IsToWait {B : Type 0} (program : Bool → B → Program B) (laid : Laid B) (r : Rec B) (k : ℕ) (spare : Bool)
    (me : SeatMe B) (cell : Held) : Type 0 where
  pub runs : RunsTask laid r me
  pub waits : IsWaiting (table_program program laid) me.0 r k spare
  pub is : cell ≡ held_at r.held k

module _ {B : Type 0} {program : Bool → B → Program B} {laid : Laid B} {r : Rec B} {k : ℕ} {spare : Bool}
    {me : SeatMe B} {cell : Held} (w : IsToWait program laid r k spare me cell) where
  abbrev runs : RunsTask laid r me
  runs = w.runs

  abbrev h : IsWaiting (table_program program laid) me.0 r k spare
  h = w.waits

  abbrev is : cell ≡ held_at r.held k
  is = w.is

  abbrev t : ℕ
  t = r.cell.0

  abbrev default : Held
  default = record { cell = record { 0 = 0 }; sort = sort.Task }

  inside_record : k < length r.held
  inside_record = place_inside program laid r k spare me runs h

  -- the task and the cell are cells of the table
  pub task_cell : t < laid.cells
  task_cell = told_task laid r me runs h.point h.tells

  pub wait_cell : cell.cell.0 < laid.cells
  wait_cell = told_cell laid r me runs h.point h.tells k inside_record cell is

  -- the seat knows the task, and the cell as the record says
  pub knows_task : KnowsTask t me.0
  knows_task = told_knows laid r me runs h.point h.tells

  pub held_as : IsHeldAs cell me.0
  held_as = told_held laid r me runs h.point h.tells k inside_record cell is

  held : held_in me.0.tasks t ≡ Some runs.custody
  held = ap (λ l. held_in l t) runs.tasks ∙ held_one t runs.custody runs.task

  no_wakes : ¬ HasWakeToCome me.0
  no_wakes (inl n) = n runs.worker.nothing.pushes
  no_wakes (inr (inl n)) = n runs.worker.nothing.shuts
  no_wakes (inr (inr x)) = no_some runs.worker.nothing.rest x.1

  -- it may block
  pub may_block : (wait : Way) → wait ≡ way_by me.0.born t cell.cell.0 → MayBlock t cell.cell.0 wait me.0
  may_block wait e = record {
    custody = runs.custody;
    held = held;
    out = runs.out;
    runs = runs.runs;
    result = runs.result;
    task_known = task_known laid r me runs h.point h.tells;
    cell_known = cell_known laid r me runs h.point h.tells k inside_record cell is;
    its_way = e;
    wakes = λ x. absurd (no_wakes x);
    room = let z = runs.worker.tokens in let l = runs.worker.lot in omega arith;
  }

  -- it has blocked, and does this since
  module _ (d : Does) (n m : ℕ) where
    abbrev since : View B
    since = doing t d n m me.0

    abbrev custody : Custody B
    custody = now_does d runs.custody

    tasks_since : since.tasks ≡ custody ∷ []
    tasks_since = ap (λ l. noted t (now_does d) l) runs.tasks
        ∙ noted_one t runs.custody runs.task (now_does d) refl

    held_since : held_in since.tasks t ≡ Some custody
    held_since = ap (λ l. held_in l t) tasks_since ∙ held_one t custody runs.task

    left_since : let_go t since.tasks ≡ []
    left_since = ap (let_go t) tasks_since ∙ let_go_one t custody runs.task

    leaves : MayGoHome program t custody (waits_at k spare r) since
    leaves = record {
      has = record {
        cell = refl;
        owned = runs.has.owned;
        made = runs.has.made;
        knows = runs.has.knows;
      };
      told = (
        about_table laid,
        runs.worker.of_table,
        record {
          point = h.point;
          tells = tells_same me.0.born r h.point (answer.RefAt k) spare r.finish h.tells;
          tells_stage = subst
              (λ f. TellsStage me.0.born f (answer.RefAt k) spare h.point)
              (sym h.unfinished) (h.inside, h.at_stage);
          stands = h.stands;
        },
      );
      unfinished = h.unfinished;
    }

    waits : WaitsFor (waits_at k spare r) cell.cell.0
    waits = (k, held_at r.held k, refl, slice_get-get_or r.held k default inside_record, ap (λ d. d.cell.0) (sym is))

    since_more : KnowsMore me.0 since
    since_more = more_same me.0 since ([], refl)

    nothing_since : HasNothingToCome since
    nothing_since = nothing_same me.0 since runs.worker.nothing

    -- where no token was given it is a worker's seat
    workers_since : m ≡ 0 → IsWorkers laid since
    workers_since e = workers_same laid me.0 since runs.worker runs.worker.lot
        (let z = runs.worker.tokens in omega arith)

  -- its seat took its slot last, and no other
  pub slot_last : (m : SeatMe B) → m.1 ≡ me.1 → HasSlot t m
  slot_last m e = (None, slots ∙ ap (λ l. (t, None) ∷ rest l) (sym slots))
    where
      slots : m.1 ≡ (t, None) ∷ []
      slots = e ∙ runs.slots

  no_slots : (m : SeatMe B) → m.1 ≡ me.1 → rest m.1 ≡ []
  no_slots m e = ap rest (e ∙ runs.slots)

  pub no_others : (m : SeatMe B) → m.1 ≡ me.1 → HasNoRecord (rest m.1)
  no_others m e = subst HasNoRecord (sym (no_slots m e)) tt

  module _ (wait : Way) (m2 : SeatMe B) (same : m2.1 ≡ me.1) where
    -- a task that has alarmed is shelved
    module _ (b : Blocked verdict.Alarm t cell.cell.0 wait me.0 m2.0) where
      abbrev alarms : Does
      alarms = does.Alarmed cell.cell.0 wait b.walker

      pub may_shelve : MayShelve program t (waits_at k spare r) m2.0
      may_shelve = subst (MayShelve program t (waits_at k spare r)) (sym b.view) (record {
        custody = now_does alarms runs.custody;
        held = held_since alarms b.steps 1;
        cell = cell.cell.0;
        way = wait;
        walker = b.walker;
        alarmed = refl;
        leaves = leaves alarms b.steps 1;
        waits = waits alarms b.steps 1;
        idle = nothing_since alarms b.steps 1;
        token = omega arith;
        alarms = λ a. absurd (no_some (ap (λ l. held_in l a.0) (left_since alarms b.steps 1)) a.2);
      })

      -- it has left then
      pub shelved_left : {x : Rec B} (m3 : SeatMe B) → m3 ≡ (shelved t x m2.0, rest m2.1) → IsLeft laid me.0 m3
      shelved_left {x} m3 e = subst (IsLeft laid me.0) (sym gone) (record {
        knows = more_same me.0 (shelved t x (since alarms b.steps 1)) ([], refl);
        free = record {
          worker = workers_same laid me.0 (shelved t x (since alarms b.steps 1)) runs.worker runs.worker.lot
              (let z = runs.worker.tokens in omega arith);
          tasks = left_since alarms b.steps 1;
          slots = refl;
        };
      })
        where
          gone : m3 ≡ (shelved t x (since alarms b.steps 1), [])
          gone = e ∙ (ap (λ (v : View B). (shelved t x v, rest m2.1)) b.view
              ∙ ap (λ l. (shelved t x (since alarms b.steps 1), l)) (no_slots m2 same))

    -- a task whose walk has ended is parked
    module _ (d : Verdict) (quiet : IsQuiet d) (b : Blocked d t cell.cell.0 wait me.0 m2.0) where
      abbrev does_now : Does
      does_now = does_after d cell.cell.0 wait b.walker

      abbrev view_now : View B
      view_now = since does_now b.steps (tokens_given d)

      no_alarm : ¬ HasAlarmed does_now
      no_alarm a = subst HasAlarmed (quiet_walks d cell.cell.0 wait b.walker quiet) a

      pub may_park : MayParkTask program t cell.cell.0 wait (waits_at k spare r) m2.0
      may_park = subst (MayParkTask program t cell.cell.0 wait (waits_at k spare r)) (sym b.view) (record {
        walks = record {
          custody = now_does does_now runs.custody;
          walker = b.walker;
          held = held_since does_now b.steps (tokens_given d);
          walks = quiet_walks d cell.cell.0 wait b.walker quiet;
          room = (let z = runs.worker.tokens in let l = runs.worker.lot in let q = quiet_tokens d quiet in omega arith);
        };
        settles = quiet_settles d t wait b.walker quiet b.ends;
        leaves = leaves does_now b.steps (tokens_given d);
        waits = waits does_now b.steps (tokens_given d);
        idle = nothing_since does_now b.steps (tokens_given d);
        room = (let z = runs.worker.cleared in let l = runs.worker.lot in let q = raised_few wait in omega arith);
        alarms = λ a. absurd (one_alarmed view_now (now_does does_now runs.custody)
            (tasks_since does_now b.steps (tokens_given d)) no_alarm a);
      })

      workers_now : IsWorkers laid view_now
      workers_now = workers_since does_now b.steps (tokens_given d) (quiet_tokens d quiet)

      -- what the seat is after the call
      module _ (v : View B) (p : HasParked laid.cells m2.0 v) where
        parked : HasParked laid.cells view_now v
        parked = subst (λ z. HasParked laid.cells z v) b.view p

        knows_then : KnowsMore me.0 v
        knows_then = more_on me.0 view_now v (since_more does_now b.steps (tokens_given d)) parked.knows

        workers_then : IsWorkers laid v
        workers_then = workers_on laid view_now v parked.knows parked.hand parked.wakes parked.counts
            (parked.all (about_table laid) runs.worker.of_table refl runs.worker.cells) workers_now

      -- it has left
      pub parked_left : (m3 : SeatMe B) → LeftTask laid.cells t m2.0 m3.0 → m3.1 ≡ rest m2.1 → IsLeft laid me.0 m3
      parked_left m3 p e = record {
        knows = knows_then m3.0 p.parked;
        free = record {
          worker = workers_then m3.0 p.parked;
          tasks = p.tasks ∙ (ap (λ (v : View B). let_go t v.tasks) b.view
              ∙ left_since does_now b.steps (tokens_given d));
          slots = e ∙ no_slots m2 same;
        };
      }

      -- it comes back
      pub parked_back : (m3 : SeatMe B) (x : Rec B) → GaveBack program laid.cells t cell.cell.0 x m2.0 m3.0
          → m3.1 ≡ (t, None) ∷ rest m2.1
          → ComesBack program laid x me.0 m3
      parked_back m3 x g e = record {
        knows = knows_then m3.0 g.parked;
        runs = taken_runs laid program x m3 (workers_then m3.0 g.parked) t g.taken (
            g.tasks ∙ ap (λ l. custody_of x ∷ let_go x.cell.0 l) (ap (λ (v : View B). let_go t v.tasks) b.view
            ∙ left_since does_now b.steps (tokens_given d))
            ) (e ∙ ap (λ l. (t, None) ∷ l) (no_slots m2 same));
        rooted = h.rooted;
        known = g.taken.known (about_table laid) (workers_then m3.0 g.parked).of_table;
        unfinished = g.taken.unfinished;
      }

-- the same after loads of the tree, by which the way of the wait was found
module _ {B : Type 0} {program : Bool → B → Program B} {laid : Laid B} {r : Rec B} {k : ℕ} {spare : Bool}
    {me : SeatMe B} {cell : Held} (w : IsToWait program laid r k spare me cell) (m1 : SeatMe B)
    (read : HasReadTree laid.cells me.0 m1.0) (same : m1.1 ≡ me.1) where
  more : KnowsMore me.0 m1.0
  more = read_more laid.cells me.0 m1.0 read

  then : IsToWait program laid r k spare m1 cell
  then = record {
    runs = runs_read laid r me m1 read same w.runs;
    waits = waits_on (table_program program laid) me.0 m1.0 more r k spare w.waits;
    is = w.is;
  }

  abbrev q : ℕ
  q = cell.cell.0

  pub block_then : (wait : Way) → wait ≡ way_by m1.0.born r.cell.0 q → MayBlock r.cell.0 q wait m1.0
  block_then = may_block then

  pub slot_then : (m2 : SeatMe B) → m2.1 ≡ m1.1 → HasSlot r.cell.0 m2
  slot_then = slot_last then

  pub others_then : (m2 : SeatMe B) → m2.1 ≡ m1.1 → HasNoRecord (rest m2.1)
  others_then = no_others then

  module _ (wait : Way) (m2 : SeatMe B) (slots : m2.1 ≡ m1.1) where
    pub shelve_then : Blocked verdict.Alarm r.cell.0 q wait m1.0 m2.0
        → MayShelve program r.cell.0 (waits_at k spare r) m2.0
    shelve_then = may_shelve then wait m2 slots

    pub left_shelved : {x : Rec B} → Blocked verdict.Alarm r.cell.0 q wait m1.0 m2.0 → (m3 : SeatMe B)
        → m3 ≡ (shelved r.cell.0 x m2.0, rest m2.1)
        → IsLeft laid me.0 m3
    left_shelved b m3 e = left_on laid me.0 m1.0 more m3
        (shelved_left then wait m2 slots b m3 e)

    module _ (d : Verdict) (quiet : IsQuiet d) (b : Blocked d r.cell.0 q wait m1.0 m2.0) where
      pub park_then : MayParkTask program r.cell.0 q wait (waits_at k spare r) m2.0
      park_then = may_park then wait m2 slots d quiet b

      pub left_parked : (m3 : SeatMe B) → LeftTask laid.cells r.cell.0 m2.0 m3.0 → m3.1 ≡ rest m2.1
          → IsLeft laid me.0 m3
      left_parked m3 p e = left_on laid me.0 m1.0 more m3
          (parked_left then wait m2 slots d quiet b m3 p e)

      pub back_parked : (m3 : SeatMe B) (x : Rec B) → GaveBack program laid.cells r.cell.0 q x m2.0 m3.0
          → m3.1 ≡ (r.cell.0, None) ∷ rest m2.1
          → ComesBack program laid x me.0 m3
      back_parked m3 x g e = back_on program laid x me.0 m1.0 more m3
          (parked_back then wait m2 slots d quiet b m3 x g e)
