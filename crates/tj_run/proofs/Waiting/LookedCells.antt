-- A task that looks at the cell for which it waits: nothing has become of it, or its value is the answer, or it is
-- broken.
use Rattle.tj_run.proofs.Prelude.{Answer, Becomes, Bool, CellId, Entry, Err, FindsNothing, Goes, HasSeen, Held}
use Rattle.tj_run.proofs.Prelude.{HeldSays, IfOk, IsCell, IsClosing, IsIn, IsOfRounds, IsOpen, IsRunning, IsWaiting}
use Rattle.tj_run.proofs.Prelude.{KnowsMore, Laid, Next, Ok, PointsRead, Program, Rec, Reference, Result, RunsTask}
use Rattle.tj_run.proofs.Prelude.{SeatMe, View, Why, [], about_table, after_read, ap, arith, cell_on, false, held_at}
use Rattle.tj_run.proofs.Prelude.{in_right, inl, inr, inside, length, more_same, reference, refl, some-injective, subst}
use Rattle.tj_run.proofs.Prelude.{sym, table_program, to_promise, to_task, true, ℕ, ℤ, ⊎_elim, ◌<◌, ◌∙◌, ◌∷◌, ◌≡◌, ◌≢◌}
use Rattle.tj_cells.specs.declared.seen.Seen.{Seen}
use Rattle.tj_cells.specs.SeenValues.{SeesValue, cells_seen, saw_value}
use Rattle.tj_words.specs.SeatViews.Views.{loaded_once}
use Rattle.tj_words.proofs.SeatLoads.KnowsMoreOn.{keeps_load}
use Rattle.tj_run.specs.Inner.Answers.{next_broken, with_lost, with_reference as record_with}
use Rattle.tj_run.proofs.Asks.FoundValues.{answered, answered_cell, read_rounds, stands_later, tells_later, waited_cell}
use Rattle.tj_run.proofs.Cells.KnownCells.{cells_known, ending_known, held_known, known_more, owed_known, owned_known}
use Rattle.tj_run.proofs.Cells.KnownCells.{task_known}
use Rattle.tj_run.proofs.Asks.PointSteps.{pairs_length}
use Rattle.tj_run.proofs.Seats.RunningTasks.{held_here, runs_too}
use Rattle.tj_run.proofs.Seats.WorkersSteps.{runs_on, waits_on}
use Rattle.tj_base.specs.declared.cell.Sort.TheVariants as sort
use Rattle.tj_base.specs.declared.cause.Cause.TheVariants as cause
use Rattle.tj_body.specs.declared.ask.Answer.TheVariants as answer
use Rattle.tj_body.specs.declared.point.Close.TheVariants as close
use Rattle.tj_body.specs.declared.point.Entry.TheVariants as entry
use Rattle.tj_body.specs.declared.point.Value.TheVariants as value
use Rattle.tj_cells.specs.declared.seen.Seen.TheVariants as seen
use Rattle.tj_record.specs.declared.record.Finish.TheVariants as finish
use Rattle.tj_record.specs.declared.record.Hurt.TheVariants as hurt
use Rattle.tj_run.specs.declared.next.Next.TheVariants as next

-- a seat by its view and its slots
seat_is : {B : Type 0} (m : SeatMe B) (me : SeatMe B) (w : View B) → m.0 ≡ w → m.1 ≡ me.1 → m ≡ (w, me.1)
seat_is m me w e f = λ j. (e j, f j)

module _ {B : Type 0} (program : Bool → B → Program B) (laid : Laid B) (r : Rec B) (k : ℕ) (spare : Bool)
    (me : SeatMe B) (runs : RunsTask laid r me)
    (h : IsWaiting (table_program program laid) me.0 r k spare) where
  abbrev P : Program B
  P = table_program program laid

  -- the held cell at the place
  abbrev c : ℕ
  c = (held_at r.held k).cell.0

  pub place_held : k < length r.held
  place_held = subst (λ n. k < n)
      (sym (pairs_length (HeldSays me.0.born) r.held h.point.references h.tells.held)) h.inside

  -- it is the one for which the task waits, and a cell of the table
  pub waited : IsCell me.0.born c (reference h.point k)
  waited = waited_cell P me.0 r k spare h place_held

  pub waited_there : c < laid.cells
  waited_there = let i = inside me.0.born c (reference h.point k) waited in
      let f = runs.worker.cells.few in omega arith

  -- nothing has become of it
  more_loaded : KnowsMore me.0 (loaded_once me.0)
  more_loaded = more_same me.0 (loaded_once me.0) ([], refl)

  waits_still : Goes program laid (next.Waits k spare) r me.0 (loaded_once me.0, me.1)
  waits_still = record {
    knows = more_loaded;
    runs = runs_on laid r me (loaded_once me.0, me.1) more_loaded (record { hand = refl; dues = refl })
        (record { pushes = refl; shuts = refl; rest = refl })
        (record { tokens = refl; cleared = refl; refused = refl }) runs.worker.cells refl refl runs;
    goes_on = waits_on P me.0 (loaded_once me.0) more_loaded r k spare h;
  }

  pub looks_in_vain : (m : SeatMe B) → m.1 ≡ me.1 → FindsNothing c me.0 m.0
      → Goes program laid (next.Waits k spare) r me.0 m
  looks_in_vain m slots f = subst (λ z. Goes program laid (next.Waits k spare) r me.0 z)
      (sym (seat_is m me (loaded_once me.0) f.view slots)) waits_still

  -- this has become of it
  module _ (s : Seen) (m : SeatMe B) (slots : m.1 ≡ me.1) (sees : SeesValue program laid.cells c s me.0 m.0) where
    abbrev e : Entry
    e = sees.entry

    abbrev w : View B
    w = saw_value c e (cells_seen s) sees.born me.0

    more : KnowsMore me.0 w
    more = (keeps_load me.0 w sees.begins (λ x i. in_right x (cells_seen s) (c ∷ me.0.known) (inr i)) (λ x i. inr i)
        (λ x i. i) (λ z. z) (λ z. z) ([], refl)).more

    filled_on : (d : ℕ) (x : Entry) → HasSeen me.0.filled d x → HasSeen w.filled d x
    filled_on d x i = inr i

    runs_still : RunsTask laid r (w, me.1)
    runs_still = runs_on laid r me (w, me.1) more (record { hand = refl; dues = refl })
        (record { pushes = refl; shuts = refl; rest = refl })
        (record { tokens = refl; cleared = refl; refused = refl }) sees.all refl refl runs

    -- it becomes so in some round
    becomes : Becomes P (reference h.point k).name e
    becomes = subst (λ (x : Reference). Becomes P x.name e)
        (some-injective sees.reference (reference h.point k)
        (sym sees.is ∙ cell_on me.0.born sees.born sees.begins c (reference h.point k) waited))
        (sees.becomes (about_table laid) runs.worker.of_table)

    at_seat : (n : Next) (q : Rec B) → Goes program laid n q me.0 (w, me.1) → Goes program laid n q me.0 m
    at_seat n q g = subst (λ z. Goes program laid n q me.0 z) (sym (seat_is m me w sees.view slots)) g

    -- an answer that names no cell
    answers : (a : Answer) → IsRunning P w (record r { answer = a })
        → Goes program laid next.Runs (record r { answer = a }) me.0 m
    answers a g = at_seat next.Runs (record r { answer = a }) (record {
      knows = more;
      runs = runs_too laid r (record r { answer = a }) (w, me.1) refl refl refl runs_still.has.knows runs_still;
      goes_on = g;
    })

    -- one that does
    holds_too : (d : Held) → IsIn d.cell.0 w.known → IsRunning P w (record_with d r)
        → Goes program laid next.Runs (record_with d r) me.0 m
    holds_too d i g = let f = runs_still.has.knows in at_seat next.Runs (record_with d r) (record {
      knows = more;
      runs = runs_too laid r (record_with d r) (w, me.1) refl refl refl
          (cells_known w.known (record_with d r) (task_known w.known r f)
          (known_more w.known (λ (x : Held). x.cell.0) r.held d (held_known w.known r f) i)
          (owned_known w.known r f) (owed_known w.known r f) (ending_known w.known r f)) runs_still;
      goes_on = g;
    })

  module _ (law : PointsRead P) (m : SeatMe B) (slots : m.1 ≡ me.1) where
    -- its value is a number
    pub looks_number : (i : ℤ) → SeesValue program laid.cells c (seen.Num i) me.0 m.0
        → Goes program laid next.Runs (record r { answer = answer.Num i }) me.0 m
    looks_number i sees = let s = seen.Num i in let v = w s m slots sees in
        answers s m slots sees (answer.Num i)
        (answered P me.0 r k spare h v (more s m slots sees).born (filled_on s m slots sees) (answer.Num i)
        (read_rounds P me.0 r k spare h law (entry.Value (value.Num i))
        (subst (Becomes P (reference h.point k).name) sees.says (becomes s m slots sees))))

    -- it is a promise
    pub looks_promise : (d : CellId) → SeesValue program laid.cells c (seen.Promise d) me.0 m.0
        → Goes program laid next.Runs (record_with (record { cell = d; sort = sort.Promise }) r) me.0 m
    looks_promise d sees = let s = seen.Promise d in let v = w s m slots sees in
        let held : Held = record { cell = d; sort = sort.Promise } in
        let x = to_promise sees.says.0 in
        holds_too s m slots sees held (inl refl)
        (answered_cell P me.0 r k spare h v (more s m slots sees).born (filled_on s m slots sees) held x
        (sees.says.1, refl)
        (read_rounds P me.0 r k spare h law (entry.Value (value.Ref x))
        (subst (Becomes P (reference h.point k).name) sees.says.2 (becomes s m slots sees))))

    -- it is a task
    pub looks_task : (d : CellId) → SeesValue program laid.cells c (seen.Task d) me.0 m.0
        → Goes program laid next.Runs (record_with (record { cell = d; sort = sort.Task }) r) me.0 m
    looks_task d sees = let s = seen.Task d in let v = w s m slots sees in
        let held : Held = record { cell = d; sort = sort.Task } in
        let x = to_task sees.says.0 in
        holds_too s m slots sees held (inl refl)
        (answered_cell P me.0 r k spare h v (more s m slots sees).born (filled_on s m slots sees) held x
        (sees.says.1, refl)
        (read_rounds P me.0 r k spare h law (entry.Value (value.Ref x))
        (subst (Becomes P (reference h.point k).name) sees.says.2 (becomes s m slots sees))))

  -- it is broken, and the task has nothing in its place
  broken_closes : (law : PointsRead P) (v : View B) → KnowsMore me.0 v → IsIn c v.known → spare ≡ false
      → Becomes P (reference h.point k).name entry.Broken
      → IsClosing P v r (finish.Failed (hurt.Broken (held_at r.held k).cell))
  broken_closes law v more known none b = let q = (reference h.point k).name in record {
    rooted = h.rooted;
    point = h.point;
    body = h.point.body;
    ending = close.Failed (cause.Broken q);
    is_open = subst IsOpen (sym h.at_stage) tt;
    unfinished = h.unfinished;
    tells = tells_later P me.0 r k spare h v more.born (λ d x i. more.filled (record { cell = d; entry = x }) i);
    stands = stands_later P me.0 r k spare h v more.born (λ d x i. more.filled (record { cell = d; entry = x }) i);
    says = (
      cause.Broken q,
      (q, (reference h.point k, cell_on me.0.born v.born more.born c (reference h.point k) waited, refl), refl),
      refl,
    );
    knows = λ d i. ⊎_elim (λ z. subst (λ y. IsIn y v.known) (sym z) known) (λ z. absurd z) i;
    ends = subst (λ z. IsOfRounds P (after_read z q entry.Broken h.point)) none
        (read_rounds P me.0 r k spare h law entry.Broken b);
  }

module _ {B : Type 0} (program : Bool → B → Program B) (laid : Laid B) (r : Rec B) (k : ℕ) (me : SeatMe B)
    (runs : RunsTask laid r me) (law : PointsRead (table_program program laid)) (m : SeatMe B)
    (slots : m.1 ≡ me.1) where
  -- it is broken
  pub looks_broken : (spare : Bool) (h : IsWaiting (table_program program laid) me.0 r k spare)
      → SeesValue program laid.cells (held_at r.held k).cell.0 seen.Broken me.0 m.0
      → Goes program laid (next_broken spare (hurt.Broken (held_at r.held k).cell)) (with_lost spare r) me.0 m
  looks_broken true h sees = let s = seen.Broken in let P = table_program program laid in
      let v = w program laid r k true me runs h s m slots sees in
      let b = becomes program laid r k true me runs h s m slots sees in
      let on = more program laid r k true me runs h s m slots sees in
      answers program laid r k true me runs h s m slots sees answer.Lost
      (answered P me.0 r k true h v on.born (filled_on program laid r k true me runs h s m slots sees) answer.Lost
      (read_rounds P me.0 r k true h law entry.Broken (subst (Becomes P (reference h.point k).name) sees.says b)))
  looks_broken false h sees = let s = seen.Broken in let P = table_program program laid in
      let v = w program laid r k false me runs h s m slots sees in
      let b = becomes program laid r k false me runs h s m slots sees in
      let on = more program laid r k false me runs h s m slots sees in
      let still = runs_still program laid r k false me runs h s m slots sees in
      let f = finish.Failed (hurt.Broken (held_at r.held k).cell) in
      at_seat program laid r k false me runs h s m slots sees (next.Ends f) r (record {
        knows = on;
        runs = still;
        goes_on = broken_closes program laid r k false me runs h law v on
            (held_known v.known r still.has.knows (held_at r.held k).cell.0
            (held_here r k (place_held program laid r k false me runs h)))
            refl (subst (Becomes P (reference h.point k).name) sees.says b);
      })

-- what was seen is something
pub number_seen : (i : ℤ) → seen.Num i ≢ seen.NotYet
number_seen i = λ z. cc

pub promise_seen : (d : CellId) → seen.Promise d ≢ seen.NotYet
promise_seen d = λ z. cc

pub task_seen : (d : CellId) → seen.Task d ≢ seen.NotYet
task_seen d = λ z. cc

pub broken_seen : seen.Broken ≢ seen.NotYet
broken_seen = λ z. cc

-- the same of a held cell x that is the one at the place
module _ {B : Type 0} (program : Bool → B → Program B) (laid : Laid B) (r : Rec B) (k : ℕ) (spare : Bool)
    (me : SeatMe B) (runs : RunsTask laid r me) (h : IsWaiting (table_program program laid) me.0 r k spare) (x : Held)
    (is : x ≡ held_at r.held k) where
  abbrev Sees : Held → Seen → SeatMe B → Type 0
  Sees y s m = SeesValue program laid.cells y.cell.0 s me.0 m.0

  pub look_there : x.cell.0 < laid.cells
  look_there = subst (λ y. y.cell.0 < laid.cells) (sym is) (waited_there program laid r k spare me runs h)

  module _ (m : SeatMe B) (slots : m.1 ≡ me.1) where
    pub look_in_vain : FindsNothing x.cell.0 me.0 m.0 → Goes program laid (next.Waits k spare) r me.0 m
    look_in_vain f = looks_in_vain program laid r k spare me runs h m slots
        (subst (λ y. FindsNothing y.cell.0 me.0 m.0) is f)

    module _ (law : PointsRead (table_program program laid)) where
      pub look_number : (i j : ℤ) → j ≡ i → Sees x (seen.Num i) m
          → Goes program laid next.Runs (record r { answer = answer.Num j }) me.0 m
      look_number i j e sees = subst (λ z. Goes program laid next.Runs (record r { answer = answer.Num z }) me.0 m)
          (sym e) (looks_number program laid r k spare me runs h law m slots i
          (subst (λ y. Sees y (seen.Num i) m) is sees))

      pub look_promise : (d : CellId) → Sees x (seen.Promise d) m
          → Goes program laid next.Runs (record_with (record { cell = d; sort = sort.Promise }) r) me.0 m
      look_promise d sees = looks_promise program laid r k spare me runs h law m slots d
          (subst (λ y. Sees y (seen.Promise d) m) is sees)

      pub look_task : (d : CellId) → Sees x (seen.Task d) m
          → Goes program laid next.Runs (record_with (record { cell = d; sort = sort.Task }) r) me.0 m
      look_task d sees = looks_task program laid r k spare me runs h law m slots d
          (subst (λ y. Sees y (seen.Task d) m) is sees)

      pub look_broken : (n : Next) (q : Rec B) → n ≡ next_broken spare (hurt.Broken x.cell) → q ≡ with_lost spare r
          → Sees x seen.Broken m
          → Goes program laid n q me.0 m
      look_broken n q e f sees = subst (λ y. Goes program laid y q me.0 m)
          (sym (e ∙ ap (λ y. next_broken spare (hurt.Broken y.cell)) is))
          (subst (λ y. Goes program laid (next_broken spare (hurt.Broken (held_at r.held k).cell)) y me.0 m) (sym f)
          (looks_broken program laid r k me runs law m slots spare h (subst (λ y. Sees y seen.Broken m) is sees)))

-- where a task runs on it does so with what another call answers
pub runs_then : {B : Type 0} (program : Bool → B → Program B) (laid : Laid B) (v : View B) (m : SeatMe B) (q r : Rec B)
    (res : Result Next Why) → IfOk res (λ n. n ≡ next.Runs)
    → IfOk res (λ _. q ≡ r)
    → Goes program laid next.Runs r v m
    → IfOk res (λ n. Goes program laid n q v m)
runs_then program laid v m q r (Ok n) e f g = subst (λ y. Goes program laid y q v m) (sym e)
    (subst (λ y. Goes program laid next.Runs y v m) (sym f) g)
runs_then program laid v m q r (Err y) e f g = tt
