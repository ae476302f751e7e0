-- The seat of a worker after calls that leave it nothing new to do: it is a worker's seat still, it runs the task that
-- it ran, and the task's record tells what it told.
use Rattle.tj_run.proofs.Prelude.{AreCells, ComesBack, Err, Goes, GoesOn, HasReadTree, HasSeen, IsIn, IsLeft, IsWaiting}
use Rattle.tj_run.proofs.Prelude.{IsWorkers, Lacks, Laid, Next, Ok, Program, Rec, RunsTask, SeatMe, View, Why, in_right}
use Rattle.tj_run.proofs.Prelude.{least_lot, more_itself, more_on, stands_on, sym, table_program, tail_on, tells_on, ℕ}
use Rattle.std.proofs.Common.{◌≡◌, ◌≤◌, Bool, [], Result, IfErr, IsErrAnd, ap, ◌∙◌, subst}
use Rattle.tj_words.specs.SeatViews.KnowsMore.{KnowsMore, HasSameWakes, HasSameHand, HasSameCounts}

module _ {B : Type 0} (laid : Laid B) (v w : View B) (k : KnowsMore v w) (hand : HasSameHand v w)
    (wakes : HasSameWakes v w) (counts : HasSameCounts v w) (all : AreCells laid.cells w.born) where
  -- it is a worker's
  pub workers_on : IsWorkers laid v → IsWorkers laid w
  workers_on h = record {
    of_table = k.about ∙ h.of_table;
    lot = subst (λ n. least_lot ≤ n) (sym k.lot) h.lot;
    refused = counts.refused ∙ h.refused;
    tokens = counts.tokens ∙ h.tokens;
    cleared = counts.cleared ∙ h.cleared;
    nothing = record {
      hand = hand.hand ∙ h.nothing.hand;
      dues = hand.dues ∙ h.nothing.dues;
      pushes = wakes.pushes ∙ h.nothing.pushes;
      shuts = wakes.shuts ∙ h.nothing.shuts;
      rest = wakes.rest ∙ h.nothing.rest;
    };
    cells = all;
  }

-- it runs the task of the record
pub runs_on : {B : Type 0} (laid : Laid B) (r : Rec B) (me m : SeatMe B) → KnowsMore me.0 m.0
    → HasSameHand me.0 m.0 → HasSameWakes me.0 m.0 → HasSameCounts me.0 m.0 → AreCells laid.cells m.0.born
    → m.0.tasks ≡ me.0.tasks
    → m.1 ≡ me.1
    → RunsTask laid r me → RunsTask laid r m
runs_on laid r me m k hand wakes counts all tasks slots h = record {
  worker = workers_on laid me.0 m.0 k hand wakes counts all h.worker;
  custody = h.custody;
  tasks = tasks ∙ h.tasks;
  slots = slots ∙ h.slots;
  task = h.task;
  runs = h.runs;
  out = h.out;
  has = record {
    cell = h.has.cell;
    owned = h.has.owned;
    made = h.has.made;
    knows = λ c i. k.known c (h.has.knows c i);
  };
  result = h.result;
  owned_apart = h.owned_apart;
}

-- it waits for the cell at the place
pub waits_on : {B : Type 0} (program : Program B) (v w : View B) → KnowsMore v w → (r : Rec B) (k : ℕ) (spare : Bool)
    → IsWaiting program v r k spare → IsWaiting program w r k spare
waits_on program v w more r k spare h = record {
  rooted = h.rooted;
  point = h.point;
  at_stage = h.at_stage;
  inside = h.inside;
  unfinished = h.unfinished;
  tells = tells_on v.born w.born more.born r h.point h.tells;
  stands = stands_on program v.born w.born more.born (HasSeen v.filled) (HasSeen w.filled)
      (λ c e i. more.filled (record { cell = c; entry = e }) i) h.point h.stands;
  room = h.room;
}

-- words of the tree were loaded
module _ {B : Type 0} (cells : ℕ) (v w : View B) (h : HasReadTree cells v w) where
  pub read_more : KnowsMore v w
  read_more = record {
    about = ap (λ (u : View B). u.about) h.rest;
    lot = ap (λ (u : View B). u.lot) h.rest;
    born = h.begins;
    known = λ x i. subst (IsIn x) (sym (ap (λ (u : View B). u.known) h.rest)) i;
    wrote = λ x i. subst (IsIn x) (sym (ap (λ (u : View B). u.wrote) h.rest)) i;
    filled = λ x i. subst (IsIn x) (sym (ap (λ (u : View B). u.filled) h.rest)) i;
    seen = λ x i. subst (IsIn x) (sym h.seen) (in_right x h.more v.seen i);
    closed = λ x i. subst (IsIn x) (sym (ap (λ (u : View B). u.closed) h.rest)) i;
    rested = λ e. ap (λ (u : View B). u.rested) h.rest ∙ e;
    notes = ([], ap (λ (u : View B). u.notes) h.rest);
  }

  pub read_wakes : HasSameWakes v w
  read_wakes = record {
    pushes = ap (λ (u : View B). u.pushes) h.rest;
    shuts = ap (λ (u : View B). u.shuts) h.rest;
    rest = ap (λ (u : View B). u.rest) h.rest;
  }

  pub read_hand : HasSameHand v w
  read_hand = record {
    hand = ap (λ (u : View B). u.hand) h.rest;
    dues = ap (λ (u : View B). u.dues) h.rest;
  }

  pub read_counts : HasSameCounts v w
  read_counts = record {
    tokens = ap (λ (u : View B). u.tokens) h.rest;
    cleared = ap (λ (u : View B). u.cleared) h.rest;
    refused = ap (λ (u : View B). u.refused) h.rest;
  }

  pub read_tasks : w.tasks ≡ v.tasks
  read_tasks = ap (λ (u : View B). u.tasks) h.rest

-- the seat that runs the task of the record runs it after such loads
pub runs_read : {B : Type 0} (laid : Laid B) (r : Rec B) (me m : SeatMe B) → HasReadTree laid.cells me.0 m.0
    → m.1 ≡ me.1
    → RunsTask laid r me → RunsTask laid r m
runs_read laid r me m h slots runs = let c = laid.cells in let v = me.0 in let w = m.0 in
    runs_on laid r me m (read_more c v w h) (read_hand c v w h) (read_wakes c v w h) (read_counts c v w h)
    (h.all runs.worker.cells) (read_tasks c v w h) slots runs

-- a task that has left since a later view has left since an earlier one, and so with one that comes back, or goes on
pub left_on : {B : Type 0} (laid : Laid B) (u v : View B) → KnowsMore u v → (m : SeatMe B) → IsLeft laid v m
    → IsLeft laid u m
left_on laid u v k m h = record { knows = more_on u v m.0 k h.knows; free = h.free }

-- it has come back since what the seat knows now
pub back_here : {B : Type 0} (program : Bool → B → Program B) (laid : Laid B) (r : Rec B) (v : View B) (m : SeatMe B)
    → ComesBack program laid r v m → ComesBack program laid r m.0 m
back_here program laid r v m h = record {
  knows = more_itself m.0;
  runs = h.runs;
  rooted = h.rooted;
  known = h.known;
  unfinished = h.unfinished;
}

pub back_on : {B : Type 0} (program : Bool → B → Program B) (laid : Laid B) (r : Rec B) (u v : View B) → KnowsMore u v
    → (m : SeatMe B) → ComesBack program laid r v m → ComesBack program laid r u m
back_on program laid r u v k m h = record {
  knows = more_on u v m.0 k h.knows;
  runs = h.runs;
  rooted = h.rooted;
  known = h.known;
  unfinished = h.unfinished;
}

pub goes_since : {B : Type 0} (program : Bool → B → Program B) (laid : Laid B) (n : Next) (r : Rec B) (u v : View B)
    → KnowsMore u v
    → (m : SeatMe B) → Goes program laid n r v m → Goes program laid n r u m
goes_since program laid n r u v k m h = record {
  knows = more_on u v m.0 k h.knows;
  runs = h.runs;
  goes_on = h.goes_on;
}

pub lacks_since : {B : Type 0} (cause : Why) (u v w : View B) → KnowsMore u v → Lacks cause v w → Lacks cause u w
lacks_since cause u v w k h = record {
  about = h.about ∙ k.about;
  notes = tail_on u.notes v.notes w.notes k.notes h.notes;
  refused = h.refused;
}

-- why a run is to stop is handed on
pub lacks_on : {A B : Type 0} (cause : Why) (u v w : View B) → KnowsMore u v → Lacks cause v w → (r : Result A Why)
    → IsErrAnd r (λ (z : Why). z ≡ cause) → IfErr r (λ (z : Why). Lacks z u w)
lacks_on cause u v w k h (Ok a) i = tt
lacks_on cause u v w k h (Err z) i = lacks_since z u v w k (subst (λ y. Lacks y v w) (sym i) h)

-- the task goes on like this, by what the seat knows already
pub goes_itself : {B : Type 0} (program : Bool → B → Program B) (laid : Laid B) (n : Next) (r : Rec B) (me : SeatMe B)
    → RunsTask laid r me → GoesOn (table_program program laid) n r me.0
    → Goes program laid n r me.0 me
goes_itself program laid n r me runs h = record { knows = more_itself me.0; runs = runs; goes_on = h }
