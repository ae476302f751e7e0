-- What a turn comes to since an earlier view of the seat: a worker that goes on, rests or was stopped since a later
-- view does so since an earlier one.
use Rattle.tj_run.proofs.Prelude.{Bool, Claimed, ComesBack, HasStopped, IfSome, IsFree, IsLeft, IsRooted, IsTailOf}
use Rattle.tj_run.proofs.Prelude.{KnowsMore, Laid, Leaves, Left, None, Option, Program, Rec, SeatMe, Some, TurnsTo}
use Rattle.tj_run.proofs.Prelude.{View, Why, [], about_table, ap, custody_of, hold, more_itself, more_same, note_of}
use Rattle.tj_run.proofs.Prelude.{refl, saw_rest, subst, sym, table_program, tail_on, ℕ, ◌∙◌, ◌∷◌, ◌≡◌, ◌≢◌}
use Rattle.tj_words.specs.declared.phase.Phase.{Phase}
use Rattle.tj_words.specs.Calls.ExchangeViews.{missed}
use Rattle.tj_words.specs.SeatViews.FullMeaning.{NamesFull}
use Rattle.tj_words.specs.Words.Phases.{phase_word}
use Rattle.tj_words.specs.SeatViews.Views.{saw_live, saw_stop}
use Rattle.tj_run.specs.Leaving.{Found, FoundRest, FoundStop, HasRested, IsTold, stop_word}
use Rattle.tj_run.proofs.Seats.FreeSeats.{free_noted, free_rested, rested_since, workers_same}
use Rattle.tj_run.proofs.Waiting.WaitConditions.{taken_runs}
use Rattle.tj_run.proofs.Seats.WorkersSteps.{left_on, workers_on}
use Rattle.tj_words.specs.declared.phase.Phase.TheVariants as phase
use Rattle.tj_words.specs.declared.view.Noted.TheVariants as note
use Rattle.tj_run.specs.declared.why.Left.TheVariants as left
use Rattle.tj_run.specs.declared.why.Why.TheVariants as why

module _ {B : Type 0} where
  -- the load of STOP leaves what the seat knew
  pub stop_seen : (v w : View B) → w ≡ saw_stop 0 v → KnowsMore v w
  stop_seen v w e = subst (λ u. KnowsMore v u) (sym e)
      (more_same v (saw_stop 0 v) (note_of note.Stop 0 v ∷ [], refl))

  -- a free seat that has loaded STOP as 0 is free still
  pub left_unstopped : (laid : Laid B) (old new : SeatMe B) → IsFree laid old → new.0 ≡ saw_stop 0 old.0
      → new.1 ≡ old.1 → IsLeft laid old.0 new
  left_unstopped laid old new free view slots =
      let w = free.worker in subst (IsLeft laid old.0) (λ i. (sym view i, sym slots i)) (record {
        knows = stop_seen old.0 (saw_stop 0 old.0) refl;
        free = record {
          worker = workers_same laid old.0 (saw_stop 0 old.0) w w.lot w.tokens;
          tasks = free.tasks;
          slots = free.slots;
        };
      })

  -- a free seat whose exchange found that a task isn't ready is free still, and knows what it knew
  pub left_missed : (laid : Laid B) (t : ℕ) (old new : SeatMe B) → IsFree laid old
      → (p : Phase) × (p ≢ phase.Ready) × (new ≡ (missed t p old.0, old.1))
      → IsLeft laid old.0 new
  left_missed laid t old new free h = subst (IsLeft laid old.0) (sym h.2) (record {
    knows = more_same old.0 (missed t h.0 old.0) (note_of (note.Missed t) (phase_word h.0) old.0 ∷ [], refl);
    free = free_noted laid (note.Missed t) (phase_word h.0) old free;
  })

  -- a free seat that has loaded LIVE as not 0 is free still
  pub left_live : (laid : Laid B) (n : ℕ) (old new : SeatMe B) → IsFree laid old → new.0 ≡ saw_live n old.0
      → new.1 ≡ old.1 → IsLeft laid old.0 new
  left_live laid n old new free view slots = subst (IsLeft laid old.0) (λ i. (sym view i, sym slots i)) (record {
    knows = more_same old.0 (saw_live n old.0) (note_of note.Live n old.0 ∷ [], refl);
    free = free_noted laid note.Live n old free;
  })

  module _ (laid : Laid B) (n : ℕ) (old mid new : SeatMe B) (free : IsFree laid old) (stop : mid.0 ≡ saw_stop 0 old.0)
      (kept : mid.1 ≡ old.1) (same : new.1 ≡ mid.1) where
    -- a free seat that has loaded STOP as 0, and then LIVE as not 0, is free still
    pub left_looked : new.0 ≡ saw_live n mid.0 → IsLeft laid old.0 new
    left_looked view = let first = left_unstopped laid old mid free stop kept in
        left_on laid old.0 mid.0 first.knows new (left_live laid n mid new first.free view same)

    -- where it has loaded LIVE as 0 it has rested
    pub rested_looked : new.0 ≡ saw_rest mid.0 → HasRested old.0 new
    rested_looked view = let first = left_unstopped laid old mid free stop kept in
        rested_since old.0 mid.0 first.knows new
        (subst (HasRested mid.0) (λ i. (sym view i, sym same i)) (free_rested laid mid first.free))

  -- the load of STOP said why
  pub stop_found : (cause : Why) (n : ℕ) (v w : View B) → n ≡ stop_word cause → w ≡ saw_stop n v → FoundStop cause v w
  stop_found cause n v w is loaded = record {
    at = v;
    since = ([], refl);
    loaded = loaded ∙ ap (λ k. saw_stop k v) is;
  }

  -- the load of LIVE found 0
  pub rest_found : (v w : View B) → w ≡ saw_rest v → FoundRest v w
  rest_found v w loaded = record { at = v; since = ([], refl); loaded = loaded }

  -- what was found since a later view was found since an earlier one
  pub found_since : (how : Left) (u v w : View B) → IsTailOf u.notes v.notes → Found how v w → Found how u w
  found_since left.Rested u v w k h =
      record { at = h.at; since = tail_on u.notes v.notes h.at.notes k h.since; loaded = h.loaded }
  found_since (left.Stopped cause) u v w k h =
      record { at = h.at; since = tail_on u.notes v.notes h.at.notes k h.since; loaded = h.loaded }

  pub if_found_since : (how : Option Left) (u v w : View B) → IsTailOf u.notes v.notes
      → IfSome how (λ h. Found h v w) → IfSome how (λ h. Found h u w)
  if_found_since None u v w k h = tt
  if_found_since (Some how) u v w k h = found_since how u v w k h

  module _ (program : Bool → B → Program B) where
    -- a stop tells of each seat of the table the same
    pub stopped_since : (u v w : View B) (cause : Why) → v.about ≡ u.about → HasStopped program cause v w
        → HasStopped program cause u w
    stopped_since u v w why.Full e h = record { stop = h.stop; told = λ a i. h.told a (e ∙ i) }
    stopped_since u v w why.Memory e h = record { stop = h.stop; told = tt }

    pub leaves_since : (u v : View B) (how : Left) → KnowsMore u v → (me : SeatMe B) → Leaves program how v me
        → Leaves program how u me
    leaves_since u v left.Rested k me h = rested_since u v k me h
    leaves_since u v (left.Stopped cause) k me h = stopped_since u v me.0 cause k.about h

    pub turns_since : (laid : Laid B) (u v : View B) (how : Option Left) → KnowsMore u v → (me : SeatMe B)
        → TurnsTo program laid how v me
        → TurnsTo program laid how u me
    turns_since laid u v None k me h = left_on laid u v k me h
    turns_since laid u v (Some how) k me h = leaves_since u v how k me h

    -- the load of STOP left what it said
    pub stop_left : (cause : Why) (n : ℕ) (v w : View B) → n ≡ stop_word cause → w ≡ saw_stop n v
        → (n ≡ 1 → NamesFull program v) → HasStopped program cause v w
    stop_left cause n v w is loaded full = record {
      stop = ap (λ (u : View B). u.stop) loaded ∙ is;
      told = by cause is;
    }
      where
        by : (z : Why) → n ≡ stop_word z → IsTold program z v
        by why.Full e = full e
        by why.Memory e = tt

    -- a worker that doesn't leave goes on
    pub turns_on : (laid : Laid B) (how : Option Left) → how ≡ None → (v : View B) (me : SeatMe B)
        → TurnsTo program laid how v me
        → IsLeft laid v me
    turns_on laid None e v me h = h
    turns_on laid (Some how) e v me h = let z : Some how ≡ None = e in absurd (cc)

    -- a free seat that has claimed a task runs it
    pub claimed_back : (laid : Laid B) (r : Rec B) (t : ℕ) (old new : SeatMe B) → IsFree laid old
        → IsRooted (table_program program laid) → Claimed program t r old.0 new.0
        → new.1 ≡ (t, None) ∷ old.1
        → ComesBack program laid r new.0 new
    claimed_back laid r t old new free rooted h slot = let of = h.knows.about ∙ free.worker.of_table in record {
      knows = more_itself new.0;
      runs = taken_runs laid program r new
          (workers_on laid old.0 new.0 h.knows h.hand h.wakes h.counts (h.taken.all (about_table laid) of) free.worker)
          t h.taken (h.tasks ∙ ap (λ ks. hold (custody_of r) ks) free.tasks)
          (slot ∙ ap (λ l. (t, None) ∷ l) free.slots);
      rooted = rooted;
      known = h.taken.known (about_table laid) of;
      unfinished = h.taken.unfinished;
    }
