-- The record of a task that has ended lies at home for good: no seat takes the task any more, and what lies at home of
-- a task that no seat holds stays. So does each record with a finish that a seat says it put home.
use Rattle.std.proofs.Common.{◌≡◌, ◌⊎◌, ◌∙◌, ◌<◌, ◌++◌, ℕ, zero, suc, Bool, List, [], ◌∷◌, Option, Some, set}
use Rattle.std.proofs.Common.{refl, sym, ap, subst, inl, inr, ⊎_elim, arith, length}
use mathlib.Core.Logic.{dite}
use mathlib.Core.Option.{some, some-injective, some-ne-none}
use native.Mathlib.Decide.{ℕ_discrete}
use lib.ListN.{get_elem?}
use Rattle.atomic_table.proofs.Lists.{set_else, set_here}
use Rattle.atomic_table.specs.Table.{Act, State, gives, homes_after, rest}
use Rattle.tj_body.specs.Points.{IsIn}
use Rattle.tj_body.specs.Programs.{Program}
use Rattle.tj_log.proofs.Entries.{at_bound}
use Rattle.tj_record.specs.declared.record.Rec.{Rec}
use Rattle.tj_words.specs.CallLaws.CallRuns.{AreAskedMoments, CallRunsAreRuns, IsAskedCall, IsAskedStep, acts_by}
use Rattle.tj_words.specs.CallLaws.CallRuns.{asked_by, phase_act}
use Rattle.tj_words.specs.CallLaws.RestedRuns.{Ruled, last_moment}
use Rattle.tj_words.specs.CallLaws.StepCalls.{place_of, told_by}
use Rattle.tj_words.specs.LawParts.Contents.{Contents, contents_of, home_of}
use Rattle.tj_words.specs.LawParts.Custodies.{IsKept}
use Rattle.tj_words.specs.LawParts.Holding.{home_in}
use Rattle.tj_words.specs.LawParts.ShownState.{sort_shown}
use Rattle.tj_words.specs.SeatViews.Views.{both, left_half, right_half, spent}
use Rattle.tj_words.specs.Calls.LiveViews.{SlotsOf}
use Rattle.tj_words.specs.Steps.StepEvents.{IsBegun}
use Rattle.tj_words.specs.Words.Offsets.{phase_at, word}
use Rattle.tj_words.specs.Words.Phases.{phase_in}
use Rattle.tj_words.specs.declared.phase.Phase.TheVariants as phase
use Rattle.tj_words.specs.declared.table.Key.{Key}
use Rattle.tj_words.specs.declared.view.View.{View}
use Rattle.tj_words.proofs.Holders.HomeSlots.{home_laid}
use Rattle.tj_words.proofs.Lemmas.{begun_there}
use Rattle.tj_words.proofs.Prelude.{phase_sort}
use Rattle.tj_words.proofs.Stores.SeatLists.{word_here}
use Rattle.tj_runs.specs.LastingWords.{CountNeverFalls}
use Rattle.tj_runs.specs.OwnRuns.{AreTheLast, OwnRunsStand}
use Rattle.tj_runs.specs.HomeRecords.{EndedRecordsLie, EndedRecordsStay, HasFinish, LiesEnded}
use Rattle.tj_runs.specs.Moments.{contents_at}
use Rattle.tj_runs.specs.PhaseChanges.{IsForGood}
use Rattle.tj_runs.specs.TaskHolders.{IsFree}
use Rattle.tj_runs.proofs.PhaseRows.{phases_for_good}
use Rattle.tj_runs.proofs.PutRecords.{EndsWith, call_ends}
use Rattle.tj_runs.proofs.TaskHolders.{free_of, holders_last}

-- what stands in a list with one element put in stood there, or is it; so it is of a list with one element more
set_back : {A : Type 0} (l : List A) (j i : ℕ) (x old v : A) → get_elem? l j ≡ some old
    → get_elem? (set l j x) i ≡ some v → (get_elem? l i ≡ some v) ⊎ (v ≡ x)
set_back l j i x old v at e = dite (ℕ_discrete i j)
    (λ q. inr (some-injective v x
    (sym e ∙ (ap (get_elem? (set l j x)) q ∙ set_here l j x (at_bound l j old at)))))
    (λ n. inl (sym (set_else l j i x n) ∙ e))

snoc_back : {A : Type 0} (l : List A) (x : A) (i : ℕ) (v : A) → get_elem? (l ++ x ∷ []) i ≡ some v
    → (get_elem? l i ≡ some v) ⊎ (v ≡ x)
snoc_back [] x zero v e = inr (sym (some-injective x v e))
snoc_back [] x (suc i) v e = absurd (some-ne-none v (sym e))
snoc_back (y ∷ ys) x zero v e = inl e
snoc_back (y ∷ ys) x (suc i) v e = snoc_back ys x i v e

module _ {B : Type 0} (program : Bool → B → Program B) (key : Key B) where
  -- nobody holds a task that has ended
  ended_free : (u : Ruled program key) (t : ℕ) → (contents_at program key u).words.phase t ≡ phase.Ended
      → IsFree (contents_at program key u) t
  ended_free u t e = free_of u.rule.law t kept.0
    where
      x : Contents B
      x = contents_at program key u

      kept : IsKept phase.Ended (u.rule.law.custody.holder t) (home_of x t)
      kept = let h = begun_there u.rule.law t (subst IsBegun (sym e) tt) in
          subst (λ z. IsKept z (u.rule.law.custody.holder t) (home_of x t)) e (u.rule.law.custody.tasks_kept t h.0
          (ap (λ z. sort_shown z (x.words.phase t)) h.1 ∙ ap phase_sort e))

  -- what is so of a task that has ended, and of the record at home
  lies_so : (u : Ruled program key) (t : ℕ) (r : Rec B) → (contents_at program key u).words.phase t ≡ phase.Ended
      → home_of (contents_at program key u) t ≡ Some r → LiesEnded (contents_at program key u) t r
  lies_so u t r e h = record { ended = e; free = ended_free u t e; home = h }

  -- the store of Ended puts the record home that lies in the slot
  put_lies : (u w : Ruled program key) (k : IsAskedCall program key u.now w.now) (r : Rec B)
      → EndsWith k.made.call k.made.operands k.made.seat r → LiesEnded (contents_at program key w) r.cell.0 r
  put_lies u w k r z = subst (λ t. LiesEnded (contents_at program key w) t r) (sym z.cell)
      (lies_so w z.task r (ap phase_in left ∙ z.ends) lies)
    where
      place : phase_at z.task ≡ place_of k.made.call
      place = sym (ap place_of z.is)

      stored : k.made.number ≡ k.made.operands.first
      stored = (subst (λ a. told_by program key.cells a k.made.number k.made.operands k.made.seat
          (word u.now.words (place_of k.made.call)) k.made.seat_after) z.is k.made.told).0

      left : word w.now.words (phase_at z.task) ≡ k.made.operands.first
      left = ap (λ (s : State (Option (Rec B)) (View B)). word s.words (phase_at z.task)) k.made.makes.after
          ∙ (ap (word (set u.now.words (place_of k.made.call) k.made.number)) place
          ∙ (word_here u.now.words (place_of k.made.call) k.made.number k.made.makes.inside ∙ stored))

      back : k.made.act ≡ gives
      back = subst (λ a. acts_by program key a k.made.operands (word u.now.words (place_of k.made.call)) k.made.seat
          k.made.act) z.is k.acts ∙ ap phase_act z.ends

      small : z.task < length u.now.homes
      small = let l = (subst (λ a. asked_by program key a k.made.operands k.made.seat) z.is k.asks).0 in
          let e = u.rule.all_slots in omega (arith, l, e)

      slots_left : (slots : SlotsOf B) (act : Act (Option (Rec B))) → slots ≡ (z.task, Some r) ∷ rest slots
          → act ≡ gives → home_in (homes_after u.now.homes slots act) z.task ≡ Some r
      slots_left slots act s a = ap (λ b. home_in (homes_after u.now.homes slots b) z.task) a
          ∙ (ap (λ (l : SlotsOf B). home_in (homes_after u.now.homes l gives) z.task) s
          ∙ home_laid u.now.homes z.task r small)

      lies : home_of (contents_at program key w) z.task ≡ Some r
      lies = ap (λ (s : State (Option (Rec B)) (View B)). home_in s.homes z.task) k.made.makes.after
          ∙ slots_left k.made.seat.1 k.made.act z.slot back

  module _ (runs : CallRunsAreRuns B) (counts : CountNeverFalls B) where
    -- after one step
    stays : (u w : Ruled program key) → IsAskedStep program key u.now w.now → (t : ℕ) (r : Rec B)
        → (contents_at program key u).words.phase t ≡ phase.Ended → home_of (contents_at program key u) t ≡ Some r
        → LiesEnded (contents_at program key w) t r
    stays u w a t r e h =
        let f = phases_for_good B program key u (w ∷ []) (a, tt) t (subst IsForGood (sym e) tt) ∙ e in
        lies_so w t r f (⊎_elim (λ z. z.1) (λ z. absurd (ended_free w t f z.0 z.1))
        ((holders_last B runs counts program key u w a).1 t r (ended_free u t e) h))

    -- and after more
    stay : (t : ℕ) (r : Rec B) (u : Ruled program key) (later : List (Ruled program key))
        → AreAskedMoments program key u later → (contents_at program key u).words.phase t ≡ phase.Ended
        → home_of (contents_at program key u) t ≡ Some r
        → LiesEnded (contents_at program key (last_moment program key u later)) t r
    stay t r u [] a e h = lies_so u t r e h
    stay t r u (w ∷ ws) a e h = let z = stays u w a.0 t r e h in stay t r w ws a.1 z.ended z.home

    -- some seat says then that it put this record home
    abbrev IsPut : Ruled program key → Rec B → Type 0
    IsPut u r = (id : ℕ) × (v : View B) × (get_elem? u.now.views id ≡ some v) × IsIn r v.put_home

    -- each record with a finish of which a seat says so lies at home
    abbrev AllLie : Ruled program key → Type 0
    AllLie u = (r : Rec B) → IsPut u r → HasFinish r → LiesEnded (contents_at program key u) r.cell.0 r

    -- what seats say after a step they said before it, or the step was the store of Ended
    came : (u w : Ruled program key) → IsAskedStep program key u.now w.now → (r : Rec B) → IsPut w r → HasFinish r
        → IsPut u r ⊎ LiesEnded (contents_at program key w) r.cell.0 r
    came u w (inl k) r (id, v, at, i) f = ⊎_elim
        (λ e. inl (id, v, e, i))
        (λ e. ⊎_elim
        (λ j. inl (k.made.id, k.made.seat.0, k.made.makes.at, j))
        (λ z. inr (put_lies u w k r z))
        (call_ends program key k.made.call k.made.number (word u.now.words (place_of k.made.call)) k.made.operands
        k.made.seat k.made.seat_after k.asks k.made.told r (subst (λ (x : View B). IsIn r x.put_home) e i) f))
        (set_back u.now.views k.made.id id k.made.seat_after.0 k.made.seat.0 v k.made.makes.at
        (subst (λ (s : State (Option (Rec B)) (View B)). get_elem? s.views id ≡ some v) k.made.makes.after at))
    came u w (inr (inl p)) r (id, v, at, i) f = ⊎_elim
        (λ e. ⊎_elim
        (λ q. inl (id, v, q, i))
        (λ q. inl (p.id, p.view, p.at, subst (λ (x : View B). IsIn r x.put_home) q i))
        (set_back u.now.views p.id id (left_half p.view) p.view v p.at e))
        (λ e. absurd (subst (λ (x : View B). IsIn r x.put_home) e i))
        (snoc_back (set u.now.views p.id (left_half p.view)) (right_half p.view) id v
        (subst (λ (s : State (Option (Rec B)) (View B)). get_elem? s.views id ≡ some v) p.after at))
    came u w (inr (inr p)) r (id, v, at, i) f = ⊎_elim
        (λ e. ⊎_elim
        (λ q. inl (id, v, q, i))
        (λ q. inl (p.merge.id, p.merge.view, p.merge.at, subst (λ (x : View B). IsIn r x.put_home) q i))
        (set_back u.now.views p.merge.id id (both p.merge.view p.merge.taken) p.merge.view v p.merge.at e))
        (λ e. absurd (subst (λ (x : View B). IsIn r x.put_home) e i))
        (set_back (set u.now.views p.merge.id (both p.merge.view p.merge.taken)) p.merge.other id spent
        p.merge.taken v
        (set_else u.now.views p.merge.id p.merge.other (both p.merge.view p.merge.taken) p.merge.apart
        ∙ p.merge.other_at)
        (subst (λ (s : State (Option (Rec B)) (View B)). get_elem? s.views id ≡ some v) p.merge.after at))

    lie_then : (u w : Ruled program key) → IsAskedStep program key u.now w.now → AllLie u → AllLie w
    lie_then u w a all r put f = ⊎_elim
        (λ p. let z = all r p f in stays u w a r.cell.0 r z.ended z.home) (λ z. z) (came u w a r put f)

    -- so it is at each moment of a run that begins so
    lie_at : (u : Ruled program key) (later : List (Ruled program key)) → AreAskedMoments program key u later
        → AllLie u → (w : Ruled program key) (more : List (Ruled program key))
        → AreTheLast program key u later w more → AllLie w
    lie_at u [] a all w more h = subst AllLie h.0 all
    lie_at u (x ∷ xs) a all w more (inl h) = subst AllLie h.0 all
    lie_at u (x ∷ xs) a all w more (inr h) = lie_at x xs a.1 (lie_then u x a.0 all) w more h

    -- nothing was put home at first
    first_lie : (u : Ruled program key) (v : View B) → u.now.views ≡ v ∷ [] → v.put_home ≡ [] → AllLie u
    first_lie u v views none r (zero, x, at, i) f =
        let e = some-injective v x (sym (ap (λ l. get_elem? l 0) views) ∙ at) in
        absurd (subst (IsIn r) (ap (λ (y : View B). y.put_home) (sym e) ∙ none) i)
    first_lie u v views none r (suc id, x, at, i) f =
        absurd (some-ne-none x (sym at ∙ ap (λ l. get_elem? l (suc id)) views))

pub ended_records_stay : (B : Type 0) → CallRunsAreRuns B → CountNeverFalls B → EndedRecordsStay B
ended_records_stay B runs counts program key u later a t r e h = stay program key runs counts t r u later a e h

pub ended_records_lie : (B : Type 0) → CallRunsAreRuns B → CountNeverFalls B → OwnRunsStand B → EndedRecordsLie B
ended_records_lie B runs counts own program v r i f key s run w more last id at =
    let st = own program key s run w more last in
    let z = lie_at program key runs counts run.first run.later run.moments
    (first_lie program key runs counts run.first _
    (ap (λ (x : State (Option (Rec B)) (View B)). x.views) run.start) refl) w more last r (id, v, at, i) f in
    subst (λ (x : State (Option (Rec B)) (View B)). LiesEnded (contents_of x) r.cell.0 r) st.last
    (stay program key runs counts r.cell.0 r w more st.moments z.ended z.home)
