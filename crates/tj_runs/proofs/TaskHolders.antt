-- Who holds a task after a step.
use Rattle.std.proofs.Common.{◌≡◌, ◌≢◌, ◌⊎◌, ◌<◌, ℕ, Bool, true, List, [], ◌∷◌, Option, Some, None}
use Rattle.std.proofs.Common.{refl, sym, ap, ◌∙◌, subst, inl, inr, ⊎_elim, arith, map, set}
use native.Mathlib.Decide.{ℕ_discrete, dec_le}
use mathlib.Core.Logic.{dite}
use mathlib.Core.Option as maybe
use mathlib.Core.Option.{none, some}
use lib.ListN.{get_elem?}
use Rattle.atomic_table.specs.Table.{Act, State, Step, Valid, gives, homes_after, keeps, put_back, rest, takes}
use Rattle.tj_base.specs.declared.cell.Sort.{Sort}
use Rattle.tj_base.specs.declared.cell.Sort.TheVariants as sort
use Rattle.tj_body.specs.Programs.{Program}
use Rattle.tj_body.specs.declared.point.Reference.{Reference}
use Rattle.tj_events.specs.CoreState.{CoreState, IsTask, is_task, stage}
use Rattle.tj_events.specs.CoreFacts.{CoreFacts}
use Rattle.tj_events.specs.Runs.{AreAllowed, after_all}
use Rattle.tj_events.specs.declared.event.Event.{Event}
use Rattle.tj_events.proofs.Events.EachEvent.{kept_by_event}
use Rattle.tj_events.proofs.Events.LegalRuns.{kept_by_run}
use Rattle.tj_words.specs.declared.phase.Phase.{Phase}
use Rattle.tj_words.specs.declared.phase.Phase.TheVariants as phase
use Rattle.tj_words.specs.declared.phase.Walk.TheVariants as walk
use Rattle.tj_record.specs.declared.record.Rec.{Rec}
use Rattle.tj_words.specs.declared.table.Key.{Key}
use Rattle.tj_words.specs.declared.view.Custody.{Custody}
use Rattle.tj_words.specs.declared.view.Filled.{Filled}
use Rattle.tj_words.specs.declared.view.Hand.{Hand}
use Rattle.tj_words.specs.declared.view.View.{View}
use Rattle.tj_words.specs.Law.{Law}
use Rattle.tj_words.specs.CallLaws.CallRuns.{CallRunsAreRuns, IsAskedStep, IsIdleMerge, acts_by}
use Rattle.tj_words.specs.CallLaws.CallRuns.{asked_by, joined, live_act, phase_act, takes_new}
use Rattle.tj_runs.specs.LastingWords.{CountNeverFalls}
use Rattle.tj_words.specs.CallLaws.RestedRuns.{Ruled}
use Rattle.tj_words.specs.CallLaws.StepCalls.{StepCall, place_of, told_by}
use Rattle.tj_words.specs.CallLaws.StepCalls as call
use Rattle.tj_words.specs.Calls.LiveViews.{IfRecord, LaysChild, Shelves, SlotsOf}
use Rattle.tj_words.specs.Calls.PhaseViews.{MayPutPhase}
use Rattle.tj_words.specs.Calls.TakenRecords.{custody_of, took_record}
use Rattle.tj_words.specs.SeatViews.TaskLists.{let_go}
use Rattle.tj_words.specs.LawParts.Contents.{Contents, core_shown, drawn_in, hand_of, held_of, home_of}
use Rattle.tj_words.specs.LawParts.Custodies.{IsKept}
use Rattle.tj_words.specs.LawParts.Holding.{Slots, held_in, home_in, record_in}
use Rattle.tj_words.specs.LawParts.ShownState.{hand_stage, sort_shown, stage_shown}
use Rattle.tj_words.specs.SeatViews.SeatSteps.{SeatMe}
use Rattle.tj_words.specs.SeatViews.Views.{both, left_half, right_half, spent}
use Rattle.tj_words.specs.Steps.WalkSteps.{is_task_sort}
use Rattle.tj_words.specs.Words.Lists.{OfSeat}
use Rattle.tj_words.specs.Words.Offsets.{word}
use Rattle.tj_words.specs.Words.Phases.{phase_in}
use Rattle.tj_words.proofs.Prelude.{at_map, set_else, some-injective}
use Rattle.tj_words.proofs.Lemmas.{cell_born, cell_there, held_first, of_seat_else, of_seat_here, of_seat_set}
use Rattle.tj_words.proofs.Lemmas.{none_some, one_some, parts_of}
use Rattle.tj_events.proofs.OneCell.Frames.{some_none}
use Rattle.tj_words.proofs.Cells.CellFacts.{task_shown}
use Rattle.tj_words.proofs.Stores.SeatLists.{map_back, of_seat_snoc}
use Rattle.tj_runs.specs.Moments.{contents_at, shown_at}
use Rattle.tj_runs.specs.TaskHolders.{Holds, HoldersAreOne, HoldersLast, HoldersStay, IsFree, RecordsStay}
use Rattle.tj_runs.proofs.AlikeSeats.{plain_step}

module _ {B : Type 0} where
  -- the view has something for t
  abbrev HasFor : ℕ → View B → Type 0
  HasFor t v = (k : Custody B) × (held_in v.tasks t ≡ Some k)

  -- a seat that holds t has a view that does, and the other way round
  seat_has : (views : List (View B)) (j t : ℕ)
      → OfSeat (λ ks. (k : Custody B) × (held_in ks t ≡ Some k)) (map (λ (v : View B). v.tasks) views) j
      → OfSeat (HasFor t) views j
  seat_has views j t h = let b = map_back (λ (v : View B). v.tasks) views j h.0 h.1 in
      (b.0, b.1, subst (λ ks. (k : Custody B) × (held_in ks t ≡ Some k)) (sym b.2) h.2)

  has_seat : (views : List (View B)) (j t : ℕ) → OfSeat (HasFor t) views j
      → OfSeat (λ ks. (k : Custody B) × (held_in ks t ≡ Some k)) (map (λ (v : View B). v.tasks) views) j
  has_seat views j t h = (h.0.tasks, at_map (λ (v : View B). v.tasks) views j h.0 h.1, h.2)

  -- a task that is kept by nobody has its record at home
  kept_home : (p : Phase) (home : Option (Rec B)) → IsKept p None home → (r : Rec B) × (home ≡ Some r)
  kept_home phase.Ready home k = k.1
  kept_home phase.Ended home k = k.1
  kept_home (phase.Waiting c w walk.Parked) home k = k.1
  kept_home (phase.Waiting c w walk.Alarmed) home (inl k) = let e = k.0.1 in absurd (cc)
  kept_home (phase.Waiting c w walk.Alarmed) home (inr k) = k.1
  kept_home (phase.Waiting c w walk.Walking) home k = let e = k.1 in absurd (cc)
  kept_home phase.Unborn home k = let e = k.1 in absurd (cc)
  kept_home phase.Running home k = let e = k.1 in absurd (cc)
  kept_home phase.Promise home k = absurd k

  module _ {P : Program B} {cells : ℕ} {x : Contents B} (r : Law P cells x) where
    -- who holds a task is its holder
    holder_is : (t j : ℕ) → Holds x j t → r.custody.holder t ≡ Some j
    holder_is t j h = (r.custody.held j h.0 h.1 t h.2.0 h.2.1).mine

    pub one_holder : HoldersAreOne x
    one_holder t i j h k = one_some i j (sym (holder_is t i h) ∙ holder_is t j k)

    -- a task without a holder is free
    pub free_of : (t : ℕ) → r.custody.holder t ≡ None → IsFree x t
    free_of t e j h = some_none (holder_is t j h) e

    held_there : (t j : ℕ) → Holds x j t → t < drawn_in cells x
    held_there t j h = dite (dec_le (drawn_in cells x) t)
        (λ l. some_none (holder_is t j h) (r.custody.undrawn_free t l)) (λ l. omega arith)

    -- what a seat holds is a task
    held_sort : (t j : ℕ) → Holds x j t → sort_shown (hand_of x t) (x.words.phase t) ≡ sort.Task
    held_sort t j h = by (sort_shown (hand_of x t) (x.words.phase t)) refl where
      by : (o : Sort) → sort_shown (hand_of x t) (x.words.phase t) ≡ o → o ≡ sort.Task
      by sort.Task e = refl
      by sort.Promise e = some_none (holder_is t j h) (r.custody.promises_empty t (held_there t j h) e).1

    abbrev K : CoreState
    K = core_shown cells r.born r.maker x

    -- the core shows a cell's sort
    sort_core : (t : ℕ) → t < drawn_in cells x
        → is_task (stage K.cells t) ≡ is_task_sort (sort_shown (hand_of x t) (x.words.phase t))
    sort_core t l = by (hand_of x t) refl where
      by : (o : Option Hand) → hand_of x t ≡ o
          → is_task (stage K.cells t) ≡ is_task_sort (sort_shown (hand_of x t) (x.words.phase t))
      by None e = task_shown r t (l, e) ∙ ap is_task_sort (r.births.sorts t _ (cell_born r t l))
      by (Some h) e = ap (λ z. is_task z.stage) (cell_there r.born r.maker (parts_of cells x) t l)
          ∙ (ap (λ (o : Option Hand). is_task (stage_shown t o (x.words.own t) (x.words.phase t) (held_of x t)
          (home_of x t))) e
          ∙ (hand_sort h.sort ∙ ap (λ (o : Option Hand). is_task_sort (sort_shown o (x.words.phase t))) (sym e)))
        where
          hand_sort : (o : Sort) → is_task (hand_stage o) ≡ is_task_sort o
          hand_sort sort.Task = refl
          hand_sort sort.Promise = refl

    sort_back : (o : Sort) → is_task_sort o ≡ true → o ≡ sort.Task
    sort_back sort.Task e = refl
    sort_back sort.Promise e = absurd (cc)

-- a task of the core stays one
task_stays : (N : ℕ) (s : CoreState) (es : List Event) (t : ℕ) → CoreFacts s → AreAllowed N s es → IsTask s.cells t
    → IsTask (after_all s es).cells t
task_stays N s es t x a h = kept_by_run N (λ y. IsTask y.cells t)
    (λ y e f f_allowed i. let k = kept_by_event N y e f f_allowed in k.1.2.frame.tasks t (k.1.1.frame.tasks t i))
    s es x a h

-- what lies in the slots after a call
module _ {B : Type 0} (program : Bool → B → Program B) (key : Key B) (homes : Slots B) (m m' : SeatMe B) (t : ℕ) where
  -- the record of t lies where it lay, or the seat had the task, or has it now
  abbrev StaysOr : Slots B → Type 0
  StaysOr hs = (home_in hs t ≡ home_in homes t) ⊎ (HasFor t m.0 ⊎ HasFor t m'.0)

  kept : (b : Act (Option (Rec B))) → b ≡ keeps → StaysOr (homes_after homes m.1 b)
  kept b e = inl (ap (λ (a : Act (Option (Rec B))). home_in (homes_after homes m.1 a) t) e)

  else : (d : ℕ) (o : maybe.Option (Option (Rec B))) → t ≢ d → StaysOr (set homes d o)
  else d o n = inl (ap record_in (set_else homes d t o n))

  -- a slot that is given back is that of a task which the seat has
  given : (d : ℕ) (z : Rec B) (slots : SlotsOf B) → HasFor d m.0 → StaysOr (put_back homes ((d, Some z) ∷ slots))
  given d z slots h = dite (ℕ_discrete t d)
      (λ e. inr (inl (subst (λ k. HasFor k m.0) (sym e) h)))
      (λ n. else d (some (Some z)) n)

  gives_back : (b : Act (Option (Rec B))) (d : ℕ) (z : Rec B) → b ≡ gives → m.1 ≡ (d, Some z) ∷ rest m.1
      → HasFor d m.0 → StaysOr (homes_after homes m.1 b)
  gives_back b d z e slot h = subst (λ a. StaysOr (homes_after homes m.1 a)) (sym e)
      (subst (λ l. StaysOr (put_back homes l)) (sym slot) (given d z (rest m.1) h))

  live_slots : (slots : SlotsOf B) (F : ℕ → Rec B → Type 0) → ((d : ℕ) (z : Rec B) → F d z → HasFor d m.0)
      → IfRecord F slots → StaysOr (homes_after homes slots (live_act slots))
  live_slots [] F has h = inl refl
  live_slots ((d, None) ∷ slots) F has h = inl refl
  live_slots ((d, Some z) ∷ slots) F has h = given d z slots (has d z h)

  -- a slot that is taken is that of a task which the seat has then
  taken : (b : Act (Option (Rec B))) (d : ℕ) (z : Option (Rec B)) → b ≡ takes d z → HasFor d m'.0
      → StaysOr (homes_after homes m.1 b)
  taken b d z e h = subst (λ a. StaysOr (homes_after homes m.1 a)) (sym e) (dite (ℕ_discrete t d)
      (λ q. inr (inr (subst (λ k. HasFor k m'.0) (sym q) h)))
      (λ n. else d none n))

  -- who takes a record has its task
  took : (d : ℕ) (z : Rec B) (born : List Reference) (more : List Filled) (v : View B) → z.cell.0 ≡ d
      → HasFor d (took_record z born more v)
  took d z born more v e = (custody_of z, held_first (custody_of z) (let_go z.cell.0 v.tasks) d e)

  stored_slots : (b : Act (Option (Rec B))) (d : ℕ) (p : Phase) → MayPutPhase program d p m → b ≡ phase_act p
      → StaysOr (homes_after homes m.1 b)
  stored_slots b d phase.Unborn may e = absurd may
  stored_slots b d phase.Running may e = absurd may
  stored_slots b d phase.Ready may e = kept b e
  stored_slots b d phase.Promise may e = kept b e
  stored_slots b d phase.Ended may e = gives_back b d may.record_of e may.puts.slot (may.custody, may.held)
  stored_slots b d (phase.Waiting c w walk.Walking) may e = kept b e
  stored_slots b d (phase.Waiting c w walk.Parked) may e =
      gives_back b d may.record_of e may.puts.slot (may.walks.custody, may.walks.held)
  stored_slots b d (phase.Waiting c w walk.Alarmed) may e = kept b e

  -- an unlaid slot isn't one with a record
  drawn_slots : (b : Act (Option (Rec B))) (r : Rec B) (k : ℕ) (o : Sort) → home_in homes t ≡ Some r
      → Valid homes m.1 b → b ≡ takes_new B k o → StaysOr (homes_after homes m.1 b)
  drawn_slots b r k sort.Promise home may e = kept b e
  drawn_slots b r k sort.Task home may e = subst (λ a. StaysOr (homes_after homes m.1 a)) (sym e)
      (dite (ℕ_discrete t k)
      (λ q. let empty : home_in homes t ≡ None = ap (home_in homes) q
      ∙ ap record_in (subst (Valid homes m.1) e may) in
      let f : None ≡ Some r = sym empty ∙ home in absurd (cc))
      (λ n. else k none n))

  call_slots : (a : StepCall) (n k : ℕ) (st : Step (Option (Rec B))) (b : Act (Option (Rec B))) (r : Rec B)
      → home_in homes t ≡ Some r → Valid homes m.1 b → asked_by program key a st m
      → told_by program key.cells a n st m k m' → acts_by program key a st k m b → StaysOr (homes_after homes m.1 b)
  call_slots (call.draws d o) n k st b r home may ask told acts = dite (dec_le key.cells k)
      (λ l. kept b (acts.1 l))
      (λ l. drawn_slots b r k o home may (acts.0 (omega arith)))
  call_slots (call.puts_phase d) n k st b r home may ask told acts =
      stored_slots b d (phase_in st.first) ask.1 acts
  call_slots (call.swaps_phase d) n k st b r home may ask told acts = dite (ℕ_discrete k st.first)
      (λ e. let s = told.2.1.0 e in let act = acts.0 e in ⊎_elim
      (λ q. let z = s.claims q.0 in let c = act.0 q.1 in taken b d (Some c.0) c.1
      (subst (HasFor d) (ap (λ (i : SeatMe B). i.0) (sym z.2))
      (took d z.0 z.1.born z.1.more m.0 z.1.of_task)))
      (λ q. ⊎_elim
      (λ i. kept b (act.1 i.0))
      (λ i. let z = s.goes_back q.0 q.1 q.2 i.0 in let c = act.0 i.0 in taken b d (Some c.0) c.1
      (subst (HasFor d) (ap (λ (j : SeatMe B). j.0) (sym z.3))
      (took d z.0 z.1.born z.1.more m.0 z.1.of_task))) q.3) told.2.0)
      (λ e. kept b (acts.1 e))
  call_slots call.raises_live n k st b r home may ask told acts =
      subst (λ a. StaysOr (homes_after homes m.1 a)) (sym acts)
      (live_slots m.1 (λ d z. LaysChild program d z m) (λ d z h. (h.custody, h.held)) ask.lays)
  call_slots call.lowers_live n k st b r home may ask told acts =
      subst (λ a. StaysOr (homes_after homes m.1 a)) (sym acts)
      (live_slots m.1 (λ d z. Shelves program d z m) (λ d z h. (h.custody, h.held)) ask.shelves)
  call_slots a n k st b r home may ask told acts = kept b acts

module _ {B : Type 0} (program : Bool → B → Program B) (key : Key B) (runs : CallRunsAreRuns B)
    (counts : CountNeverFalls B) (u w : Ruled program key) (a : IsAskedStep program key u.now w.now) where
  abbrev old : Contents B
  old = contents_at program key u

  abbrev new : Contents B
  new = contents_at program key w

  -- what was held is a task still
  kept_sort : (t j : ℕ) → Holds old j t → (t < drawn_in key.cells new)
      × (sort_shown (hand_of new t) (new.words.phase t) ≡ sort.Task)
  kept_sort t j h = (
    drawn,
    sort_back w.rule.law (sort_shown (hand_of new t) (new.words.phase t))
        (sym (sort_core w.rule.law t drawn) ∙ task_then),
  )
    where
      drawn : t < drawn_in key.cells new
      drawn = let c = counts program key u (w ∷ []) (plain_step program key u.now w.now a, tt) in
          let l = held_there u.rule.law t j h in omega (arith, c, l)

      task_now : IsTask (shown_at program key u).cells t
      task_now = sort_core u.rule.law t (held_there u.rule.law t j h)
          ∙ ap is_task_sort (held_sort u.rule.law t j h)

      task_then : IsTask (shown_at program key w).cells t
      task_then = let g = runs program key u (w ∷ []) (a, tt) in
          subst (λ (s : CoreState). IsTask s.cells t) (sym g.2.1)
          (task_stays key.cells (shown_at program key u) (joined g.0) t u.rule.law.facts g.2.0 task_now)

  -- who has a task has it still, or is the seat of the call, which leaves all others as they are
  goes : (t j : ℕ) → OfSeat (HasFor t) u.now.views j → OfSeat (HasFor t) w.now.views j
      ⊎ ((i : ℕ) → i ≢ j → OfSeat (HasFor t) w.now.views i → OfSeat (HasFor t) u.now.views i)
  goes t j h = by a where
    by : IsAskedStep program key u.now w.now → OfSeat (HasFor t) w.now.views j
        ⊎ ((i : ℕ) → i ≢ j → OfSeat (HasFor t) w.now.views i → OfSeat (HasFor t) u.now.views i)
    by (inl k) = let m = k.made in dite (ℕ_discrete j m.id)
        (λ e. inr (λ i n z.
        let y = subst (λ (s : State (Option (Rec B)) (View B)). OfSeat (HasFor t) s.views i) m.makes.after z in
        (y.0, sym (set_else u.now.views m.id i m.seat_after.0 (λ q. n (q ∙ sym e))) ∙ y.1, y.2)))
        (λ n. inl (subst (λ (s : State (Option (Rec B)) (View B)). OfSeat (HasFor t) s.views j) (sym m.makes.after)
        (of_seat_else (HasFor t) u.now.views m.id j m.seat_after.0 n h)))
    by (inr (inl p)) = inl (subst (λ (s : State (Option (Rec B)) (View B)). OfSeat (HasFor t) s.views j) (sym p.after)
        (of_seat_snoc (HasFor t) (set u.now.views p.id (left_half p.view)) (right_half p.view) j
        (of_seat_set (HasFor t) u.now.views p.id j p.view (left_half p.view) p.at (λ z. z) h)))
    by (inr (inr p)) = inl (subst (λ (s : State (Option (Rec B)) (View B)). OfSeat (HasFor t) s.views j)
        (sym p.merge.after) (of_seat_else (HasFor t)
        (set u.now.views p.merge.id (both p.merge.view p.merge.taken)) p.merge.other j spent (not_taken p)
        (of_seat_set (HasFor t) u.now.views p.merge.id j p.merge.view (both p.merge.view p.merge.taken) p.merge.at
        (λ z. z) h)))
      where
        not_taken : (p : IsIdleMerge u.now w.now) → j ≢ p.merge.other
        not_taken p e =
            let same = some-injective h.0 p.merge.taken
            (sym h.1 ∙ (ap (λ i. get_elem? u.now.views i) e ∙ p.merge.other_at)) in
            none_some None h.2.0 refl (sym (ap (λ ks. held_in ks t)
            (ap (λ (v : View B). v.tasks) same ∙ p.idle.tasks)) ∙ h.2.1)

  holders_stay : HoldersStay old new
  holders_stay t j h = by (w.rule.law.custody.holder t) refl where
    by : (o : Option ℕ) → w.rule.law.custody.holder t ≡ o
        → Holds new j t ⊎ (IsFree new t × ((r : Rec B) × (home_of new t ≡ Some r)))
    by (Some i) e = ⊎_elim (λ z. inl (has_seat w.now.views j t z))
        (λ z. dite (ℕ_discrete i j)
        (λ q. inl (subst (λ k. Holds new k t) q (w.rule.law.custody.holders t i e)))
        (λ n. absurd (n (one_holder u.rule.law t i j (has_seat u.now.views i t
        (z i n (seat_has w.now.views i t (w.rule.law.custody.holders t i e)))) h))))
        (goes t j (seat_has u.now.views j t h))
    by None e = let s = kept_sort t j h in inr (
      free_of w.rule.law t e,
      kept_home (new.words.phase t) (home_of new t)
          (subst (λ (o : Option ℕ). IsKept (new.words.phase t) o (home_of new t)) e
          (w.rule.law.custody.tasks_kept t s.0 s.1)),
    )

  records_stay : RecordsStay old new
  records_stay t r free home = by (w.rule.law.custody.holder t) refl where
    lies : IsAskedStep program key u.now w.now → IsFree new t → home_of new t ≡ Some r
    lies (inl k) out = let m = k.made in
        let after = ap (λ (s : State (Option (Rec B)) (View B)). home_in s.homes t) m.makes.after in
        ⊎_elim (λ e. after ∙ (e ∙ home))
        (λ z. ⊎_elim
        (λ h. absurd (free m.id (has_seat u.now.views m.id t (m.seat.0, m.makes.at, h))))
        (λ h. absurd (out m.id (has_seat w.now.views m.id t
        (subst (λ (s : State (Option (Rec B)) (View B)). OfSeat (HasFor t) s.views m.id) (sym m.makes.after)
        (of_seat_here (HasFor t) u.now.views m.id m.seat.0 m.seat_after.0 m.makes.at h))))) z)
        (call_slots program key u.now.homes m.seat m.seat_after t m.call m.number
        (word u.now.words (place_of m.call)) m.operands m.act r home m.makes.may k.asks m.told k.acts)
    lies (inr (inl p)) out = ap (λ (s : State (Option (Rec B)) (View B)). home_in s.homes t) p.after ∙ home
    lies (inr (inr p)) out = ap (λ (s : State (Option (Rec B)) (View B)). home_in s.homes t) p.merge.after ∙ home

    by : (o : Option ℕ) → w.rule.law.custody.holder t ≡ o
        → (IsFree new t × (home_of new t ≡ Some r)) ⊎ ((j : ℕ) × Holds new j t)
    by (Some j) e = inr (j, w.rule.law.custody.holders t j e)
    by None e = let f = free_of w.rule.law t e in inl (f, lies a f)

pub holders_last : (B : Type 0) → CallRunsAreRuns B → CountNeverFalls B → HoldersLast B
holders_last B runs counts program key u w a =
    (holders_stay program key runs counts u w a, records_stay program key runs counts u w a)
