-- Tables whose LIVE is 0: no seat has a token or a live task, so no call changes what is said to stay. And STOP.
use Rattle.std.proofs.Common.{◌≡◌, ◌≢◌, ◌⊎◌, ◌<◌, ◌≤◌, ℕ, zero, suc, Bool, true, List, [], ◌∷◌, Option}
use Rattle.std.proofs.Common.{Some, None, refl, sym, ap, ◌∙◌, subst, inl, inr, ⊎_elim, arith, min, eqb-true}
use native.Mathlib.Decide.{ℕ_discrete, dec_le}
use mathlib.Core.Logic.{dite}
use mathlib.Core.Option.{some}
use lib.ListN.{get_elem?}
use Rattle.atomic_table.specs.Table.{Act, State, Step, homes_after, keeps}
use Rattle.tj_base.specs.declared.cell.CellId.{CellId}
use Rattle.tj_body.specs.Points.{IsIn}
use Rattle.tj_body.specs.Programs.{Program}
use Rattle.tj_events.specs.declared.walk.Way.{Way}
use Rattle.tj_words.specs.declared.offsets.Once.TheVariants as once
use Rattle.tj_words.specs.declared.phase.Phase.{Phase}
use Rattle.tj_words.specs.declared.phase.Phase.TheVariants as phase
use Rattle.tj_words.specs.declared.phase.Walk.TheVariants as walk
use Rattle.tj_record.specs.declared.record.Rec.{Rec}
use Rattle.tj_words.specs.declared.table.Key.{Key}
use Rattle.tj_words.specs.declared.view.Custody.{Custody}
use Rattle.tj_words.specs.declared.view.Does.{Does}
use Rattle.tj_words.specs.declared.view.Hand.{Hand}
use Rattle.tj_words.specs.declared.view.View.{View}
use Rattle.tj_words.specs.Law.{Law}
use Rattle.tj_words.specs.CallLaws.CallRuns.{IsAskedCall, IsAskedStep, acts_by, asked_by, phase_act}
use Rattle.tj_runs.specs.LastingWords.{CellsAreForGood}
use Rattle.tj_words.specs.CallLaws.RestedRuns.{Ruled, last_moment}
use Rattle.tj_words.specs.CallLaws.StepCalls.{StepCall, place_of, told_by}
use Rattle.tj_words.specs.CallLaws.StepCalls as call
use Rattle.tj_words.specs.Calls.OwnerViews.{MayPutOwner}
use Rattle.tj_words.specs.Calls.PhaseViews.{MayPutPhase}
use Rattle.tj_words.specs.Calls.ExchangeViews.{MaySwap}
use Rattle.tj_words.specs.LawParts.Contents.{Contents, drawn_in, hand_of, home_of}
use Rattle.tj_words.specs.LawParts.LiveCount.{DoesRun, DoesWalk, HoldsIn, IsLively, live_part, live_tasks}
use Rattle.tj_words.specs.LawParts.Holding.{held_in, home_in, phase_of}
use Rattle.tj_words.specs.LawParts.ShownState.{sort_shown}
use Rattle.tj_words.specs.LawParts.Custodies.{IsKept}
use Rattle.tj_words.specs.LawParts.TreeWords.{IsDue}
use Rattle.tj_words.specs.SeatViews.SeatSteps.{SeatMe}
use Rattle.tj_words.specs.Steps.StepEvents.{IsBegun, MayAct}
use Rattle.tj_words.specs.Steps.WalkSteps.{MayWait}
use Rattle.tj_words.specs.Words.Lists.{OfSeat, total}
use Rattle.tj_words.specs.Words.Offsets.{count_at, live_at, own_at, phase_at, stop_at, word}
use Rattle.tj_words.specs.Words.Owners.{owner_in}
use Rattle.tj_words.specs.Words.Phases.{phase_in}
use Rattle.tj_words.proofs.Prelude.{at_map, set_here}
use Rattle.tj_words.proofs.Lemmas.{begun_there, hand_found, inside}
use Rattle.tj_runs.proofs.AlikeSeats.{plain_step}
use Rattle.tj_runs.proofs.CallStores.{step_stays}
use Rattle.tj_words.proofs.SeatLoads.KnowLoads.{hand_not}
use Rattle.tj_words.proofs.Stores.TableWords.{TableWord, index, is_word}
use Rattle.tj_words.proofs.Stores.TableWords as table_word
use Rattle.tj_words.proofs.Waiters.LiveSteps.{held_in_phase, lively_live}
use Rattle.tj_runs.specs.Moments.{contents_at}
use Rattle.tj_laws.specs.RestedTables.{HasLiveTask, HasReady, HasToken, IsStill, LiveIsSomebodys, RestedTablesStay}
use Rattle.tj_laws.specs.RestedTables.{SomebodyIsLive, StopStays, StopsStay}
use Rattle.tj_runs.proofs.StepWords.{IsLeftBy, word_of, word_stays}

-- where the sum isn't 0, one of the numbers isn't
some_part : (l : List ℕ) → 0 < total l → (j : ℕ) × OfSeat (λ n. 0 < n) l j
some_part [] h = absurd (omega arith)
some_part (x ∷ xs) h = dite (ℕ_discrete x 0)
    (λ e. let r = some_part xs (omega arith) in (suc r.0, r.1))
    (λ n. (0, (x, refl, omega arith)))

-- where tasks are live, one is
some_live : (phases : ℕ → Phase) (n : ℕ) → 0 < live_tasks phases n → (t : ℕ) × (0 < live_part (phases t))
some_live phases zero h = absurd (omega arith)
some_live phases (suc n) h = dite (ℕ_discrete (live_part (phases n)) 0)
    (λ e. some_live phases n (omega arith))
    (λ e. (n, omega arith))

-- one that is live counts
live_counts : (phases : ℕ → Phase) (n t : ℕ) → t < n → live_part (phases t) ≤ live_tasks phases n
live_counts phases zero t l = absurd (omega arith)
live_counts phases (suc n) t l = dite (ℕ_discrete t n)
    (λ e. let q : live_part (phases t) ≡ live_part (phases n) = ap (λ k. live_part (phases k)) e in omega arith)
    (λ e. let q = live_counts phases n t (omega arith) in omega arith)

running_runs : (d : Does) → phase_of d ≡ phase.Running → DoesRun d
running_runs d e = grind arith

walking_walks : (d : Does) → ((c : CellId) × (w : Way) × (phase_of d ≡ phase.Waiting c w walk.Walking)) → DoesWalk d
walking_walks d e = grind arith

acting_runs : (d : Does) → MayAct d → DoesRun d
acting_runs d h = grind arith

waiting_runs : (w : Way) (d : Does) → MayWait w d → DoesRun d
waiting_runs w d h = grind arith

module _ {B : Type 0} (program : Bool → B → Program B) (key : Key B) (u : Ruled program key) where
  abbrev x : Contents B
  x = contents_at program key u

  abbrev r : Law (program key.strict key.root.value) key.cells x
  r = u.rule.law

  -- a seat holds the task, as IsKept says
  seat_holds : (t j : ℕ) → r.custody.holder t ≡ Some j → (F : Does → Type 0)
      → ((d : Does) → x.words.phase t ≡ phase_of d → F d) → OfSeat (HoldsIn F) x.seats.tasks j
  seat_holds t j e F from = let h = r.custody.holders t j e in
      (h.0, h.1, (t, h.2.0, h.2.1, from h.2.0.does (r.custody.held j h.0 h.1 t h.2.0 h.2.1).does))

  -- where LIVE isn't 0, somebody is live
  pub somebody_live : SomebodyIsLive x
  somebody_live n = dite (ℕ_discrete (total x.seats.tokens) 0)
      (λ e. let c = r.live_count.counted in
      let t = some_live x.words.phase key.cells (omega (arith, c, e, n)) in by t.0 (x.words.phase t.0) refl t.1)
      (λ e. let p = some_part x.seats.tokens (omega (arith, e)) in inr (p.0, inl p.1))
    where
      sorted : (t : ℕ) (p : Phase) → IsBegun (x.words.phase t)
          → sort_shown (hand_of x t) (x.words.phase t) ≡ sort_shown None (x.words.phase t)
      sorted t p b = ap (λ (o : Option Hand). sort_shown o (x.words.phase t)) (begun_there r t b).1

      by : (t : ℕ) (p : Phase) → x.words.phase t ≡ p → 0 < live_part p
          → HasReady x ⊎ ((j : ℕ) × (HasToken x j ⊎ HasLiveTask x j))
      by t phase.Ready e l = inl (t, e)
      by t phase.Running e l =
          let b : IsBegun (x.words.phase t) = subst IsBegun (sym e) tt in
          let k = subst (λ p. IsKept p (r.custody.holder t) (home_of x t)) e
          (r.custody.tasks_kept t (begun_there r t b).0
          (sorted t phase.Running b ∙ ap (λ p. sort_shown None p) e)) in
          let h = seat_holds t k.0 k.1 DoesRun (λ d q. running_runs d (sym q ∙ e)) in
          inr (k.0, inr (h.0, h.1, inl h.2))
      by t (phase.Waiting c w walk.Walking) e l =
          let b : IsBegun (x.words.phase t) = subst IsBegun (sym e) tt in
          let k = subst (λ p. IsKept p (r.custody.holder t) (home_of x t)) e
          (r.custody.tasks_kept t (begun_there r t b).0
          (sorted t (phase.Waiting c w walk.Walking) b ∙ ap (λ p. sort_shown None p) e)) in
          let h = seat_holds t k.0 k.1 DoesWalk (λ d q. walking_walks d (c, w, sym q ∙ e)) in
          inr (k.0, inr (h.0, h.1, inr h.2))
      by t phase.Unborn e l = absurd (omega arith)
      by t phase.Ended e l = absurd (omega arith)
      by t phase.Promise e l = absurd (omega arith)
      by t (phase.Waiting c w walk.Parked) e l = absurd (omega arith)
      by t (phase.Waiting c w walk.Alarmed) e l = absurd (omega arith)

-- STOP
module _ {B : Type 0} (program : Bool → B → Program B) (key : Key B) (u w : Ruled program key)
    (k : IsAskedCall program key u.now w.now) where
  -- what a call on STOP leaves there
  stop_call : (a : StepCall) (n : ℕ) (st : Step (Option (Rec B))) (m m' : SeatMe B)
      → is_word (word_of a) table_word.Stop ≡ true
      → told_by program key.cells a n st m (word u.now.words (place_of a)) m'
      → (n ≡ word u.now.words stop_at) ⊎ IsIn n m'.0.stored
  stop_call call.stops n st m m' on told = inr (subst (IsIn n) (ap (λ (z : SeatMe B). z.0.stored) (sym told.1.0))
      (inl told.0))
  stop_call call.sees_stop n st m m' on told = inl told.0
  stop_call a n st m m' on told = absurd (cc)

  seat_at : get_elem? w.now.views k.made.id ≡ some k.made.seat_after.0
  seat_at = ap (λ (z : State (Option (Rec B)) (View B)). get_elem? z.views k.made.id) k.made.makes.after
      ∙ set_here u.now.views k.made.id k.made.seat_after.0
      (inside u.now.views k.made.id k.made.seat.0 k.made.makes.at)

  stop_after : StopStays (contents_at program key u) (contents_at program key w)
  stop_after some_stop = ⊎_elim
      (λ e z. some_stop (sym e ∙ z))
      (λ (l : IsLeftBy program key u.now w.now k.made table_word.Stop). ⊎_elim
      (λ e z. some_stop (sym e ∙ (sym l.left ∙ z)))
      (λ i z. w.rule.law.stops.stands k.made.id k.made.seat_after.0.stored
      (at_map (λ (v : View B). v.stored) w.now.views k.made.id k.made.seat_after.0 seat_at) k.made.number i z)
      (stop_call k.made.call k.made.number k.made.operands k.made.seat k.made.seat_after l.on k.made.told))
      (word_stays program key u.now w.now k.made table_word.Stop)

module _ {B : Type 0} (program : Bool → B → Program B) (key : Key B) where
  stop_step : (u w : Ruled program key) → IsAskedStep program key u.now w.now
      → StopStays (contents_at program key u) (contents_at program key w)
  stop_step u w (inl k) = stop_after program key u w k
  stop_step u w (inr (inl p)) = λ n z. n (sym (ap (λ (s : State (Option (Rec B)) (View B)). word s.words stop_at)
      p.after) ∙ z)
  stop_step u w (inr (inr p)) = λ n z. n (sym (ap (λ (s : State (Option (Rec B)) (View B)). word s.words stop_at)
      p.merge.after) ∙ z)

pub stops_stay : (B : Type 0) → StopsStay B
stops_stay B program key u [] a = λ n. n
stops_stay B program key u (w ∷ ws) a = λ n. stops_stay B program key w ws a.1 (stop_step program key u w a.0 n)

pub live_somebodys : (B : Type 0) → LiveIsSomebodys B
live_somebodys B program key u = somebody_live program key u

-- Where LIVE is 0.
module _ {B : Type 0} (program : Bool → B → Program B) (key : Key B) (u : Ruled program key)
    (z : (contents_at program key u).words.live ≡ 0) where
  abbrev y : Contents B
  y = contents_at program key u

  abbrev q : Law (program key.strict key.root.value) key.cells y
  q = u.rule.law

  module _ (id : ℕ) (m : SeatMe B) (at : get_elem? u.now.views id ≡ some m.0) where
    -- no seat is lively
    pub dull : ¬ IsLively m.0
    dull l = let h = lively_live q.live_count id m.0 (at_map (λ (v : View B). v.tokens) u.now.views id m.0 at)
        (held_in_phase q.custody (omega arith) id m.0.tasks
        (at_map (λ (v : View B). v.tasks) u.now.views id m.0 at)) l in absurd (omega (arith, h, z))

    no_token : ¬ (0 < m.0.tokens)
    no_token l = dull (inl l)

    no_run : (t : ℕ) (k : Custody B) → held_in m.0.tasks t ≡ Some k → ¬ DoesRun k.does
    no_run t k h d = dull (inr (inl (t, k, h, d)))

    no_walk : (t : ℕ) (k : Custody B) → held_in m.0.tasks t ≡ Some k → ¬ DoesWalk k.does
    no_walk t k h d = dull (inr (inr (t, k, h, d)))

    -- no phase of a task is stored, but Promise for what is in hand
    no_store : (t : ℕ) (p : Phase) → MayPutPhase program t p m
        → (p ≡ phase.Promise) × ((h : Hand) × (m.0.hand ≡ Some h) × (h.cell ≡ t))
    no_store t phase.Unborn may = absurd may
    no_store t phase.Ready may = absurd (no_token may.token)
    no_store t phase.Running may = absurd may
    no_store t phase.Ended may = absurd (no_run t may.custody may.held (subst DoesRun (sym may.runs) tt))
    no_store t phase.Promise may = (refl, (may.hand, may.has, may.its_cell))
    no_store t (phase.Waiting c w walk.Walking) may =
        absurd (no_run t may.custody may.held (waiting_runs w may.custody.does may.may))
    no_store t (phase.Waiting c w walk.Parked) may =
        absurd (no_walk t may.walks.custody may.walks.held (subst DoesWalk (sym may.walks.walks) tt))
    no_store t (phase.Waiting c w walk.Alarmed) may =
        absurd (no_walk t may.walks.custody may.walks.held (subst DoesWalk (sym may.walks.walks) tt))

    -- no exchange of PHASE succeeds
    none_ready : (t : ℕ) → y.words.phase t ≢ phase.Ready
    none_ready t e =
        let d = (begun_there q t (subst IsBegun (sym e) tt)).0 in
        let l : live_part (y.words.phase t) ≡ 1 = ap live_part e in
        let c = live_counts y.words.phase key.cells t (omega arith) in
        let n = q.live_count.counted in absurd (omega (arith, l, c, n, z))

    no_swap : (t : ℕ) (was to : Phase) → y.words.phase t ≡ was → ¬ MaySwap t was to m.0
    no_swap t was to e (inl s) = none_ready t (e ∙ s.0)
    no_swap t was to e (inr (p, w, is, inl s)) = no_token s.1.clears.token
    no_swap t was to e (inr (p, w, is, inr s)) = no_token s.1.clears.token

    -- a call that is made keeps the slots
    keeps_slots : (a : StepCall) (n k : ℕ) (st : Step (Option (Rec B))) (m' : SeatMe B) (b : Act (Option (Rec B)))
        → k ≡ word u.now.words (place_of a) → asked_by program key a st m
        → told_by program key.cells a n st m k m' → acts_by program key a st k m b → b ≡ keeps
    keeps_slots (call.draws t o) n k st m' b e ask told acts =
        absurd (no_run t ask.has ask.held (acting_runs ask.has.does ask.may))
    keeps_slots (call.puts_phase t) n k st m' b e ask told acts =
        acts ∙ ap phase_act (no_store t (phase_in st.first) ask.1).0
    keeps_slots (call.swaps_phase t) n k st m' b e ask told acts = dite (ℕ_discrete k st.first)
        (λ f. absurd (no_swap t (phase_in st.first) (phase_in st.second) (ap phase_in (sym e ∙ f)) told.2.0))
        (λ f. acts.1 f)
    keeps_slots call.raises_live n k st m' b e ask told acts = absurd (⊎_elim no_token
        (λ h. no_run h.0 h.1 h.2 h.3) ask.backed)
    keeps_slots call.lowers_live n k st m' b e ask told acts = absurd (no_token ask.token)
    keeps_slots a n k st m' b e ask told acts = acts

    -- LIVE and COUNT stay
    keeps_live : (a : StepCall) (n : ℕ) (st : Step (Option (Rec B))) (m' : SeatMe B)
        → is_word (word_of a) table_word.Live ≡ true → asked_by program key a st m
        → told_by program key.cells a n st m (word u.now.words (place_of a)) m' → n ≡ word u.now.words live_at
    keeps_live call.raises_live n st m' on ask told = absurd (⊎_elim no_token
        (λ h. no_run h.0 h.1 h.2 h.3) ask.backed)
    keeps_live call.lowers_live n st m' on ask told = absurd (no_token ask.token)
    keeps_live call.sees_live n st m' on ask told = told.0
    keeps_live a n st m' on ask told = absurd (cc)

    keeps_count : (a : StepCall) (n : ℕ) (st : Step (Option (Rec B))) (m' : SeatMe B)
        → is_word (word_of a) table_word.Count ≡ true → asked_by program key a st m
        → told_by program key.cells a n st m (word u.now.words (place_of a)) m' → n ≡ word u.now.words count_at
    keeps_count (call.draws t o) n st m' on ask told =
        absurd (no_run t ask.has ask.held (acting_runs ask.has.does ask.may))
    keeps_count call.counts n st m' on ask told = told.0
    keeps_count (call.counts_by t) n st m' on ask told = told.0
    keeps_count a n st m' on ask told = absurd (cc)

    -- PHASE and OWN of a cell stay that isn't in hand
    module _ (c : ℕ) (out : hand_of y c ≡ None) where
      not_mine : (h : Hand) → m.0.hand ≡ Some h → h.cell ≢ c
      not_mine h e i = hand_not (y.seats.hands) c id out
          (m.0.hand, at_map (λ (v : View B). v.hand) u.now.views id m.0 at, (h, e, i))

      keeps_phase : (a : StepCall) (n : ℕ) (st : Step (Option (Rec B))) (m' : SeatMe B)
          → is_word (word_of a) (table_word.Phase c) ≡ true → asked_by program key a st m
          → told_by program key.cells a n st m (word u.now.words (place_of a)) m'
          → n ≡ word u.now.words (phase_at c)
      keeps_phase (call.puts_phase t) n st m' on ask told =
          let s = no_store t (phase_in st.first) ask.1 in
          absurd (not_mine s.1.0 s.1.1 (s.1.2 ∙ eqb-true t c on))
      keeps_phase (call.swaps_phase t) n st m' on ask told = dite (ℕ_discrete (word u.now.words (phase_at t)) st.first)
          (λ f. absurd (no_swap t (phase_in st.first) (phase_in st.second) (ap phase_in f) told.2.0))
          (λ f. told.1 f ∙ ap (λ i. word u.now.words (phase_at i)) (eqb-true t c on))
      keeps_phase (call.sees_phase t) n st m' on ask told =
          told.0 ∙ ap (λ i. word u.now.words (phase_at i)) (eqb-true t c on)
      keeps_phase (call.sees_phase_by t v) n st m' on ask told =
          told.0 ∙ ap (λ i. word u.now.words (phase_at i)) (eqb-true v c on)
      keeps_phase a n st m' on ask told = absurd (cc)

      no_owner : (o : Option ℕ) → ¬ MayPutOwner c o m.0
      no_owner None may = no_run may.task may.owner.custody may.owner.held
          (acting_runs may.owner.custody.does may.owner.may)
      no_owner (Some d) (inl g) = not_mine g.hand g.has g.its_cell
      no_owner (Some d) (inr g) = no_run g.task g.owner.custody g.owner.held
          (acting_runs g.owner.custody.does g.owner.may)

      keeps_owner : (a : StepCall) (n : ℕ) (st : Step (Option (Rec B))) (m' : SeatMe B)
          → is_word (word_of a) (table_word.Own c) ≡ true
          → told_by program key.cells a n st m (word u.now.words (place_of a)) m'
          → n ≡ word u.now.words (own_at c)
      keeps_owner (call.puts_owner d) n st m' on told = absurd (no_owner (owner_in st.first)
          (subst (λ i. MayPutOwner i (owner_in st.first) m.0) (eqb-true d c on) told.1.0))
      keeps_owner (call.sees_owner d) n st m' on told =
          told.0 ∙ ap (λ i. word u.now.words (own_at i)) (eqb-true d c on)
      keeps_owner (call.sees_owner_by t d) n st m' on told =
          told.0 ∙ ap (λ i. word u.now.words (own_at i)) (eqb-true d c on)
      keeps_owner a n st m' on told = absurd (cc)

module _ {B : Type 0} (program : Bool → B → Program B) (key : Key B) (lasting : CellsAreForGood B)
    (u w : Ruled program key) (z : (contents_at program key u).words.live ≡ 0)
    (a : IsAskedStep program key u.now w.now) where
  abbrev old : Contents B
  old = contents_at program key u

  abbrev new : Contents B
  new = contents_at program key w

  abbrev Words : State (Option (Rec B)) (View B) → List ℕ
  Words s = s.words

  -- a word stays, as a call that may change it leaves what it found
  word_same : (v : TableWord) → ((k : IsAskedCall program key u.now w.now)
      → is_word (word_of k.made.call) v ≡ true → k.made.number ≡ word u.now.words (index v))
      → word w.now.words (index v) ≡ word u.now.words (index v)
  word_same v same = by a where
    by : IsAskedStep program key u.now w.now → word w.now.words (index v) ≡ word u.now.words (index v)
    by (inl k) = ⊎_elim (λ e. e)
        (λ (l : IsLeftBy program key u.now w.now k.made v). l.left ∙ same k l.on)
        (word_stays program key u.now w.now k.made v)
    by (inr (inl p)) = ap (λ (s : State (Option (Rec B)) (View B)). word s.words (index v)) p.after
    by (inr (inr p)) = ap (λ (s : State (Option (Rec B)) (View B)). word s.words (index v)) p.merge.after

  slots_same : w.now.homes ≡ u.now.homes
  slots_same = by a where
    by : IsAskedStep program key u.now w.now → w.now.homes ≡ u.now.homes
    by (inl k) = ap (λ (s : State (Option (Rec B)) (View B)). s.homes) k.made.makes.after
        ∙ ap (homes_after u.now.homes k.made.seat.1) (keeps_slots program key u z k.made.id k.made.seat k.made.makes.at
        k.made.call k.made.number (word u.now.words (place_of k.made.call)) k.made.operands k.made.seat_after k.made.act
        refl k.asks k.made.told k.acts)
    by (inr (inl p)) = ap (λ (s : State (Option (Rec B)) (View B)). s.homes) p.after
    by (inr (inr p)) = ap (λ (s : State (Option (Rec B)) (View B)). s.homes) p.merge.after

  -- TAG of no cell is due to a seat
  none_due : (id c : ℕ) (v : View B) → get_elem? u.now.views id ≡ some v → ¬ IsDue c once.Tag v.dues
  none_due id c v at due = dull program key u z id (v, []) at
      ((u.rule.seats id v at).backing.tags (record { cell = c; word = once.Tag }, due, refl))

  drawn_same : drawn_in key.cells new ≡ drawn_in key.cells old
  drawn_same = ap (λ n. min n key.cells) (word_same table_word.Count (λ k on. keeps_count program key u z k.made.id
      k.made.seat k.made.makes.at k.made.call k.made.number k.made.operands k.made.seat_after on k.asks k.made.told))

  -- a cell that isn't in hand isn't then
  out_then : (c : ℕ) → hand_of old c ≡ None → hand_of new c ≡ None
  out_then c out = dite (dec_le (drawn_in key.cells old) c)
      (λ l. by l (hand_of new c) refl)
      (λ l. (lasting program key u (w ∷ []) (plain_step program key u.now w.now a, tt) c (omega arith, out)).1)
    where
      by : drawn_in key.cells old ≤ c → (o : Option Hand) → hand_of new c ≡ o → o ≡ None
      by l None e = refl
      by l (Some h) e = let f = hand_found new.seats.hands c h e in
          let d = (w.rule.law.hands.each f.0.0 h f.0.1).drawn_cell in
          let i = f.1 in let s = drawn_same in absurd (omega (arith, l, d, i, s))

  pub still_step : IsStill old new key.cells
  still_step = record {
    live = word_same table_word.Live (λ k on. keeps_live program key u z k.made.id k.made.seat k.made.makes.at
        k.made.call k.made.number k.made.operands k.made.seat_after on k.asks k.made.told) ∙ z;
    drawn = drawn_same;
    tags = λ c. ⊎_elim (λ e. e)
        (λ p. absurd (none_due p.0.id c p.0.seat.0 p.0.makes.at p.3.due))
        (step_stays program key u.now w.now (plain_step program key u.now w.now a) (table_word.Written c once.Tag));
    records = λ t. ap (λ h. home_in h t) slots_same;
    hands = out_then;
    owners = λ c out. ap owner_in (word_same (table_word.Own c) (λ k on. keeps_owner program key u z k.made.id
        k.made.seat k.made.makes.at c out k.made.call k.made.number k.made.operands k.made.seat_after on k.made.told));
    phases = λ c out. ap phase_in (word_same (table_word.Phase c) (λ k on. keeps_phase program key u z k.made.id
        k.made.seat k.made.makes.at c out k.made.call k.made.number k.made.operands k.made.seat_after on k.asks
        k.made.told));
  }

still_on : {B : Type 0} (cells : ℕ) (a b c : Contents B) → IsStill a b cells → IsStill b c cells → IsStill a c cells
still_on cells a b c f g = record {
  live = g.live;
  drawn = g.drawn ∙ f.drawn;
  tags = λ d. g.tags d ∙ f.tags d;
  records = λ t. g.records t ∙ f.records t;
  hands = λ d out. g.hands d (f.hands d out);
  owners = λ d out. g.owners d (f.hands d out) ∙ f.owners d out;
  phases = λ d out. g.phases d (f.hands d out) ∙ f.phases d out;
}

pub rested_stay : (B : Type 0) → CellsAreForGood B → RestedTablesStay B
rested_stay B lasting program key u [] a = λ z. record {
  live = z;
  drawn = refl;
  tags = λ c. refl;
  records = λ t. refl;
  hands = λ c out. out;
  owners = λ c out. refl;
  phases = λ c out. refl;
}
rested_stay B lasting program key u (w ∷ ws) a = λ z.
    let f = still_step program key lasting u w z a.0 in
    still_on key.cells (contents_at program key u) (contents_at program key w)
    (contents_at program key (last_moment program key w ws)) f (rested_stay B lasting program key w ws a.1 f.live)
