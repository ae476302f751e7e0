-- Runs of a table by its calls: each call of a seat of which what the call asks is so, each split, and each merge of
-- idle seats is the one event of the core that is named here, or none. So from a new table on they are a legal run of
-- the core.
use Rattle.std.specs.Prelude.{◌≡◌, ◌≢◌, ◌⊎◌, ℕ, suc, ◌≤◌, ◌<◌, Bool, List, [], ◌∷◌, ◌++◌, Option, Some, None}
use mathlib.Core.Logic.{inl, inr}
use Rattle.atomic_table.specs.Table.{State, Step, Act, keeps, takes, gives, opening}
use Rattle.tj_base.specs.declared.cell.Sort.{Sort}
use Rattle.tj_body.specs.Programs.{Program}
use Rattle.tj_events.specs.CoreState.{present, root_alone}
use Rattle.tj_events.specs.Events.{MayCount, MayReadAgain, MayReadOthers, MayReadOwner}
use Rattle.tj_events.specs.Runs.{AreAllowed, IsLegalRun, after_all}
use Rattle.tj_events.specs.declared.event.Event.{Event}
use Rattle.tj_words.specs.declared.head.Head.TheVariants.{Shut}
use Rattle.tj_words.specs.declared.phase.Phase.{Phase}
use Rattle.tj_record.specs.declared.record.Rec.{Rec}
use Rattle.tj_words.specs.declared.table.Key.{Key}
use Rattle.tj_words.specs.declared.view.View.{View}
use Rattle.tj_words.specs.Law.{Law}
use Rattle.tj_words.specs.LawParts.Contents.{Contents, contents_of, core_shown}
use Rattle.tj_words.specs.Calls.ChainSteps.{HasPush, HasPushBehind, KnowsEntry}
use Rattle.tj_words.specs.Calls.DrawViews.{MayDraw, MayGive}
use Rattle.tj_words.specs.LawParts.LiveCount.{IsBacked}
use Rattle.tj_words.specs.LawParts.FirstState.{first_slots, first_view, first_words}
use Rattle.tj_words.specs.Words.Lists.{cell}
use Rattle.tj_words.specs.Calls.LiveViews.{MayLowerLive, MayRaiseLive, SlotsOf}
use Rattle.tj_words.specs.Words.Offsets.{word}
use Rattle.tj_words.specs.Steps.OwnerSteps.{draw_event}
use Rattle.tj_words.specs.Words.Owners.{owner_in}
use Rattle.tj_words.specs.Calls.OwnerViews.{MayClose, MayHand}
use Rattle.tj_words.specs.Words.Heads.{head_in}
use Rattle.tj_words.specs.Words.Phases.{phase_in}
use Rattle.tj_words.specs.Calls.PhaseViews.{MayPutPhase}
use Rattle.tj_words.specs.CallLaws.RestedRuns.{IsCallStep, IsMerge, IsSplit, Ruled, last_moment}
use Rattle.tj_words.specs.SeatViews.SeatSteps.{SeatMe}
use Rattle.tj_words.specs.SeatViews.SeenWords.{MayRead}
use Rattle.tj_words.specs.CallLaws.StepCalls.{StepCall, place_of}
use Rattle.tj_words.specs.Steps.TableRuns.{Under, state_of}
use Rattle.tj_words.specs.SeatViews.Views.{IsIdle}
use Rattle.tj_words.specs.Calls.WalkViews.{IsWalking, MayLoadOwner, MayLoadWait, MayRaise}
use Rattle.tj_base.specs.declared.cell.Sort.TheVariants as sort
use Rattle.tj_events.specs.declared.event.Event.TheVariants as event
use Rattle.tj_words.specs.declared.phase.Phase.TheVariants as phase
use Rattle.tj_words.specs.declared.phase.Walk.TheVariants as walk
use Rattle.tj_words.specs.CallLaws.StepCalls as call

-- what a draw of cell c does with the slots: that of a new task is taken
abbrev pub takes_new : (B : Type 0) → ℕ → Sort → Act (Option (Rec B))
takes_new B c sort.Promise = keeps
takes_new B c sort.Task = takes c None

module _ {B : Type 0} where
  -- what a store of this phase does with the slots of its seat: that of a task that is parked or has ended is given
  -- back
  abbrev pub phase_act : Phase → Act (Option (Rec B))
  phase_act phase.Ended = gives
  phase_act (phase.Waiting c way walk.Parked) = gives
  phase_act p = keeps

  -- what a step on LIVE does with them: the one taken last is given back, where a record was put into it
  abbrev pub live_act : SlotsOf B → Act (Option (Rec B))
  live_act [] = keeps
  live_act ((t, None) ∷ slots) = keeps
  live_act ((t, Some r) ∷ slots) = gives

  -- what an exchange to this phase does with them that succeeds: that of a task that runs then is taken, with its
  -- record
  abbrev pub SwapActs : ℕ → Phase → Act (Option (Rec B)) → Type 0
  SwapActs t to a = (to ≡ phase.Running → (r : Rec B) × (a ≡ takes t (Some r))) × (to ≡ phase.Ready → a ≡ keeps)

  -- an idle seat is taken in, by an idle one
  pub record IsIdleMerge (s t : State (Option (Rec B)) (View B)) : Type 0 where
    pub merge : IsMerge s t
    pub by_idle : IsIdle merge.view
    pub idle : IsIdle merge.taken

-- the events of a store of this phase of t
abbrev pub phase_events : ℕ → Phase → List Event
phase_events t (phase.Waiting c way walk.Walking) = event.Publish (cell t) c ∷ []
phase_events t (phase.Waiting c way walk.Parked) = event.Settle (cell t) ∷ []
phase_events t (phase.Waiting c way walk.Alarmed) = event.Alarm (cell t) ∷ []
phase_events t p = []

-- and those of an exchange of PHASE of t that succeeds, from this phase
abbrev pub swap_events : ℕ → Phase → List Event
swap_events t (phase.Waiting c way w) = event.Unwait (cell t) ∷ []
swap_events t p = []

module _ {B : Type 0} where
  -- the events of a store of this owner of c: by the seat of its owner, or by its drawer
  abbrev pub OwnerEvents : ℕ → Option ℕ → View B → List Event → Type 0
  OwnerEvents c None v es = (m : MayClose c v) × (es ≡ event.Close (cell m.task) (cell c) ∷ [])
  OwnerEvents c (Some u) v es = (MayGive c u v × (es ≡ []))
      ⊎ ((m : MayHand c u v) × (es ≡ event.Hand (cell m.task) (cell c) (cell u) ∷ []))

  -- those of a load of OWN by the walker of t: for the first time, or for the second
  abbrev pub OwnerReads : ℕ → View B → List Event → Type 0
  OwnerReads t v es = (IsWalking t (λ p way w. MayReadOwner w) v × (es ≡ event.ReadOwner (cell t) ∷ []))
      ⊎ (IsWalking t (λ p way w. MayReadAgain w) v × (es ≡ event.ReadOwnerAgain (cell t) ∷ []))

  -- those of a call that found k, in a table of so many cells; of the others there are none
  abbrev pub events_by : ℕ → StepCall → Step (Option (Rec B)) → ℕ → View B → List Event → Type 0
  events_by cells (call.draws t o) st k v es = (k < cells → es ≡ draw_event o t ∷ []) × (cells ≤ k → es ≡ [])
  events_by cells (call.counts_by t) st k v es = es ≡ event.LoadCount (cell t) ∷ []
  events_by cells (call.puts_owner c) st k v es = OwnerEvents c (owner_in st.first) v es
  events_by cells (call.sees_owner_by t c) st k v es = OwnerReads t v es
  events_by cells (call.puts_phase t) st k v es = es ≡ phase_events t (phase_in st.first)
  events_by cells (call.sees_phase_by t u) st k v es = es ≡ event.ReadWait (cell t) ∷ []
  events_by cells (call.swaps_phase t) st k v es = (k ≡ st.first → es ≡ swap_events t (phase_in st.first))
      × (k ≢ st.first → es ≡ [])
  events_by cells (call.raises_others t) st k v es = es ≡ event.Raise (cell t) ∷ []
  events_by cells call.lowers_others st k v es = es ≡ event.Lower ∷ []
  events_by cells (call.sees_others_by t) st k v es = es ≡ event.LoadOthers (cell t) ∷ []
  events_by cells c st k v es = es ≡ []

module _ {B : Type 0} (program : Bool → B → Program B) (key : Key B) where
  -- what a call asks of its operands and of its seat, beside what it tells only of a seat of which it is so; the loads
  -- that any seat may make ask nothing
  abbrev pub asked_by : StepCall → Step (Option (Rec B)) → SeatMe B → Type 0
  asked_by (call.draws t o) st m = MayDraw program t m.0
  asked_by (call.counts_by t) st m = IsWalking t (λ p way w. MayCount way w) m.0
  asked_by (call.sees_owner_by t c) st m = IsWalking t (λ p way w. (c ≡ present p w.trail) × MayLoadOwner w) m.0
  asked_by (call.puts_phase t) st m = (t < key.cells) × MayPutPhase program t (phase_in st.first) m
  asked_by (call.sees_phase_by t u) st m = IsWalking t (λ p way w. MayLoadWait t u w) m.0
  asked_by (call.raises_others t) st m = MayRaise t m.0
  asked_by call.lowers_others st m = 0 < m.0.cleared
  asked_by (call.sees_others_by t) st m = IsWalking t (λ p way w. MayReadOthers way w) m.0
  asked_by call.raises_live st m = MayRaiseLive program m
  asked_by call.lowers_live st m = MayLowerLive program m
  asked_by (call.sees_once c f) st m = MayRead f c m.0
  asked_by call.stops st m = (0 < st.first) × (st.first ≤ 2) × (st.first ≡ 1 → 0 < m.0.refused)
  asked_by (call.pushes p) st m = (t : ℕ) × (st.second ≡ suc t) × (t < key.cells)
      × HasPushBehind t p (head_in st.first) m.0 × (head_in st.first ≢ Shut)
  asked_by (call.shuts p) st m = KnowsEntry p m.0 × (m.0.rest ≡ None) × IsBacked m.0
  asked_by (call.puts_next t) st m = (st.first ≤ key.cells) × HasPush t m.0
  asked_by c st m = Unit {0}

  -- what a call that found k does with the slots of its seat; the others keep them
  abbrev pub acts_by : StepCall → Step (Option (Rec B)) → ℕ → SeatMe B → Act (Option (Rec B)) → Type 0
  acts_by (call.draws t o) st k m a = (k < key.cells → a ≡ takes_new B k o) × (key.cells ≤ k → a ≡ keeps)
  acts_by (call.puts_phase t) st k m a = a ≡ phase_act (phase_in st.first)
  acts_by (call.swaps_phase t) st k m a = (k ≡ st.first → SwapActs t (phase_in st.second) a)
      × (k ≢ st.first → a ≡ keeps)
  acts_by call.raises_live st k m a = a ≡ live_act m.1
  acts_by call.lowers_live st k m a = a ≡ live_act m.1
  acts_by c st k m a = a ≡ keeps

  -- a call of a seat of which what the call asks is so
  pub record IsAskedCall (s t : State (Option (Rec B)) (View B)) : Type 0 where
    pub made : IsCallStep program key s t
    pub asks : asked_by made.call made.operands made.seat
    pub acts : acts_by made.call made.operands (word s.words (place_of made.call)) made.seat made.act

  -- what seats may do in one step
  abbrev pub IsAskedStep : State (Option (Rec B)) (View B) → State (Option (Rec B)) (View B) → Type 0
  IsAskedStep s t = IsAskedCall s t ⊎ (IsSplit s t ⊎ IsIdleMerge s t)

  -- these moments come one after the other, each by such a step
  abbrev pub AreAskedMoments : Ruled program key → List (Ruled program key) → Type 0
  AreAskedMoments u [] = Unit {0}
  AreAskedMoments u (w ∷ ws) = IsAskedStep u.now w.now × AreAskedMoments w ws

  -- these are the events of the step: those of its call, or none
  abbrev pub StepShows : (u w : Ruled program key) → IsAskedStep u.now w.now → List Event → Type 0
  StepShows u w (inl c) es =
      events_by key.cells c.made.call c.made.operands (word u.now.words (place_of c.made.call)) c.made.seat.0 es
  StepShows u w (inr b) es = es ≡ []

  -- these are the events of the steps, step by step
  abbrev pub AreShown : (u : Ruled program key) (later : List (Ruled program key)) → AreAskedMoments u later
      → List (List Event) → Type 0
  AreShown u [] a [] = Unit {0}
  AreShown u [] a (es ∷ more) = ⊥
  AreShown u (w ∷ ws) a [] = ⊥
  AreShown u (w ∷ ws) a (es ∷ more) = StepShows u w a.0 es × AreShown w ws a.1 more

  -- the contents of a moment, under the law
  abbrev pub under : Ruled program key → Under (program key.strict key.root.value) key.cells
  under u = record { now = contents_of u.now; law = u.rule.law }

-- a step from one moment to the next is these events: they are allowed in the state that is shown before, and the state
-- after them is shown then
abbrev pub GoesBy : {B : Type 0} (program : Bool → B → Program B) (key : Key B) → Ruled program key → List Event
    → Ruled program key → Type 0
GoesBy program key u es w = let P = program key.strict key.root.value in
    AreAllowed key.cells (state_of P key.cells (under program key u)) es
    × (state_of P key.cells (under program key w) ≡ after_all (state_of P key.cells (under program key u)) es)

-- a step that leaves these contents is these events: they are allowed in the state that is shown before, and where what
-- it leaves is under the law, whatever that has beside the words, the state after them is shown then
abbrev pub StepsBy : {B : Type 0} (program : Bool → B → Program B) (key : Key B) → Ruled program key → List Event
    → Contents B → Type 0
StepsBy program key u es y = let P = program key.strict key.root.value in
    AreAllowed key.cells (state_of P key.cells (under program key u)) es
    × ((r : Law P key.cells y)
    → core_shown key.cells r.born r.maker y ≡ after_all (state_of P key.cells (under program key u)) es)

-- each call is the event that is named here, or none
abbrev pub CallsAreSteps : Type 0 → Type 0
CallsAreSteps B = (program : Bool → B → Program B) (key : Key B) (u : Ruled program key)
    (t : State (Option (Rec B)) (View B)) (c : IsAskedCall program key u.now t)
    → (es : List Event)
    × events_by key.cells c.made.call c.made.operands (word u.now.words (place_of c.made.call)) c.made.seat.0 es
    × StepsBy program key u es (contents_of t)

-- a split and a merge are none
abbrev pub SeatsAreQuiet : Type 0 → Type 0
SeatsAreQuiet B = (program : Bool → B → Program B) (key : Key B) (u : Ruled program key)
    (t : State (Option (Rec B)) (View B)) → IsSplit u.now t ⊎ IsIdleMerge u.now t
    → StepsBy program key u [] (contents_of t)

-- who stores Ended for a task finds that nobody owns its result
abbrev pub EndedAreClosed : Type 0 → Type 0
EndedAreClosed B = (program : Bool → B → Program B) (key : Key B) (u : Ruled program key)
    (t : State (Option (Rec B)) (View B)) (c : IsAskedCall program key u.now t) (i : ℕ)
    → c.made.call ≡ call.puts_phase i → phase_in c.made.operands.first ≡ phase.Ended
    → (contents_of u.now).words.own i ≡ None

-- the lists as one
abbrev pub joined : List (List Event) → List Event
joined [] = []
joined (es ∷ more) = es ++ joined more

-- from any moment on, what such steps show is a run of the core, of the events of the calls in their order
abbrev pub CallRunsAreRuns : Type 0 → Type 0
CallRunsAreRuns B = (program : Bool → B → Program B) (key : Key B) (u : Ruled program key)
    (later : List (Ruled program key)) (a : AreAskedMoments program key u later)
    → (shown : List (List Event)) × AreShown program key u later a shown
    × GoesBy program key u (joined shown) (last_moment program key u later)

-- from a new table on, what such steps show is a legal run of the core, of the events of the calls in their order, and
-- the last moment shows the state after it
abbrev pub CallRunsAreLegal : Type 0 → Type 0
CallRunsAreLegal B = (program : Bool → B → Program B) (key : Key B) (u : Ruled program key)
    (later : List (Ruled program key))
    → u.now ≡ opening (first_words key.cells) (first_slots key.cells key.root.value)
    (first_view key.cells key.root.value key.strict)
    → (a : AreAskedMoments program key u later)
    → (shown : List (List Event)) × AreShown program key u later a shown × IsLegalRun key.cells (joined shown)
    × (state_of (program key.strict key.root.value) key.cells
    (under program key (last_moment program key u later)) ≡ after_all root_alone (joined shown))
