-- Each call of a seat is one event of the core or none, by what it asks and what it tells; so are a split and a merge
-- of idle seats. So what the calls show from a new table on is a legal run.
use Rattle.tj_words.proofs.Prelude.{Act, Bool, Contents, Event, IfRecord, IsAskedStep, IsBegun, IsSplit, IsThere}
use Rattle.tj_words.proofs.Prelude.{IsWalking, KeepsHoldings, KnowsTable, LaysChild, List, LoadsOnly, MakesWith}
use Rattle.tj_words.proofs.Prelude.{MayClearFrom, MayGoBack, MayPutOnce, MayPutOwner, MayReadAgain, MayReadOwner}
use Rattle.tj_words.proofs.Prelude.{MayWake, None, Option, Program, PutsOnce, PutsOwner, PutsPhase, Rule, Ruled}
use Rattle.tj_words.proofs.Prelude.{SeatMe, Shelves, SlotsOf, Some, Sort, State, Step, StepCall, Walker, Way}
use Rattle.tj_words.proofs.Prelude.{WordsSay, [], ap, arith, both, cell, contents_of, count_at, dite, draw_event}
use Rattle.tj_words.proofs.Prelude.{drawn_in, events_by, false, gives, hand_of, head_at, inl, inr, is_owner, joined}
use Rattle.tj_words.proofs.Prelude.{keeps, last_moment, live_at, lowered_with, ltb-false, ltb-true, min, nat_lt}
use Rattle.tj_words.proofs.Prelude.{new_hand, next_at, none, once_at, others_at, own_at, owner_found, owner_in}
use Rattle.tj_words.proofs.Prelude.{owner_read, owner_seen, phase_at, phase_events, phase_in, place_of, put_back}
use Rattle.tj_words.proofs.Prelude.{raised_with, record_in, refl, rest, set, set_else, some, stop_at, subst, suc, sym}
use Rattle.tj_words.proofs.Prelude.{takes, takes_new, told_by, took_record, true, under, went_back, word, words_say}
use Rattle.tj_words.proofs.Prelude.{ℕ, ℕ_discrete, ⊎_elim, ◌-◌, ◌<◌, ◌∙◌, ◌∷◌, ◌≡◌, ◌≤◌, ◌⊎◌}
use Rattle.tj_words.specs.declared.offsets.Once.{Once}
use Rattle.tj_words.specs.declared.phase.Phase.{Phase}
use Rattle.tj_record.specs.declared.record.Rec.{Rec}
use Rattle.tj_words.specs.declared.table.Key.{Key}
use Rattle.tj_words.specs.declared.view.View.{View}
use Rattle.tj_words.proofs.Lemmas.{IsEventStep, IsQuietStep, Parts, ReadsOn, TableWord, begun_there, index, one_some}
use Rattle.tj_words.proofs.Lemmas.{parts_of, put_word_cell, said, shown_by, stored, stored_with, words_same}
use Rattle.tj_words.specs.CallLaws.CallRuns.{AreAskedMoments, CallRunsAreLegal, CallsAreSteps, EndedAreClosed}
use Rattle.tj_words.specs.CallLaws.CallRuns.{IsAskedCall, IsIdleMerge, OwnerEvents, OwnerReads, SeatsAreQuiet, acts_by}
use Rattle.tj_words.specs.CallLaws.CallRuns.{asked_by, AreShown, StepShows, live_act, phase_act, swap_events}
use Rattle.tj_words.specs.SeatViews.Views.{stepped_on}
use Rattle.tj_words.specs.Calls.LiveViews.{put_with}
use Rattle.tj_words.specs.Calls.PhaseViews.{MayPutPhase}
use Rattle.tj_runs.proofs.CallChanges.{ShowsSame, as_it_was, head_same, live_same, lower_same, merge_merges}
use Rattle.tj_runs.proofs.CallChanges.{once_same, push_same, raise_same, shut_same, holdings, put_same}
use Rattle.tj_runs.proofs.CallChanges.{owner_same, phase_same}
use Rattle.tj_runs.proofs.CallChanges.{split_parts, writes_apart}
use Rattle.tj_runs.proofs.DrawCalls.{call_draws}
use Rattle.tj_runs.proofs.EventCalls.{call_lowers, call_raises, call_reads, first_seen}
use Rattle.tj_words.proofs.Cells.GivenCells.{give_path, give_quiet}
use Rattle.tj_words.proofs.Cells.OwnerStores.{close_event, close_path, hand_event, hand_path}
use Rattle.tj_words.proofs.Events.QuietMoves.{still}
use Rattle.tj_words.proofs.Phases.EndedStores.{end_closed, end_path, end_quiet}
use Rattle.tj_words.proofs.Phases.HomeComings.{home_path, home_quiet}
use Rattle.tj_words.proofs.Phases.MarkedPromises.{mark_path, mark_quiet}
use Rattle.tj_words.proofs.Phases.ParkedStores.{park_event, park_path}
use Rattle.tj_words.proofs.Phases.PhaseExchanges.{back_event, back_tagged, claim_quiet, claimable, parked, takes_path}
use Rattle.tj_words.proofs.Phases.PhaseExchanges.{wake_event, wake_tagged, wakes_path}
use Rattle.tj_words.proofs.Phases.ReadyStores.{ready_path, ready_quiet}
use Rattle.tj_words.proofs.Phases.WaitStores.{alarm_event, alarm_path, publish_event, publish_path}
use Rattle.tj_words.proofs.Waiters.LiveCalls.{shelf_path, shelf_quiet}
use Rattle.tj_words.proofs.Stores.StepContents.{call_stores, call_stores_with}
use Rattle.tj_words.proofs.Stores.StoredWords.{put_word_word, say}
use Rattle.tj_runs.proofs.TableRuns.{runs_are_legal, IsStep, GoesTo, goes_on, one_step, steps_by}
use Rattle.tj_words.proofs.Events.WalkEvents.{again_shown_read, count_shown, others_shown, owner_shown_read}
use Rattle.tj_words.proofs.Events.WalkEvents.{wait_shown_read}
use Rattle.tj_words.proofs.Calls.KeptCells.{kept_parts}
use Rattle.tj_events.specs.declared.event.Event.TheVariants as event
use Rattle.tj_words.specs.declared.offsets.Once.TheVariants as once
use Rattle.tj_words.specs.declared.phase.Phase.TheVariants as phase
use Rattle.tj_words.specs.declared.phase.Walk.TheVariants as walk
use Rattle.tj_words.specs.CallLaws.StepCalls as call
use Rattle.tj_words.proofs.Stores.TableWords as table_word

-- the record in the slot that was taken last
abbrev first_record : {B : Type 0} → SlotsOf B → Option (Rec B)
first_record [] = None
first_record (z ∷ slots) = z.1

module _ {B : Type 0} (program : Bool → B → Program B) (key : Key B) (u : Ruled program key)
    (t : State (Option (Rec B)) (View B)) where
  abbrev s : State (Option (Rec B)) (View B)
  s = u.now

  abbrev r : Rule program key s
  r = u.rule

  abbrev x : Contents B
  x = contents_of s

  abbrev y : Contents B
  y = contents_of t

  -- the step is these events, one at most
  abbrev Goes : List Event → Type 0
  Goes es = IsStep (program key.strict key.root.value) key.cells (under program key u) es y

  abbrev Quiet : Type 0
  Quiet = Goes []

  -- it is events of which this is so
  abbrev Shows : (List Event → Type 0) → Type 0
  Shows F = (es : List Event) × F es × Goes es

  -- the step leaves these contents, and shows nothing, or this event
  quiet : {z : Contents B} → y ≡ z → drawn_in key.cells z ≡ drawn_in key.cells x → IsQuietStep r.law z → Quiet
  quiet e d q = subst (IsStep (program key.strict key.root.value) key.cells (under program key u) []) (sym e)
      (record { keeps = q.1; shows = inl (d, inl (refl, q.0)) })

  shows : {z : Contents B} {e : Event} → y ≡ z → drawn_in key.cells z ≡ drawn_in key.cells x → IsEventStep r.law z e
      → Goes (e ∷ [])
  shows {z} {e} same d q = subst (IsStep (program key.strict key.root.value) key.cells (under program key u) (e ∷ []))
      (sym same) (record { keeps = q.1; shows = inl (d, inr (e, refl, q.0)) })

  -- what the core state is read from in the words, but for PARENT and KID
  abbrev read_from : WordsSay → ℕ × (ℕ → Option ℕ) × (ℕ → Phase) × ℕ
  read_from words = (min words.count key.cells, words.own, words.phase, words.others)

  -- a step that leaves these, what seats hold, and PARENT and KID of the cells that are there
  hidden : (words : WordsSay) → y.words ≡ words → read_from words ≡ read_from x.words → KeepsHoldings x y
      → ((d : ℕ) → IsThere (drawn_in key.cells x) (hand_of x) d
      → (words.once d once.Parent ≡ x.words.once d once.Parent) × (words.once d once.Kid ≡ x.words.once d once.Kid))
      → Quiet
  hidden words e same k tree = quiet refl (ap (λ (z : WordsSay). min z.count key.cells) e ∙ ap (λ z. z.0) same)
      (still r.law y words e k (ap (λ z. z.0) same) (ap (λ z. z.1) same) (ap (λ z. z.2) same) (ap (λ z. z.3) same) tree)

  looks : LoadsOnly x y → Quiet
  looks l = hidden x.words l.words refl l.keeps (λ d i. (refl, refl))

  module _ (act : Act (Option (Rec B))) (id n : ℕ) (m m' : SeatMe B) (st : Step (Option (Rec B))) where
    abbrev Made : ℕ → Type 0
    Made i = MakesWith act id i n m m' s t

    with_act : (a : Act (Option (Rec B))) (i : ℕ) → Made i → act ≡ a → MakesWith a id i n m m' s t
    with_act a i h e = subst (λ z. MakesWith z id i n m m' s t) e h

    view_is : {a : SeatMe B} → m' ≡ a → m'.0 ≡ a.0
    view_is e = ap (λ (z : SeatMe B). z.0) e

    -- what a store leaves: it keeps the slots, or a record comes home by it
    keeping : (w : TableWord) → Made (index w) → act ≡ keeps → {v : View B} → m'.0 ≡ v → y ≡ stored s id w n v
    keeping w h a {v} e = call_stores s t id w n m m' (with_act keeps (index w) h a) v e

    giving : (w : TableWord) → Made (index w) → act ≡ gives → {c : ℕ} {b : Rec B} → m.1 ≡ (c, Some b) ∷ rest m.1
        → {v : View B} → m'.0 ≡ v → y ≡ stored_with s id w n (set s.homes c (some (Some b))) v
    giving w h a {c} {b} front {v} e = call_stores_with s t id w n m m' gives (with_act gives (index w) h a)
        (set s.homes c (some (Some b))) (ap (put_back s.homes) front) v e

    -- and what an exchange leaves that takes record a, with which it does what it is told of record b
    taking : (c : ℕ) (a b : Rec B) → MakesWith (takes c (Some a)) id (phase_at c) n m m' s t → (f : Rec B → View B)
        → m' ≡ (f b, (c, Some b) ∷ m.1) → y ≡ stored_with s id (table_word.Phase c) n (set s.homes c none) (f a)
    taking c a b h f e = call_stores_with s t id (table_word.Phase c) n m m' (takes c (Some a)) h (set s.homes c none)
        refl (f a) (view_is e ∙ ap f (one_some b a (ap first_record
        (sym (ap (λ (z : SeatMe B). z.1) e) ∙ h.slots))))

    found : (k i : ℕ) → Made i → act ≡ keeps → n ≡ k → MakesWith keeps id i k m m' s t
    found k i h e q = subst (λ z. MakesWith keeps id i z m m' s t) q (with_act keeps i h e)

    look : (i : ℕ) → Made i → act ≡ keeps → n ≡ word s.words i → ShowsSame m.0 m'.0 → Quiet
    look i h e q same = looks (record {
      words = ap (λ (z : State (Option (Rec B)) (View B)). words_say z.words) h.after
          ∙ (ap (λ k. words_say (set s.words i k)) q ∙ ap words_say (words_same s.words i));
      keeps = holdings s t id i n m m' (with_act keeps i h e) same;
    })

    -- the words after a store into one of them
    says : (w : TableWord) → Made (index w) → words_say t.words ≡ said x.words w n
    says w h = ap (λ (z : State (Option (Rec B)) (View B)). words_say z.words) h.after ∙ say s.words n w h.inside

    -- a store into a word of which the core state shows nothing
    hides : (w : TableWord) → Made (index w) → act ≡ keeps → ShowsSame m.0 m'.0
        → read_from (said x.words w n) ≡ read_from x.words → (said x.words w n).once ≡ x.words.once → Quiet
    hides w h e same q o = hidden (said x.words w n) (says w h) q (holdings s t id (index w) n m m'
        (with_act keeps (index w) h e) same) (λ d i. (ap (λ z. z d once.Parent) o, ap (λ z. z d once.Kid) o))

    went : {e : Event} → IsEventStep r.law y e × (drawn_in key.cells y ≡ drawn_in key.cells x) → Goes (e ∷ [])
    went q = shows refl q.1 q.0

    -- COUNT, as a draw finds it
    abbrev drawn_now : ℕ
    drawn_now = word s.words count_at

    draws : (d : ℕ) (o : Sort) → Made count_at
        → told_by program key.cells (call.draws d o) n st m (word s.words count_at) m'
        → asked_by program key (call.draws d o) st m
        → acts_by program key (call.draws d o) st (word s.words count_at) m act
        → Shows (events_by key.cells (call.draws d o) st (word s.words count_at) m.0)
    draws d o h p ask a = by (nat_lt drawn_now key.cells) refl
      where
        full : key.cells ≤ drawn_now → min n key.cells ≡ min drawn_now key.cells
        full l = let e : n ≡ suc drawn_now = p.0 in omega (arith, l, e)

        by : (b : Bool) → nat_lt drawn_now key.cells ≡ b
            → Shows (events_by key.cells (call.draws d o) st (word s.words count_at) m.0)
        by true e = let l : drawn_now < key.cells = ltb-true drawn_now key.cells e in
            let q = call_draws program key s t r id n d drawn_now o m m'
            (with_act (takes_new B drawn_now o) count_at h (a.0 l)) refl p.0 l (p.1.0 l).0 ask in (
              draw_event o d ∷ [],
              ((λ z. refl), (λ z. absurd (omega (arith, l, z)))),
              record { keeps = q.1; shows = inr (id, d, new_hand drawn_now d o, refl, q.0) },
            )
        by false e = let l : key.cells ≤ drawn_now = ltb-false drawn_now key.cells e in (
          [],
          ((λ z. absurd (omega (arith, l, z))), (λ z. refl)),
          hides table_word.Count h (a.1 l) (as_it_was m.0 m'.0 _ (p.1.1 l).0.view refl refl)
              (λ j. (full l j, x.words.own, x.words.phase, x.words.others)) refl,
        )

    puts_once : (f : Once) (c : ℕ) → Made (once_at c f) → act ≡ keeps → MayPutOnce program f c st.first m.0
        → PutsOnce program f c st.first m.0 m'.0 → Quiet
    puts_once f c h a may p = hidden (said x.words (table_word.Written c f) n) (says (table_word.Written c f) h) refl
        (holdings s t id (once_at c f) n m m' (with_act keeps (once_at c f) h a)
        (put_same program c st.first f m.0 m'.0 may p))
        (λ d i. ⊎_elim
        (λ e. (
          put_word_cell x.words.once c f n d once.Parent e,
          put_word_cell x.words.once c f n d once.Kid e,
        ))
        (λ e. (
          put_word_word x.words.once c f n d once.Parent e.0,
          put_word_word x.words.once c f n d once.Kid e.1,
        )) (writes_apart program c st.first s id m.0 h.at d i.1 f may))

    puts_owner : (o : Option ℕ) (c : ℕ) → Made (own_at c) → act ≡ keeps → owner_in n ≡ o → MayPutOwner c o m.0
        → PutsOwner c o m.0 m'.0 → Shows (OwnerEvents c o m.0)
    puts_owner None c h a is may p = (
      event.Close (cell may.task) (cell c) ∷ [],
      (may, refl),
      shows (keeping (table_word.Own c) h a (p may) ∙ close_path r id h.at may n is) refl (close_event r id h.at may),
    )
    puts_owner (Some v) c h a is (inl may) p = (
      [],
      inl (may, refl),
      quiet (keeping (table_word.Own c) h a (p.0 may) ∙ give_path program key s r id c v m.0 h.at may n is) refl
          (give_quiet program key s r id c v m.0 h.at may),
    )
    puts_owner (Some v) c h a is (inr may) p = (
      event.Hand (cell may.task) (cell c) (cell v) ∷ [],
      inr (may, refl),
      shows (keeping (table_word.Own c) h a (p.1 may) ∙ hand_path r id h.at may n is) refl (hand_event r id h.at may),
    )

    puts_phase : (q : Phase) (c : ℕ) → Made (phase_at c) → c < key.cells → phase_in n ≡ q → PutsPhase c q m m'
        → MayPutPhase program c q m → act ≡ phase_act q → Goes (phase_events c q)
    puts_phase phase.Ready c h l is p may a = quiet
        (keeping (table_word.Phase c) h a (view_is p) ∙ ready_path r id h.at may n is) refl
        (ready_quiet r id h.at may)
    puts_phase phase.Ended c h l is p may a = quiet
        (giving (table_word.Phase c) h a may.puts.slot (view_is p)
        ∙ end_path r id h.at may (put_with m.1 m.0.put_home) n is) refl
        (end_quiet r id h.at may)
    puts_phase phase.Promise c h l is p may a = quiet
        (keeping (table_word.Phase c) h a (view_is p) ∙ mark_path r id h.at may n is) refl
        (mark_quiet r id h.at may)
    puts_phase (phase.Waiting d way walk.Walking) c h l is p may a = shows
        (keeping (table_word.Phase c) h a (view_is p) ∙ publish_path r id h.at may n is) refl
        (publish_event r id h.at may)
    puts_phase (phase.Waiting d way walk.Parked) c h l is p may a = shows
        (giving (table_word.Phase c) h a may.puts.slot (view_is p)
        ∙ park_path r id h.at may (put_with m.1 m.0.put_home) n is) refl
        (park_event r id h.at may)
    puts_phase (phase.Waiting d way walk.Alarmed) c h l is p may a = shows
        (keeping (table_word.Phase c) h a (view_is p) ∙ alarm_path r id h.at may n is) refl
        (alarm_event r id h.at may)
    puts_phase q c h l is p may a = absurd p

    swaps : (c : ℕ) → Made (phase_at c)
        → told_by program key.cells (call.swaps_phase c) n st m (word s.words (phase_at c)) m'
        → acts_by program key (call.swaps_phase c) st (word s.words (phase_at c)) m act
        → Shows (events_by key.cells (call.swaps_phase c) st (word s.words (phase_at c)) m.0)
    swaps c h p a = dite (ℕ_discrete (word s.words (phase_at c)) st.first)
        (λ e. let went = p.2.1.0 e in let acts = a.0 e in
        let was : phase_in (word s.words (phase_at c)) ≡ phase_in st.first = ap phase_in e in
        let to : phase_in n ≡ phase_in st.second = ap phase_in (p.0 e) in ⊎_elim
        (λ (q : (phase_in st.first ≡ phase.Ready) × (phase_in st.second ≡ phase.Running) × KnowsTable m.0).
        let f = acts.0 q.1 in let g = went.claims q.0 in let k = with_act (takes c (Some f.0)) (phase_at c) h f.1 in
        let ready = was ∙ q.0 in let small = inside (subst IsBegun (sym ready) tt) in (
          [],
          ((λ z. sym (ap (swap_events c) q.0)), (λ z. refl)),
          quiet (taking c f.0 g.0 k (λ b. stepped_on (took_record b g.1.born g.1.more m.0)) g.2
              ∙ takes_path r id c h.at small (claimable r id c h.at small ready) g.1.born g.1.more m.0 n (to ∙ q.1) f.0
              (ap record_in k.may)) refl (claim_quiet r id c h.at small ready g.1.born g.1.more),
        ))
        (λ (q : MayClearFrom c (phase_in st.first) (phase_in st.second) m.0).
        let stands = was ∙ q.2 in let small = inside (subst IsBegun (sym stands) tt) in ⊎_elim
        (λ (z : (phase_in st.second ≡ phase.Ready) × MayWake c q.0 q.1 m.0). (
          event.Unwait (cell c) ∷ [],
          ((λ j. sym (ap (swap_events c) q.2)), (λ j. absurd (j e))),
          shows (keeping (table_word.Phase c) h (acts.1 z.0)
              (view_is (went.wakes q.0 q.1 q.2 z.0))
              ∙ wakes_path r id c h.at small q.0 q.1 stands (wake_tagged r id h.at z.1) n (to ∙ z.0)) refl
              (wake_event r id c h.at small q.0 q.1 stands (wake_tagged r id h.at z.1)),
        ))
        (λ (z : (phase_in st.second ≡ phase.Running) × MayGoBack c q.0 q.1 m.0).
        let f = acts.0 z.0 in let g = went.goes_back q.0 q.1 q.2 z.0 in
        let k = with_act (takes c (Some f.0)) (phase_at c) h f.1 in let tagged = back_tagged r id h.at z.1 in (
          event.Unwait (cell c) ∷ [],
          ((λ j. sym (ap (swap_events c) q.2)), (λ j. absurd (j e))),
          shows (taking c f.0 g.0 k (λ b. went_back c q.1 (took_record b g.1.born g.1.more m.0)) g.3
              ∙ takes_path r id c h.at small (parked r id c h.at small q.0 q.1 stands tagged) g.1.born g.1.more
              (went_back c q.1 m.0) n (to ∙ z.0) f.0 (ap record_in k.may)) refl
              (back_event r id c h.at small q.0 q.1 stands tagged g.1.born g.1.more),
        )) q.3) p.2.0)
        (λ e. (
          [],
          ((λ z. absurd (e z)), (λ z. refl)),
          look (phase_at c) h (a.1 e) (p.1 e)
              (as_it_was m.0 m'.0 _ (view_is (p.2.1.1 e).1) refl refl),
        ))
      where
        inside : IsBegun (x.words.phase c) → c < key.cells
        inside b = let d = (begun_there r.law c b).0 in omega arith

    raises : (slots : SlotsOf B) → m.1 ≡ slots → Made live_at → act ≡ live_act slots → m' ≡ raised_with m.0 m.1
        → IfRecord (λ c a. LaysChild program c a m) slots → Quiet
    raises ((c, Some f) ∷ slots) e h a p may = quiet (giving table_word.Live h a may.puts.slot
        (view_is (p ∙ ap (raised_with m.0) may.puts.slot)) ∙ home_path r id h.at may n (f ∷ m.0.put_home)) refl
        (home_quiet r id h.at may n)
    raises slots e h a p may = hides table_word.Live h a
        (raise_same m m' p (subst (IfRecord (λ c a. ⊥)) (sym e) tt)) refl refl

    lowers : (slots : SlotsOf B) → m.1 ≡ slots → Made live_at → act ≡ live_act slots → m' ≡ lowered_with m.0 m.1
        → IfRecord (λ c a. Shelves program c a m) slots → Quiet
    lowers ((c, Some f) ∷ slots) e h a p may = quiet (giving table_word.Live h a may.puts.slot
        (view_is (p ∙ ap (lowered_with m.0) may.puts.slot)) ∙ shelf_path r id h.at may n) refl
        (shelf_quiet r id h.at may n)
    lowers slots e h a p may = hides table_word.Live h a
        (lower_same m m' p (subst (IfRecord (λ c a. ⊥)) (sym e) tt)) refl refl

    -- a load of OWN by a walker, for the first time or for the second
    reads_owner : (d c : ℕ) → Made (own_at c)
        → told_by program key.cells (call.sees_owner_by d c) n st m (word s.words (own_at c)) m'
        → asked_by program key (call.sees_owner_by d c) st m → act ≡ keeps → Shows (OwnerReads d m.0)
    reads_owner d c h p ask a = let g = found (word s.words (own_at c)) (own_at c) h a p.0 in ⊎_elim
        (λ (f : MayReadOwner ask.walker). (
          event.ReadOwner (cell d) ∷ [],
          inl (walks (λ e way z. MayReadOwner z) f, refl),
          went (call_reads r _ g p.1.1 ask (λ z q. owner_shown_read r.law z id d ask.wait ask.way ask.walker
              (subst (λ u. ReadsOn key.cells x z id d ask.wait ask.way ask.walker u)
              (first_seen (owner_in (word s.words (own_at c))) ask.walker f
              ∙ ap (λ k. owner_read (owner_in (word s.words (own_at k))) ask.walker) ask.may.0) q) f)),
        ))
        (λ (f : MayReadAgain ask.walker). (
          event.ReadOwnerAgain (cell d) ∷ [],
          inr (walks (λ e way z. MayReadAgain z) f, refl),
          went (call_reads r _ g p.1.1 ask (λ z q. again_shown_read r.law z id d ask.wait ask.way ask.walker f.0 f.1
              (subst (λ u. ReadsOn key.cells x z id d ask.wait ask.way ask.walker u)
              (ap (owner_seen (owner_in (word s.words (own_at c))) ask.walker) f.2
              ∙ ap (λ k. owner_found (is_owner (owner_in (word s.words (own_at k))) f.0) f.0 f.1 ask.walker)
              ask.may.0) q) f.2)),
        )) ask.may.1
      where
        walks : (F : ℕ → Way → Walker → Type 0) → F ask.wait ask.way ask.walker → IsWalking d F m.0
        walks F f = record {
          task = ask.task;
          wait = ask.wait;
          way = ask.way;
          walker = ask.walker;
          held = ask.held;
          does = ask.does;
          may = f;
        }

    goes : (a : StepCall) → Made (place_of a) → told_by program key.cells a n st m (word s.words (place_of a)) m'
        → asked_by program key a st m → acts_by program key a st (word s.words (place_of a)) m act
        → Shows (events_by key.cells a st (word s.words (place_of a)) m.0)
    goes (call.draws d o) h p ask a = draws d o h p ask a
    goes call.counts h p ask a = ([], refl, look count_at h a p.0 (as_it_was m.0 m'.0 _ p.1.1 refl refl))
    goes (call.counts_by d) h p ask a = (
      event.LoadCount (cell d) ∷ [],
      refl,
      went (call_reads r _ (found (word s.words count_at) count_at h a p.0) p.1.1 ask
          (λ z q. count_shown r.law z id d ask.wait ask.way ask.walker q ask.may)),
    )
    goes (call.puts_once c f) h p ask a = ([], refl, puts_once f c h a p.1.0 p.1.2)
    goes (call.sees_once c f) h p ask a = (
      [],
      refl,
      look (once_at c f) h a p.0
          (once_same program key.cells c (word s.words (once_at c f)) f m.0 m'.0 p.1.1),
    )
    goes (call.puts_owner c) h p ask a = puts_owner (owner_in st.first) c h a (ap owner_in p.0) p.1.0 p.1.1.1
    goes (call.sees_owner c) h p ask a = (
      [],
      refl,
      look (own_at c) h a p.0 (owner_same key.cells c (owner_in (word s.words (own_at c))) m.0 m'.0 p.1.1),
    )
    goes (call.sees_owner_by d c) h p ask a = reads_owner d c h p ask a
    goes (call.puts_phase c) h p ask a = (
      phase_events c (phase_in st.first),
      refl,
      puts_phase (phase_in st.first) c h ask.0 (ap phase_in p.0) p.1 ask.1 a,
    )
    goes (call.sees_phase c) h p ask a = (
      [],
      refl,
      look (phase_at c) h a p.0 (phase_same key.cells c (phase_in (word s.words (phase_at c))) m.0 m'.0 p.1.1),
    )
    goes (call.sees_phase_by d c) h p ask a = (
      event.ReadWait (cell d) ∷ [],
      refl,
      went (call_reads r _ (found (word s.words (phase_at c)) (phase_at c) h a p.0) p.1.1 ask
          (λ z q. wait_shown_read r.law z id d ask.wait ask.way ask.walker c q ask.may.0 ask.may.1)),
    )
    goes (call.swaps_phase c) h p ask a = swaps c h p a
    goes (call.raises_others d) h p ask a = (
      event.Raise (cell d) ∷ [],
      refl,
      went (call_raises r (found (suc (word s.words others_at)) others_at h a p.0) p.1.1 ask),
    )
    goes call.lowers_others h p ask a =
        (event.Lower ∷ [], refl, went (call_lowers r (found (word s.words others_at - 1) others_at h a p.0) p.1.1 ask))
    goes (call.sees_others_by d) h p ask a = (
      event.LoadOthers (cell d) ∷ [],
      refl,
      went (call_reads r _ (found (word s.words others_at) others_at h a p.0) p.1.1 ask
          (λ z q. others_shown r.law z id d ask.wait ask.way ask.walker q ask.may)),
    )
    goes call.raises_live h p ask a = ([], refl, raises m.1 refl h a p.1 ask.lays)
    goes call.lowers_live h p ask a = ([], refl, lowers m.1 refl h a p.1 ask.shelves)
    goes call.sees_live h p ask a = ([], refl, look live_at h a p.0 (live_same (word s.words live_at) st m m' p.1))
    goes call.stops h p ask a = (
      [],
      refl,
      hides table_word.Stop h a (as_it_was m.0 m'.0 _ (view_is p.1.0) refl refl) refl refl,
    )
    goes call.sees_stop h p ask a = ([], refl, look stop_at h a p.0 (as_it_was m.0 m'.0 _ p.1.1 refl refl))
    goes (call.sees_head c) h p ask a = (
      [],
      refl,
      look (head_at c) h a p.0
          (head_same program key.cells c (word s.words (head_at c)) st m m' p.1),
    )
    goes (call.pushes c) h p ask a = (
      [],
      refl,
      dite (ℕ_discrete (word s.words (head_at c)) st.first)
          (λ e. hides (table_word.Head c) h a (as_it_was m.0 m'.0 _ (p.2.2 e) refl refl) refl refl)
          (λ e. look (head_at c) h a (p.1 e) (push_same program key.cells c (word s.words (head_at c)) st m m' e p.2)),
    )
    goes (call.shuts c) h p ask a = (
      [],
      refl,
      hides (table_word.Head c) h a (shut_same key.cells c (word s.words (head_at c)) st m m' p.1) refl refl,
    )
    goes (call.puts_next c) h p ask a = (
      [],
      refl,
      hides (table_word.Next c) h a (as_it_was m.0 m'.0 _ p.1.1 refl refl) refl refl,
    )
    goes (call.sees_next c) h p ask a = ([], refl, look (next_at c) h a p.0 (as_it_was m.0 m'.0 _ p.1.1 refl refl))

    -- a store of Ended is that of a task that has closed its result
    closed : (a : StepCall) (c : ℕ) → a ≡ call.puts_phase c → phase_in st.first ≡ phase.Ended → Made (place_of a)
        → asked_by program key a st m → x.words.own c ≡ None
    closed a c e q = subst (λ z. Made (place_of z) → asked_by program key z st m → x.words.own c ≡ None) (sym e)
        (λ h ask. end_closed r id h.at (subst (λ z. MayPutPhase program c z m) q ask.1))

  pub call_goes : (c : IsAskedCall program key s t)
      → Shows (events_by key.cells c.made.call c.made.operands (word s.words (place_of c.made.call)) c.made.seat.0)
  call_goes c = goes c.made.act c.made.id c.made.number c.made.seat c.made.seat_after c.made.operands c.made.call
      c.made.makes c.made.told c.asks c.acts

  split_goes : IsSplit s t → Quiet
  split_goes p = let e = ap (λ z. parts_of key.cells (contents_of z)) p.after
      ∙ split_parts key.cells s p.id p.view p.at in
      quiet refl (ap (λ (z : Parts B). z.drawn) e) (
        ap (shown_by r.law.born r.law.maker) e,
        kept_parts key.cells x y (parts_of key.cells x) e (λ c. refl) (λ c. refl)
            (ap (λ (z : State (Option (Rec B)) (View B)). (words_say z.words).once) p.after),
      )

  merge_goes : IsIdleMerge s t → Quiet
  merge_goes p = let g = p.merge in looks (subst (λ z. LoadsOnly x (contents_of z)) (sym g.after)
      (merge_merges s g.id g.other g.view g.taken g.at
      (set_else s.views g.id g.other (both g.view g.taken) g.apart ∙ g.other_at) p.idle))

  pub seats_go : IsSplit s t ⊎ IsIdleMerge s t → Quiet
  seats_go b = ⊎_elim split_goes merge_goes b

pub calls_are_steps : (B : Type 0) → CallsAreSteps B
calls_are_steps B program key u t c = let g = call_goes program key u t c in
    (g.0, g.1, steps_by (program key.strict key.root.value) key.cells (under program key u) (contents_of t) g.0 g.2)

pub seats_are_quiet : (B : Type 0) → SeatsAreQuiet B
seats_are_quiet B program key u t a = steps_by (program key.strict key.root.value) key.cells (under program key u)
    (contents_of t) [] (seats_go program key u t a)

pub ended_are_closed : (B : Type 0) → EndedAreClosed B
ended_are_closed B program key u t c i e q = closed program key u t c.made.act c.made.id c.made.number c.made.seat
    c.made.seat_after c.made.operands c.made.call i e q c.made.makes c.asks

module _ {B : Type 0} (program : Bool → B → Program B) (key : Key B) where
  abbrev P : Program B
  P = program key.strict key.root.value

  step_goes : (u w : Ruled program key) (a : IsAskedStep program key u.now w.now)
      → (es : List Event) × StepShows program key u w a es × IsStep P key.cells (under program key u) es
      (contents_of w.now)
  step_goes u w (inl c) = call_goes program key u w.now c
  step_goes u w (inr b) = ([], refl, seats_go program key u w.now b)

  -- what steps show, one after the other
  pub all_go : (u : Ruled program key) (later : List (Ruled program key)) (a : AreAskedMoments program key u later)
      → (shown : List (List Event)) × AreShown program key u later a shown
      × GoesTo P key.cells (under program key u) (under program key (last_moment program key u later)) (joined shown)
  all_go u [] a = ([], tt, (tt, refl))
  all_go u (w ∷ ws) a = let g = step_goes u w a.0 in let o = all_go w ws a.1 in (
    g.0 ∷ o.0,
    (g.1, o.1),
    goes_on P key.cells (under program key u) (under program key w)
        (under program key (last_moment program key w ws)) g.0 (joined o.0)
        (one_step P key.cells (under program key u) (under program key w) g.0 g.2) o.2,
  )

pub call_runs_are_legal : (B : Type 0) → CallRunsAreLegal B
call_runs_are_legal B program key u later e a = let g = all_go program key u later a in
    let q = runs_are_legal (program key.strict key.root.value) key.cells u.rule.some_cells key.root.value key.strict
    (under program key u) (under program key (last_moment program key u later)) (joined g.0) (ap contents_of e) g.2 in
    (g.0, g.1, q.0, q.1)
