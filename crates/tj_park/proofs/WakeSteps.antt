-- The steps by which a seat makes the first of its rest ready.
use Rattle.tj_park.proofs.Prelude.{Backing, Bool, DoesRun, Err, HasNoRecord, Head, Holds, IfErr, List, MayWakeTasks}
use Rattle.tj_park.proofs.Prelude.{None, Ok, OnOk, Option, Phase, Program, Rest, Result, SeatMe, SlotsOf, Some, Swaps}
use Rattle.tj_park.proofs.Prelude.{View, Way, [], ap, arith, backing_running, backing_token, cond, eq-eqb, head_of}
use Rattle.tj_park.proofs.Prelude.{head_word, inl, inr, live_raised, missed, parked_phase, raised_by_way, refl, rest_of}
use Rattle.tj_park.proofs.Prelude.{subst, suc, sym, wake_notes, ℕ, ⊎_elim, ◌++◌, ◌+◌, ◌-◌, ◌<◌, ◌∙◌, ◌∷◌, ◌≡◌, ◌≢◌, ◌≤◌}
use Rattle.std.specs.Bool.{⊤}
use Rattle.tj_cells.specs.CallLogs.{Makes, Seat}
use Rattle.tj_park.proofs.WakeLogs.{read_ready}
use Rattle.tj_park.specs.ParkLogs.{MakesLowered, exchange_entry}
use Rattle.tj_park.specs.WakeLogs.{MakesReady, next_seen, phase_seen}
use Rattle.tj_words.specs.CallLaws.StepCalls as call
use Rattle.tj_words.specs.CallLaws.StepLogs.{entry_of}
use Rattle.tj_words.specs.Calls.ExchangeViews.{MaySwap, woke_first}
use Rattle.tj_words.specs.Calls.LiveViews.{LaysChild, MayRaiseLive, raised_with}
use Rattle.tj_words.specs.Calls.MetCells.{SeesPhase}
use Rattle.tj_words.proofs.Holders.HeldTasks.{none_some}
use Rattle.tj_words.specs.Calls.ParkSteps.{FirstTold, first_way, loaded_phase, parked_way, rest_loaded, with_tokens}
use Rattle.tj_words.specs.Words.Phases.{phase_word}
use Rattle.tj_words.specs.SeatViews.SeenWords.{NextTold}
use Rattle.tj_words.specs.SeatViews.Views.{note_of, noted_step}
use Rattle.tj_park.proofs.ParkedViews.{no_record}
use Rattle.tj_park.specs.Inner.FirstWaiters.{counted_in, lowered_for}
use Rattle.tj_events.specs.declared.walk.Way.TheVariants as ways
use Rattle.tj_words.specs.declared.phase.Phase.TheVariants as phase
use Rattle.tj_words.specs.declared.view.Noted.TheVariants as note

first_is : (t : ℕ) (q : Phase) (ts : List ℕ) (o : Option Way) → first_way t q (t ∷ ts) o ≡ parked_way q o
first_is t q ts o = ap (λ (b : Bool). cond b (parked_way q o) o) (eq-eqb t t refl)

-- LIVE up, where nothing lies in the slot that was taken last
pub raised_plain : {B : Type 0} (v : View B) (slots : SlotsOf B) → HasNoRecord slots
    → raised_with v slots ≡ (with_tokens (suc v.tokens) v, slots)
raised_plain v [] h = refl
raised_plain v ((t, None) ∷ slots) h = refl
raised_plain v ((t, Some r) ∷ slots) h = absurd h

-- a parked task isn't a ready one
pub parked_unready : {P : Type 0} (p : ℕ) (way : Way) → parked_phase p way ≡ phase.Ready → P
parked_unready p way e = absurd (cc)

module _ {B : Type 0} where
  -- the way of the first of the rest of p was read
  abbrev pub read_first : ℕ → ℕ → List ℕ → Way → View B → View B
  read_first p t left way v = record v {
    steps = suc (suc v.steps);
    plain_loads = suc v.plain_loads;
    rest = Some (record { cell = p; tasks = t ∷ left; way = Some way });
    notes = wake_notes p t way left v ++ v.notes;
  }

  -- then a token was taken
  abbrev pub token_more : View B → View B
  token_more v = with_tokens (suc v.tokens) v

  -- the view once PHASE of the first was read too, of whose rest that way is known
  abbrev read_then : ℕ → Head → Phase → Option Rest → View B → View B
  read_then t next was rest v = record v {
    steps = suc (suc v.steps);
    plain_loads = suc v.plain_loads;
    rest = rest;
    notes = note_of (note.Phase t) (phase_word was) v ∷ note_of (note.Next t) (head_word next) v ∷ v.notes;
  }

  module _ (p t : ℕ) (left : List ℕ) (v v' w : View B) (next : Head) (was : Phase)
      (rests : v.rest ≡ rest_of p (t ∷ left)) (went : v' ≡ noted_step (note.Next t) (head_word next) v) where
    abbrev the_rest : Rest
    the_rest = record { cell = p; tasks = t ∷ left; way = None }

    rest_then : v'.rest ≡ Some the_rest
    rest_then = ap (λ (u : View B). u.rest) went ∙ rests

    -- NEXT of the first names the one behind it
    pub next_behind : NextTold t next v → next ≡ head_of left
    next_behind told = told the_rest left rests refl

    -- the first is parked on p
    pub first_parked : FirstTold t was v' → (way : Way) × (was ≡ parked_phase p way)
    first_parked told = told the_rest left rest_then refl

    -- the view then
    pub reads_first : (way : Way) → was ≡ parked_phase p way → next ≡ head_of left → w ≡ loaded_phase t was v'
        → w ≡ read_first p t left way v
    reads_first way is behind loaded = loaded
        ∙ (ap (loaded_phase t was) went
        ∙ (ap (λ o. read_then t next was (rest_loaded t was o) v) rests
        ∙ (ap (λ o. read_then t next was (Some (record { cell = p; tasks = t ∷ left; way = o })) v)
        (first_is t was left None ∙ ap (λ q. parked_way q None) is)
        ∙ (ap (λ q. read_then t next q (Some (record { cell = p; tasks = t ∷ left; way = Some way })) v) is
        ∙ ap (λ h. read_then t h (parked_phase p way)
        (Some (record { cell = p; tasks = t ∷ left; way = Some way })) v) behind))))

  module _ (p t : ℕ) (left : List ℕ) (way : Way) (v : View B) (slots : SlotsOf B) (may : MayWakeTasks (v, slots)) where
    abbrev taken : View B
    taken = token_more (read_first p t left way v)

    -- what is left to come is backed after the exchange
    backing_then : Backing (woke_first way taken)
    backing_then = ⊎_elim
        (λ (h : 0 < v.tokens). backing_token (woke_first way taken) (omega arith))
        (λ (h : Holds DoesRun v). backing_running (woke_first way taken) h
        (λ a. let more = may.alarms a in omega arith)) may.backed

    room_then : v.cleared + raised_by_way way ≤ v.lot
    room_then = room_by way
      where
        room_by : (o : Way) → v.cleared + raised_by_way o ≤ v.lot
        room_by ways.Along = let h = may.cleared_room in omega arith
        room_by ways.Other = let h = may.cleared_room in omega arith

    pub may_wake : MaySwap t (parked_phase p way) phase.Ready taken
    may_wake = inr (
      p,
      way,
      refl,
      inl (
        refl,
        record {
          rest = record { cell = p; tasks = t ∷ left; way = Some way };
          left = left;
          has = refl;
          cell = refl;
          first = refl;
          read = refl;
          clears = record { token = (omega arith); room = room_then };
          backing = backing_then;
        },
      ),
    )

    pub may_raise : (program : Bool → B → Program B) → MayRaiseLive program (read_first p t left way v, slots)
    may_raise program = record {
      backed = may.backed;
      room = may.token_room;
      lays = no_record (λ u r. LaysChild program u r (read_first p t left way v, slots)) slots may.no_record;
    }

    -- the view after the exchange and the subtraction from OTHERS
    abbrev woken_at : ℕ → View B
    woken_at n = record v {
      steps = n;
      plain_loads = suc v.plain_loads;
      rest = rest_of p left;
      notes = wake_notes p t way left v ++ v.notes;
    }

    woken_then : (n cleared tokens : ℕ) → cleared ≡ v.cleared → tokens ≡ v.tokens
        → record (woken_at n) { cleared = cleared; tokens = tokens } ≡ woken_at n
    woken_then n cleared tokens a b = ap (λ k. record (woken_at n) { cleared = k; tokens = tokens }) a
        ∙ ap (λ k. record (woken_at n) { tokens = k }) b

    pub lowers : (n : ℕ) → lowered_for (parked_phase p way) n (woke_first way taken) ≡ woken_at n
    lowers n = woken_then n (v.cleared + raised_by_way way - raised_by_way way) (suc v.tokens - 1) (omega arith)
        (omega arith)

    pub counted_then : counted_in (parked_phase p way) ≤ v.cleared + raised_by_way way
    counted_then = omega arith

  -- what a seat and its slots are
  pub pair_is : (m : SeatMe B) (v : View B) (slots : SlotsOf B) → m.0 ≡ v → m.1 ≡ slots → m ≡ (v, slots)
  pair_is m v slots a b = ap (λ x. (x, m.1)) a ∙ ap (λ y. (v, y)) b

  -- an exchange that was tried on a parked task has succeeded
  exchanged : {P : Type 0} (t p : ℕ) (way : Way) (m m' : SeatMe B) (r : Result ⊤ Phase) → OnOk r P
      → IfErr r (λ q. (parked_phase p way ≡ phase.Ready) × (q ≢ parked_phase p way) × (m' ≡ (missed t q m.0, m.1)))
      → P
  exchanged t p way m m' (Ok x) ok err = ok
  exchanged t p way m m' (Err q) ok err = parked_unready p way err.0

  -- the five steps, one after the other
  module _ {p t : ℕ} {me m1 m2 : SeatMe B} {next : Head} {was : Phase} (may : MayWakeTasks me) {left : List ℕ}
      (rests : me.0.rest ≡ rest_of p (t ∷ left))
      (view1 : m1.0 ≡ noted_step (note.Next t) (head_word next) me.0) (slots1 : m1.1 ≡ me.1)
      (next_told : NextTold t next me.0) {cells : ℕ} (seen : SeesPhase cells t was m1.0 m2.0) (slots2 : m2.1 ≡ m1.1)
      (first_told : FirstTold t was m1.0) where
    -- a seat with a rest learns nothing more
    view2 : m2.0 ≡ loaded_phase t was m1.0
    view2 = seen.1 (inl (λ e. none_some m1.0.rest _ e (rest_then p t left me.0 m1.0 m2.0 next was rests view1)))

    parked : (way : Way) × (was ≡ parked_phase p way)
    parked = first_parked p t left me.0 m1.0 m2.0 next was rests view1 first_told

    behind : next ≡ head_of left
    behind = next_behind p t left me.0 m1.0 m2.0 next was rests view1 next_told

    abbrev read : View B
    read = read_first p t left parked.0 me.0

    reads : m2 ≡ (read, me.1)
    reads = pair_is m2 read me.1
        (reads_first p t left me.0 m1.0 m2.0 next was rests view1 parked.0 parked.1 behind view2) (slots2 ∙ slots1)

    -- the steps in the log
    pub steps_of_first : (live : ℕ) (r : Result ⊤ Phase) (m3 m4 : SeatMe B) (u a b d e f : Seat B)
        → Makes (next_seen t next ∷ []) u a → Makes (phase_seen t was ∷ []) a b
        → Makes (entry_of call.raises_live 1 0 live ∷ []) b d
        → OnOk r (Makes (exchange_entry t was phase.Ready ∷ []) d e)
        → IfErr r (λ q. (was ≡ phase.Ready) × (q ≢ was) × (m4 ≡ (missed t q m3.0, m3.1)))
        → MakesLowered was e f → MakesReady p t left u f
    steps_of_first live r m3 m4 u a b d e f read saw up ok err lower =
        read_ready p t left parked.0 live u a b d e f next was behind parked.1 read saw up
        (exchanged t p parked.0 m3 m4 r ok (subst (λ k. IfErr r (λ q. (k ≡ phase.Ready) × (q ≢ k)
        × (m4 ≡ (missed t q m3.0, m3.1)))) parked.1 err)) lower

    pub may_up : {program : Bool → B → Program B} → MayRaiseLive program m2
    may_up {program} = subst (λ m. MayRaiseLive program m) (sym reads) (may_raise p t left parked.0 me.0 me.1 may program)

    module _ {m3 : SeatMe B} (raised : m3 ≡ live_raised m2) where
      up : m3 ≡ (token_more read, me.1)
      up = raised ∙ (ap live_raised reads ∙ raised_plain read me.1 may.no_record)

      pub may_swap : MaySwap t was phase.Ready m3.0
      may_swap = subst (λ (m : SeatMe B). MaySwap t was phase.Ready m.0) (sym up)
          (subst (λ q. MaySwap t q phase.Ready (token_more read)) (sym parked.1)
          (may_wake p t left parked.0 me.0 me.1 may))

      module _ (program : Bool → B → Program B) (m4 : SeatMe B) (r : Result ⊤ Phase)
          (ok : OnOk r (Swaps program t was phase.Ready m3 m4))
          (err : IfErr r (λ q. (was ≡ phase.Ready) × (q ≢ was) × (m4 ≡ (missed t q m3.0, m3.1)))) where
        woke : m4 ≡ (woke_first parked.0 (token_more read), me.1)
        woke = let s = exchanged t p parked.0 m3 m4 r ok (subst (λ k. IfErr r (λ q. (k ≡ phase.Ready) × (q ≢ k)
            × (m4 ≡ (missed t q m3.0, m3.1)))) parked.1 err) in
            s.wakes p parked.0 parked.1 refl ∙ ap (λ (m : SeatMe B). (woke_first parked.0 m.0, m.1)) up

        pub slots_woke : m4.1 ≡ me.1
        slots_woke = ap (λ (m : SeatMe B). m.1) woke

        pub counted : counted_in was ≤ m4.0.cleared
        counted = subst (λ (m : SeatMe B). counted_in was ≤ m.0.cleared) (sym woke)
            (subst (λ q. counted_in q ≤ me.0.cleared + raised_by_way parked.0) (sym parked.1)
            (counted_then p t left parked.0 me.0 me.1 may))

        pub wakes_first : {w : View B} → w ≡ lowered_for was w.steps m4.0 → (next ≡ head_of left)
            × ((way : Way) × (w ≡ record me.0 {
              steps = w.steps;
              plain_loads = suc me.0.plain_loads;
              rest = rest_of p left;
              notes = wake_notes p t way left me.0 ++ me.0.notes;
            }))
        wakes_first {w} e = (
          behind,
          (
            parked.0,
            e ∙ (ap (λ (m : SeatMe B). lowered_for was w.steps m.0) woke
                ∙ (ap (λ q. lowered_for q w.steps (woke_first parked.0 (token_more read))) parked.1
                ∙ lowers p t left parked.0 me.0 me.1 may w.steps)),
          ),
        )
