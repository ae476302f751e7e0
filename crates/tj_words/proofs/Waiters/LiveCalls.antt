-- The steps on LIVE and the store of STOP keep the rule.
use Rattle.tj_words.proofs.Prelude.{Allows, Backing, Bool, Chains, Contents, Key, Law, LiveCount, Option, Phase}
use Rattle.tj_words.proofs.Prelude.{Program, Rec, Rule, SeatMe, SeatsHave, Shelves, SlotsOf, Some, State, Stops, View}
use Rattle.tj_words.proofs.Prelude.{ap, arith, at_map, came_home, cell, contents_of, get_elem?, held_of, home_of, inl}
use Rattle.tj_words.proofs.Prelude.{inr, keeps, length, let_go, live_at, lowered_with, none, phase_of, raised_with}
use Rattle.tj_words.proofs.Prelude.{refl, seats_have, set, some, step, stop_at, subst, suc, tag_in, with_tokens, word}
use Rattle.tj_words.proofs.Prelude.{words_say, ℕ, ◌%◌, ◌+◌, ◌-◌, ◌<◌, ◌^◌, ◌∙◌, ◌∷◌, ◌≡◌, ◌≤◌}
use Rattle.tj_words.proofs.Lemmas.{Acts, IsQuietStep, Live, Stores, StoresWith, acts_giving, custody, facts_quiet}
use Rattle.tj_words.proofs.Lemmas.{left_seat, of_seat_here, of_seat_set, put_self, rule_stores, seats_same}
use Rattle.tj_words.proofs.Lemmas.{step_allowed, store_word, store_word_with, stored, stored_with}
use Rattle.tj_words.specs.Calls.LiveViews.{live_lowered, live_raised, without_task, MayRaiseLive, MayLowerLive}
use Rattle.tj_words.specs.Calls.LiveViews.{homed, live_add, live_sub, stop_store}
use Rattle.tj_words.specs.SeatViews.Views.{stored_stop}
use Rattle.tj_words.proofs.Stores.TableWords.{Stop}
use Rattle.tj_words.proofs.Waiters.StopSteps.{law_stops}
use Rattle.tj_words.proofs.Meaning.MeaningSteps.{refused_above}
use Rattle.tj_words.proofs.SeatLoads.LoadSteps.{live_small}
use Rattle.tj_words.proofs.Waiters.LiveStores.{live_some, live_up_stores, live_down_stores}
use Rattle.tj_words.proofs.Waiters.LiveSteps.{count_down}
use Rattle.tj_words.proofs.Events.QuietMoves.{shelve_stage}
use Rattle.tj_words.proofs.Holders.LaidRecords.{Lays, as_many, departs_laid, fits_then, laid_slots, lays_held, meant}
use Rattle.tj_words.proofs.Holders.LaidRecords.{tokens_at}
use Rattle.tj_words.proofs.Phases.Departures.{Departs, after_leaving, leave, leave_owned, leaves_quietly}
use Rattle.tj_words.proofs.Holders.TaskMoves.{law_task}
use Rattle.tj_words.proofs.Phases.HomeComings.{home_stores}
use Rattle.tj_words.proofs.Waiters.ChainFacts.{IsNotParked, held_free}
use Rattle.tj_words.proofs.Prelude.{sym}
use Rattle.tj_words.proofs.Waiters.PushedRecords.{laid_as_put, laid_leaves}
use Rattle.tj_words.specs.declared.phase.Phase.TheVariants as phase
use Rattle.tj_words.specs.declared.phase.Walk.TheVariants as walk
use Rattle.tj_words.specs.declared.view.Does.TheVariants as does

-- LIVE down, where the record of a task that has alarmed comes home
module _ {B : Type 0} {program : Bool → B → Program B} {key : Key B} {s : State (Option (Rec B)) (View B)}
    (r : Rule program key s) (id : ℕ) {t : ℕ} {c : Rec B} {me : SeatMe B} (at : get_elem? s.views id ≡ some me.0)
    (h : Shelves program t c me) where
  abbrev x : Contents B
  x = contents_of s

  abbrev v : View B
  v = me.0

  abbrev lays : Lays program t me
  lays = record { custody = h.custody; held = h.held; record_of = c; puts = h.puts; no_hand = h.no_hand }

  abbrev alarm : Phase
  alarm = phase.Waiting (cell h.cell) h.way walk.Alarmed

  pub waits : x.words.phase t ≡ alarm
  waits = (custody r.law id t h.custody (lays_held r id at lays)).does ∙ ap phase_of h.alarmed

  abbrev departs : Departs r.law id t alarm (laid_slots r id at lays)
  departs = departs_laid r id at lays alarm refl (λ d way w e. (w, waits ∙ e)) (λ o y l. inr l)

  free : IsNotParked (x.words.phase t)
  free = subst IsNotParked (sym (custody r.law id t h.custody (lays_held r id at lays)).does) (held_free h.custody.does)

  abbrev shelf_view : View B
  shelf_view = record (without_task t (with_tokens (v.tokens - 1) v)) { put_home = c ∷ v.put_home }

  module _ (live : ℕ) where
    abbrev beside : SeatsHave B
    beside = record x.seats { tokens = set x.seats.tokens id (v.tokens - 1) }

    abbrev after_shelf : Contents B
    after_shelf = after_leaving r.law id t departs (record x.words { live = live }) beside

    -- the step shows nothing
    pub shelf_quiet : IsQuietStep r.law after_shelf
    shelf_quiet = leaves_quietly r.law id t departs (record x.words { live = live }) beside
        (does.Alarmed h.cell h.way h.walker) h.alarmed (record { others = refl; cleared = refl })
        (shelve_stage t h.cell h.way (x.words.own t) (held_of x t) (Some c) (home_of x t))

    -- what the step leaves, whatever it stores
    pub shelf_path : stored_with s id Live live (laid_slots r id at lays) shelf_view ≡ after_shelf
    shelf_path j = record {
      words = record (words_say s.words) { live = live; phase = put_self x.words.phase t alarm waits j };
      slots = laid_slots r id at lays;
      seats = record (seats_same s.views id v at j) {
        tokens = set x.seats.tokens id (v.tokens - 1);
        tasks = set x.seats.tasks id (let_go t v.tasks);
      };
    }

  abbrev lower : ℕ
  lower = word s.words live_at - 1

  shelf_law : 0 < v.tokens → Law (program key.strict key.root.value) key.cells (after_shelf lower)
  shelf_law token = law_task r.law (leave r.law id t departs) (record x.words { live = lower }) (beside lower)
      (leave_owned r.law id t departs) r.law.names.knows
      (subst (λ z. Chains (tag_in x) x.words.head x.words.next z x.seats.pushes x.seats.shuts x.seats.rests
      x.seats.closed x.seats.found) (put_self x.words.phase t alarm waits) r.law.chains)
      (subst (λ z. LiveCount key.cells lower z (beside lower).tokens x.seats.rested)
      (put_self x.words.phase t alarm waits) (count_down r.law.live_count id (v.tokens - 1)
      (tokens_at s.views id at ∙ ap some (let g = token in omega arith))).1)
      (fits_then r id at lays alarm (h.unfinished, h.waits)) (meant r id at lays)
      (facts_quiet r.law (shelf_quiet lower))

  shelf_stores : 0 < v.tokens → Backing shelf_view
      → StoresWith program key s (set s.homes t (some (Some c))) id live_at lower shelf_view
  shelf_stores token backs = store_word_with program key s id Live lower (laid_slots r id at lays) shelf_view
      (let e = r.all_words in omega arith) (as_many r id at lays) tt
      (left_seat r id t at (v.tokens - 1) h.custody h.held
      (let f = (r.seats id v at).within_lot.tokens_fit in omega arith) backs)
      (laid_as_put r id at t c h.puts.cell free (c ∷ v.put_home) refl) (laid_leaves r id at t c h.puts.cell free)
      (after_shelf lower) (shelf_path lower)
      (shelf_law token)

module _ {B : Type 0} (program : Bool → B → Program B) (key : Key B) where
  abbrev P : Program B
  P = program key.strict key.root.value

  module _ (s : State (Option (Rec B)) (View B)) (r : Rule program key s) (id : ℕ) (v : View B)
      (at : get_elem? s.views id ≡ some v) where
    stop_stores : (w : ℕ) → 0 < w → w ≤ 2 → (w ≡ 1 → 0 < v.refused)
        → Stores program key s id stop_at w (stored_stop w v)
    stop_stores w above small refused =
        store_word program key s id Stop w (stored_stop w v) inside small (r.seats id v at) (r.pushed id v at) _ path
        (law_stops P key.cells (contents_of s) r.law w
        (set (seats_have s.views).stored id (w ∷ v.stored)) stops
        (λ e. refused_above key.cells (contents_of s).words.count (contents_of s).seats.lots
        (contents_of s).seats.refused r.law.lots id v.refused (at_map (λ (u : View B). u.refused) s.views id v at)
        (refused e)))
      where
        inside : stop_at < length s.words
        inside = let e = r.all_words in omega arith

        path : stored s id Stop w (stored_stop w v) ≡ record (contents_of s) {
          words = record (words_say s.words) { stop = w };
          seats = record (seats_have s.views) { stored = set (seats_have s.views).stored id (w ∷ v.stored) };
        }
        path j = record {
          words = record (words_say s.words) { stop = w };
          slots = s.homes;
          seats = record (seats_same s.views id v at j) {
            stored = set (seats_have s.views).stored id (w ∷ v.stored);
          };
        }

        mine : get_elem? (seats_have s.views).stored id ≡ some v.stored
        mine = at_map (λ (u : View B). u.stored) s.views id v at

        -- what was stored still is, and w is
        stops : Stops w (set (seats_have s.views).stored id (w ∷ v.stored)) (seats_have s.views).told
        stops = record {
          given = λ n. (id, of_seat_here _ (seats_have s.views).stored id v.stored (w ∷ v.stored) mine (inl refl));
          stands = λ j ns e n i z. absurd (omega arith);
          found = λ j ns e n i z. let g = r.law.stops.found j ns e n i z in (
            g.0,
            of_seat_set _ (seats_have s.views).stored id g.0 v.stored (w ∷ v.stored) mine (λ k. inr k) g.1,
          );
        }

  pub stop_allowed : (slots id : ℕ) (m : SeatMe B) (w : ℕ) → 0 < w → w ≤ 2 → (w ≡ 1 → 0 < m.0.refused)
      → Allows (Rule program key) slots id m stop_at (λ n. w) (λ n. stop_store (step slots stop_at w 0 none) m w)
  stop_allowed slots id m w some_w small refused = step_allowed program key slots id m stop_at (λ n. w)
      (λ n. stop_store (step slots stop_at w 0 none) m w)
      (λ s r at. (stored_stop w m.0, stop_stores s r id m.0 at w some_w small refused, (refl, refl)))

  -- a step on LIVE that leaves the seat with the view w, where the record of t comes home or not
  module _ (s : State (Option (Rec B)) (View B)) (r : Rule program key s) (id : ℕ) (v : View B)
      (at : get_elem? s.views id ≡ some v) where
    -- a step on LIVE alone
    plain : (n : ℕ) (w : View B) (F : SeatMe B → Type 0) (mine : SlotsOf B) → Stores program key s id live_at n w
        → F (w, mine) → Acts program key s id (v, mine) live_at n F
    plain n w F mine h f = (w, keeps, tt, rule_stores program key s r id live_at n w h, f, tt)

    up_acts : (mine : SlotsOf B) → MayRaiseLive program (v, mine)
        → Acts program key s id (v, mine) live_at (suc (word s.words live_at)) (λ m'. m' ≡ raised_with v mine)
    up_acts ((t, Some c) ∷ mine) may = acts_giving program key s r id (v, (t, Some c) ∷ mine) live_at
        (suc (word s.words live_at)) (λ m'. m' ≡ raised_with v ((t, Some c) ∷ mine))
        (homed ((t, Some c) ∷ mine) (came_home t c (with_tokens (suc v.tokens) v))) t (Some c) refl
        (home_stores r id at may.lays may.backed may.room) refl
    up_acts mine may = plain (suc (word s.words live_at)) (with_tokens (suc v.tokens) v) (λ m'. m' ≡ raised_with v mine)
        mine (live_up_stores program key s r id v at may.backed may.room) refl

    down_acts : (mine : SlotsOf B) → MayLowerLive program (v, mine)
        → Acts program key s id (v, mine) live_at (word s.words live_at - 1) (λ m'. m' ≡ lowered_with v mine)
    down_acts ((t, Some c) ∷ mine) may = acts_giving program key s r id (v, (t, Some c) ∷ mine) live_at
        (word s.words live_at - 1) (λ m'. m' ≡ lowered_with v ((t, Some c) ∷ mine))
        (homed ((t, Some c) ∷ mine) (without_task t (with_tokens (v.tokens - 1) v))) t (Some c) refl
        (shelf_stores r id at may.shelves may.token may.backing) refl
    down_acts mine may = plain (word s.words live_at - 1) (with_tokens (v.tokens - 1) v)
        (λ m'. m' ≡ lowered_with v mine) mine
        (live_down_stores program key s r id v at (v.tokens - 1) (let g = may.token in omega arith) may.backing).1 refl

  -- the add to LIVE
  pub up_allowed : (slots id : ℕ) (m : SeatMe B) → MayRaiseLive program m
      → Allows (Rule program key) slots id m live_at (λ n. (n + 1) % 2 ^ 64)
      (live_add (step slots live_at 1 0 none) m)
  up_allowed slots id m may s r many at small =
      let l = live_small program key s r in
      let same : suc (word s.words live_at) ≡ (word s.words live_at + 1) % 2 ^ 64 = omega arith in
      subst (λ n. Acts program key s id m live_at n (λ m'. m' ≡ live_raised m)) same (up_acts s r id m.0 at m.1 may)

  -- the subtraction from LIVE
  pub down_allowed : (slots id : ℕ) (m : SeatMe B) → MayLowerLive program m
      → Allows (Rule program key) slots id m live_at (λ n. (n + (2 ^ 64 - 1)) % 2 ^ 64)
      (live_sub (step slots live_at 1 0 none) m)
  down_allowed slots id m may s r many at small =
      let l = live_small program key s r in
      let some_live = live_some program key s r id m.0 at (inl may.token) in
      let same : word s.words live_at - 1 ≡ (word s.words live_at + (2 ^ 64 - 1)) % 2 ^ 64 = omega arith in
      subst (λ n. Acts program key s id m live_at n (λ m'. m' ≡ live_lowered m)) same (down_acts s r id m.0 at m.1 may)
