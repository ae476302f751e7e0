-- The stores of Walking and of Alarmed into PHASE keep the rule.
use Rattle.tj_words.proofs.Prelude.{About, Bool, Contents, Custody, Does, EventKeepsFacts, IsBegun, IsIn, IsPhaseWord}
use Rattle.tj_words.proofs.Prelude.{IsSeat, IsThere, Key, Law, List, MayWait, Option, Program, Rec, Rule, Some, State}
use Rattle.tj_words.proofs.Prelude.{View, Way, ap, arith, at_map, cell, contents_of, does_cells, drawn_in, get_elem?}
use Rattle.tj_words.proofs.Prelude.{hand_of, held_in, hold, home_of, live_part, noted, now_does, phase_at, phase_in}
use Rattle.tj_words.proofs.Prelude.{phase_of, published, put, refl, set, some, start_walk, subst, suc, sym, words_say}
use Rattle.tj_words.proofs.Prelude.{ℕ, ⊎_elim, ◌<◌, ◌∙◌, ◌≡◌}
use Rattle.tj_words.proofs.Lemmas.{IsEventStep, IsHeldWith, IsMoved, Proceeds, StoresWith, custody, facts_after}
use Rattle.tj_words.proofs.Lemmas.{held_listed, hold_else, hold_here, holder_seat, list_owned, none_some, noted_is}
use Rattle.tj_words.proofs.Lemmas.{phase_stores, seats_same, stored}
use Rattle.tj_words.specs.Calls.WaitViews.{MayPublishWait, MayStoreAlarm, now_alarmed, alarmed, HasWalker}
use Rattle.tj_words.specs.LawParts.ShownState.{does_walk}
use Rattle.tj_words.proofs.Holders.HeldChanges.{held_task}
use Rattle.tj_words.proofs.Waiters.LiveSteps.{backing_token, count_turned}
use Rattle.tj_words.proofs.Waiters.Backings.{backing_publish}
use Rattle.tj_words.proofs.Events.WalkEvents.{publish_shown, alarm_shown, waits_begun}
use Rattle.tj_words.proofs.Phases.NotedWaits.{after_note, note_turns, note_law, begun_way}
use Rattle.tj_words.proofs.Calls.KeptCells.{kept_moved}
use Rattle.tj_events.specs.declared.event.Event.TheVariants as event
use Rattle.tj_words.specs.declared.phase.Walk.TheVariants as walk
use Rattle.tj_words.specs.declared.phase.Phase.TheVariants as phase
use Rattle.tj_words.specs.declared.view.Does.TheVariants as does
use Rattle.tj_words.proofs.Stores.TableWords as table_word

-- a task that may publish a wait counts for LIVE
waits_live : (u : Way) (d : Does) → MayWait u d → live_part (phase_of d) ≡ 1
waits_live u d m = grind arith

module _ {B : Type 0} (program : Bool → B → Program B) (key : Key B) where
  -- the program of the root and the rule that a view names is that of the table
  pub about_program : (v : View B) (a : About B) → IsSeat key v → v.about ≡ Some a
      → program a.strict a.root ≡ program key.strict key.root.value
  about_program v a h e = ap (λ (b : About B). program b.strict b.root) (h.about a e)

-- a view with a token more, for a walker
pub more_seat : {B : Type 0} {key : Key B} {t p : ℕ} {way : Way} {v : View B} (w : View B) → HasWalker t p way v
    → IsSeat key v → w ≡ record v { steps = w.steps; tokens = suc v.tokens; tasks = w.tasks; pushes = w.pushes }
    → IsSeat key w
more_seat {key = key} {t = t} {v = v} w a h same = subst (IsSeat key) (sym same)
    (holder_seat key v t a.custody a.held h (suc v.tokens) w.tasks w.pushes v.dues a.room
    (backing_token (record v { steps = w.steps; tokens = suc v.tokens; tasks = w.tasks; pushes = w.pushes })
    (omega arith)))

module _ {B : Type 0} {program : Bool → B → Program B} {key : Key B} {s : State (Option (Rec B)) (View B)}
    (r : Rule program key s) (id : ℕ) {v : View B} (at : get_elem? s.views id ≡ some v) where
  abbrev P : Program B
  P = program key.strict key.root.value

  abbrev x : Contents B
  x = contents_of s

  tokens : get_elem? x.seats.tokens id ≡ some v.tokens
  tokens = at_map (λ (u : View B). u.tokens) s.views id v at

  -- the seat's view where it has these tasks, and so many tokens
  abbrev noted_view : ℕ → List (Custody B) → View B
  noted_view n ks = record v { steps = suc v.steps; tokens = n; tasks = ks }

  -- a store by which a task of the seat does this from now on
  module _ (t : ℕ) (k : Custody B) (held : held_in v.tasks t ≡ Some k) (d : Does) (n : ℕ) where
    abbrev has : IsHeldWith x id t k
    has = (v.tasks, at_map (λ (u : View B). u.tasks) s.views id v at, held)

    pub its : k.task ≡ t
    its = held_task v.tasks t k held

    abbrev after_store : Contents B
    after_store = after_note r.law id t k has its d (set x.seats.tokens id n)

    turns : IsMoved key.cells x after_store t (phase_of d) (Some (now_does d k)) (home_of x t)
    turns = note_turns r.law id t k has its d (set x.seats.tokens id n)

    -- the task proceeds
    abbrev proceeds : {e : Does} → k.does ≡ e → Proceeds key.cells x after_store id t e d
    proceeds did = record {
      before_it = k;
      after_it = now_does d k;
      held = has;
      did = did;
      now = refl;
      turned = turns;
    }

    -- what the store leaves
    noted_path : (ks : List (Custody B)) → ks ≡ hold (now_does d k) v.tasks → (word : ℕ) → phase_in word ≡ phase_of d
        → stored s id (table_word.Phase t) word (noted_view n ks) ≡ after_store
    noted_path ks e word is j = record {
      words = record (words_say s.words) { phase = put (words_say s.words).phase t (is j) };
      slots = s.homes;
      seats = record (seats_same s.views id v at j) {
        tokens = set x.seats.tokens id n;
        tasks = set x.seats.tasks id (e j);
      };
    }

    noted_stores : t < key.cells → (ks : List (Custody B)) → ks ≡ hold (now_does d k) v.tasks → (word : ℕ)
        → IsPhaseWord key.cells word → phase_in word ≡ phase_of d
        → IsSeat key (noted_view n (hold (now_does d k) v.tasks)) → Law P key.cells after_store
        → StoresWith program key s s.homes id (phase_at t) word (noted_view n ks)
    noted_stores inside ks e word code is seat = phase_stores r id t inside s.homes refl word code
        (noted_view n ks) (subst (λ l. IsSeat key (noted_view n l)) (sym e) seat) (r.pushed id v at)
        (λ j u other here e i. refl) after_store (noted_path ks e word is)

  -- the store of Walking
  module _ {t p : ℕ} {way : Way} (h : MayPublishWait t p way v) where
    abbrev walking : Does
    walking = does.Walking p way start_walk

    abbrev after_publish : Contents B
    after_publish = after_store t h.custody h.held walking v.tokens

    noted_walk : noted t (now_does walking) v.tasks ≡ hold (now_does walking h.custody) v.tasks
    noted_walk = noted_is v.tasks t h.custody (now_does walking) h.held

    pub publish_path : (word : ℕ) → phase_in word ≡ phase.Waiting (cell p) way walk.Walking
        → stored s id (table_word.Phase t) word (published t p way v) ≡ after_publish
    publish_path = noted_path t h.custody h.held walking v.tokens (noted t (now_does walking) v.tasks) noted_walk

    -- a known cell is there, and the view has it
    there : (c : ℕ) → IsIn c v.known → IsThere (drawn_in key.cells x) (hand_of x) c
    there = r.law.names.knows id v.known (at_map (λ (u : View B). u.known) s.views id v at)

    pub publish_event : IsEventStep r.law after_publish (event.Publish (cell t) (cell p))
    publish_event = (
      publish_shown r.law after_publish id t h.custody.does p way record {
        turns = record { turns = proceeds t h.custody h.held walking v.tokens refl; result = h.result };
        may = h.may;
        there = there p h.cell_known;
        its_way = h.its_way ∙ begun_way v.born r.law.born t p
            (r.law.meaning.begins id v.born (at_map (λ (u : View B). u.born) s.views id v at))
            ((r.seats id v at).known_born t h.task_known) ((r.seats id v at).known_born p h.cell_known);
        keeps = record { others = refl; cleared = refl };
      },
      kept_moved key.cells x after_publish (turns t h.custody h.held walking v.tokens) refl,
    )

    publish_law : t < key.cells → EventKeepsFacts → Law P key.cells after_publish
    publish_law inside kept = let k = h.custody in let a = has t k h.held walking v.tokens in
        note_law r.law id t k a (its t k h.held walking v.tokens) walking (set x.seats.tokens id v.tokens) h.out
        (waits_begun way h.custody.does h.may)
        (λ c i. ⊎_elim
        (λ (e : c ≡ p). subst (IsThere (drawn_in key.cells x) (hand_of x)) (sym e) (there p h.cell_known))
        (λ (j : ⊥). absurd j) i)
        (λ z. none_some (x.words.own t) t z (list_owned r.law id t k a t h.result).1)
        (count_turned r.law.live_count t (phase_of walking) id v.tokens v.tokens inside tokens
        (let e = ap live_part (custody r.law id t k a).does in let f = waits_live way h.custody.does h.may in
        omega arith))
        (facts_after kept publish_event.0 r.law.facts)

    publish_seat : IsSeat key (noted_view v.tokens (hold (now_does walking h.custody) v.tasks))
    publish_seat = let k = now_does walking h.custody in let q = r.seats id v at in
        let e = its t h.custody h.held walking v.tokens in
        holder_seat key v t h.custody h.held q v.tokens (hold k v.tasks) v.pushes v.dues q.within_lot.tokens_fit
        (backing_publish v (noted_view v.tokens (hold k v.tasks)) t refl
        (λ u m. hold_else k u v.tasks (λ z. m (z ∙ e))) k
        (ap (held_in (hold k v.tasks)) (sym e) ∙ hold_here k v.tasks) tt (λ z. z) h.wakes q.backing)

    pub published_stores : t < key.cells → EventKeepsFacts → (word : ℕ) → IsPhaseWord key.cells word
        → phase_in word ≡ phase.Waiting (cell p) way walk.Walking
        → StoresWith program key s s.homes id (phase_at t) word (published t p way v)
    published_stores inside kept word code is = noted_stores t h.custody h.held walking v.tokens inside
        (noted t (now_does walking) v.tasks) noted_walk word code is publish_seat (publish_law inside kept)

  -- the store of Alarmed
  module _ {t p : ℕ} {way : Way} (h : MayStoreAlarm t p way v) where
    abbrev a : Custody B
    a = h.walks.custody

    abbrev alarming : Does
    alarming = does.Alarmed p way h.walks.walker

    abbrev after_alarm : Contents B
    after_alarm = after_store t a h.walks.held alarming (suc v.tokens)

    noted_alarm : noted t (now_alarmed p way) v.tasks ≡ hold (now_does alarming a) v.tasks
    noted_alarm = noted_is v.tasks t a (now_alarmed p way) h.walks.held
        ∙ ap (λ z. hold (record a { does = does.Alarmed p way (does_walk z) }) v.tasks) h.walks.walks

    pub alarm_path : (word : ℕ) → phase_in word ≡ phase.Waiting (cell p) way walk.Alarmed
        → stored s id (table_word.Phase t) word (alarmed t p way v) ≡ after_alarm
    alarm_path = noted_path t a h.walks.held alarming (suc v.tokens) (noted t (now_alarmed p way) v.tasks) noted_alarm

    pub alarm_event : IsEventStep r.law after_alarm (event.Alarm (cell t))
    alarm_event = (
      alarm_shown r.law after_alarm id t p way h.walks.walker record {
        turns = proceeds t a h.walks.held alarming (suc v.tokens) h.walks.walks;
        last = h.last;
        keeps = record { others = refl; cleared = refl };
      },
      kept_moved key.cells x after_alarm (turns t a h.walks.held alarming (suc v.tokens)) refl,
    )

    alarm_law : t < key.cells → EventKeepsFacts → Law P key.cells after_alarm
    alarm_law inside kept = let k = has t a h.walks.held alarming (suc v.tokens) in
        let was : x.words.phase t ≡ phase.Waiting (cell p) way walk.Walking
        = (custody r.law id t a k).does ∙ ap phase_of h.walks.walks in
        note_law r.law id t a k (its t a h.walks.held alarming (suc v.tokens)) alarming
        (set x.seats.tokens id (suc v.tokens)) h.out (subst (λ z. IsBegun (phase_of z)) (sym h.walks.walks) tt)
        (λ c i. r.law.names.walks id v.tasks k.1 a (held_listed v.tasks t a h.walks.held) c
        (subst (λ z. IsIn c (does_cells z)) (sym h.walks.walks) i))
        (r.law.waiters_own t (cell p) way walk.Walking was)
        (count_turned r.law.live_count t (phase_of alarming) id v.tokens (suc v.tokens) inside tokens
        (let e = ap live_part was in omega arith))
        (facts_after kept alarm_event.0 r.law.facts)

    pub alarmed_stores : t < key.cells → EventKeepsFacts → (word : ℕ) → IsPhaseWord key.cells word
        → phase_in word ≡ phase.Waiting (cell p) way walk.Alarmed
        → StoresWith program key s s.homes id (phase_at t) word (alarmed t p way v)
    alarmed_stores inside kept word code is = noted_stores t a h.walks.held alarming (suc v.tokens) inside
        (noted t (now_alarmed p way) v.tasks) noted_alarm word code is
        (more_seat (noted_view (suc v.tokens) (hold (now_does alarming a) v.tasks)) h.walks (r.seats id v at) refl)
        (alarm_law inside kept)
