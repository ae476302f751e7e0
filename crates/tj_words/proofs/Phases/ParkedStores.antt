-- The store of Parked keeps the rule: the record comes home, the task leaves its seat, and its push is to come.
use Rattle.tj_words.proofs.Prelude.{Bool, CellId, Contents, Custody, EventKeepsFacts, IsParkedOn, IsPhaseWord, Key, Law}
use Rattle.tj_words.proofs.Prelude.{Option, Phase, Program, Rec, Rule, SeatMe, SeatsHave, Some, State, View, Walk, Way}
use Rattle.tj_words.proofs.Prelude.{ap, arith, at_map, cell, contents_of, get_elem?, let_go, live_part, new_push}
use Rattle.tj_words.proofs.Prelude.{phase_at, phase_in, phase_of, put, refl, set, some, subst, suc, ℕ, ◌<◌, ◌∙◌, ◌∷◌}
use Rattle.tj_words.proofs.Prelude.{List, ◌≡◌}
use Rattle.tj_words.proofs.Lemmas.{IsEventStep, StoresWith, custody, facts_after, phase_stores, seats_same, stored_with}
use Rattle.tj_words.specs.Calls.WaitViews.{MayPark, parked}
use Rattle.tj_words.proofs.Waiters.ChainFacts.{IsNotParked, held_free}
use Rattle.tj_words.proofs.Waiters.PushedRecords.{laid_leaves, parked_as_put}
use Rattle.tj_words.proofs.Waiters.ChainPhases.{chains_park}
use Rattle.tj_words.proofs.Waiters.LiveSteps.{count_turned}
use Rattle.tj_words.proofs.Events.WalkEvents.{settle_shown}
use Rattle.tj_words.proofs.Phases.WaitStores.{more_seat}
use Rattle.tj_words.proofs.Holders.LaidRecords.{Lays, as_many, departs_laid, fits_then, laid_slots, lays_held, meant}
use Rattle.tj_words.proofs.Holders.LaidRecords.{tokens_at}
use Rattle.tj_words.proofs.Phases.Departures.{Departs, after_leaving, does_leave, leave, leave_owned}
use Rattle.tj_words.proofs.Holders.TaskMoves.{law_task}
use Rattle.tj_words.proofs.Calls.KeptCells.{kept_moved}
use Rattle.tj_events.specs.declared.event.Event.TheVariants.{Settle}
use Rattle.tj_words.specs.declared.phase.Walk.TheVariants as walk
use Rattle.tj_words.specs.declared.phase.Phase.TheVariants as phase
use Rattle.tj_words.specs.declared.view.Does.TheVariants as does
use Rattle.tj_words.proofs.Stores.TableWords as table_word

-- a wait is for the same cell, in the same way, as it was while its task walked
pub walked : (c d : CellId) (way y : Way) (w : Walk) → phase.Waiting c way walk.Parked ≡ phase.Waiting d y w
    → phase.Waiting c way walk.Walking ≡ phase.Waiting d y walk.Walking
walked c d way y w e = cc

module _ {B : Type 0} {program : Bool → B → Program B} {key : Key B} {s : State (Option (Rec B)) (View B)}
    (r : Rule program key s) (id : ℕ) {t p : ℕ} {way : Way} {me : SeatMe B} (at : get_elem? s.views id ≡ some me.0)
    (h : MayPark program t p way me) where
  abbrev x : Contents B
  x = contents_of s

  abbrev v : View B
  v = me.0

  abbrev k : Custody B
  k = h.walks.custody

  abbrev lays : Lays program t me
  lays = record { custody = k; held = h.walks.held; record_of = h.record_of; puts = h.puts; no_hand = h.no_hand }

  abbrev q : Phase
  q = phase.Waiting (cell p) way walk.Parked

  pub was : x.words.phase t ≡ phase.Waiting (cell p) way walk.Walking
  was = (custody r.law id t k (lays_held r id at lays)).does ∙ ap phase_of h.walks.walks

  abbrev departs : Departs r.law id t q (laid_slots r id at lays)
  departs = departs_laid r id at lays q refl (λ d y w e. (walk.Walking, was ∙ walked (cell p) d way y w e))
      (λ o y l. l)

  abbrev beside : SeatsHave B
  beside = record x.seats {
    tokens = set x.seats.tokens id (suc v.tokens);
    pushes = set x.seats.pushes id (new_push t p way ∷ v.pushes);
  }

  abbrev after_park : Contents B
  after_park = after_leaving r.law id t departs x.words beside

  -- the step settles the wait
  pub park_event : IsEventStep r.law after_park (Settle (cell t))
  park_event = let w = h.walks.walker in
      let leaves = does_leave r.law id t departs x.words beside (does.Walking p way w) h.walks.walks in (
        settle_shown r.law after_park id t p way w
            record { leaves = leaves; may = h.settles; keeps = record { others = refl; cleared = refl } },
        kept_moved key.cells x after_park leaves.moved refl,
      )

  -- what the store leaves
  pub park_path : (records : List (Rec B)) (word : ℕ) → phase_in word ≡ q
      → stored_with s id (table_word.Phase t) word (laid_slots r id at lays)
      (record (parked t p way v) { put_home = records })
      ≡ after_park
  park_path records word is j = record {
    words = record x.words { phase = put x.words.phase t (is j) };
    slots = laid_slots r id at lays;
    seats = record (seats_same s.views id v at j) {
      tokens = beside.tokens;
      tasks = set x.seats.tasks id (let_go t v.tasks);
      pushes = beside.pushes;
    };
  }

  free : IsNotParked (x.words.phase t)
  free c y = held_free k.does c (subst (λ z. IsParkedOn z c) (custody r.law id t k (lays_held r id at lays)).does y)

  park_law : t < key.cells → EventKeepsFacts → Law (program key.strict key.root.value) key.cells after_park
  park_law inside kept = law_task r.law (leave r.law id t departs) x.words beside (leave_owned r.law id t departs)
      r.law.names.knows
      (chains_park r.law.chains t q id p way v.pushes (at_map (λ (u : View B). u.pushes) s.views id v at)
      free
      refl)
      (count_turned r.law.live_count t q id v.tokens (suc v.tokens) inside (tokens_at s.views id at)
      (let e = ap live_part was in omega arith))
      (fits_then r id at lays q (h.unfinished, h.waits)) (meant r id at lays)
      (facts_after kept park_event.0 r.law.facts)

  pub parked_stores : t < key.cells → EventKeepsFacts → (records : List (Rec B)) → records ≡ h.record_of ∷ v.put_home
      → (word : ℕ) → IsPhaseWord key.cells word
      → phase_in word ≡ q
      → StoresWith program key s (set s.homes t (some (Some h.record_of))) id (phase_at t) word
      (record (parked t p way v) { put_home = records })
  parked_stores inside kept records puts word code is = phase_stores r id t inside (laid_slots r id at lays)
      (as_many r id at lays) word code (record (parked t p way v) { put_home = records })
      (more_seat (parked t p way v) h.walks (r.seats id v at) refl)
      (parked_as_put r id at t h.record_of h.puts.cell free (let e = r.all_slots in omega arith) p way records puts)
      (laid_leaves r id at t h.record_of h.puts.cell free) after_park
      (park_path records word is) (park_law inside kept)
