-- The store of Ended keeps the rule: the record comes home with its finish, and the task leaves its seat.
use Rattle.tj_words.proofs.Prelude.{Bool, Contents, Custody, IsIn, Key, Law, MayEnd, None, Option, Program, Rec, Rule}
use Rattle.tj_words.proofs.Prelude.{SeatMe, SeatsHave, Some, State, View, [], ap, arith, contents_of, drawn_in, ended}
use Rattle.tj_words.proofs.Prelude.{get_elem?, hand_of, held_of, home_of, is_task, let_go, live_part, numbers, owned_by}
use Rattle.tj_words.proofs.Prelude.{owner, phase_at, phase_in, phase_of, phase_word, put, refl, set, some, stage_there}
use Rattle.tj_words.proofs.Prelude.{subst, suc, sym, true, wait_in, word, List, ℕ, ◌<◌, ◌∙◌, ◌≡◌}
use Rattle.tj_words.proofs.Lemmas.{IsHeldWith, IsQuietStep, StoresWith, core_of, custody, does_shown, facts_quiet}
use Rattle.tj_words.proofs.Lemmas.{held_drawn, held_here, left_seat, left_stores, none_some, none_unless, owner_out}
use Rattle.tj_words.proofs.Lemmas.{parts_of, seats_same, stage_held, stored_with}
use Rattle.tj_events.specs.CoreState.{IsTask}
use Rattle.tj_words.proofs.Waiters.ChainFacts.{IsNotParked, held_free}
use Rattle.tj_words.proofs.Waiters.PushedRecords.{laid_as_put, laid_leaves}
use Rattle.tj_words.proofs.Prelude.{◌∷◌}
use Rattle.tj_words.proofs.Waiters.ChainPhases.{chains_turn}
use Rattle.tj_words.proofs.Waiters.LiveSteps.{count_turned, backing_token}
use Rattle.tj_words.proofs.Holders.LaidRecords.{Lays, as_many, departs_laid, fits_then, laid_slots, lays_held, meant}
use Rattle.tj_words.proofs.Holders.LaidRecords.{task_there, tokens_at}
use Rattle.tj_words.proofs.Phases.Departures.{Departs, after_leaving, leave, leave_owned, leaves_quietly}
use Rattle.tj_words.proofs.Holders.TaskMoves.{law_task}
use Rattle.tj_base.specs.declared.cell.Sort.TheVariants as sort
use Rattle.tj_words.specs.declared.phase.Phase.TheVariants as phase
use Rattle.tj_words.specs.declared.view.Does.TheVariants as does
use Rattle.tj_words.proofs.Stores.TableWords as table_word

module _ {B : Type 0} {program : Program B} {cells : ℕ} {x : Contents B} (r : Law program cells x) (id t : ℕ)
    (k : Custody B) (h : IsHeldWith x id t k) where
  -- nobody owns the result of a running task that owns nothing
  pub unowned : k.does ≡ does.Running → k.owned ≡ [] → hand_of x t ≡ None → x.words.own t ≡ None
  unowned runs none out = none_unless (x.words.own t) (λ u q. let i : IsIn t [] = subst (IsIn t) none (owns u q) in i)
    where
      drawn : t < drawn_in cells x
      drawn = held_drawn r id t k h

      owns : (u : ℕ) → x.words.own t ≡ Some u → IsIn t k.owned
      owns u q =
          let s : IsTask (core_of r).cells t = ap is_task (stage_held r id t k h u out q) ∙ is_one in
          let o : owner (core_of r).cells t ≡ Some u = owner_out r.born r.maker (parts_of cells x) t drawn out ∙ q in
          let e : u ≡ t = r.facts.owners.results_own t u s o in
          subst (λ (z : Option (Custody B)). IsIn t (owned_by z (home_of x t))) (held_here r id t k h)
          ((r.owned.owners t t (drawn, out)).0 (q ∙ ap Some e))
        where
          is_one : is_task (does_shown t k.does) ≡ true
          is_one = ap (λ d. is_task (does_shown t d)) runs

module _ {B : Type 0} {program : Bool → B → Program B} {key : Key B} {s : State (Option (Rec B)) (View B)}
    (r : Rule program key s) (id : ℕ) {t : ℕ} {me : SeatMe B} (at : get_elem? s.views id ≡ some me.0)
    (h : MayEnd program t me) where
  abbrev x : Contents B
  x = contents_of s

  abbrev v : View B
  v = me.0

  abbrev lays : Lays program t me
  lays = record { custody = h.custody; held = h.held; record_of = h.record_of; puts = h.puts; no_hand = h.no_hand }

  runs : x.words.phase t ≡ phase.Running
  runs = (custody r.law id t h.custody (lays_held r id at lays)).does ∙ ap phase_of h.runs

  abbrev departs_over : Departs r.law id t phase.Ended (laid_slots r id at lays)
  departs_over = departs_laid r id at lays phase.Ended refl
      (λ d way w e. none_some (wait_in phase.Ended) d.0 refl (ap wait_in e)) (λ o y l. l)

  abbrev beside : SeatsHave B
  beside = record x.seats { tokens = set x.seats.tokens id (suc v.tokens) }

  abbrev after_end : Contents B
  after_end = after_leaving r.law id t departs_over x.words beside

  pub end_closed : x.words.own t ≡ None
  end_closed = unowned r.law id t h.custody (lays_held r id at lays) h.runs (sym h.puts.owned ∙ ap numbers h.owns_none)
      (task_there r id at lays).1

  -- the step shows nothing
  pub end_quiet : IsQuietStep r.law after_end
  end_quiet = leaves_quietly r.law id t departs_over x.words beside does.Running h.runs
      (record { others = refl; cleared = refl })
      ((λ j. stage_there t sort.Task (end_closed j) phase.Ended None (Some h.record_of))
      ∙ (λ j. stage_there t sort.Task (sym end_closed j) phase.Running (held_of x t) (home_of x t)))

  -- what the store leaves
  pub end_path : (records : List (Rec B)) (word : ℕ) → phase_in word ≡ phase.Ended
      → stored_with s id (table_word.Phase t) word (laid_slots r id at lays) (record (ended t v) { put_home = records })
      ≡ after_end
  end_path records word is j = record {
    words = record x.words { phase = put x.words.phase t (is j) };
    slots = laid_slots r id at lays;
    seats = record (seats_same s.views id v at j) {
      tokens = set x.seats.tokens id (suc v.tokens);
      tasks = set x.seats.tasks id (let_go t v.tasks);
    };
  }

  free : IsNotParked (x.words.phase t)
  free = subst IsNotParked (sym (custody r.law id t h.custody (lays_held r id at lays)).does) (held_free h.custody.does)

  end_law : t < key.cells → Law (program key.strict key.root.value) key.cells after_end
  end_law inside = law_task r.law (leave r.law id t departs_over) x.words beside
      (leave_owned r.law id t departs_over) r.law.names.knows
      (chains_turn r.law.chains t phase.Ended
      free
      (λ p y. let e = ap wait_in y.1 in cc))
      (count_turned r.law.live_count t phase.Ended id v.tokens (suc v.tokens) inside (tokens_at s.views id at)
      (let e = ap live_part runs in omega arith))
      (fits_then r id at lays phase.Ended ((h.finish, h.finished), h.owns_none)) (meant r id at lays)
      (facts_quiet r.law end_quiet)

  pub end_stores : t < key.cells → (records : List (Rec B)) → records ≡ h.record_of ∷ v.put_home → (word : ℕ)
      → phase_in word ≡ phase.Ended
      → word ≡ phase_word phase.Ended
      → StoresWith program key s (set s.homes t (some (Some h.record_of))) id (phase_at t) word
      (record (ended t v) { put_home = records })
  end_stores inside records puts word is from = left_stores r id t at inside phase.Ended word is from refl
      (laid_slots r id at lays) (as_many r id at lays) (suc v.tokens) records
      (left_seat r id t at (suc v.tokens) h.custody h.held h.room (backing_token (ended t v) (omega arith)))
      (laid_as_put r id at t h.record_of h.puts.cell free records puts)
      (laid_leaves r id at t h.record_of h.puts.cell free)
      (end_path records word is) (end_law inside)
