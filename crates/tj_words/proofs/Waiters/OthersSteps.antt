-- The add to OTHERS and the subtraction from it keep the rule.
use Rattle.tj_words.proofs.Prelude.{Allows, Bool, Contents, Custody, Does, DoesWalk, EventKeepsFacts, IsIn, IsSeat, Key}
use Rattle.tj_words.proofs.Prelude.{Law, List, MayAct, MayRaise, Option, OthersAreFew, Program, Rec, Rule, SeatMe}
use Rattle.tj_words.proofs.Prelude.{SeatsHave, State, View, ap, arith, at_map, get_elem?, length, lowered, none}
use Rattle.tj_words.proofs.Prelude.{others_at, phase_of, refl, seats_have, set, some, step, subst, suc, sym, total}
use Rattle.tj_words.proofs.Prelude.{turned, word, words_say, ℕ, ◌%◌, ◌+◌, ◌-◌, ◌<◌, ◌^◌, ◌≡◌}
use Rattle.tj_words.proofs.Lemmas.{IsHeldWith, Stores, facts_after, law_kept, parts_of, seats_same, set_seats}
use Rattle.tj_words.proofs.Lemmas.{step_allowed, store_word, total_set}
use Rattle.tj_words.specs.Calls.WalkViews.{others_add, others_subtraction}
use Rattle.tj_words.proofs.Stores.TableWords.{Others}
use Rattle.tj_words.proofs.Events.WaitClears.{lower_shown}
use Rattle.tj_words.proofs.Events.WalkEvents.{raise_shown}
use Rattle.tj_words.proofs.SeatLoads.WalkLoads.{turned_seat, turned_seats, held_by_view, others_small}
use Rattle.tj_words.proofs.SeatLoads.WalkReads.{doing, turned_to, task_turned, law_turned}
use Rattle.tj_words.proofs.Events.TurnedTasks.{acting_begun}
use Rattle.tj_words.specs.declared.view.Does.TheVariants as does
use Rattle.tj_words.specs.LawParts.PushedRecords.{LieAsPut}

-- a task that may act runs
pub acting_phase : (d : Does) → MayAct d → phase_of does.Raised ≡ phase_of d
acting_phase d m = grind arith

module _ {B : Type 0} {program : Program B} {cells : ℕ} {x : Contents B} (event_keeps : EventKeepsFacts)
    (r : Law program cells x) where
  -- the law after a task of a seat has raised OTHERS
  pub law_raises : (id t : ℕ) (k : Custody B) (h : IsHeldWith x id t k) → MayAct k.does → IsIn t k.owned
      → Law program cells (turned_to x id t k h does.Raised (suc x.words.others))
  law_raises id t k h acts result = law_turned r id t k h does.Raised same (suc x.words.others)
      (acting_begun k.does acts) (λ a. a)
      (λ c i. absurd i) (facts_after event_keeps (raise_shown r y id t k.does record {
        turns = record {
          turns = record {
            before_it = k;
            after_it = doing does.Raised k;
            held = h;
            did = refl;
            now = refl;
            turned = task_turned r id t k h does.Raised same (suc x.words.others);
          };
          result = result;
        };
        may = acts;
        others = refl;
        cleared = refl;
      }) r.facts)
    where
      same : phase_of does.Raised ≡ phase_of k.does
      same = acting_phase k.does acts

      y : Contents B
      y = turned_to x id t k h does.Raised (suc x.words.others)

  -- the contents where OTHERS is lowered, and a seat has a wait less to lower it for
  abbrev pub lowered_to : List ℕ → Contents B
  lowered_to cleared = record x {
    words = record x.words { others = x.words.others - 1 };
    seats = record x.seats { cleared = cleared };
  }

  -- the law after the subtraction from OTHERS
  pub law_lowers : (cleared : List ℕ) → total x.seats.cleared ≡ suc (total cleared)
      → Law program cells (lowered_to cleared)
  law_lowers cleared e = law_kept r (record x.words { others = x.words.others - 1 })
      (record x.seats { cleared = cleared }) r.lots r.names r.tree_words r.once_words r.chains r.live_count r.stops
      r.records_fit r.meaning
      (facts_after event_keeps (lower_shown r (lowered_to cleared) record {
        some = omega (arith, e);
        same = λ j. record (parts_of cells x) { others = x.words.others - 1; cleared = less j };
      }) r.facts)
    where
      less : total cleared ≡ total x.seats.cleared - 1
      less = omega (arith, e)

module _ {B : Type 0} (program : Bool → B → Program B) (key : Key B) (event_keeps : EventKeepsFacts)
    (few : OthersAreFew) (s : State (Option (Rec B)) (View B)) (r : Rule program key s) (id : ℕ) (v : View B)
    (at : get_elem? s.views id ≡ some v) where
  abbrev P : Program B
  P = program key.strict key.root.value

  inside : others_at < length s.words
  inside = let w = r.all_words in omega arith

  -- a store of OTHERS
  stores : (n : ℕ) (w : View B) (seats : SeatsHave B) → set_seats (seats_have s.views) id w ≡ seats → IsSeat key w
      → LieAsPut s.homes w.pushes w.put_home
      → Law P key.cells record { words = record (words_say s.words) { others = n }; slots = s.homes; seats = seats }
      → Stores program key s id others_at n w
  stores n w seats e q put = store_word program key s id Others n w inside tt q put _
      (λ j. record { words = record (words_say s.words) { others = n }; slots = s.homes; seats = e j })

  -- the add, by a seat with a running task
  pub raise_stores : (t : ℕ) → MayRaise t v
      → Stores program key s id others_at (suc (word s.words others_at)) (turned t (λ _. does.Raised) v)
  raise_stores t h = let n = suc (word s.words others_at) in let k = h.task in
      stores n (turned t (λ _. does.Raised) v) _
      (turned_seats program key s id t (λ _. does.Raised) v at k h.held does.Raised refl)
      (turned_seat t (λ _. does.Raised) v k h.held key does.Raised refl (λ a. tt) (λ a. walks k.does h.acts a) (λ a. a)
      (r.seats id v at)) (r.pushed id v at)
      (law_raises event_keeps r.law id t k (held_by_view program key s id t v at k h.held) h.acts h.result)
    where
      walks : (d : Does) → MayAct d → DoesWalk d → ⊥
      walks d m a = grind arith

  -- the subtraction, by a seat with a wait cleared and not yet lowered
  pub lower_stores : 0 < v.cleared
      → (0 < word s.words others_at) × Stores program key s id others_at (word s.words others_at - 1) (lowered v)
  lower_stores some_left = let old = seats_have s.views in
      let t = total_set old.cleared id v.cleared (v.cleared - 1) (at_map (λ (u : View B). u.cleared) s.views id v at) in
      let less : total old.cleared ≡ suc (total (set old.cleared id (v.cleared - 1))) = omega (arith, t, some_left) in
      let c = r.law.facts.others_count in let q = r.seats id v at in let l = q.within_lot in let f = l.cleared_fit in (
        omega (arith, c, less),
        stores (word s.words others_at - 1) (lowered v) _
            (ap (λ (z : SeatsHave B). record z { cleared = set old.cleared id (v.cleared - 1) })
            (seats_same s.views id v at))
            record {
              about = q.about;
              named = q.named;
              within_lot = record {
                least = l.least;
                refused_fit = l.refused_fit;
                tokens_fit = l.tokens_fit;
                cleared_fit = omega (arith, f);
              };
              backing = record { wakes = q.backing.wakes; tags = q.backing.tags; alarms = q.backing.alarms };
              known_born = q.known_born;
            }
            (r.pushed id v at)
            (law_lowers event_keeps r.law (set old.cleared id (v.cleared - 1)) less),
      )

module _ {B : Type 0} (program : Bool → B → Program B) (key : Key B) (event_keeps : EventKeepsFacts)
    (few : OthersAreFew) (slots id : ℕ) (m : SeatMe B) where
  pub raise_allowed : (t task : ℕ) → task ≡ t → MayRaise t m.0
      → Allows (Rule program key) slots id m others_at (λ n. (n + 1) % 2 ^ 64)
      (others_add task (step slots others_at 1 0 none) m)
  raise_allowed t task e h = step_allowed program key slots id m others_at (λ n. (n + 1) % 2 ^ 64)
      (others_add task (step slots others_at 1 0 none) m) (λ s r at.
      let n = word s.words others_at in let small = others_small program key few s r in
      let up : suc n ≡ (n + 1) % 2 ^ 64 = omega (arith, small) in (
        turned t (λ _. does.Raised) m.0,
        subst (λ z. Stores program key s id others_at z (turned t (λ _. does.Raised) m.0)) up
            (raise_stores program key event_keeps few s r id m.0 at t h),
        (refl, ap (λ z. turned z (λ _. does.Raised) m.0) (sym e)),
      ))

  pub lower_allowed : 0 < m.0.cleared
      → Allows (Rule program key) slots id m others_at (λ n. (n + (2 ^ 64 - 1)) % 2 ^ 64)
      (others_subtraction (step slots others_at 1 0 none) m)
  lower_allowed h = step_allowed program key slots id m others_at (λ n. (n + (2 ^ 64 - 1)) % 2 ^ 64)
      (others_subtraction (step slots others_at 1 0 none) m) (λ s r at.
      let n = word s.words others_at in let small = others_small program key few s r in
      let l = lower_stores program key event_keeps few s r id m.0 at h in let some_left = l.0 in
      let down : n - 1 ≡ (n + (2 ^ 64 - 1)) % 2 ^ 64 = omega (arith, small, some_left) in (
        lowered m.0,
        subst (λ z. Stores program key s id others_at z (lowered m.0)) down l.1,
        (refl, refl),
      ))
