-- The loads of a walker keep the rule.
use Rattle.tj_words.proofs.Prelude.{Allows, Bool, Custody, Does, DoesRun, DoesWalk, EventKeepsFacts, HasAlarmed}
use Rattle.tj_words.proofs.Prelude.{IsCount, IsPhaseWord, IsSeat, IsWalking, Key, Law, MayCount, MayReadOthers, Option}
use Rattle.tj_words.proofs.Prelude.{OthersAreFew, Program, Rec, Rule, SeatMe, SeatsHave, Some, State, View, Walker, Way}
use Rattle.tj_words.proofs.Prelude.{ap, arith, at_map, contents_of, count_at, count_read, get_elem?, held_in, hold, min}
use Rattle.tj_words.proofs.Prelude.{none, others_at, others_read, own_at, owner_in, owner_seen, phase_at, phase_in}
use Rattle.tj_words.proofs.Prelude.{present, refl, seats_have, set, some, step, subst, sym, turned, wait_found, wait_in}
use Rattle.tj_words.proofs.Prelude.{walk_load, walk_with, word, words_say, ℕ, ◌<◌, ◌^◌, ◌∙◌, ◌≡◌, ◌≢◌, ◌≤◌}
use Rattle.tj_words.proofs.Lemmas.{IsHeldWith, back, hold_else, hold_here, holder_seat, law_allowed, noted_is}
use Rattle.tj_words.proofs.Lemmas.{same_some, seats_same, set_seats, total_fits}
use Rattle.tj_words.specs.Calls.WalkViews.{MayLoadOwner, MayLoadWait, does_next}
use Rattle.tj_words.proofs.Waiters.Backings.{backing_turns}
use Rattle.tj_words.proofs.Holders.HeldChanges.{held_task}
use Rattle.tj_words.proofs.SeatLoads.WalkReads.{doing, read_to, law_reads_others, law_reads_count, law_reads_wait}
use Rattle.tj_words.proofs.SeatLoads.WalkReads.{law_reads_seen}
use Rattle.tj_words.specs.declared.view.Does.TheVariants as does

module _ {B : Type 0} (t : ℕ) (f : Does → Does) (v : View B) (k : Custody B) (held : held_in v.tasks t ≡ Some k) where
  -- what a seat has for its tasks once t does something else
  pub turned_tasks : (d : Does) → f k.does ≡ d → (turned t f v).tasks ≡ hold (doing d k) v.tasks
  turned_tasks d e = noted_is v.tasks t k (does_next f) held ∙ ap (λ z. hold (doing z k) v.tasks) e

  -- what holds of the view alone holds of it then, where a task that ran runs, and one that walked walks
  pub turned_seat : (key : Key B) (d : Does) → f k.does ≡ d → (DoesRun k.does → DoesRun d)
      → (DoesWalk k.does → DoesWalk d)
      → (¬ HasAlarmed d)
      → IsSeat key v
      → IsSeat key (turned t f v)
  turned_seat key d e runs walks calm q = holder_seat key v t k held q v.tokens (turned t f v).tasks v.pushes v.dues
      q.within_lot.tokens_fit (backing_turns v (turned t f v) t refl else
      (λ k0 at r. (t, doing d k, here, runs (was DoesRun k0 at r)))
      (λ k0 at r. (t, doing d k, here, walks (was DoesWalk k0 at r)))
      (λ k0 at. subst (λ (z : Custody B). ¬ HasAlarmed z.does) (same_some here at) calm) (λ h. h) (λ h. h) q.backing)
    where
      its : k.task ≡ t
      its = held_task v.tasks t k held

      same : (turned t f v).tasks ≡ hold (doing d k) v.tasks
      same = turned_tasks d e

      here : held_in (turned t f v).tasks t ≡ Some (doing d k)
      here = ap (λ l. held_in l t) same
          ∙ (ap (held_in (hold (doing d k) v.tasks)) (sym its) ∙ hold_here (doing d k) v.tasks)

      else : (u : ℕ) → u ≢ t → held_in (turned t f v).tasks u ≡ held_in v.tasks u
      else u n = ap (λ l. held_in l u) same ∙ hold_else (doing d k) u v.tasks (λ z. n (z ∙ its))

      was : (F : Does → Type 0) (k0 : Custody B) → held_in v.tasks t ≡ Some k0 → F k0.does → F k.does
      was F k0 at r = subst (λ (z : Custody B). F z.does) (same_some at held) r

module _ {B : Type 0} (program : Bool → B → Program B) (key : Key B) where
  abbrev P : Program B
  P = program key.strict key.root.value

  -- what the seats have once t of one seat does something else
  pub turned_seats : (s : State (Option (Rec B)) (View B)) (id t : ℕ) (f : Does → Does) (v : View B)
      → get_elem? s.views id ≡ some v
      → (k : Custody B) → held_in v.tasks t ≡ Some k
      → (d : Does) → f k.does ≡ d
      → set_seats (seats_have s.views) id (turned t f v)
      ≡ record (seats_have s.views) { tasks = set (seats_have s.views).tasks id (hold (doing d k) v.tasks) }
  turned_seats s id t f v at k held d e = let old = seats_have s.views in
      ap (λ (z : SeatsHave B). record z { tasks = set old.tasks id (turned t f v).tasks }) (seats_same s.views id v at)
      ∙ ap (λ l. record old { tasks = set old.tasks id l }) (turned_tasks t f v k held d e)

  -- a seat holds the task as its view has it
  abbrev pub held_by_view : (s : State (Option (Rec B)) (View B)) (id t : ℕ) (v : View B)
      → get_elem? s.views id ≡ some v
      → (k : Custody B) → held_in v.tasks t ≡ Some k
      → IsHeldWith (contents_of s) id t k
  held_by_view s id t v at k held = (v.tasks, at_map (λ (u : View B). u.tasks) s.views id v at, held)

  -- a load by which a walker reads on, where the law holds afterwards
  walk_allowed : (slots id : ℕ) (m : SeatMe B) (i t task : ℕ) (f : ℕ → Walker → Walker) (May : ℕ → Type 0)
      {F : ℕ → Way → Walker → Type 0} → task ≡ t → (h : IsWalking t F m.0)
      → ((s : State (Option (Rec B)) (View B)) (r : Rule program key s) (k : IsHeldWith (contents_of s) id t h.task)
      → Law P key.cells (read_to (contents_of s) id t h.task k h.wait h.way (f (word s.words i) h.walker))
      × May (word s.words i))
      → Allows (Rule program key) slots id m i (λ n. n) (walk_load task f May (step slots i 0 0 none) m)
  walk_allowed slots id m i t task f May e h keeps_law =
      law_allowed program key slots id m i (walk_load task f May (step slots i 0 0 none) m) (λ s r at.
      let g = walk_with (f (word s.words i)) in
      let l = keeps_law s r (held_by_view s id t m.0 at h.task h.held) in
      let d = does.Walking h.wait h.way (f (word s.words i) h.walker) in
      let now : g h.task.does ≡ d = ap g h.does in
      let walked : (does.Walking h.wait h.way h.walker) ≡ h.task.does = sym h.does in (
        turned t g m.0,
        (
          turned_seat t g m.0 h.task h.held key d now
              (λ a. absurd (subst DoesRun (sym walked) a)) (λ a. tt) (λ a. a) (r.seats id m.0 at),
          r.pushed id m.0 at,
        ),
        subst (λ z. Law P key.cells record { words = words_say s.words; slots = s.homes; seats = z })
            (sym (turned_seats s id t g m.0 at h.task h.held d now)) l.0,
        (refl, ap (λ z. turned z g m.0) (sym e), l.1),
      ))

  -- OTHERS is small
  pub others_small : OthersAreFew → (s : State (Option (Rec B)) (View B)) → Rule program key s
      → word s.words others_at < 2 ^ 32
  others_small few s r = let c = few _ r.law.facts in let l = r.law.lots.all in let n = r.few_cells in
      let t = total_fits (λ (v : View B). v.cleared) (λ (v : View B). v.lot) s.views
      (λ j v e. (r.seats j v e).within_lot.cleared_fit) in
      omega arith

  module _ (event_keeps : EventKeepsFacts) (slots id : ℕ) (m : SeatMe B) where
    -- the load of COUNT
    pub count_read_allowed : (t task cells : ℕ) → task ≡ t → cells ≡ key.cells
        → IsWalking t (λ p way w. MayCount way w) m.0
        → Allows (Rule program key) slots id m count_at (λ n. n)
        (walk_load task (λ n. count_read (min n cells)) (IsCount cells) (step slots count_at 0 0 none) m)
    count_read_allowed t task cells e q h = back
        (λ j. Allows (Rule program key) slots id m count_at (λ n. n)
        (walk_load task (λ n. count_read (min n (q j))) (IsCount (q j)) (step slots count_at 0 0 none) m))
        (walk_allowed slots id m count_at t task (λ n. count_read (min n key.cells)) (IsCount key.cells) e h
        (λ s r k. (
          law_reads_count event_keeps r.law id t h.task k h.wait h.way h.walker h.does h.may,
          r.law.facts.makers.root_there,
        )))

    -- the load of OWN of the present cell, for the first or the second time
    pub owner_read_allowed : (t task cells c i : ℕ) → task ≡ t → cells ≡ key.cells → i ≡ own_at c → c < key.cells
        → IsWalking t (λ p way w. (c ≡ present p w.trail) × MayLoadOwner w) m.0
        → Allows (Rule program key) slots id m i (λ n. n)
        (walk_load task (λ n w. owner_seen (owner_in n) w w.last) (λ n. n ≤ cells) (step slots i 0 0 none) m)
    owner_read_allowed t task cells c i e q at_word l h = back
        (λ j. Allows (Rule program key) slots id m (at_word j) (λ n. n)
        (walk_load task (λ n w. owner_seen (owner_in n) w w.last) (λ n. n ≤ q j) (step slots (at_word j) 0 0 none) m))
        (walk_allowed slots id m (own_at c) t task (λ n w. owner_seen (owner_in n) w w.last) (λ n. n ≤ key.cells) e h
        (λ s r k. let x = contents_of s in (
          subst (λ z. Law P key.cells (read_to x id t h.task k h.wait h.way
              (owner_seen (x.words.own z) h.walker h.walker.last))) (sym h.may.0)
              (law_reads_seen event_keeps r.law id t h.task k h.wait h.way h.walker h.does h.may.1),
          (r.codes.each c l).own,
        )))

    -- the load of PHASE of the owner that was read
    pub wait_read_allowed : (t task u owner cells i : ℕ) → task ≡ t → owner ≡ u → cells ≡ key.cells → i ≡ phase_at u
        → u < key.cells
        → IsWalking t (λ p way w. MayLoadWait t u w) m.0
        → Allows (Rule program key) slots id m i (λ n. n)
        (walk_load task (λ n. wait_found owner (wait_in (phase_in n))) (IsPhaseWord cells) (step slots i 0 0 none) m)
    wait_read_allowed t task u owner cells i e o q at_word l h = back
        (λ j. Allows (Rule program key) slots id m (at_word j) (λ n. n)
        (walk_load task (λ n. wait_found (o j) (wait_in (phase_in n))) (IsPhaseWord (q j))
        (step slots (at_word j) 0 0 none) m))
        (walk_allowed slots id m (phase_at u) t task (λ n. wait_found u (wait_in (phase_in n))) (IsPhaseWord key.cells)
        e h (λ s r k. (
          law_reads_wait event_keeps r.law id t h.task k h.wait h.way h.walker h.does u h.may.0 h.may.1,
          (r.codes.each u l).phase,
        )))

    -- the load of OTHERS
    pub others_read_allowed : OthersAreFew → (t task : ℕ) → task ≡ t
        → IsWalking t (λ p way w. MayReadOthers way w) m.0
        → Allows (Rule program key) slots id m others_at (λ n. n)
        (walk_load task others_read (λ n. n < 2 ^ 32) (step slots others_at 0 0 none) m)
    others_read_allowed few t task e h =
        walk_allowed slots id m others_at t task others_read (λ n. n < 2 ^ 32) e h (λ s r k. (
          law_reads_others event_keeps r.law id t h.task k h.wait h.way h.walker h.does h.may,
          others_small few s r,
        ))
