-- What a seat has for its tasks, noted step by step as a task makes a cell.
use Rattle.tj_cells.proofs.Prelude.{Custody, List, Some, [], ap, cond, eq-eqb, held_in, ne_eqb, new_task, noted}
use Rattle.tj_cells.proofs.Prelude.{noted_here, refl, runs_on, sym, ℕ, ◌∙◌, ◌∷◌, ◌≡◌, ◌≢◌}
use mathlib.Core.Logic.{dite}
use native.Mathlib.Decide.{ℕ_discrete}
use Rattle.tj_words.specs.SeatViews.TaskLists.{let_go, hold}
use Rattle.tj_words.specs.Calls.DrawViews.{made_one, owns_also}
use Rattle.tj_words.proofs.Holders.HeldChanges.{held_task}
use Rattle.tj_words.proofs.Holders.NotedTasks.{noted_is}
use Rattle.tj_cells.specs.MadeCells.{makes_promise, makes_task, new_born}

module _ {B : Type 0} where
  -- what is let go of twice
  pub let_go_again : (t : ℕ) (ks : List (Custody B)) → let_go t (let_go t ks) ≡ let_go t ks
  let_go_again t [] = refl
  let_go_again t (k ∷ ks) = dite (ℕ_discrete k.task t)
      (λ e. ap (λ l. let_go t l) (dropped k e) ∙ (let_go_again t ks ∙ sym (dropped k e)))
      (λ n. ap (λ l. let_go t l) (kept k n) ∙ (kept_on n ∙ (ap (λ l. k ∷ l) (let_go_again t ks) ∙ sym (kept k n))))
    where
      dropped : (z : Custody B) → z.task ≡ t → let_go t (z ∷ ks) ≡ let_go t ks
      dropped z e = ap (λ b. cond b (let_go t ks) (z ∷ let_go t ks)) (eq-eqb z.task t e)

      kept : (z : Custody B) → z.task ≢ t → let_go t (z ∷ ks) ≡ z ∷ let_go t ks
      kept z n = ap (λ b. cond b (let_go t ks) (z ∷ let_go t ks)) (ne_eqb z.task t n)

      kept_on : k.task ≢ t → let_go t (k ∷ let_go t ks) ≡ k ∷ let_go t (let_go t ks)
      kept_on n = ap (λ b. cond b (let_go t (let_go t ks)) (k ∷ let_go t (let_go t ks))) (ne_eqb k.task t n)

  -- an element that is let go of, and one that isn't
  pub let_go_first : (t : ℕ) (k : Custody B) (ks : List (Custody B)) → k.task ≡ t → let_go t (k ∷ ks) ≡ let_go t ks
  let_go_first t k ks e = ap (λ b. cond b (let_go t ks) (k ∷ let_go t ks)) (eq-eqb k.task t e)

  pub let_go_other : (t : ℕ) (k : Custody B) (ks : List (Custody B)) → k.task ≢ t
      → let_go t (k ∷ ks) ≡ k ∷ let_go t ks
  let_go_other t k ks n = ap (λ b. cond b (let_go t ks) (k ∷ let_go t ks)) (ne_eqb k.task t n)

  module _ (ks : List (Custody B)) (t : ℕ) (k : Custody B) (held : held_in ks t ≡ Some k) where
    -- what is noted of a task, in front of what the seat has for the others
    pub noted_front : (f : Custody B → Custody B) → (f k).task ≡ k.task → noted t f ks ≡ f k ∷ let_go t ks
    noted_front f same = noted_is ks t k f held
        ∙ ap (λ u. f k ∷ let_go u ks) (same ∙ held_task ks t k held)

    -- what is noted of it one after the other
    pub noted_again : (f g : Custody B → Custody B) → (f k).task ≡ k.task → (g (f k)).task ≡ k.task
        → noted t g (noted t f ks) ≡ noted t (λ z. g (f z)) ks
    noted_again f g same_f same_g =
        noted_is (noted t f ks) t (f k) g (noted_here ks t k f held same_f)
        ∙ (ap (λ u. g (f k) ∷ let_go u (noted t f ks)) (same_g ∙ task)
        ∙ (ap (λ l. g (f k) ∷ let_go t l) (noted_front f same_f)
        ∙ (ap (λ l. g (f k) ∷ l) (let_go_first t (f k) (let_go t ks) (same_f ∙ task) ∙ let_go_again t ks)
        ∙ sym (noted_front (λ z. g (f z)) same_g))))
      where
        task : k.task ≡ t
        task = held_task ks t k held

    module _ (c : ℕ) where
      -- a promise is made: the draw, one thing more, and what is owned
      pub promise_notes : noted t (owns_also c) (noted t made_one (noted t runs_on ks)) ≡ noted t (makes_promise c) ks
      promise_notes = ap (noted t (owns_also c)) (noted_again runs_on made_one refl refl)
          ∙ noted_again (λ z. made_one (runs_on z)) (owns_also c) refl refl

      -- a task is made, which stands in front from the draw on
      module _ (apart : t ≢ c) where
        task : k.task ≡ t
        task = held_task ks t k held

        other : k.task ≢ c
        other e = apart (sym task ∙ e)

        abbrev drawn : List (Custody B)
        drawn = new_task c ∷ noted t runs_on ks

        pub maker_held : held_in drawn t ≡ Some (runs_on k)
        maker_held = ap (λ b. cond b (Some (new_task c)) (held_in (noted t runs_on ks) t))
            (ne_eqb c t (λ e. apart (sym e)))
            ∙ noted_here ks t k runs_on held refl

        abbrev made : List (Custody B)
        made = noted t made_one drawn

        made_is : made ≡ makes_task k ∷ new_task c ∷ let_go t ks
        made_is = noted_is drawn t (runs_on k) made_one maker_held
            ∙ (ap (λ u. makes_task k ∷ let_go u drawn) task
            ∙ ap (λ l. makes_task k ∷ l) (let_go_other t (new_task c) (noted t runs_on ks) (λ e. apart (sym e))
            ∙ ap (λ l. new_task c ∷ l) (ap (let_go t) (noted_front runs_on refl)
            ∙ (let_go_first t (runs_on k) (let_go t ks) task ∙ let_go_again t ks))))

        child_held : held_in made c ≡ Some (new_task c)
        child_held = ap (λ l. held_in l c) made_is
            ∙ (ap (λ b. cond b (Some (makes_task k)) (held_in (new_task c ∷ let_go t ks) c)) (ne_eqb k.task c other)
            ∙ ap (λ b. cond b (Some (new_task c)) (held_in (let_go t ks) c)) (eq-eqb c c refl))

        pub task_notes : noted c (owns_also c) made ≡ hold (new_born c) (noted t makes_task ks)
        task_notes = noted_is made c (new_task c) (owns_also c) child_held
            ∙ ap (λ l. new_born c ∷ l)
            (ap (let_go c) made_is
            ∙ (let_go_other c (makes_task k) (new_task c ∷ let_go t ks) other
            ∙ (ap (λ l. makes_task k ∷ l) (let_go_first c (new_task c) (let_go t ks) refl)
            ∙ sym (ap (let_go c) (noted_front makes_task refl)
            ∙ let_go_other c (makes_task k) (let_go t ks) other))))
