-- A cell more is drawn: custody, and the words that are written once. Its drawer holds it, if it is a task, and is to
-- write its words of the tree.
use Rattle.tj_words.proofs.Prelude.{Custodies, Custody, Due, Forks, Hand, HasInHand, IsCustody, IsDue, IsEmpty, IsIn}
use Rattle.tj_words.proofs.Prelude.{IsKept, IsOfTree, IsThere, List, None, OfSeat, Once, OnceWords, Option, Phase}
use Rattle.tj_words.proofs.Prelude.{SeenWord, Slots, Some, Sort, ap, arith, at_put, dite, get_elem?, held_in, home_in}
use Rattle.tj_words.proofs.Prelude.{inl, inr, new_dues, new_task, new_tasks, none, put, refl, set, set_again, set_else}
use Rattle.tj_words.proofs.Prelude.{some, sort_shown, subst, suc, sym, tree_word, ℕ, ℕ_discrete, ◌++◌, ◌<◌, ◌∙◌, ◌∷◌}
use Rattle.tj_words.proofs.Prelude.{◌≡◌, ◌≢◌, ◌≤◌, ◌⊎◌}
use Rattle.tj_words.proofs.Lemmas.{back, each_set, held_first, held_rest, home_else_out, home_out, inside, none_some}
use Rattle.tj_words.proofs.Lemmas.{of_seat_here, of_seat_set, once_more, one_some, put_else, put_here}
use Rattle.tj_words.proofs.Events.DrawEvents.{empty_none}
use Rattle.tj_base.specs.declared.cell.Sort.TheVariants as sort
use Rattle.tj_words.specs.declared.phase.Phase.TheVariants as phase

-- the slots once the drawer of a task has the one of its cell
abbrev pub slots_after : {B : Type 0} → ℕ → Sort → Slots B → Slots B
slots_after n sort.Promise slots = slots
slots_after n sort.Task slots = set slots n none

module _ {B : Type 0} {cells n : ℕ} {hand : ℕ → Option Hand} {phases : ℕ → Phase} {slots : Slots B}
    {tasks : List (List (Custody B))} (c : Custodies cells n hand phases slots tasks) (room : n < cells) where
  -- the slot of the next cell is at home, and empty
  next_slot : IsEmpty slots n
  next_slot = c.undrawn_empty n (omega arith) room

  -- the same records lie at home
  pub homes_after : (o : Sort) (t : ℕ) → home_in (slots_after n o slots) t ≡ home_in slots t
  homes_after sort.Promise t = refl
  homes_after sort.Task t = dite (ℕ_discrete t n)
      (λ e. ap (home_in (set slots n none)) e
      ∙ (home_out slots n (inside slots n (some None) next_slot)
      ∙ sym (ap (home_in slots) e ∙ empty_none slots n next_slot)))
      (λ z. home_else_out slots n t z)

  -- the hands after the draw
  module _ (hand' : ℕ → Option Hand) (else : (t : ℕ) → t ≢ n → hand' t ≡ hand t) where
    abbrev sorts : ℕ → Sort
    sorts t = sort_shown (hand' t) (phases t)

    was : (t : ℕ) (p : Sort) → t ≢ n → sorts t ≡ p → sort_shown (hand t) (phases t) ≡ p
    was t p z s = sym (ap (λ q. sort_shown q (phases t)) (else t z)) ∙ s

    -- a cell of another sort than the new one is an old one
    old_cell : (t : ℕ) (o p : Sort) → sorts n ≡ o → sorts t ≡ p → o ≢ p → t ≢ n
    old_cell t o p is s d e = d (sym is ∙ (ap sorts (sym e) ∙ s))

    promise_drawn : sorts n ≡ sort.Promise → Custodies cells (suc n) hand' phases slots tasks
    promise_drawn is = record {
      holder = c.holder;
      tasks_kept = λ t l s. let z = old_cell t sort.Promise sort.Task is s (λ e. cc) in
          c.tasks_kept t (omega arith) (was t sort.Task z s);
      promises_empty = λ t l s. dite (ℕ_discrete t n)
          (λ e. subst (λ z. IsEmpty slots z × (c.holder z ≡ None)) (sym e)
          (next_slot, c.undrawn_free n (omega arith)))
          (λ z. c.promises_empty t (omega arith) (was t sort.Promise z s));
      undrawn_empty = λ t l. c.undrawn_empty t (omega arith);
      undrawn_free = λ t l. c.undrawn_free t (omega arith);
      held = c.held;
      holders = c.holders;
      own_slots = c.own_slots;
    }

    module _ (unborn : phases n ≡ phase.Unborn) (id : ℕ) (ks : List (Custody B))
        (at : get_elem? tasks id ≡ some ks) where
      abbrev holder' : ℕ → Option ℕ
      holder' = put c.holder n (Some id)

      abbrev slots' : Slots B
      slots' = set slots n none

      abbrev Has : ℕ → List (Custody B) → Type 0
      Has t l = (k : Custody B) × (held_in l t ≡ Some k)

      kept : (j t : ℕ) (k : Custody B) → IsCustody c.holder phases (home_in slots) j t k
          → IsCustody holder' phases (home_in slots') j t k
      kept j t k i =
          let z : t ≢ n = λ e. none_some (c.holder n) j (c.undrawn_free n (omega arith))
          (ap c.holder (sym e) ∙ i.mine) in
          record {
            mine = put_else c.holder n t (Some id) z ∙ i.mine;
            does = i.does;
            laid = λ r y. let w = i.laid r y in record {
              here = homes_after sort.Task t ∙ w.here;
              owned = w.owned;
              made = w.made;
            };
            out = λ y. homes_after sort.Task t ∙ i.out y;
          }

      task_drawn : sorts n ≡ sort.Task
          → Custodies cells (suc n) hand' phases slots' (set tasks id (new_task n ∷ ks))
      task_drawn is = record {
        holder = holder';
        tasks_kept = λ t l s. back (λ j. IsKept (phases t) (holder' t) (homes_after sort.Task t j))
            (at_put c.holder n (Some id) (λ t h. IsKept (phases t) h (home_in slots t)) t
            (subst (λ p. IsKept p (Some id) (home_in slots n)) (sym unborn) (id, refl))
            (λ z. c.tasks_kept t (omega arith) (was t sort.Task z s)));
        promises_empty = λ t l s. let z = old_cell t sort.Task sort.Promise is s (λ e. cc) in
            let w = c.promises_empty t (omega arith) (was t sort.Promise z s) in
            (set_else slots n t none z ∙ w.0, put_else c.holder n t (Some id) z ∙ w.1);
        undrawn_empty = λ t l m. set_else slots n t none (λ e. omega arith) ∙ c.undrawn_empty t (omega arith) m;
        undrawn_free = λ t l. put_else c.holder n t (Some id) (λ e. omega arith) ∙ c.undrawn_free t (omega arith);
        held = each_set (λ j l. (t : ℕ) (k : Custody B) → held_in l t ≡ Some k
            → IsCustody holder' phases (home_in slots') j t k) tasks id (new_task n ∷ ks)
            (λ j l e t k q. kept j t k (c.held j l e t k q))
            (λ t k q. dite (ℕ_discrete n t)
            (λ e. back (λ j. IsCustody holder' phases (home_in slots') id (sym e j)
            (one_some k (new_task n) (sym q ∙ held_first (new_task n) ks t e) j)) record {
              mine = put_here c.holder n n (Some id) refl;
              does = unborn;
              laid = λ r y. none_some None r refl y;
              out = λ y. homes_after sort.Task n ∙ empty_none slots n next_slot;
            })
            (λ z. kept id t k (c.held id ks at t k (sym (held_rest (new_task n) ks t z) ∙ q))));
        holders = λ t j e. dite (ℕ_discrete t n)
            (λ q. subst (OfSeat (Has t) (set tasks id (new_task n ∷ ks)))
            (one_some id j (sym (put_here c.holder n t (Some id) q) ∙ e))
            (of_seat_here (Has t) tasks id ks (new_task n ∷ ks) at
            (new_task n, held_first (new_task n) ks t (sym q))))
            (λ z. of_seat_set (Has t) tasks id j ks (new_task n ∷ ks) at
            (λ h. (h.0, held_rest (new_task n) ks t (λ q. z (sym q)) ∙ h.1))
            (c.holders t j (sym (put_else c.holder n t (Some id) z) ∙ e)));
        own_slots = λ t r e. c.own_slots t r (sym (homes_after sort.Task t) ∙ e);
      }

      -- custody after a draw
      pub custody_drawn : (o : Sort) → sorts n ≡ o
          → Custodies cells (suc n) hand' phases (slots_after n o slots) (set tasks id (new_tasks n o ks))
      custody_drawn sort.Promise is =
          subst (Custodies cells (suc n) hand' phases slots) (sym (set_again tasks id ks at)) (promise_drawn is)
      custody_drawn sort.Task is = task_drawn is

-- the words that are due to the drawer of a cell are its words of the tree
abbrev IsNew : ℕ → Due → Type 0
IsNew c d = (d.cell ≡ c) × IsOfTree d.word

new_due : (c : ℕ) (o : Sort) (d : Due) → IsIn d (new_dues c o) → IsNew c d
new_due c sort.Promise d (inl e) = subst (IsNew c) (sym e) (refl, tt)
new_due c sort.Promise d (inr (inl e)) = subst (IsNew c) (sym e) (refl, tt)
new_due c sort.Promise d (inr (inr i)) = absurd i
new_due c sort.Task d (inl e) = subst (IsNew c) (sym e) (refl, tt)
new_due c sort.Task d (inr (inl e)) = subst (IsNew c) (sym e) (refl, tt)
new_due c sort.Task d (inr (inr (inl e))) = subst (IsNew c) (sym e) (refl, tt)
new_due c sort.Task d (inr (inr (inr (inl e)))) = subst (IsNew c) (sym e) (refl, tt)
new_due c sort.Task d (inr (inr (inr (inr i)))) = absurd i

-- each word of the tree of the cell is one of them, or is to stay 0
pub due_or_zero : (maker number : ℕ → ℕ) (forks : Forks) (c : ℕ) (o : Sort) (f : Once) → IsOfTree f
    → IsDue c f (new_dues c o) ⊎ (tree_word maker number forks o c f ≡ 0)
due_or_zero maker number forks c o f h = grind arith

module _ {n : ℕ} {hand : ℕ → Option Hand} {hands : List (Option Hand)} {own : ℕ → Option ℕ} {word : ℕ → Once → ℕ}
    {seen : List (List SeenWord)} {dues : List (List Due)} (r : OnceWords n hand hands own word seen dues)
    (id : ℕ) (o : Sort) (h : Hand) (ds : List Due) (its : h.cell ≡ n) (at : get_elem? dues id ≡ some ds)
    (free : get_elem? hands id ≡ some None) (hand' : ℕ → Option Hand)
    (on : (c : ℕ) → IsThere n hand c → IsThere (suc n) hand' c)
    (before : (c : ℕ) → IsThere (suc n) hand' c → IsThere n hand c) where
  news : (c : ℕ) (f : Once) → IsDue c f (new_dues n o) → (c ≡ n) × IsOfTree f
  news c f i = new_due n o (record { cell = c; word = f }) i

  -- words that are written once after a draw: those of the tree of the new cell are due to its drawer
  pub once_drawn : OnceWords (suc n) hand' (set hands id (Some h)) own word seen (set dues id (new_dues n o ++ ds))
  once_drawn = once_more r id ds (new_dues n o) at (omega arith)
      (λ c f i. let w = news c f i in let l : n ≤ c = (let q = w.0 in omega arith) in let u = r.undrawn c f l in
      (u.1, u.0))
      (λ c f i t l. let q = (news c f i).0 in omega arith)
      (λ c f i. let w = news c f i in record {
        tree = λ _. of_seat_here (HasInHand c) hands id None (Some h) free (h, refl, its ∙ sym w.0);
        value = λ z. absurd (z w.1);
        tag_last = λ z. absurd (z w.1);
      })
      (λ c i e. (on c i, e))
      (λ c j. of_seat_set (HasInHand c) hands id j None (Some h) free (λ y. none_some None y.0 refl y.1))
      (λ c t e. inl (before c t, e))
      (λ c f l i. let q = (news c f i).0 in omega arith)
