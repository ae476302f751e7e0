-- What is found for a task after one seat's list of tasks has changed.
use Rattle.tj_words.proofs.Prelude.{Contents, Custody, Law, List, None, Option, Program, Some, [], ap, arith, at_put}
use Rattle.tj_words.proofs.Prelude.{dite, find_in, get_elem?, held_in, held_of, hold, home_of, let_go, made_by, or_else}
use Rattle.tj_words.proofs.Prelude.{owned_by, owned_of, put, put_else, put_here, refl, set, some, some-injective}
use Rattle.tj_words.proofs.Prelude.{some-ne-none, subst, suc, sym, zero, ℕ, ℕ_discrete, ◌∙◌, ◌∷◌, ◌≡◌, ◌≢◌}
use Rattle.tj_words.proofs.Events.StepEvents.{IsHeldWith}
use Rattle.tj_words.proofs.Holders.HeldTasks.{none_some, one_some, held_first, held_rest}
use Rattle.tj_words.proofs.Holders.TaskPlaces.{has_none, held_here}

-- a column that is this at one index, and as it was elsewhere
pub put_is : {A : Type 0} (f g : ℕ → A) (i : ℕ) (a : A) → g i ≡ a → ((j : ℕ) → j ≢ i → g j ≡ f j) → g ≡ put f i a
put_is f g i a here else k j = at_put f i a (λ m y. g m ≡ y) j here (else j) k

-- and one that is so already
pub put_self : {A : Type 0} (f : ℕ → A) (i : ℕ) (a : A) → f i ≡ a → f ≡ put f i a
put_self f i a e = put_is f f i a e (λ j n. refl)

module _ {A C : Type 0} where
  -- what is read at each index is kept, where it is at the one that changes
  pub put_kept : (F : ℕ → A → C) (f : ℕ → A) (i : ℕ) (a : A) → F i a ≡ F i (f i) → (j : ℕ)
      → F j (put f i a j) ≡ F j (f j)
  put_kept F f i a e j = at_put f i a (λ m y. F m y ≡ F m (f m)) j e (λ n. refl)

  -- two columns that change at one index
  pub at_two : (f : ℕ → A) (g : ℕ → C) (i : ℕ) (a : A) (b : C) (F : ℕ → A → C → Type 0) (j : ℕ)
      → F i a b → (j ≢ i → F j (f j) (g j)) → F j (put f i a j) (put g i b j)
  at_two f g i a b F j here else = dite (ℕ_discrete j i)
      (λ e. subst (λ m. F m (put f i a m) (put g i b m)) (sym e)
      (subst (F i (put f i a i)) (sym (put_here g i b)) (subst (λ y. F i y b) (sym (put_here f i a)) here)))
      (λ n. subst (F j (put f i a j)) (sym (put_else g i b j n)) (subst (λ y. F j y (g j)) (sym (put_else f i a j n))
      (else n)))

module _ {B : Type 0} where
  -- a task that is let go isn't held; each other one is as before
  pub let_go_here : (t : ℕ) (ks : List (Custody B)) → held_in (let_go t ks) t ≡ None
  let_go_here t [] = refl
  let_go_here t (k ∷ ks) = let r = let_go_here t ks in grind arith

  pub let_go_else : (t u : ℕ) (ks : List (Custody B)) → u ≢ t → held_in (let_go t ks) u ≡ held_in ks u
  let_go_else t u [] n = refl
  let_go_else t u (k ∷ ks) n = let r = let_go_else t u ks n in grind arith

  -- a task that is held from now on is found so; each other one is as before
  pub hold_here : (k : Custody B) (ks : List (Custody B)) → held_in (hold k ks) k.task ≡ Some k
  hold_here k ks = held_first k (let_go k.task ks) k.task refl

  pub hold_held : (k : Custody B) (t : ℕ) (ks : List (Custody B)) → k.task ≡ t → held_in (hold k ks) t ≡ Some k
  hold_held k t ks e = ap (held_in (hold k ks)) (sym e) ∙ hold_here k ks

  pub hold_else : (k : Custody B) (u : ℕ) (ks : List (Custody B)) → u ≢ k.task → held_in (hold k ks) u ≡ held_in ks u
  hold_else k u ks n = held_rest k (let_go k.task ks) u (λ e. n (sym e)) ∙ let_go_else k.task u ks n

  -- no seat but this has something for the task
  abbrev pub IsAlone : List (List (Custody B)) → ℕ → ℕ → Type 0
  IsAlone seats id t = (j : ℕ) (m : List (Custody B)) → j ≢ id → get_elem? seats j ≡ some m → held_in m t ≡ None

  or_none : (o : Option (Custody B)) → or_else o None ≡ o
  or_none o = grind arith

  nowhere : (seats : List (List (Custody B))) (t : ℕ)
      → ((j : ℕ) (m : List (Custody B)) → get_elem? seats j ≡ some m → held_in m t ≡ None)
      → find_in seats t ≡ None
  nowhere [] t n = refl
  nowhere (m ∷ seats) t n =
      ap (λ o. or_else o (find_in seats t)) (n 0 m refl) ∙ nowhere seats t (λ j l e. n (suc j) l e)

  -- where one seat's list changes, what it has is what is found for a task that no other seat has
  pub find_changed : (seats : List (List (Custody B))) (id t : ℕ) (ks new : List (Custody B))
      → get_elem? seats id ≡ some ks
      → IsAlone seats id t
      → find_in (set seats id new) t ≡ held_in new t
  find_changed [] id t ks new e a = absurd (some-ne-none ks (sym e))
  find_changed (m ∷ seats) zero t ks new e a =
      ap (or_else (held_in new t)) (nowhere seats t (λ j l q. a (suc j) l (λ z. let d : suc j ≡ 0 = z in cc) q))
      ∙ or_none (held_in new t)
  find_changed (m ∷ seats) (suc id) t ks new e a =
      ap (λ o. or_else o (find_in (set seats id new) t)) (a 0 m (λ z. let d : 0 ≡ suc id = z in cc) refl)
      ∙ find_changed seats id t ks new e (λ j l n q. a (suc j) l (λ z. n (cc)) q)

  -- and for each task of which it has the same the same is found
  pub find_same : (seats : List (List (Custody B))) (id t : ℕ) (ks new : List (Custody B))
      → get_elem? seats id ≡ some ks
      → held_in new t ≡ held_in ks t
      → find_in (set seats id new) t ≡ find_in seats t
  find_same [] id t ks new e q = absurd (some-ne-none ks (sym e))
  find_same (m ∷ seats) zero t ks new e q = ap (λ o. or_else o (find_in seats t))
      (q ∙ ap (λ l. held_in l t) (sym (some-injective m ks e)))
  find_same (m ∷ seats) (suc id) t ks new e q = ap (or_else (held_in m t)) (find_same seats id t ks new e q)

  -- so one entry of what is found for each task changes
  pub find_put : (seats : List (List (Custody B))) (id t : ℕ) (ks new : List (Custody B))
      → get_elem? seats id ≡ some ks
      → IsAlone seats id t
      → ((u : ℕ) → u ≢ t → held_in new u ≡ held_in ks u)
      → find_in (set seats id new) ≡ put (find_in seats) t (held_in new t)
  find_put seats id t ks new e a else = put_is (find_in seats) (find_in (set seats id new)) t (held_in new t)
      (find_changed seats id t ks new e a) (λ u n. find_same seats id u ks new e (else u n))

  module _ {program : Program B} {cells : ℕ} {x : Contents B} (r : Law program cells x) where
    -- no other seat has something for a task that this one holds, or that is held by nobody
    pub held_alone : (id t : ℕ) → (r.custody.holder t ≡ Some id) → IsAlone x.seats.tasks id t
    held_alone id t h j m n e = has_none r j t m e (λ q. n (one_some j id (sym q ∙ h)))

    pub free_alone : (id t : ℕ) → (r.custody.holder t ≡ None) → IsAlone x.seats.tasks id t
    free_alone id t h j m n e = has_none r j t m e (λ q. none_some (r.custody.holder t) j h q)

    -- a task of a seat has made as many things as what the seat has for it says, and owns what that says
    module _ (id t : ℕ) (k : Custody B) (h : IsHeldWith x id t k) where
      pub made_held_by : k.made ≡ made_by (held_of x t) (home_of x t)
      made_held_by = sym (ap (λ (o : Option (Custody B)). made_by o (home_of x t)) (held_here r id t k h))

      pub owned_held_by : k.owned ≡ owned_of x t
      owned_held_by = sym (ap (λ (o : Option (Custody B)). owned_by o (home_of x t)) (held_here r id t k h))
