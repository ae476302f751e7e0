-- Points that are kept without what was handed on: each stands for the point of rounds that it is with it.
use Rattle.std.proofs.Common.{◌≡◌, ℕ, zero, suc, ◌+◌, ◌<◌, ◌⊎◌, inl, inr, List, [], ◌∷◌, ◌++◌, map, length, get_or}
use Rattle.std.proofs.Common.{refl, sym, ap, ◌∙◌, subst, arith, append-nil}
use Rattle.std.specs.Prelude.{slice_set}
use Rattle.tj_base.specs.ForkOrder.{Name}
use Rattle.tj_body.specs.History.{Assignment, start}
use Rattle.tj_body.specs.Points.{IsIn, HasStopped}
use Rattle.tj_body.specs.declared.point.Entry.{Entry}
use Rattle.tj_body.specs.declared.point.Task.{Task}
use Rattle.tj_body.specs.declared.point.Point.{Point}
use Rattle.tj_body.proofs.Counts.{total}
use Rattle.tj_mean.specs.Inner.KeptPoints.{IsKept, AreKept}
use Rattle.tj_mean.specs.Inner.Reached.{emptied}
use Rattle.tj_mean.specs.Outcomes.{body_of}
use Rattle.tj_mean.proofs.AtWork.Fronts.{with_front}

-- a list with one element replaced
module _ {A : Type 0} where
  pub in_set : (l : List A) (i : ℕ) (x y : A) → IsIn y (slice_set l i x) → (y ≡ x) ⊎ IsIn y l
  in_set [] i x y h = absurd h
  in_set (z ∷ zs) zero x y (inl e) = inl e
  in_set (z ∷ zs) zero x y (inr h) = inr (inr h)
  in_set (z ∷ zs) (suc i) x y (inl e) = inr (inl e)
  in_set (z ∷ zs) (suc i) x y (inr h) = by (in_set zs i x y h) where
    by : (y ≡ x) ⊎ IsIn y zs → (y ≡ x) ⊎ IsIn y (z ∷ zs)
    by (inl e) = inl e
    by (inr j) = inr (inr j)

  pub in_at : (l : List A) (i : ℕ) (d : A) → i < length l → IsIn (get_or l i d) l
  in_at [] i d h = absurd (omega arith)
  in_at (z ∷ zs) zero d h = inl refl
  in_at (z ∷ zs) (suc i) d h = inr (in_at zs i d (omega arith))

  pub total_set : (f : A → ℕ) (l : List A) (i : ℕ) (x d : A) → i < length l
      → total f (slice_set l i x) + f (get_or l i d) ≡ total f l + f x
  total_set f [] i x d h = absurd (omega arith)
  total_set f (z ∷ zs) zero x d h = omega arith
  total_set f (z ∷ zs) (suc i) x d h = let r = total_set f zs i x d (omega arith) in omega arith

module _ {B : Type 0} where
  pub kept_at : (qs ps : List (Point B)) → AreKept qs ps → (i : ℕ) (d e : Point B) → i < length qs
      → IsKept (get_or qs i d) (get_or ps i e)
  kept_at [] [] a i d e h = absurd (omega arith)
  kept_at [] (p ∷ ps) a i d e h = absurd a
  kept_at (q ∷ qs) [] a i d e h = absurd a
  kept_at (q ∷ qs) (p ∷ ps) a zero d e h = a.0
  kept_at (q ∷ qs) (p ∷ ps) a (suc i) d e h = kept_at qs ps a.1 i d e (omega arith)

  pub kept_set : (qs ps : List (Point B)) → AreKept qs ps → (i : ℕ) (q p : Point B) → IsKept q p
      → AreKept (slice_set qs i q) (slice_set ps i p)
  kept_set [] [] a i q p k = tt
  kept_set [] (y ∷ ys) a i q p k = absurd a
  kept_set (x ∷ xs) [] a i q p k = absurd a
  kept_set (x ∷ xs) (y ∷ ys) a zero q p k = (k, a.1)
  kept_set (x ∷ xs) (y ∷ ys) a (suc i) q p k = (a.0, kept_set xs ys a.1 i q p k)

  pub kept_append : (qs ps rs os : List (Point B)) → AreKept qs ps → AreKept rs os → AreKept (qs ++ rs) (ps ++ os)
  kept_append [] [] rs os a b = b
  kept_append [] (p ∷ ps) rs os a b = absurd a
  kept_append (q ∷ qs) [] rs os a b = absurd a
  kept_append (q ∷ qs) (p ∷ ps) rs os a b = (a.0, kept_append qs ps rs os a.1 b)

  kept_start : (c : Task B) → IsKept (start c) (start c)
  kept_start c = record {
    handed_children = [];
    handed_writes = [];
    stands_for = refl;
    no_children = refl;
    no_writes = refl;
  }

  -- tasks that begin
  pub kept_starts : (cs : List (Task B)) → AreKept (map (λ c. start c) cs) (map (λ c. start c) cs)
  kept_starts [] = tt
  kept_starts (c ∷ cs) = (kept_start c, kept_starts cs)

  pub kept_length : (qs ps : List (Point B)) → AreKept qs ps → length qs ≡ length ps
  kept_length [] [] a = refl
  kept_length [] (p ∷ ps) a = absurd a
  kept_length (q ∷ qs) [] a = absurd a
  kept_length (q ∷ qs) (p ∷ ps) a = ap suc (kept_length qs ps a.1)

  -- as many things were made
  pub kept_made : (qs ps : List (Point B)) → AreKept qs ps
      → total (λ (p : Point B). p.made) qs ≡ total (λ (p : Point B). p.made) ps
  kept_made [] [] a = refl
  kept_made [] (p ∷ ps) a = absurd a
  kept_made (q ∷ qs) [] a = absurd a
  kept_made (q ∷ qs) (p ∷ ps) a =
      let e : p.made ≡ q.made = ap (λ (z : Point B). z.made) a.0.stands_for in
      let r = kept_made qs ps a.1 in omega arith

  -- the same is told of them with their bodies
  pub kept_bodies : (qs ps : List (Point B)) → AreKept qs ps → map body_of ps ≡ map body_of qs
  kept_bodies [] [] a = refl
  kept_bodies [] (p ∷ ps) a = absurd a
  kept_bodies (q ∷ qs) [] a = absurd a
  kept_bodies (q ∷ qs) (p ∷ ps) a =
      let e : body_of p ≡ body_of q = ap body_of a.0.stands_for in
      let r = kept_bodies qs ps a.1 in λ i. e i ∷ r i

  -- where all kept points have stopped, so have those that they stand for
  pub kept_stopped : (V : Assignment) (qs ps : List (Point B)) → AreKept qs ps
      → ((q : Point B) → IsIn q qs → HasStopped V q) → (p : Point B) → IsIn p ps → HasStopped V p
  kept_stopped V [] [] a h p i = absurd i
  kept_stopped V [] (x ∷ ps) a h p i = absurd a
  kept_stopped V (q ∷ qs) [] a h p i = absurd a
  kept_stopped V (q ∷ qs) (x ∷ ps) a h p (inl e) =
      subst (HasStopped V) (sym (e ∙ a.0.stands_for)) (h q (inl refl))
  kept_stopped V (q ∷ qs) (x ∷ ps) a h p (inr i) = kept_stopped V qs ps a.1 (λ r j. h r (inr j)) p i

  -- a kept point is the whole point without a front
  pub kept_front : (q p : Point B) (k : IsKept q p) → p ≡ with_front k.handed_children k.handed_writes q
  kept_front q p k = k.stands_for ∙ whole where
    children : k.handed_children ≡ k.handed_children ++ q.children
    children = sym (append-nil k.handed_children) ∙ ap (λ z. k.handed_children ++ z) (sym k.no_children)

    writes : k.handed_writes ≡ k.handed_writes ++ q.writes
    writes = sym (append-nil k.handed_writes) ∙ ap (λ z. k.handed_writes ++ z) (sym k.no_writes)

    whole : record q { children = k.handed_children; writes = k.handed_writes }
        ≡ with_front k.handed_children k.handed_writes q
    whole = λ i. record q { children = children i; writes = writes i }

  -- what is left when it was handed on is kept
  pub kept_emptied : (cs : List (Task B)) (ws : List (Name × Entry)) (q : Point B)
      → IsKept (emptied q) (with_front cs ws q)
  kept_emptied cs ws q = record {
    handed_children = cs ++ q.children;
    handed_writes = ws ++ q.writes;
    stands_for = refl;
    no_children = refl;
    no_writes = refl;
  }

-- an element at an index doesn't hang on what stands for none
pub any_default : {A : Type 0} (l : List A) (i : ℕ) → i < length l → (d e : A) → get_or l i d ≡ get_or l i e
any_default [] i h d e = absurd (omega arith)
any_default (x ∷ xs) zero h d e = refl
any_default (x ∷ xs) (suc i) h d e = any_default xs i (omega arith) d e

-- where the task at each index has stopped, all have
pub all_stopped : {B : Type 0} (V : Assignment) (l : List (Point B))
    → ((i : ℕ) (d : Point B) → i < length l → HasStopped V (get_or l i d)) → (p : Point B) → IsIn p l → HasStopped V p
all_stopped V [] h p i = absurd i
all_stopped V (x ∷ xs) h p (inl e) = subst (HasStopped V) (sym e) (h zero p (omega arith))
all_stopped V (x ∷ xs) h p (inr i) = all_stopped V xs (λ k d l. h (suc k) d (omega arith)) p i
