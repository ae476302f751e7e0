-- One step on one of several deques.
use Rattle.std.proofs.Common.{ℕ, zero, suc, ◌+◌, ◌≡◌, ◌<◌, List, [], ◌∷◌, ◌++◌, All, length, map, set, get_or, take, Bool, true, false, if◌then◌else◌, refl, sym, ◌∙◌, ap, subst, Option, Some, None, MatchOption, IfSome, arith}
use Rattle.std.proofs.lemmas.List.Elements.{All-append, All-cons, All-nil, All-more}
use Rattle.std.proofs.Math.ListN.{get_or-map}
use Rattle.std.proofs.lemmas.List.{map-append, length-map, length-append}
use Rattle.tj_base.specs.declared.cell.CellId.{CellId}
use Rattle.tj_ready.specs.Ends.{StepsOne}

module _ {X V : Type 0} (f : X → V) where
  -- what is known of an element changed by a step
  pub steps_there : (step : V → List CellId → V → Type 0) (xs : List X) (i : ℕ) (y d : X) (t : CellId) → i < length xs
      → step (f (get_or xs i d)) (t ∷ []) (f y) → StepsOne step (map f xs) t (map f (set xs i y))
  steps_there step [] i y d t in' by = absurd (omega arith)
  steps_there step (x ∷ xs) zero y d t in' by =
      record { front = []; old = f x; new = f y; back = map f xs; was = refl; is = refl; by = by }
  steps_there step (x ∷ xs) (suc i) y d t in' by =
      let s = steps_there step xs i y d t (omega arith) by in
      record {
        front = f x ∷ s.front;
        old = s.old;
        new = s.new;
        back = s.back;
        was = ap (λ vs. f x ∷ vs) s.was;
        is = ap (λ vs. f x ∷ vs) s.is;
        by = s.by;
      }

  -- what holds of all that is known holds with one element more
  pub one_more : (P : V → Type 0) (xs ys : List X) (x : X) → ys ≡ xs ++ x ∷ [] → P (f x) → All P (map f xs)
      → All P (map f ys)
  one_more P xs ys x is new all =
      let more = All-append P (map f xs) (f x ∷ []) all (All-cons P (f x) [] new (All-nil P)) in
      subst (All P) (sym (map-append f xs (x ∷ [])) ∙ ap (map f) (sym is)) more

  -- the same where the element could not be added
  pub maybe_more : (P : V → Type 0) (xs ys : List X) (x : X) (b : Bool) → ys ≡ (if b then xs ++ x ∷ [] else xs)
      → P (f x) → All P (map f xs) → All P (map f ys)
  maybe_more P xs ys x true is new all = one_more P xs ys x is new all
  maybe_more P xs ys x false is new all = subst (λ zs. All P (map f zs)) (sym is) all

  -- one deque more was looked at
  pub looked : (P : V → Type 0) (xs : List X) (known : List V) (i : ℕ) (d : X) → i < length xs → map f xs ≡ known
      → P (f (get_or xs i d)) → All P (take i known) → All P (take (i + 1) known)
  looked P xs known i d in' is new all =
      let in-known : i < length (map f xs) = subst (λ n. i < n) (sym (length-map xs f)) in' in
      subst (λ vs. All P (take (i + 1) vs)) is
      (All-more P (map f xs) i (f d) in-known (subst (λ vs. All P (take i vs)) (sym is) all)
      (subst P (sym (get_or-map f xs i d)) new))

module _ {V : Type 0} (P : V → Type 0) where
  -- one element was changed, and what held of each still does
  one_changed : (front back : List V) (v w : V) → (P v → P w) → All P (front ++ v ∷ back) → All P (front ++ w ∷ back)
  one_changed [] back v w keeps all = All-cons P w back (keeps (all 0 v (omega arith)))
      (λ k d in'. all (suc k) d (omega arith))
  one_changed (x ∷ xs) back v w keeps all =
      All-cons P x (xs ++ w ∷ back) (all 0 x (omega arith))
      (one_changed xs back v w keeps (λ k d in'. all (suc k) d (omega arith)))

  -- what holds of each deque before a take from one of them holds of that one
  pub one_of : (front back : List V) (v : V) → All P (front ++ v ∷ back) → P v
  one_of [] back v all = all 0 v (omega arith)
  one_of (x ∷ xs) back v all = one_of xs back v (λ k d in'. all (suc k) d (omega arith))

  module _ (step : V → List CellId → V → Type 0) where
    -- what holds of each still does after a step that keeps it
    all_step : (before : List V) (t : CellId) (after : List V) → ((v w : V) → step v (t ∷ []) w → P v → P w)
        → StepsOne step before t after → All P before → All P after
    all_step before t after keeps s all =
        subst (All P) (sym s.is)
        (one_changed s.front s.back s.old s.new (keeps s.old s.new s.by) (subst (All P) s.was all))

    -- the deque of the step, and what held of it
    pub stepped : (before : List V) (t : CellId) (after : List V) → StepsOne step before t after → All P before
        → (v : V) × (w : V) × P v × step v (t ∷ []) w
    stepped before t after s all = (s.old, s.new, one_of s.front s.back s.old (subst (All P) s.was all), s.by)

    -- whatever a look at all deques gave
    pub all_found : (none : List V → Type 0) (before : List V) (r : Option CellId) (after : List V)
        → ((v w : V) (t : CellId) → step v (t ∷ []) w → P v → P w)
        → MatchOption r ((after ≡ before) × none before) (λ t. StepsOne step before t after) → All P before
        → All P after
    all_found none before None after keeps found all = subst (All P) (sym found.0) all
    all_found none before (Some t) after keeps found all = all_step before t after (λ v w. keeps v w t) found all

-- a cell that was found is below the limit that all deques have
pub found_below : {V : Type 0} (step : V → List CellId → V → Type 0) (limit : V → ℕ) (n : ℕ) (none : List V → Type 0)
    (before : List V) (r : Option CellId) (after : List V) → ((v w : V) (t : CellId) → step v (t ∷ []) w → t.0 < limit v)
    → MatchOption r ((after ≡ before) × none before) (λ t. StepsOne step before t after) → All (λ v. limit v ≡ n) before
    → IfSome r (λ t. t.0 < n)
found_below step limit n none before None after below found all = tt
found_below step limit n none before (Some t) after below found all =
    let at = stepped (λ v. limit v ≡ n) step before t after found all in
    let less : t.0 < limit at.0 = below at.0 at.1 t at.3 in
    let is = at.2 in
    omega arith

-- one end more was made
pub one_end_more : {X : Type 0} (P : X → Type 0) (xs ys : List X) (x : X) (n : ℕ) → ys ≡ xs ++ x ∷ [] → length xs ≡ n
    → P x → All P xs → (length ys ≡ n + 1) × All P ys
one_end_more P xs ys x n is count new all =
    let size = ap length is ∙ length-append xs (x ∷ []) in
    (omega arith, subst (All P) (sym is) (All-append P xs (x ∷ []) all (All-cons P x [] new (All-nil P))))
