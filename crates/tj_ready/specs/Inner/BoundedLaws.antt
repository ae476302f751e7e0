-- The bounded rule is kept by each step on a queue.
use Rattle.std.proofs.Common.{ℕ, zero, suc, ◌≡◌, ◌<◌, List, [], ◌∷◌, ◌++◌, All, length, set, refl, sym, subst, ap, inl, inr, arith}
use Rattle.std.specs.Prelude.{⊤}
use mathlib.Core.Option.{some, some-injective, some-ne-none}
use lib.ListN.{get_elem?}
use lib.Seq.{take-append_seam, drop-append_seam}
use Rattle.std.proofs.lemmas.List.Elements.{All-append, All-take, All-drop, All-set, All-cons, All-nil}
use Rattle.tj_base.specs.declared.cell.CellId.{CellId}
use Rattle.crossbeam_deque.specs.Tasks.{Pushes, Takes, Pops, Forks}
use Rattle.tj_ready.specs.Rules.{IsPoolRule}
use Rattle.tj_ready.specs.Queues.{IsBelow, IsLimited, IsBounded}

-- what holds of each element holds of the one at an index
at_index : {X : Type 0} (P : X → Type 0) (xs : List X) (i : ℕ) (x : X) → get_elem? xs i ≡ some x → All P xs → P x
at_index P [] i x at all = absurd (some-ne-none x (sym at))
at_index P (y ∷ ys) zero x at all = subst P (some-injective y x at) (all 0 y (omega arith))
at_index P (y ∷ ys) (suc i) x at all = at_index P ys i x at (λ k d in'. all (suc k) d (omega arith))

-- the ends of a limited queue know one limit
same_limit : (items : List CellId) (views : List ℕ) (port v : ℕ) (h : IsLimited items views) → get_elem? views port ≡
    some v → v ≡ h.limit
same_limit items views port v h at = at_index (λ u. u ≡ h.limit) views port v at h.known

-- one of them tells it to another
tells : (items : List CellId) (views : List ℕ) (port n : ℕ) (h : IsLimited items views) → n ≡ h.limit
    → IsLimited items (set views port n ++ n ∷ [])
tells items views port n h is =
    let one : All (λ v. v ≡ h.limit) (n ∷ []) = All-cons (λ v. v ≡ h.limit) n [] is (All-nil (λ v. v ≡ h.limit)) in
    record {
      limit = h.limit;
      positive = h.positive;
      below = h.below;
      known = All-append (λ v. v ≡ h.limit) (set views port n) (n ∷ [])
          (All-set (λ v. v ≡ h.limit) views port n is h.known) one;
    }

-- the lone worker and a first other end know the limit that it is told
told : (n : ℕ) → 0 < n → IsLimited [] (n ∷ n ∷ [])
told n positive =
    let is : ℕ → Type 0 = λ v. v ≡ n in
    record {
      limit = n;
      positive = positive;
      below = All-nil (IsBelow n);
      known = All-cons is n (n ∷ []) refl (All-cons is n [] refl (All-nil is));
    }

told_alone : (n port : ℕ) → 0 < n → get_elem? {A = ℕ} (0 ∷ []) port ≡ some 0 → IsLimited []
    (set (0 ∷ []) port n ++ n ∷ [])
told_alone n zero positive at = told n positive
told_alone n (suc port) positive at = absurd (some-ne-none 0 (sym at))

starts : (n port : ℕ) → 0 < n → Forks IsBounded port 0 n n
starts n port positive items views (inl u) at =
    inr (subst (λ xs. IsLimited xs (set views port n ++ n ∷ [])) (sym u.none)
    (subst (λ vs. IsLimited [] (set vs port n ++ n ∷ [])) (sym u.alone)
    (told_alone n port positive (subst (λ vs. get_elem? vs port ≡ some 0) u.alone at))))
starts n port positive items views (inr h) at =
    let is = same_limit items views port 0 h at in
    let over = h.positive in
    absurd (omega arith)

-- a lone worker that wasn't told knows the limit 0
alone_knows : (views : List ℕ) (port v : ℕ) → views ≡ 0 ∷ [] → get_elem? views port ≡ some v → v ≡ 0
alone_knows views port v alone at =
    let is : ℕ → Type 0 = λ u. u ≡ 0 in
    at_index is views port v at (subst (All is) (sym alone) (All-cons is 0 [] refl (All-nil is)))

joins : (n port : ℕ) → 0 < n → Forks IsBounded port n n n
joins n port positive items views (inl u) at = let is = alone_knows views port n u.alone at in absurd (omega arith)
joins n port positive items views (inr h) at = inr (tells items views port n h (same_limit items views port n h at))

puts_back : (port v : ℕ) (t : CellId) → t.0 < v → Pushes IsBounded port v (t ∷ []) (λ w. w ≡ v)
puts_back port v t below items views (inl u) at = let is = alone_knows views port v u.alone at in absurd (omega arith)
puts_back port v t below items views (inr h) at =
    let is = same_limit items views port v h at in
    let P = IsBelow h.limit in
    let new : All P (t ∷ []) = All-cons P t [] (omega arith) (All-nil P) in (
      v,
      inr record {
        limit = h.limit;
        positive = h.positive;
        below = All-append P items (t ∷ []) h.below new;
        known = All-set (λ u. u ≡ h.limit) views port v is h.known;
      },
      refl,
    )

taken : (P : CellId → Type 0) (xs ys : List CellId) → All P (xs ++ ys) → All P xs
taken P xs ys h = subst (All P) (take-append_seam xs ys) (All-take P (length xs) (xs ++ ys) h)

left : (P : CellId → Type 0) (xs ys : List CellId) → All P (xs ++ ys) → All P ys
left P xs ys h = subst (All P) (drop-append_seam xs ys) (All-drop P (length xs) (xs ++ ys) h)

-- a list with an element isn't empty
not_empty : (xs ys : List CellId) → 0 < length xs → xs ++ ys ≡ [] → ⊥
not_empty [] ys long none = absurd (omega arith)
not_empty (x ∷ xs) ys long none = let e = ap length none in absurd (omega arith)

not_empty_behind : (xs : List CellId) (x : CellId) → xs ++ x ∷ [] ≡ [] → ⊥
not_empty_behind [] x none = let e = ap length none in absurd (omega arith)
not_empty_behind (y ∷ xs) x none = let e = ap length none in absurd (omega arith)

takes_front : (port v : ℕ) → Takes IsBounded port v 1 (λ ts w. (w ≡ v) × All (IsBelow v) ts)
takes_front port v xs items views long few (inl u) at = absurd (not_empty xs items long u.none)
takes_front port v xs items views long few (inr h) at =
    let is = same_limit (xs ++ items) views port v h at in (
      v,
      inr record {
        limit = h.limit;
        positive = h.positive;
        below = left (IsBelow h.limit) xs items h.below;
        known = All-set (λ u. u ≡ h.limit) views port v is h.known;
      },
      (refl, subst (λ n. All (IsBelow n) xs) (sym is) (taken (IsBelow h.limit) xs items h.below)),
    )

takes_back : (port v : ℕ) → Pops IsBounded port v (λ ts w. (w ≡ v) × All (IsBelow v) ts)
takes_back port v x items views (inl u) at = absurd (not_empty_behind items x u.none)
takes_back port v x items views (inr h) at =
    let is = same_limit (items ++ x ∷ []) views port v h at in (
      v,
      inr record {
        limit = h.limit;
        positive = h.positive;
        below = taken (IsBelow h.limit) items (x ∷ []) h.below;
        known = All-set (λ u. u ≡ h.limit) views port v is h.known;
      },
      (refl, subst (λ n. All (IsBelow n) (x ∷ [])) (sym is) (left (IsBelow h.limit) items (x ∷ []) h.below)),
    )

pub kept : IsPoolRule IsBounded 0 (λ n. n) (λ n. n) (λ v. v) (λ v ts w. w ≡ v) (λ v ts w. (w ≡ v) × All (IsBelow v) ts)
    (λ _. ⊤) (λ _. ⊤)
kept = record {
  begins = inl record { none = refl; alone = refl };
  starts = starts;
  own_limit = λ n. refl;
  joins = joins;
  other_limit = λ n. refl;
  puts_back = puts_back;
  put_limit = λ v w t is. is;
  takes_front = takes_front;
  takes_back = takes_back;
  taken_limit = λ v w t is. is.0;
  taken_below = λ v w t is. is.1 0 t (omega arith);
  finds_none = λ port v views h at. tt;
  finds_few = λ port v items views small h at. tt;
}
