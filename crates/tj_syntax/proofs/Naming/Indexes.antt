-- A map of numbers stays in step with the list of its names.
use Rattle.std.proofs.Common.{◌≡◌, ℕ, ◌+◌, ◌<◌, Bool, true, false, cond, List, [], ◌∷◌, ◌++◌, length, Option, Some}
use Rattle.std.proofs.Common.{None, refl, ap, sym, ◌∙◌, arith, nat_cmp, subst, ⊎_elim}
use Rattle.std.specs.List.{position_from}
use Rattle.std.specs.Str.{bytes_eq}
use Rattle.std.specs.Map.{update}
use Rattle.std.specs.BTreeMap.{BTreeMap, get_by}
use Rattle.std.specs.Cmp.Lexicographic.{slice_cmp}
use Rattle.std.proofs.lemmas.Slice.Eq.{bytes_eq-Decides}
use Rattle.std.proofs.lemmas.Bool.{cases_Bool}
use denote.Ref.{Bor}
use Rattle.tj_syntax.specs.Inner.Index.{IsIndexed}
use Rattle.tj_syntax.specs.Marks.{index_of}

-- the first of two answers, where it is one
first_some : Option ℕ → Option ℕ → Option ℕ
first_some None other = other
first_some (Some n) other = Some n

position_from-push : (test : List ℕ → Bool) (y : List ℕ) (i : ℕ) (names : List (List ℕ))
    → position_from test i (names ++ y ∷ []) ≡ first_some (position_from test i names) (cond (test y) (Some (i + length
    names)) None)
unfolding first_some
position_from-push test y i [] = grind arith
position_from-push test y i (x ∷ names) = let more = position_from-push test y (i + 1) names in let far : (i + 1) +
    length names ≡ i + length (x ∷ names) = omega arith in
    elim (test x) as (λ v. cond v (Some i) (position_from test (i + 1) (names ++ y ∷ [])) ≡ first_some (cond v (Some i)
    (position_from test (i + 1) names)) (cond (test y) (Some (i + length (x ∷ names))) None)) [
      | true ↦ refl
      | false ↦ more ∙ ap (λ n. first_some (position_from test (i + 1) names) (cond (test y) (Some n) None))
          far
    ]

-- an index is within the list
position_from-below : (test : List ℕ → Bool) (i n : ℕ) (names : List (List ℕ)) → position_from test i names ≡ Some n →
    n < i + length names
position_from-below test i n [] e = cc
position_from-below test i n (x ∷ names) e = let far : (i + 1) + length names ≡ i + length (x ∷ names) = omega arith in
    ⊎_elim
    (λ t. let here : Some i ≡ Some n = subst (λ v. cond v (Some i) (position_from test (i + 1) names) ≡ Some n) t e in
    let same : i ≡ n = cc in omega arith)
    (λ f. let later : position_from test (i + 1) names ≡ Some n = subst (λ v. cond v (Some i) (position_from test (i +
    1) names) ≡ Some n) f e in
    let below = position_from-below test (i + 1) n names later in omega arith)
    (cases_Bool (test x))

pub index_of-below : (names : List (List ℕ)) (x : List ℕ) (n : ℕ) → index_of names x ≡ Some n → n < length names
index_of-below names x n e = let below = position_from-below (λ name. bytes_eq name x) 0 n names e in omega arith

first_some-none : (o : Option ℕ) → first_some o None ≡ o
unfolding first_some
first_some-none None = refl
first_some-none (Some n) = refl

-- the index of a name behind one more that wasn't there
pub index_of-push : (x y : List ℕ) (names : List (List ℕ)) → index_of names y ≡ None
    → index_of (names ++ y ∷ []) x ≡ cond (bytes_eq y x) (Some (length names)) (index_of names x)
unfolding first_some
index_of-push x y names absent =
    let pushed = position_from-push (λ name. bytes_eq name x) y 0 names in
    let here : 0 + length names ≡ length names = omega arith in
    ⊎_elim
    (λ e. let same : y ≡ x = (bytes_eq-Decides y x).0 e in
    let gone : index_of names x ≡ None = subst (λ z. index_of names z ≡ None) same absent in
    pushed ∙ rw (e, gone, here) refl)
    (λ e. pushed ∙ rw e (first_some-none (index_of names x)))
    (cases_Bool (bytes_eq y x))

pub indexed_push : (names : List (List ℕ)) (y : List ℕ) (m n : BTreeMap (Bor (List ℕ)) ℕ) → IsIndexed names m
    → index_of names y ≡ None
    → ((x : List ℕ) → get_by (λ k. slice_cmp nat_cmp x k.now) n ≡ update bytes_eq (λ z. get_by (λ k. slice_cmp nat_cmp
    z k.now) m) y (Some (length names)) x)
    → IsIndexed (names ++ y ∷ []) n
indexed_push names y m n indexed absent updated = λ x. updated x ∙ ap (λ o. cond (bytes_eq y x) (Some (length names))
    o) (indexed x) ∙ sym (index_of-push x y names absent)
