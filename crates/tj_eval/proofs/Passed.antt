-- Arguments that are put where a child has its variables, one after another.
use Rattle.std.proofs.Common.{◌≡◌, ℕ, zero, suc, ◌+◌, ◌<◌, ◌≤◌, List, [], ◌∷◌, ◌++◌, length, map, drop, get_or, refl, ap, sym, ◌∙◌}
use Rattle.std.proofs.Common.{arith, ℤ}
use Rattle.std.proofs.lemmas.List.{append-nil, length-append}
use Rattle.std.specs.Prelude.{Result, Ok, Err}
use Rattle.tj_base.specs.declared.value.Pay.{Pay}
use Rattle.tj_base.specs.declared.value.Pay.TheVariants as pay
use Rattle.tj_base.specs.declared.cause.Trouble.{Trouble}
use Rattle.tj_syntax.specs.declared.stmt.Arg.{Arg}
use Rattle.tj_syntax.specs.View.{argument}
use Rattle.tj_eval.specs.Statements as state
use Rattle.tj_eval.specs.Statements.{as_passed, references, arguments, and_more}
use Rattle.tj_eval.specs.Inner.Effects.{IsAdded}
use Rattle.tj_eval.proofs.Blocks.{ahead, ahead-one, length-references}

-- one value more behind
as_passed-one : (k : ℕ) (xs : List Pay) (v : Pay) → as_passed k (xs ++ v ∷ [])
    ≡ as_passed k xs ++ as_passed (k + length (references xs)) (v ∷ [])
as_passed-one k [] v = ap (λ n. as_passed n (v ∷ [])) (let e : k ≡ k + 0 = omega arith in e)
as_passed-one k (pay.Num n ∷ xs) v = ap (λ z. pay.Num n ∷ z) (as_passed-one k xs v)
as_passed-one k (pay.Ref p ∷ xs) v = ap (λ z. pay.Ref k ∷ z) (as_passed-one (suc k) xs v
    ∙ ap (λ n. as_passed (suc k) xs ++ as_passed n (v ∷ []))
    (let m = length (references xs) in let e : suc k + m ≡ k + suc m = omega arith in e))

references-one : (xs : List Pay) (v : Pay) → references (xs ++ v ∷ []) ≡ references xs ++ references (v ∷ [])
references-one [] v = refl
references-one (pay.Num n ∷ xs) v = references-one xs v
references-one (pay.Ref p ∷ xs) v = ap (λ z. p ∷ z) (references-one xs v)

-- as many as the values are
pub length-passed : (k : ℕ) (xs : List Pay) → length (as_passed k xs) ≡ length xs
length-passed k [] = refl
length-passed k (pay.Num n ∷ xs) = ap suc (length-passed k xs)
length-passed k (pay.Ref p ∷ xs) = ap suc (length-passed (suc k) xs)

drop-here : (all : List Arg) (i : ℕ) (x : Arg) → i < length all → x ≡ get_or all i x
    → drop i all ≡ x ∷ drop (suc i) all
drop-here [] i x l e = absurd (omega arith)
drop-here (y ∷ all) zero x l e = ap (λ z. z ∷ all) (sym e)
drop-here (y ∷ all) (suc i) x l e = drop-here all i x (omega arith) e

module _ (vars : List Pay) (all : List Arg) where
  -- what the arguments from this one on give
  abbrev pub left : ℕ → Result (List Pay) Trouble
  left i = arguments vars (map argument (drop i all))

  -- so many arguments are computed, and these are the variables and places
  abbrev pub ArePassed : ℕ → List Pay → List ℕ → Type 0
  ArePassed i values places = (done : List Pay) × (left 0 ≡ ahead done (left i)) × (values ≡ as_passed 1 done)
      × (places ≡ references done) × (length done ≡ i)

  first-of : left 0 ≡ ahead [] (left 0)
  first-of = by (left 0) where
    by : (r : Result (List Pay) Trouble) → r ≡ ahead [] r
    by (Ok x) = refl
    by (Err f) = refl

  -- none is computed
  pub none-passed : ArePassed 0 [] []
  none-passed = ([], first-of, refl, refl, refl)

  -- all are computed
  pub all-passed : (i : ℕ) (values : List Pay) (places : List ℕ) → drop i all ≡ [] → ArePassed i values places
      → (done : List Pay) × (left 0 ≡ Ok done) × (values ≡ as_passed 1 done) × (places ≡ references done)
  all-passed i values places e h = (
    h.0,
    h.1 ∙ ap (λ z. ahead h.0 (arguments vars (map argument z))) e
        ∙ ap (λ z. Ok z) (append-nil h.0),
    h.2,
    h.3,
  )

  -- the places are no more than the arguments
  pub few-passed : (i : ℕ) (values : List Pay) (places : List ℕ) → ArePassed i values places → length places ≤ i
  few-passed i values places h = let a = length-references h.0 in let b = ap length h.3 in let k = h.4 in
      omega (arith, a, b, k)

  module _ (i j : ℕ) (x : Arg) (l : i < length all) (e : x ≡ get_or all i x) (n : j ≡ suc i) where
    here : left i ≡ and_more (state.argument vars (argument x)) (left j)
    here = ap (λ z. arguments vars (map argument z)) (drop-here all i x l e)
        ∙ ap (λ k. and_more (state.argument vars (argument x)) (left k)) (sym n)

    more : (done : List Pay) (v : Pay) → left 0 ≡ ahead done (left i) → state.argument vars (argument x) ≡ Ok v
        → left 0 ≡ ahead (done ++ v ∷ []) (left j)
    more done v h c = h ∙ ap (ahead done) (here ∙ ap (λ z. and_more z (left j)) c) ∙ ahead-one done v (left j)

    module _ (values values2 : List Pay) (places places2 : List ℕ) (h : ArePassed i values places) where
      -- a reference
      reference-passed : (p : ℕ) → state.argument vars (argument x) ≡ Ok (pay.Ref p)
          → places2 ≡ places ++ p ∷ [] → values2 ≡ values ++ pay.Ref (length places2) ∷ []
          → ArePassed j values2 places2
      reference-passed p c ps vs = let done = h.0 in let count = ap length ps ∙ length-append places (p ∷ []) in
          let same = ap length h.3 in
          let place : length places2 ≡ 1 + length (references done) = omega (arith, count, same) in
          let many = length-append done (pay.Ref p ∷ []) in let was = h.4 in (
            done ++ pay.Ref p ∷ [],
            more done (pay.Ref p) h.1 c,
            vs ∙ ap (λ z. z ++ pay.Ref (length places2) ∷ []) h.2
                ∙ ap (λ z. as_passed 1 done ++ pay.Ref z ∷ []) place ∙ sym (as_passed-one 1 done (pay.Ref p)),
            ps ∙ ap (λ z. z ++ p ∷ []) h.3 ∙ sym (references-one done (pay.Ref p)),
            omega (arith, many, was, n),
          )

      -- a number
      number-passed : (k : ℤ) → state.argument vars (argument x) ≡ Ok (pay.Num k)
          → places2 ≡ places → values2 ≡ values ++ pay.Num k ∷ [] → ArePassed j values2 places2
      number-passed k c ps vs = let done = h.0 in
          let many = length-append done (pay.Num k ∷ []) in let was = h.4 in (
            done ++ pay.Num k ∷ [],
            more done (pay.Num k) h.1 c,
            vs ∙ ap (λ z. z ++ pay.Num k ∷ []) h.2 ∙ sym (as_passed-one 1 done (pay.Num k)),
            ps ∙ h.3 ∙ sym (references-one done (pay.Num k) ∙ append-nil (references done)),
            omega (arith, many, was, n),
          )

      -- one more
      pub one-passed : (v : Pay) → state.argument vars (argument x) ≡ Ok v → IsAdded v values places values2 places2
          → ArePassed j values2 places2
      one-passed (pay.Num k) c a = number-passed k c a.0 a.1
      one-passed (pay.Ref p) c a = reference-passed p c a.0 a.1
