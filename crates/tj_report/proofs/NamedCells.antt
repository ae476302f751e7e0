-- The cell with a name, by its makers.
use Rattle.tj_report.proofs.Prelude.{AreNamed, IsShown, List, Reference, RestCell, [], ap, arith, length, length-append}
use Rattle.tj_report.proofs.Prelude.{name_by, refl, suc, sym, zero, ℕ, ◌++◌, ◌<◌, ◌∙◌, ◌∷◌, ◌≡◌, ◌≤◌}
use Rattle.std.proofs.lemmas.Bool.{eq-eqb, eqb-true}
use Rattle.std.specs.Prelude.{IsTrue, ◌==◌, ◌↔◌, ◌≢◌}
use Rattle.tj_report.proofs.NamesBy.{name_made}

-- a list with an element at its end isn't the empty one
snoc_some : (xs : List ℕ) (x : ℕ) → xs ++ x ∷ [] ≡ [] → ⊥
snoc_some xs x e = let a = length-append xs (x ∷ []) in let b = ap (λ (l : List ℕ). length l) e in omega arith

-- equal lists have equal ends
snoc_one : (xs ys : List ℕ) (x y : ℕ) → xs ++ x ∷ [] ≡ ys ++ y ∷ [] → (xs ≡ ys) × (x ≡ y)
snoc_one [] [] x y e = (refl, cc)
snoc_one [] (b ∷ ys) x y e = let t : [] ≡ ys ++ y ∷ [] = cc in absurd (snoc_some ys y (sym t))
snoc_one (a ∷ xs) [] x y e = let t : xs ++ x ∷ [] ≡ [] = cc in absurd (snoc_some xs x t)
snoc_one (a ∷ xs) (b ∷ ys) x y e =
    let h : a ≡ b = cc in let t : xs ++ x ∷ [] ≡ ys ++ y ∷ [] = cc in let r = snoc_one xs ys x y t in
    (λ i. h i ∷ r.0 i, r.1)

module _ (shown : List RestCell) (born : List Reference) (named : AreNamed shown born) (at : ℕ) (x : RestCell)
    (is : IsShown shown at x) (later : 0 < at) where
  made : name_by shown at ≡ name_by shown x.parent.0 ++ x.kid ∷ []
  made = (name_made shown born named at x is later).1

  -- one maker up, and one number less
  pub up : (left before : List ℕ) (last : ℕ) → left ≡ before ++ last ∷ [] → last ≡ x.kid
      → (name_by shown at ≡ left) ↔ (name_by shown x.parent.0 ≡ before)
  up left before last split same = (
    λ e. (snoc_one (name_by shown x.parent.0) before x.kid last (sym made ∙ (e ∙ split))).0,
    λ e. made ∙ ((λ j. e j ++ sym same j ∷ []) ∙ sym split),
  )

  -- no number is left
  pub none_left : (left : List ℕ) → left ≡ [] → name_by shown at ≢ left
  none_left left none e = snoc_some (name_by shown x.parent.0) x.kid (sym made ∙ (e ∙ none))

  -- the last number is another
  pub other_last : (left before : List ℕ) (last : ℕ) → left ≡ before ++ last ∷ [] → last ≢ x.kid
      → name_by shown at ≢ left
  other_last left before last split other e =
      other (sym (snoc_one (name_by shown x.parent.0) before x.kid last (sym made ∙ (e ∙ split))).1)

  -- a name of the cell has a last number, and is its maker's without it
  pub some_left : (left : List ℕ) → left ≡ name_by shown at → 0 < length left
  some_left left e = let l = ap (λ (q : List ℕ). length q) (e ∙ made) in
      let m = length-append (name_by shown x.parent.0) (x.kid ∷ []) in omega arith

  pub maker_left : (left maker : List ℕ) (k : ℕ) → left ≡ name_by shown at → left ≡ maker ++ k ∷ []
      → maker ≡ name_by shown x.parent.0
  maker_left left maker k e split =
      (snoc_one maker (name_by shown x.parent.0) k x.kid (sym split ∙ (e ∙ made))).0

-- of two different cells the one whose number isn't smaller isn't the root
pub later_one : (c d : ℕ) → c ≢ d → d ≤ c → 0 < c
later_one zero zero differ least = absurd (differ refl)
later_one zero (suc d) differ least = absurd (omega arith)
later_one (suc c) d differ least = omega arith

-- no number is left exactly where the list is empty
pub empty_is : (left : List ℕ) (n : ℕ) → n ≡ length left → IsTrue (n == 0) ↔ ([] ≡ left)
empty_is [] n e = (λ t. refl, λ h. eq-eqb n 0 e)
empty_is (y ∷ ys) n e = (λ t. let z = eqb-true n 0 t in absurd (omega arith), λ h. absurd (cc))
