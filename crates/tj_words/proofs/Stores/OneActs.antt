-- Where a seat takes one slot, gives one back, or leaves them, the slots that it has then tell what it did.
use Rattle.std.proofs.Common.{List, [], ap, arith, length, refl, subst, suc, sym, ℕ, ◌∷◌, ◌≡◌, ◌≤◌}
use mathlib.Core.Option.{Option}
use Rattle.atomic_table.specs.Table.{Act, Valid, carried_after, chain, gives, homes_after, keeps, rest, takes}
use Rattle.tj_log.specs.Runs.{IsPlain}

module _ {S : Type 0} where
  apart : (slots : List (ℕ × S)) (x : ℕ × S) → slots ≡ x ∷ slots → ⊥
  apart slots x e = let l : length slots ≡ suc (length slots) = ap (λ (z : List (ℕ × S)). length z) e in omega arith

  rest_short : (slots : List (ℕ × S)) → length (rest slots) ≤ length slots
  rest_short [] = omega arith
  rest_short (x ∷ slots) = omega arith

  shorter : (slots : List (ℕ × S)) (x : ℕ × S) → x ∷ slots ≡ rest slots → ⊥
  shorter slots x e = let l : suc (length slots) ≡ length (rest slots) = ap (λ (z : List (ℕ × S)). length z) e in
      let few = rest_short slots in omega (arith, l, few)

  abbrev first : List (ℕ × S) → Act S
  first [] = keeps
  first (x ∷ slots) = takes x.0 x.1

  -- what is at home then is the same, too
  abbrev pub DoesSame : List (Option S) → List (ℕ × S) → Act S → Act S → Type 0
  DoesSame homes slots a b = Valid homes slots b × (homes_after homes slots a ≡ homes_after homes slots b)

  both_keep : (homes : List (Option S)) (slots : List (ℕ × S)) → slots ≡ rest slots → DoesSame homes slots keeps gives
  both_keep homes [] e = (tt, refl)
  both_keep homes (x ∷ slots) e = absurd (apart slots x (sym e))

  both_give : (homes : List (Option S)) (slots : List (ℕ × S)) → rest slots ≡ slots → DoesSame homes slots gives keeps
  both_give homes [] e = (tt, refl)
  both_give homes (x ∷ slots) e = absurd (apart slots x e)

  same_taken : (homes : List (Option S)) (slots : List (ℕ × S)) (a b : Act S) → Valid homes slots a → a ≡ b
      → DoesSame homes slots a b
  same_taken homes slots a b v e = (subst (Valid homes slots) e v, ap (homes_after homes slots) e)

  pub same_act : (homes : List (Option S)) (slots : List (ℕ × S)) (a b : Act S) → IsPlain a → IsPlain b
      → Valid homes slots a → carried_after slots a ≡ carried_after slots b → DoesSame homes slots a b
  same_act homes slots keeps keeps p q v e = (tt, refl)
  same_act homes slots keeps (takes k y) p q v e = absurd (apart slots (k, y) e)
  same_act homes slots keeps gives p q v e = both_keep homes slots e
  same_act homes slots (takes k y) keeps p q v e = absurd (apart slots (k, y) (sym e))
  same_act homes slots (takes k y) (takes j z) p q v e =
      same_taken homes slots (takes k y) (takes j z) v (ap first e)
  same_act homes slots (takes k y) gives p q v e = absurd (shorter slots (k, y) e)
  same_act homes slots gives keeps p q v e = both_give homes slots e
  same_act homes slots gives (takes k y) p q v e = absurd (shorter slots (k, y) (sym e))
  same_act homes slots gives gives p q v e = (tt, refl)
  same_act homes slots (chain c d) b p q v e = absurd p
  same_act homes slots a (chain c d) p q v e = absurd q
