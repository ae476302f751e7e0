-- A child's name tells its maker's name and its number.
use Rattle.std.proofs.Common.{◌≡◌, ◌≢◌, ℕ, [], ◌∷◌, refl, sym}
use Rattle.tj_base.specs.ForkOrder.{Name, child}

-- a child's name isn't the root's
pub child_some : (a : Name) (k : ℕ) → child a k ≢ []
child_some [] k e = absurd (cc)
child_some (x ∷ a) k e = absurd (cc)

-- children with one name have one maker and one number
pub child_same : (a b : Name) (j k : ℕ) → child a j ≡ child b k → (a ≡ b) × (j ≡ k)
child_same [] [] j k e = (refl, cc)
child_same [] (y ∷ b) j k e = let q : [] ≡ child b k = cc in absurd (child_some b k (sym q))
child_same (x ∷ a) [] j k e = let q : child a j ≡ [] = cc in absurd (child_some a j q)
child_same (x ∷ a) (y ∷ b) j k e =
    let head : x ≡ y = cc in
    let tail : child a j ≡ child b k = cc in
    let h = child_same a b j k tail in ((λ i. head i ∷ h.0 i), h.1)
