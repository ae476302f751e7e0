-- What is put below causes that are known by names follows from them, and nothing strays.
use Rattle.std.proofs.Common.{◌≡◌, ℕ, zero, suc, ◌+◌, Bool, true, false, cond, List, [], ◌∷◌, ◌++◌, map, Option, Some, None}
use Rattle.std.proofs.Common.{refl, sym, ap, subst, ◌∙◌, ◌⊎◌, inl, inr, arith}
use Rattle.std.specs.Prelude.{option_and_then}
use Rattle.std.specs.List.{position_from}
use Rattle.tj_base.specs.ForkOrder.{Name}
use Rattle.tj_body.specs.Names.{has}
use Rattle.tj_body.specs.Points.{IsIn}
use Rattle.tj_body.proofs.Lists.{in_either}
use Rattle.tj_forest.proofs.Roots.{put_roots}
use Rattle.tj_findings.specs.Forests.{Forest, Tree, cause_from, names_of_cause, put, put_all, put_below}
use Rattle.tj_findings.specs.Forests.{put_named}
use Rattle.tj_findings.specs.declared.finding.Finding.{Finding}

module _ (Follows : Finding → Finding → Type 0) where
  -- the finding follows from the root with this number
  abbrev pub FollowsAt : ℕ → Finding → List Finding → Type 0
  FollowsAt n f [] = ⊥
  FollowsAt zero f (r ∷ rs) = Follows r f
  FollowsAt (suc n) f (r ∷ rs) = FollowsAt n f rs

  -- what stands below each root follows from it
  abbrev pub AreFollowed : List Tree → Type 0
  AreFollowed [] = Unit {0}
  AreFollowed (t ∷ ts) = ((g : Finding) → IsIn g t.below → Follows t.root g) × AreFollowed ts

  -- one finding more below a tree
  one_more : (t : Tree) (f : Finding) → ((g : Finding) → IsIn g t.below → Follows t.root g) → Follows t.root f
      → (g : Finding) → IsIn g (t.below ++ f ∷ []) → Follows t.root g
  one_more t f old new g i = by (in_either g t.below (f ∷ []) i) where
    by : IsIn g t.below ⊎ IsIn g (f ∷ []) → Follows t.root g
    by (inl j) = old g j
    by (inr (inl e)) = subst (Follows t.root) (sym e) new
    by (inr (inr j)) = absurd j

  below_followed : (n : ℕ) (f : Finding) (ts : List Tree) → FollowsAt n f (map (λ (t : Tree). t.root) ts)
      → AreFollowed ts → AreFollowed (put_below n f ts)
  below_followed n f [] follows are = absurd follows
  below_followed zero f (t ∷ ts) follows are = (one_more t f are.0 follows, are.1)
  below_followed (suc n) f (t ∷ ts) follows are = (are.0, below_followed n f ts follows are.1)

  -- what the cause that is known by the name says
  abbrev pub IsKnown : List Finding → Option Name × Finding → Type 0
  IsKnown fs k = (n : ℕ) × (option_and_then (cause_from 0 fs) k.0 ≡ Some n) × FollowsAt n k.1 fs

  -- a forest in order, with these roots
  pub record AreBelow (fs : List Finding) (forest : Forest) : Type 0 where
    pub roots : map (λ (t : Tree). t.root) forest.trees ≡ fs
    pub followed : AreFollowed forest.trees
    pub no_strays : forest.strays ≡ []

  one_below : (fs : List Finding) (k : Option Name × Finding) (forest : Forest) → IsKnown fs k → AreBelow fs forest
      → AreBelow fs (put_named fs forest k)
  one_below fs k forest known are =
      subst (λ n. AreBelow fs (put n k.1 forest)) (sym known.1) (record {
        roots = put_roots (Some known.0) k.1 forest ∙ are.roots;
        followed = below_followed known.0 k.1 forest.trees
            (subst (FollowsAt known.0 k.1) (sym are.roots) known.2) are.followed;
        no_strays = are.no_strays;
      })

  -- all of them
  pub all_below : (fs : List Finding) (ks : List (Option Name × Finding)) (forest : Forest)
      → ((k : Option Name × Finding) → IsIn k ks → IsKnown fs k) → AreBelow fs forest
      → AreBelow fs (put_all fs forest ks)
  all_below fs [] forest known are = are
  all_below fs (k ∷ ks) forest known are =
      all_below fs ks (put_named fs forest k) (λ j i. known j (inr i))
      (one_below fs k forest (known k (inl refl)) are)

  -- the first root that passes a test, where what passes it is followed
  first_followed : (p : Finding → Bool) (fs : List Finding) (n : ℕ) (f : Finding)
      → ((h : Finding) → IsIn h fs → p h ≡ true → Follows h f) → (g : Finding) → IsIn g fs → p g ≡ true
      → (i : ℕ) × (position_from p n fs ≡ Some (n + i)) × FollowsAt i f fs
  first_followed p [] n f all g i is = absurd i
  first_followed p (x ∷ xs) n f all g i is =
      by (p x) refl i (λ j. first_followed p xs (n + 1) f (λ h k. all h (inr k)) g j is) where
        by : (b : Bool) → p x ≡ b → IsIn g (x ∷ xs)
            → (IsIn g xs → (i : ℕ) × (position_from p (n + 1) xs ≡ Some (n + 1 + i)) × FollowsAt i f xs)
            → (i : ℕ) × (cond b (Some n) (position_from p (n + 1) xs) ≡ Some (n + i)) × FollowsAt i f (x ∷ xs)
        by true here i rest = let same : n ≡ n + 0 = omega arith in (0, ap (λ k. Some k) same, all x (inl refl) here)
        by false here (inl e) rest =
            absurd (let z : true ≡ false = sym is ∙ ap p e ∙ here in cc)
        by false here (inr j) rest =
            let r = rest j in
            let sum : n + 1 + r.0 ≡ n + suc r.0 = omega arith in
            (suc r.0, r.1 ∙ ap (λ k. Some k) sum, r.2)

  -- the finding has its place below the first cause that is known by the name
  pub known_first : (x : Name) (fs : List Finding) (f : Finding)
      → ((h : Finding) → IsIn h fs → has x (names_of_cause h) ≡ true → Follows h f) → (g : Finding) → IsIn g fs
      → has x (names_of_cause g) ≡ true → IsKnown fs (Some x, f)
  known_first x fs f all g i is =
      let r = first_followed (λ h. has x (names_of_cause h)) fs 0 f all g i is in
      let same : 0 + r.0 ≡ r.0 = omega arith in
      (r.0, r.1 ∙ ap (λ k. Some k) same, r.2)

  -- what is followed below each root
  pub followed_in : (ts : List Tree) → AreFollowed ts → (t : Tree) → IsIn t ts → (g : Finding) → IsIn g t.below
      → Follows t.root g
  followed_in [] are t i g j = absurd i
  followed_in (u ∷ us) are t (inl e) g j =
      subst (λ (v : Tree). Follows v.root g) (sym e) (are.0 g (subst (λ (v : Tree). IsIn g v.below) e j))
  followed_in (u ∷ us) are t (inr i) g j = followed_in us are.1 t i g j
