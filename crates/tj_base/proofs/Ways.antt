-- Ways of a relation in which each node leads to one at most, so that a way from a node is determined by its length.
use Rattle.std.proofs.Common.{◌≡◌, ◌≢◌, ℕ, zero, suc, ◌+◌, ◌-◌, ◌<◌, Bool, true, false, refl, sym, ◌∙◌, subst}
use Rattle.std.proofs.Common.{inl, inr, ◌⊎◌, ⊎_elim, arith}
use Rattle.std.specs.Bool.{Decides}
use native.Mathlib.Decide.{ℕ_discrete}
use mathlib.Core.Logic.{dite}
use Rattle.tj_base.specs.Cycles.{LeadsToOne, TellsWhetherOn, Reaches, IsOnCycleOf, IsOnCycle}

-- where a test decides equality, two values are equal or not
pub told : {A : Type 0} (equal : A → A → Bool) (same : (a b : A) → Decides (equal a b) (a ≡ b)) (a b : A)
    → (a ≡ b) ⊎ (a ≢ b)
told equal same a b = by (equal a b) refl where
  by : (r : Bool) → equal a b ≡ r → (a ≡ b) ⊎ (a ≢ b)
  by true e = inl ((same a b).0 e)
  by false e = inr (λ p. let z : false ≡ true = sym e ∙ (same a b).1 p in absurd (cc))

module _ {A : Type 0} (Leads : A → A → Type 0) where
  -- the first step of a way
  pub reach_front : (a : A) (k : ℕ) (z : A) → Reaches Leads a (suc k) z → (b : A) × Leads a b × Reaches Leads b k z
  reach_front a zero z r = (z, subst (λ y. Leads y z) (sym r.1) r.2, refl)
  reach_front a (suc k) z r = let x = reach_front a k r.0 r.1 in (x.0, x.1, (r.0, x.2, r.2))

  -- a step before a way
  pub reach_after : (a b : A) (k : ℕ) (z : A) → Leads a b → Reaches Leads b k z → Reaches Leads a (suc k) z
  reach_after a b zero z l r = (a, refl, subst (Leads a) r l)
  reach_after a b (suc k) z l r = (r.0, reach_after a b k r.0 l r.1, r.2)

  -- two ways, one after the other
  pub reach_plus : (a : A) (j : ℕ) (b : A) (k : ℕ) (z : A) → Reaches Leads a j b → Reaches Leads b k z
      → Reaches Leads a (k + j) z
  reach_plus a j b zero z p q = let e : 0 + j ≡ j = omega arith in rw e (subst (Reaches Leads a j) q p)
  reach_plus a j b (suc k) z p q =
      let e : suc k + j ≡ suc (k + j) = omega arith in rw e (q.0, reach_plus a j b k q.0 p q.1, q.2)

  -- a way taken apart after j steps
  pub reach_split : (a : A) (j k : ℕ) (z : A) → Reaches Leads a (k + j) z
      → (b : A) × Reaches Leads a j b × Reaches Leads b k z
  reach_split a j zero z r = let e : 0 + j ≡ j = omega arith in (z, subst (λ n. Reaches Leads a n z) e r, refl)
  reach_split a j (suc k) z r =
      let e : suc k + j ≡ suc (k + j) = omega arith in
      let more : Reaches Leads a (suc (k + j)) z = subst (λ n. Reaches Leads a n z) e r in
      let x = reach_split a j k more.0 more.1 in (x.0, x.1, (more.0, x.2, more.2))

  -- a node of a cycle leads on
  pub cycle_leads : (a : A) (n : ℕ) → IsOnCycleOf Leads a n → (b : A) × Leads a b
  cycle_leads a zero c = let h = c.some in absurd (omega arith)
  cycle_leads a (suc m) c = let x = reach_front a m a c.round in (x.0, x.1)

  -- a node is on a cycle of one number of nodes
  pub size_one : (a : A) (m n : ℕ) → IsOnCycleOf Leads a m → IsOnCycleOf Leads a n → m ≡ n
  size_one a m n c d =
      let not_less : ¬ (m < n) = λ h. d.least m c.some h c.round in
      let not_more : ¬ (n < m) = λ h. c.least n d.some h d.round in omega (arith, not_less, not_more)

module _ {A : Type 0} (Leads : A → A → Type 0) (one : LeadsToOne Leads) where
  -- k steps lead to one node at most
  pub reach_one : (a : A) (k : ℕ) (y z : A) → Reaches Leads a k y → Reaches Leads a k z → y ≡ z
  reach_one a zero y z p q = sym p ∙ q
  reach_one a (suc k) y z p q =
      let e = reach_one a k p.0 q.0 p.1 q.1 in one q.0 y z (subst (λ x. Leads x y) e p.2) q.2

  -- the next node of a cycle is on a cycle of as many nodes
  pub cycle_next : (a : A) (n : ℕ) (b : A) → IsOnCycleOf Leads a n → Leads a b → IsOnCycleOf Leads b n
  cycle_next a zero b c l = let h = c.some in absurd (omega arith)
  cycle_next a (suc m) b c l =
      let x = reach_front Leads a m a c.round in
      let home : Reaches Leads b m a = subst (λ z. Reaches Leads z m a) (one a x.0 b x.1 l) x.2 in
      record {
        some = omega arith;
        round = (a, home, l);
        least = λ k p q r. c.least k p q (
            let e : m + k ≡ k + m = omega arith in
            go k m a home (subst (λ n. Reaches Leads b n a) e (reach_plus Leads b k b m a r home)));
      }
    where
      go : (k j : ℕ) (z : A) → Reaches Leads b j z → Reaches Leads b (k + j) z → Reaches Leads z k z
      go k j z p q = let y = reach_split Leads b j k z q in
          subst (λ x. Reaches Leads x k z) (reach_one b j y.0 z y.1 p) y.2

  -- each node of a cycle is on a cycle of as many nodes
  pub cycle_at : (a : A) (n k : ℕ) (b : A) → IsOnCycleOf Leads a n → Reaches Leads a k b → IsOnCycleOf Leads b n
  cycle_at a n zero b c r = subst (λ z. IsOnCycleOf Leads z n) r c
  cycle_at a n (suc k) b c r = cycle_next r.0 n b (cycle_at a n k r.0 c r.1) r.2

  -- no node stands at two indexes of a cycle
  pub cycle_once : (a : A) (n j k : ℕ) (b : A) → IsOnCycleOf Leads a n → j < k → k < n → Reaches Leads a j b
      → Reaches Leads a k b → ⊥
  cycle_once a n j k b c x y p q =
      let e : n ≡ (n - k) + k = omega arith in
      let s = reach_split Leads a k (n - k) a (subst (λ z. Reaches Leads a z a) e c.round) in
      let home : Reaches Leads b (n - k) a =
      subst (λ z. Reaches Leads z (n - k) a) (reach_one a k s.0 b s.1 q) s.2 in
      c.least ((n - k) + j) (omega arith) (omega arith) (reach_plus Leads a j b (n - k) a p home)

  module _ (on : TellsWhetherOn Leads) (equal : A → A → Bool) (same : (a b : A) → Decides (equal a b) (a ≡ b)) where
    -- whether a way from a has k steps
    goes_on : (a : A) (k : ℕ) → ((b : A) × Reaches Leads a k b) ⊎ ((b : A) → ¬ Reaches Leads a k b)
    goes_on a zero = inl (a, refl)
    goes_on a (suc k) =
        ⊎_elim
        (λ (x : (b : A) × Reaches Leads a k b). ⊎_elim
        (λ (y : (c : A) × Leads x.0 c). inl (y.0, (x.0, x.1, y.1)))
        (λ (n : (c : A) → ¬ Leads x.0 c).
        inr (λ b r. n b (subst (λ z. Leads z b) (reach_one a k r.0 x.0 r.1 x.1) r.2)))
        (on x.0))
        (λ (n : (b : A) → ¬ Reaches Leads a k b). inr (λ b r. n r.0 r.1))
        (goes_on a k)

    -- whether a is reached from itself by k steps
    comes_back : (a : A) (k : ℕ) → Reaches Leads a k a ⊎ ¬ Reaches Leads a k a
    comes_back a k =
        ⊎_elim
        (λ (x : (b : A) × Reaches Leads a k b). ⊎_elim
        (λ (e : x.0 ≡ a). inl (subst (Reaches Leads a k) e x.1))
        (λ (n : x.0 ≢ a). inr (λ r. n (reach_one a k x.0 a x.1 r)))
        (told equal same x.0 a))
        (λ (n : (b : A) → ¬ Reaches Leads a k b). inr (n a))
        (goes_on a k)

    abbrev NotBack : A → ℕ → Type 0
    NotBack a n = (k : ℕ) → 0 < k → k < n → ¬ Reaches Leads a k a

    -- the first time that a is reached from itself by fewer than n steps
    first_back : (a : A) (n : ℕ) → IsOnCycle Leads a ⊎ NotBack a n
    first_back a zero = inr (λ k x y. omega arith)
    first_back a (suc n) =
        ⊎_elim
        (λ (x : IsOnCycle Leads a). inl x)
        (λ (none : NotBack a n). dite (ℕ_discrete n 0)
        (λ e. inr (λ k x y. omega arith))
        (λ d. ⊎_elim
        (λ (r : Reaches Leads a n a). inl (n, record { some = omega arith; round = r; least = none }))
        (λ (f : ¬ Reaches Leads a n a). inr (λ k x y. dite (ℕ_discrete k n)
        (λ e. subst (λ z. ¬ Reaches Leads a z a) (sym e) f) (λ e. none k x (omega arith))))
        (comes_back a n)))
        (first_back a n)

    -- a node that is reached from itself is on a cycle
    pub round_least : (a : A) (n : ℕ) → 0 < n → Reaches Leads a n a → IsOnCycle Leads a
    round_least a n x r = ⊎_elim
        (λ (c : IsOnCycle Leads a). c) (λ (f : NotBack a (suc n)). absurd (f n x (omega arith) r)) (first_back a (suc n))
