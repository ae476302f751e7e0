-- Cycles as lists of nodes.
use Rattle.std.proofs.Common.{◌≡◌, ◌≢◌, ℕ, zero, suc, ◌<◌, ◌≤◌, Bool, true, false, List, [], ◌∷◌, length, get_or}
use Rattle.std.proofs.Common.{refl, sym, ap, ◌∙◌, subst, arith}
use Rattle.std.specs.Bool.{Decides}
use Rattle.std.specs.Cmp.{IsEquivalence}
use Rattle.std.specs.List.{Contains, IsDistinct}
use Rattle.std.proofs.lemmas.Map.Keys.{IsDistinct-from_apart, apart_from_distinct}
use native.Mathlib.Decide.{ℕ_discrete}
use mathlib.Core.Logic.{dite}
use Rattle.std.proofs.lemmas.Map.Made.{is_member-Decides, length-le_from_is_member}
use Rattle.tj_base.specs.Cycles.{LeadsToOne, LeadsAlong, Reaches, IsOnCycleOf, IsCycle}
use Rattle.tj_base.proofs.Ways.{reach_one, reach_front, reach_after, cycle_at, cycle_once, cycle_leads, size_one}

module _ {A : Type 0} (Leads : A → A → Type 0) where
  -- the nodes between the ends of a way
  pub between : (a : A) (m : ℕ) (z : A) → Reaches Leads a (suc m) z
      → (bs : List A) × LeadsAlong Leads a bs z × (length bs ≡ m)
  between a zero z r = ([], subst (λ y. Leads y z) (sym r.1) r.2, refl)
  between a (suc m) z r =
      let x = reach_front Leads a (suc m) z r in let y = between x.0 m z x.2 in (x.0 ∷ y.0, (x.1, y.1), ap suc y.2)

  -- the way through the nodes of a list
  pub through : (a z : A) (bs : List A) → LeadsAlong Leads a bs z → Reaches Leads a (suc (length bs)) z
  through a z [] l = (a, refl, l)
  through a z (b ∷ bs) l = reach_after Leads a b (suc (length bs)) z l.0 (through b z bs l.1)

  -- the node at index i of such a list is reached by i steps
  pub at_index : (a z : A) (bs : List A) → LeadsAlong Leads a bs z → (i : ℕ) (d : A) → i < suc (length bs)
      → Reaches Leads a i (get_or (a ∷ bs) i d)
  at_index a z bs l zero d h = refl
  at_index a z [] l (suc i) d h = absurd (omega arith)
  at_index a z (b ∷ bs) l (suc i) d h =
      reach_after Leads a b i (get_or (b ∷ bs) i d) l.0 (at_index b z bs l.1 i d (omega arith))

module _ {A : Type 0} (Leads : A → A → Type 0) (one : LeadsToOne Leads) where
  -- as many steps lead through the same nodes
  pub along_one : (a y z : A) (bs cs : List A) → LeadsAlong Leads a bs y → LeadsAlong Leads a cs z
      → length bs ≡ length cs → bs ≡ cs
  along_one a y z [] [] p q e = refl
  along_one a y z [] (c ∷ cs) p q e = absurd (omega arith)
  along_one a y z (b ∷ bs) [] p q e = absurd (omega arith)
  along_one a y z (b ∷ bs) (c ∷ cs) p q e =
      let first : b ≡ c = one a b c p.0 q.0 in
      let rest : bs ≡ cs =
      along_one c y z bs cs (subst (λ x. LeadsAlong Leads x bs y) first p.1) q.1 (omega arith) in cc

  module _ (equal : A → A → Bool) (same : (a b : A) → Decides (equal a b) (a ≡ b)) where
    -- nodes that differ aren't equal
    apart : (a b : A) → a ≢ b → equal a b ≡ false
    apart a b n = by (equal a b) refl where
      by : (r : Bool) → equal a b ≡ r → r ≡ false
      by true e = absurd (n ((same a b).0 e))
      by false e = refl

    distinct : (a z : A) (bs : List A) → LeadsAlong Leads a bs z → (n : ℕ) → suc (length bs) ≡ n
        → IsOnCycleOf Leads a n → IsDistinct equal (a ∷ bs)
    distinct a z bs l n e c = IsDistinct-from_apart equal (a ∷ bs) (λ i j d x y.
        apart (get_or (a ∷ bs) i d) (get_or (a ∷ bs) j d) (λ q.
        cycle_once Leads one a n i j (get_or (a ∷ bs) j d) c x (omega arith)
        (subst (Reaches Leads a i) q (at_index Leads a z bs l i d (omega arith))) (at_index Leads a z bs l j d y)))

    -- the first node of a cycle is on one of as many nodes
    pub first_round : (a : A) (bs : List A) → IsCycle Leads equal (a ∷ bs) → IsOnCycleOf Leads a (suc (length bs))
    first_round a bs c = record {
      some = omega arith;
      round = through Leads a a bs c.1;
      least = λ k x y r.
          let q : a ≡ get_or (a ∷ bs) k a =
          reach_one Leads one a k a (get_or (a ∷ bs) k a) r (at_index Leads a a bs c.1 k a y) in
          let e = apart_from_distinct equal (a ∷ bs) 0 k a c.0 x y in
          let f = (same a (get_or (a ∷ bs) k a)).1 q in
          let z : false ≡ true = sym e ∙ f in absurd (cc);
    }

    -- the nodes of a way back to the first of them, which comes back no sooner, are a cycle
    pub along_cycle : (a : A) (bs : List A) → LeadsAlong Leads a bs a
        → ((k : ℕ) → 0 < k → k < suc (length bs) → ¬ Reaches Leads a k a) → IsCycle Leads equal (a ∷ bs)
    along_cycle a bs l none =
        let c : IsOnCycleOf Leads a (suc (length bs)) =
        record { some = omega arith; round = through Leads a a bs l; least = none } in
        (distinct a a bs l (suc (length bs)) refl c, l)

    -- a node that is on a cycle of n nodes is the first of one
    pub returns_are_cycles : (a : A) (n : ℕ) → IsOnCycleOf Leads a n
        → (bs : List A) × IsCycle Leads equal (a ∷ bs) × (length (a ∷ bs) ≡ n)
    returns_are_cycles a zero c = let h = c.some in absurd (omega arith)
    returns_are_cycles a (suc m) c =
        let y = between Leads a m a c.round in
        (y.0, (distinct a a y.0 y.1 (suc m) (ap suc y.2) c, y.1), ap suc y.2)

    -- each node of a cycle is on a cycle of that many nodes
    pub cycles_return : (nodes : List A) (a : A) → IsCycle Leads equal nodes → Contains nodes a
        → IsOnCycleOf Leads a (length nodes)
    cycles_return [] a c h = absurd c
    cycles_return (b ∷ bs) a c h =
        cycle_at Leads one b (suc (length bs)) h.0 a (first_round b bs c)
        (subst (Reaches Leads b h.0) h.2 (at_index Leads b b bs c.1 h.0 a h.1))

    -- what is reached from a cycle's first node is a node of it
    pub reached_contained : (a : A) (bs : List A) → IsCycle Leads equal (a ∷ bs) → (k : ℕ) (z : A)
        → Reaches Leads a k z → Contains (a ∷ bs) z
    reached_contained a bs c k z r =
        let x = at_an_index k z r in
        (x.0, x.1, reach_one Leads one a x.0 (get_or (a ∷ bs) x.0 z) z (at_index Leads a a bs c.1 x.0 z x.1) x.2)
      where
        at_an_index : (k : ℕ) (z : A) → Reaches Leads a k z → (i : ℕ) × (i < suc (length bs)) × Reaches Leads a i z
        at_an_index zero z r = (0, omega arith, r)
        at_an_index (suc k) z r =
            let x = at_an_index k r.0 r.1 in
            let small = x.1 in
            dite (ℕ_discrete (suc x.0) (suc (length bs)))
            (λ e. (
              0,
              omega arith,
              reach_one Leads one a (suc (length bs)) a z (through Leads a a bs c.1)
                  (subst (λ n. Reaches Leads a n z) e (r.0, x.2, r.2)),
            ))
            (λ n. (suc x.0, omega arith, (r.0, x.2, r.2)))

    -- the nodes of a cycle from a on are one list
    pub cycle_one : (a : A) (bs cs : List A) → IsCycle Leads equal (a ∷ bs) → IsCycle Leads equal (a ∷ cs) → bs ≡ cs
    cycle_one a bs cs p q =
        let e = size_one Leads a (suc (length bs)) (suc (length cs)) (first_round a bs p) (first_round a cs q) in
        along_one a a a bs cs p.1 q.1 (omega arith)

    -- a cycle fits into each list of all nodes that lead on
    pub cycle_fits : IsEquivalence equal → (all : List A) → ((a b : A) → Leads a b → Contains all a)
        → (a : A) (n : ℕ) → IsOnCycleOf Leads a n → n ≤ length all
    cycle_fits laws all there a n c =
        let x = returns_are_cycles a n c in
        subst (λ m. m ≤ length all) x.2 (length-le_from_is_member laws (a ∷ x.0) all x.1.0
        (λ q h.
        let w = (is_member-Decides same (a ∷ x.0) q).0 h in
        let l = cycle_leads Leads q (length (a ∷ x.0)) (cycles_return (a ∷ x.0) q x.1 w) in
        (is_member-Decides same all q).1 (there q l.0 l.1)))
