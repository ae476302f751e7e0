-- How ways and cycles go on from one relation to another.
use Rattle.std.proofs.Common.{◌≡◌, ℕ, zero, suc, ◌+◌, ◌-◌, ◌<◌, Bool, List, [], ◌∷◌, subst, arith}
use Rattle.tj_base.specs.Cycles.{LeadsToOne, LeadsAlong, Reaches, IsOnCycleOf, IsOnCycle, IsCycle}
use Rattle.tj_base.proofs.Ways.{reach_front, reach_split, reach_one, cycle_at, cycle_leads}

module _ {A : Type 0} (Leads Leads' : A → A → Type 0)
    (two : (a b c : A) → Leads a b → Leads b c → Leads' a b) where
  -- where each step that goes on is kept, each way that goes on is kept
  pub reach_moves : (a : A) (k : ℕ) (y z : A) → Reaches Leads a k y → Leads y z → Reaches Leads' a k y
  reach_moves a zero y z r l = r
  reach_moves a (suc k) y z r l = (r.0, reach_moves a k r.0 y r.1 r.2, two r.0 y z r.2 l)

  -- and each way from a node to itself
  pub return_moves : (a : A) (n : ℕ) → 0 < n → Reaches Leads a n a → Reaches Leads' a n a
  return_moves a zero h r = absurd (omega arith)
  return_moves a (suc m) h r = let x = reach_front Leads a m a r in reach_moves a (suc m) a x.0 r x.1

  first_step : (a z : A) (bs : List A) → LeadsAlong Leads a bs z → (b : A) × Leads a b
  first_step a z [] l = (z, l)
  first_step a z (b ∷ bs) l = (b, l.0)

  along_moves : (a z : A) (bs : List A) → ((y : A) × Leads z y) → LeadsAlong Leads a bs z → LeadsAlong Leads' a bs z
  along_moves a z [] y l = two a z y.0 l y.1
  along_moves a z (b ∷ bs) y l = let x = first_step b z bs l.1 in (two a b x.0 l.0 x.1, along_moves b z bs y l.1)

  -- and each cycle, as a list of nodes
  pub cycle_list_moves : (equal : A → A → Bool) (nodes : List A) → IsCycle Leads equal nodes
      → IsCycle Leads' equal nodes
  cycle_list_moves equal [] c = c
  cycle_list_moves equal (a ∷ bs) c = (c.0, along_moves a a bs (first_step a a bs c.1) c.1)

  module _ (one : LeadsToOne Leads) (one' : LeadsToOne Leads') where
    -- and each cycle, with as many nodes
    pub cycle_moves : (a : A) (n : ℕ) → IsOnCycleOf Leads a n → IsOnCycleOf Leads' a n
    cycle_moves a n c = record {
      some = c.some;
      round = return_moves a n c.some c.round;
      least = λ k x y r.
          let e : n ≡ (n - k) + k = omega arith in
          let b = reach_split Leads a k (n - k) a (subst (λ z. Reaches Leads a z a) e c.round) in
          let l = cycle_leads Leads b.0 n (cycle_at Leads one a n k b.0 c b.1) in
          let s = reach_moves a k b.0 l.0 b.1 l.1 in
          c.least k x y (subst (Reaches Leads a k) (reach_one Leads' one' a k b.0 a s r) b.1);
    }

    -- who is on a cycle stays on one
    pub on_cycle_moves : (a : A) → IsOnCycle Leads a → IsOnCycle Leads' a
    on_cycle_moves a c = (c.0, cycle_moves a c.0 c.1)
