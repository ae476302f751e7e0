-- Ways and cycles of a relation as those of another one, whose nodes are images of the first one's: cells and names.
use Rattle.std.proofs.Common.{◌≡◌, ℕ, zero, suc, ◌<◌, Bool, List, [], ◌∷◌, map, length, refl, sym, ap, ◌∙◌, subst}
use Rattle.std.specs.Bool.{Decides}
use Rattle.tj_base.specs.Cycles.{LeadsToOne, LeadsAlong, Reaches, IsOnCycleOf, IsCycle}
use Rattle.tj_base.proofs.CycleLists.{first_round, along_cycle}

-- the nodes that are there go into nodes of another relation, each to one of its own, with all their steps
pub record AreImages {A B : Type 0} (f : A → B) (There : A → Type 0) (Leads : A → A → Type 0)
    (Leads' : B → B → Type 0) : Type 0 where
  pub stay : (a b : A) → Leads a b → There b
  pub steps : (a b : A) → Leads a b → Leads' (f a) (f b)
  pub back : (a : A) → There a → (y : B) → Leads' (f a) y → (b : A) × Leads a b × (f b ≡ y)
  pub apart : (a b : A) → There a → There b → f a ≡ f b → a ≡ b

module _ {A B : Type 0} (f : A → B) (There : A → Type 0) (Leads : A → A → Type 0) (Leads' : B → B → Type 0)
    (image : AreImages f There Leads Leads') where
  -- what is reached is there
  reach_stays : (a : A) → There a → (k : ℕ) (z : A) → Reaches Leads a k z → There z
  reach_stays a h zero z r = subst There r h
  reach_stays a h (suc k) z r = image.stay r.0 z r.2

  -- a way's image is a way
  pub reach_to : (a : A) (k : ℕ) (z : A) → Reaches Leads a k z → Reaches Leads' (f a) k (f z)
  reach_to a zero z r = ap f r
  reach_to a (suc k) z r = (f r.0, reach_to a k r.0 r.1, image.steps r.0 z r.2)

  -- and each way from an image is one
  pub reach_from : (a : A) → There a → (k : ℕ) (y : B) → Reaches Leads' (f a) k y
      → (z : A) × Reaches Leads a k z × (f z ≡ y)
  reach_from a h zero y r = (a, refl, r)
  reach_from a h (suc k) y r =
      let x = reach_from a h k r.0 r.1 in
      let l = image.back x.0 (reach_stays a h k x.0 x.1) y (subst (λ z. Leads' z y) (sym x.2) r.2) in
      (l.0, (x.0, x.1, l.1), l.2)

  -- the same of ways as lists of nodes
  pub along_to : (a z : A) (bs : List A) → LeadsAlong Leads a bs z → LeadsAlong Leads' (f a) (map f bs) (f z)
  along_to a z [] l = image.steps a z l
  along_to a z (b ∷ bs) l = (image.steps a b l.0, along_to b z bs l.1)

  pub along_from : (a : A) → There a → (y : B) (ys : List B) → LeadsAlong Leads' (f a) ys y
      → (bs : List A) × (z : A) × There z × LeadsAlong Leads a bs z × (map f bs ≡ ys) × (f z ≡ y)
  along_from a h y [] l = let x = image.back a h y l in ([], x.0, image.stay a x.0 x.1, x.1, refl, x.2)
  along_from a h y (x ∷ xs) l =
      let b = image.back a h x l.0 in
      let r = along_from b.0 (image.stay a b.0 b.1) y xs (subst (λ z. LeadsAlong Leads' z xs y) (sym b.2) l.1) in
      (b.0 ∷ r.0, r.1, r.2, (b.1, r.3), (λ i. b.2 i ∷ r.4 i), r.5)

  same_length : (bs : List A) → length (map f bs) ≡ length bs
  same_length [] = refl
  same_length (b ∷ bs) = ap suc (same_length bs)

  -- a cycle's image is a cycle
  pub cycle_to : (a : A) (n : ℕ) → There a → IsOnCycleOf Leads a n → IsOnCycleOf Leads' (f a) n
  cycle_to a n h c = record {
    some = c.some;
    round = reach_to a n a c.round;
    least = λ k x y r.
        let b = reach_from a h k (f a) r in
        c.least k x y (subst (Reaches Leads a k) (image.apart b.0 a (reach_stays a h k b.0 b.1) h b.2) b.1);
  }

  -- and what has a cycle as its image is on one
  pub cycle_from : (a : A) (n : ℕ) → There a → IsOnCycleOf Leads' (f a) n → IsOnCycleOf Leads a n
  cycle_from a n h c = record {
    some = c.some;
    round = let b = reach_from a h n (f a) c.round in
        subst (Reaches Leads a n) (image.apart b.0 a (reach_stays a h n b.0 b.1) h b.2) b.1;
    least = λ k x y r. c.least k x y (reach_to a k a r);
  }

  module _ (one : LeadsToOne Leads) (one' : LeadsToOne Leads')
      (equal : A → A → Bool) (same : (a b : A) → Decides (equal a b) (a ≡ b))
      (equal' : B → B → Bool) (same' : (a b : B) → Decides (equal' a b) (a ≡ b)) where
    -- the same of cycles as lists of nodes
    pub cycle_list_to : (a : A) (bs : List A) → There a → IsCycle Leads equal (a ∷ bs)
        → IsCycle Leads' equal' (f a ∷ map f bs)
    cycle_list_to a bs h c =
        let m = cycle_to a (suc (length bs)) h (first_round Leads one equal same a bs c) in
        along_cycle Leads' one' equal' same' (f a) (map f bs) (along_to a a bs c.1)
        (λ k x y. m.least k x (subst (λ n. k < suc n) (same_length bs) y))

    pub cycle_list_from : (a : A) (ys : List B) → There a → IsCycle Leads' equal' (f a ∷ ys)
        → (bs : List A) × IsCycle Leads equal (a ∷ bs) × (map f bs ≡ ys)
    cycle_list_from a ys h c =
        let m = cycle_from a (suc (length ys)) h (first_round Leads' one' equal' same' (f a) ys c) in
        let r = along_from a h (f a) ys c.1 in
        let home : LeadsAlong Leads a r.0 a = subst (LeadsAlong Leads a r.0) (image.apart r.1 a r.2 h r.5) r.3 in (
          r.0,
          along_cycle Leads one equal same a r.0 home (λ k x y. m.least k x (subst (λ n. k < suc n)
              (sym (same_length r.0) ∙ ap (λ zs. length zs) r.4) y)),
          r.4,
        )
