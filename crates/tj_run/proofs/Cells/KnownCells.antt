-- The cells that a record names are known: part by part.
use Rattle.tj_run.proofs.Prelude.{All, Held, IsIn, List, Rec, [], finish_cells, in_either, in_left, in_right, inl, inr}
use Rattle.tj_run.proofs.Prelude.{map, numbers, record_cells, refl, subst, sym, ℕ, ⊎_elim, ◌++◌, ◌∷◌}

-- the numbers are among these
abbrev pub AreKnown : List ℕ → List ℕ → Type 0
AreKnown known = All (λ c. IsIn c known)

-- the numbers of held cells
abbrev pub held_cells : List Held → List ℕ
held_cells held = map (λ (h : Held). h.cell.0) held

-- one more
pub known_more : {A : Type 0} (known : List ℕ) (f : A → ℕ) (l : List A) (a : A) → AreKnown known (map f l)
    → IsIn (f a) known
    → AreKnown known (map f (l ++ a ∷ []))
known_more known f [] a h k c (inl e) = subst (λ z. IsIn z known) (sym e) k
known_more known f [] a h k c (inr i) = absurd i
known_more known f (x ∷ l) a h k c (inl e) = h c (inl e)
known_more known f (x ∷ l) a h k c (inr i) = known_more known f l a (λ d j. h d (inr j)) k c i

module _ {B : Type 0} (known : List ℕ) (r : Rec B) where
  pub cells_known : IsIn r.cell.0 known → AreKnown known (held_cells r.held) → AreKnown known (numbers r.owned)
      → AreKnown known (numbers r.owed)
      → AreKnown known (finish_cells r.finish)
      → AreKnown known (record_cells r)
  cells_known t held owned owed ends c (inl e) = subst (λ z. IsIn z known) (sym e) t
  cells_known t held owned owed ends c (inr i) = ⊎_elim (held c)
      (λ j. ⊎_elim (owned c) (λ k. ⊎_elim (owed c) (ends c) (in_either c (numbers r.owed) (finish_cells r.finish) k))
      (in_either c (numbers r.owned) (numbers r.owed ++ finish_cells r.finish) j))
      (in_either c (held_cells r.held) (numbers r.owned ++ (numbers r.owed ++ finish_cells r.finish)) i)

  module _ (h : AreKnown known (record_cells r)) where
    pub task_known : IsIn r.cell.0 known
    task_known = h r.cell.0 (inl refl)

    pub held_known : AreKnown known (held_cells r.held)
    held_known c i = h c (inr (in_left c (held_cells r.held)
        (numbers r.owned ++ (numbers r.owed ++ finish_cells r.finish)) i))

    pub owned_known : AreKnown known (numbers r.owned)
    owned_known c i = h c
        (inr (in_right c (held_cells r.held) (numbers r.owned ++ (numbers r.owed ++ finish_cells r.finish))
        (in_left c (numbers r.owned) (numbers r.owed ++ finish_cells r.finish) i)))

    pub owed_known : AreKnown known (numbers r.owed)
    owed_known c i = h c (inr
        (in_right c (held_cells r.held) (numbers r.owned ++ (numbers r.owed ++ finish_cells r.finish))
        (in_right c (numbers r.owned) (numbers r.owed ++ finish_cells r.finish)
        (in_left c (numbers r.owed) (finish_cells r.finish) i))))

    pub ending_known : AreKnown known (finish_cells r.finish)
    ending_known c i = h c (inr (in_right c (held_cells r.held)
        (numbers r.owned ++ (numbers r.owed ++ finish_cells r.finish))
        (in_right c (numbers r.owned) (numbers r.owed ++ finish_cells r.finish)
        (in_right c (numbers r.owed) (finish_cells r.finish) i))))
