-- No two cells have one name, and what a task makes next has a new one; so where no cell is left for it, the meaning
-- needs more cells than there are.
use Rattle.tj_words.proofs.Prelude.{AreCells, AreDistinct, CellState, Contents, InRounds, IsCell, IsFull, IsFullWhere}
use Rattle.tj_words.proofs.Prelude.{IsIn, Law, List, Name, Program, Reference, Sort, [], ap, arith, cells, child}
use Rattle.tj_words.proofs.Prelude.{drawn_in, get_elem?, in_map, inl, inr, length, length-append, made_of, map, name}
use Rattle.tj_words.proofs.Prelude.{next_reference, refl, some, some-injective, some-ne-none, subst, suc, sym, zero, ℕ}
use Rattle.tj_words.proofs.Prelude.{⊎_elim, ◌++◌, ◌<◌, ◌∙◌, ◌∷◌, ◌≡◌, ◌≢◌, ◌≤◌, ◌⊎◌}
use Rattle.tj_words.proofs.Events.StepEvents.{core_of}
use Rattle.tj_words.proofs.Events.ShownParts.{parts_of}
use Rattle.tj_events.specs.Facts.{MakersFact}
use Rattle.tj_events.proofs.OneCell.Makers.{next_name_new}
use Rattle.tj_words.proofs.Stores.SeatLists.{inside}
use Rattle.tj_words.proofs.Events.ShownCells.{cell_there}
use Rattle.tj_words.proofs.Cells.CellFacts.{name_shown}
use Rattle.tj_words.proofs.Holders.HeldTasks.{index_is}

abbrev pub name_of : Reference → Name
name_of r = r.name

-- no two cells have one name
abbrev pub AreApartByName : List Reference → Type 0
AreApartByName born = (c d : ℕ) (y z : Reference) → IsCell born c y → IsCell born d z → y.name ≡ z.name → c ≡ d

pub place_of : {A : Type 0} (x : A) (l : List A) → IsIn x l → (c : ℕ) × (get_elem? l c ≡ some x)
place_of x [] i = absurd i
place_of x (y ∷ ys) (inl e) = (0, ap some (sym e))
place_of x (y ∷ ys) (inr i) = let w = place_of x ys i in (suc w.0, w.1)

pub length_names : (l : List Reference) → length (map name_of l) ≡ length l
length_names [] = refl
length_names (x ∷ xs) = ap suc (length_names xs)

-- a cell of the name
pub cell_of_name : (l : List Reference) (q : Name) → IsIn q (map name_of l)
    → (c : ℕ) × (x : Reference) × IsCell l c x × (q ≡ x.name)
cell_of_name l q i = let w = in_map name_of q l i in let p = place_of w.0 l w.1 in (p.0, w.0, p.1, w.2)

-- where the list is one longer, its last cell is the one more
pub last_or : {A : Type 0} (l : List A) (x : A) (c : ℕ) (y : A) → get_elem? (l ++ x ∷ []) c ≡ some y
    → (get_elem? l c ≡ some y) ⊎ ((c ≡ length l) × (x ≡ y))
last_or [] x zero y e = inr (refl, some-injective x y e)
last_or [] x (suc c) y e = absurd (some-ne-none y (sym e))
last_or (z ∷ l) x zero y e = inl e
last_or (z ∷ l) x (suc c) y e = ⊎_elim inl (λ w. inr (ap suc w.0, w.1)) (last_or l x c y e)

pub last_at : {A : Type 0} (l : List A) (x : A) → get_elem? (l ++ x ∷ []) (length l) ≡ some x
last_at [] x = refl
last_at (y ∷ l) x = last_at l x

-- a cell more whose name no other has
pub cells_more : (cells : ℕ) (l : List Reference) (x : Reference) → AreApartByName l → length l < cells
    → ((c : ℕ) (y : Reference) → IsCell l c y → y.name ≢ x.name) → AreCells cells (l ++ x ∷ [])
cells_more cells l x apart room new = record {
  few = (let e = length-append l (x ∷ []) in omega arith);
  apart = λ c d y z a b e. ⊎_elim
      (λ i. ⊎_elim (λ j. apart c d y z i j e) (λ w. absurd (new c y i (e ∙ ap name_of (sym w.1)))) (last_or l x d z b))
      (λ v. ⊎_elim (λ j. absurd (new d z j (sym e ∙ ap name_of (sym v.1)))) (λ w. v.0 ∙ sym w.0) (last_or l x d z b))
      (last_or l x c y a);
}

-- names of cells that are apart stand once each
pub distinct_names : (l : List Reference) → AreApartByName l → AreDistinct (map name_of l)
distinct_names [] h = tt
distinct_names (x ∷ xs) h = (
  (λ i. let w = cell_of_name xs x.name i in
      let e : 0 ≡ suc w.0 = h 0 (suc w.0) x w.1 refl w.2 w.3 in absurd (omega arith)),
  distinct_names xs (λ c d y z p q e. let w : suc c ≡ suc d = h (suc c) (suc d) y z p q e in omega arith),
)

module _ {B : Type 0} {program : Program B} {N : ℕ} {x : Contents B} (r : Law program N x) where
  abbrev n : ℕ
  n = drawn_in N x

  makers : MakersFact n (core_of r).cells
  makers = r.facts.makers

  cell_inside : (c : ℕ) (y : Reference) → IsCell r.born c y → c < n
  cell_inside c y e = subst (λ k. c < k) r.births.all (inside r.born c y e)

  name_is : (c : ℕ) (y : Reference) → IsCell r.born c y → name (core_of r).cells c ≡ y.name
  name_is c y e = name_shown r c (cell_inside c y e)
      ∙ ap name_of (index_is r.born c _ y e)

  pub born_apart : AreApartByName r.born
  born_apart c d y z a b e = makers.names_apart c d (cell_inside c y a) (cell_inside d z b)
      (name_is c y a ∙ (e ∙ sym (name_is d z b)))

  -- so these are what cells of the table are
  pub are_cells : AreCells N r.born
  are_cells = record { few = (let e = r.births.all in omega arith); apart = born_apart }

  -- the next thing that a task makes
  module _ (t : ℕ) (there : t < n) (sort : Sort) where
    abbrev next : Reference
    next = next_reference r.born t (made_of x t) sort

    pub next_new : (c : ℕ) (y : Reference) → IsCell r.born c y → y.name ≢ next.name
    next_new c y e same = next_name_new n (core_of r).cells makers t c there (cell_inside c y e)
        (name_is c y e ∙ (same ∙ (λ j. child (sym (name_shown r t there) j) (suc (made_shown j)))))
      where
        made_shown : made_of x t ≡ ((core_of r).cells t).made
        made_shown = sym (ap (λ (z : CellState). z.made) (cell_there r.born r.maker (parts_of N x) t there))

    pub refused_full : IsFullWhere program → InRounds program next.name → N ≤ x.words.count → IsFull program N
    refused_full full named none_left = full N (next.name ∷ map name_of r.born) (
      (λ i. let w = cell_of_name r.born next.name i in next_new w.0 w.1 w.2 (sym w.3)),
      distinct_names r.born born_apart,
    )
        (λ q i. ⊎_elim (λ (e : q ≡ next.name). subst (InRounds program) (sym e) named)
        (λ j. let w = cell_of_name r.born q j in
        subst (InRounds program) (sym w.3) (r.meaning.names w.0 w.1 w.2)) i)
        (let a = length_names r.born in let b = r.births.all in omega arith)
