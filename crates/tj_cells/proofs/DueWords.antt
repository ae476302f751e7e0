-- The words that are due of a cell, as they are written one after the other.
use Rattle.tj_cells.proofs.Prelude.{All, Due, List, Sort, [], ap, cond, dues_left, eq-eqb, inl, inr, ne_eqb, new_dues}
use Rattle.tj_cells.proofs.Prelude.{refl, same_word, without_due, ℕ, ◌++◌, ◌∙◌, ◌∷◌, ◌≡◌, ◌≢◌}
use Rattle.tj_words.specs.declared.offsets.Once.{Once}
use Rattle.tj_words.specs.Words.Offsets.{once_at}
use Rattle.tj_words.proofs.Stores.TableWords.{same_cell}
use Rattle.tj_base.specs.declared.cell.Sort.TheVariants as sort
use Rattle.tj_words.specs.declared.offsets.Once.TheVariants as once

-- the word of the cell
abbrev pub due_of : ℕ → Once → Due
due_of c f = record { cell = c; word = f }

-- what is due of other cells stays due
pub dues_kept : (c : ℕ) (f : Once) (ds : List Due) → All (λ (d : Due). d.cell ≢ c) ds → without_due c f ds ≡ ds
dues_kept c f [] h = refl
dues_kept c f (d ∷ ds) h = ap (λ b. cond b (without_due c f ds) (d ∷ without_due c f ds))
    (ne_eqb (once_at d.cell d.word) (once_at c f) (λ e. h d (inl refl) (same_cell c d.cell f d.word e)))
    ∙ ap (λ l. d ∷ l) (dues_kept c f ds (λ x i. h x (inr i)))

-- the word that is written is due no more
pub due_dropped : (c : ℕ) (f : Once) (ds : List Due) → without_due c f (due_of c f ∷ ds) ≡ without_due c f ds
due_dropped c f ds = ap (λ b. cond b (without_due c f ds) (due_of c f ∷ without_due c f ds))
    (eq-eqb (once_at c f) (once_at c f) refl)

-- another word of the cell stays due
pub due_kept : (c : ℕ) (f g : Once) (ds : List Due) → g ≢ f
    → without_due c f (due_of c g ∷ ds) ≡ due_of c g ∷ without_due c f ds
due_kept c f g ds n = ap (λ b. cond b (without_due c f ds) (due_of c g ∷ without_due c f ds))
    (ne_eqb (once_at c g) (once_at c f) (λ e. n (same_word c c f g e)))

-- of two words of a cell that are due, the first and then the second are written
pub first_written : (c : ℕ) (f g : Once) (ds : List Due) → g ≢ f
    → without_due c f (due_of c f ∷ due_of c g ∷ ds) ≡ due_of c g ∷ without_due c f ds
first_written c f g ds n = due_dropped c f (due_of c g ∷ ds) ∙ due_kept c f g ds n

pub both_written : (c : ℕ) (f g : Once) (ds : List Due) → g ≢ f
    → without_due c g (without_due c f (due_of c f ∷ due_of c g ∷ ds)) ≡ without_due c g (without_due c f ds)
both_written c f g ds n = ap (without_due c g) (first_written c f g ds n) ∙ due_dropped c g (without_due c f ds)

-- where nothing else is due of the cell
pub both_alone : (c : ℕ) (f g : Once) (ds : List Due) → g ≢ f → All (λ (d : Due). d.cell ≢ c) ds
    → without_due c g (without_due c f (due_of c f ∷ due_of c g ∷ ds)) ≡ ds
both_alone c f g ds n h = both_written c f g ds n ∙ (ap (without_due c g) (dues_kept c f ds h) ∙ dues_kept c g ds h)

-- PARENT and KID of a new cell are written
pub named_dues : (c : ℕ) (o : Sort) (ds : List Due) → All (λ (d : Due). d.cell ≢ c) ds
    → without_due c once.Kid (without_due c once.Parent (new_dues c o ++ ds)) ≡ dues_left c o ++ ds
named_dues c sort.Promise ds h = both_alone c once.Parent once.Kid ds (λ (e : once.Kid ≡ once.Parent). cc) h
named_dues c sort.Task ds h =
    both_written c once.Parent once.Kid (dues_left c sort.Task ++ ds) (λ (e : once.Kid ≡ once.Parent). cc)
    ∙ (ap (without_due c once.Kid) (other once.Parent (λ (e : once.Depth ≡ once.Parent). cc)
    (λ (e : once.Jump ≡ once.Parent). cc))
    ∙ other once.Kid (λ (e : once.Depth ≡ once.Kid). cc) (λ (e : once.Jump ≡ once.Kid). cc))
  where
    other : (f : Once) → once.Depth ≢ f → once.Jump ≢ f
        → without_due c f (dues_left c sort.Task ++ ds) ≡ dues_left c sort.Task ++ ds
    other f n m = due_kept c f once.Depth (due_of c once.Jump ∷ ds) n
        ∙ ap (λ l. due_of c once.Depth ∷ l)
        (due_kept c f once.Jump ds m ∙ ap (λ l. due_of c once.Jump ∷ l) (dues_kept c f ds h))
