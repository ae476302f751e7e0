-- What holds where chains are as the law says: which phases are parked, that a chain has no task twice and no more
-- tasks than there are cells, and that a cell on which nobody is parked has none.
use Rattle.tj_words.proofs.Prelude.{AreApart, AreLinked, Chains, Does, Found, Head, IsIn, IsParkedOn, IsPush, List}
use Rattle.tj_words.proofs.Prelude.{Option, Phase, Push, Rest, Shut, Some, Task, Unborn, [], ap, arith, cell, head_of}
use Rattle.tj_words.proofs.Prelude.{head_word, inl, length, length-append, phase_of, refl, subst, suc, sym, ℕ, ⊎_elim}
use Rattle.tj_words.proofs.Prelude.{◌++◌, ◌<◌, ◌∙◌, ◌∷◌, ◌≡◌, ◌≢◌, ◌≤◌}
use Rattle.tj_words.proofs.Waiters.ChainHeads.{one_cell}
use Rattle.tj_words.proofs.Waiters.ChainLists.{no_some, few_apart}
use Rattle.tj_words.specs.declared.phase.Phase.TheVariants as phase

-- a phase that is parked on no cell
abbrev pub IsNotParked : Phase → Type 0
IsNotParked p = (c : ℕ) → ¬ IsParkedOn p c

pub ready_free : IsNotParked phase.Ready
ready_free c h = let e = h.1 in cc

pub running_free : IsNotParked phase.Running
running_free c h = let e = h.1 in cc

-- a task that a seat holds is parked on no cell
pub held_free : (d : Does) → IsNotParked (phase_of d)
held_free d c h = grind arith

-- the head of a list is never shut
pub no_shut : (l : List ℕ) → head_of l ≢ Shut
no_shut l e = grind arith

-- a task at which the head of a list points is its first
pub first_of : (l : List ℕ) (t : ℕ) → head_of l ≡ Task (cell t) → (ts : List ℕ) × (l ≡ t ∷ ts)
first_of [] t e = grind arith
first_of (u ∷ ts) t e = (ts, grind arith)

-- a list that NEXT links is known by its head
pub linked_one : (next : ℕ → Head) (l m : List ℕ) → AreLinked next l → AreLinked next m → head_of l ≡ head_of m → l ≡ m
linked_one next [] m a b e = grind arith
linked_one next (t ∷ l) [] a b e = grind arith
linked_one next (t ∷ l) (u ∷ m) a b e = let h = linked_one next l m in grind arith

linked_from : (next : ℕ → Head) (l : List ℕ) (t : ℕ) → IsIn t l → AreLinked next l
    → (m : List ℕ) × AreLinked next (t ∷ m) × (length m < length l)
linked_from next [] t i h = absurd i
linked_from next (x ∷ xs) t i h = ⊎_elim
    (λ (e : t ≡ x). (xs, subst (λ z. AreLinked next (z ∷ xs)) (sym e) h, (omega arith)))
    (λ (j : IsIn t xs). let k = linked_from next xs t j h.1 in let s = k.2 in (k.0, k.1, (omega arith))) i

-- so no task stands in it twice
pub linked_once : (next : ℕ → Head) (t : ℕ) (ts : List ℕ) → AreLinked next (t ∷ ts) → ¬ IsIn t ts
linked_once next t ts h i = let k = linked_from next ts t i h.1 in
    let e = linked_one next (t ∷ k.0) (t ∷ ts) k.1 h refl in
    let n : length (t ∷ k.0) ≡ length (t ∷ ts) = ap length e in let s = k.2 in omega arith

pub linked_apart : (next : ℕ → Head) (l : List ℕ) → AreLinked next l → AreApart l
linked_apart next [] h = tt
linked_apart next (t ∷ ts) h = (linked_once next t ts h, linked_apart next ts h.1)

pub not_empty : {A : Type 0} (l : List A) (x : A) → IsIn x l → l ≢ []
not_empty l x i e = subst (IsIn x) e i

-- a list of which another is an end is longer, where their heads differ
pub grown_longer : (chain more old : List ℕ) → chain ≡ more ++ old → head_of old ≢ head_of chain
    → length old < length chain
grown_longer chain [] old e new = absurd (new (ap head_of (sym e)))
grown_longer chain (t ∷ more) old e new = let a : length chain ≡ length ((t ∷ more) ++ old) = ap length e in
    let b = length-append (t ∷ more) old in omega arith

-- a task that is parked is drawn
pub parked_drawn : (phase : ℕ → Phase) (drawn : ℕ) → ((t : ℕ) → drawn ≤ t → phase t ≡ Unborn) → (t p : ℕ)
    → IsParkedOn (phase t) p → t < drawn
parked_drawn phase drawn undrawn t p w = let f = undrawn t in grind arith

module _ {tag : ℕ → ℕ} {head next : ℕ → Head} {phase : ℕ → Phase} {pushes : List (List Push)} {shuts : List (List ℕ)}
    {rests : List (Option Rest)} {closed : List (List ℕ)} {found : List (List Found)}
    (c : Chains tag head next phase pushes shuts rests closed found) where
  pub push_parked : (t j : ℕ) (e : Push) → IsPush next phase c.pusher j e → e.task ≡ t → IsParkedOn (phase t) e.cell
  push_parked t j e f q = (e.way, ap phase (sym q) ∙ f.parked)

  -- a task that has one is in no line
  pub not_in_line : (p t j u : ℕ) → c.pusher t ≡ Some j → IsIn u (c.line p) → u ≢ t
  not_in_line p t j u e i q = no_some ((c.parked p u i).1) (ap c.pusher q ∙ e)

  -- no task stands in two lines
  pub one_line : (p q t : ℕ) → IsIn t (c.line p) → IsIn t (c.line q) → p ≡ q
  one_line p q t i j = one_cell (phase t) p q ((c.parked p t i).0) ((c.parked q t j).0)

  module _ (cells drawn : ℕ) (few : drawn ≤ cells) (undrawn : (t : ℕ) → drawn ≤ t → phase t ≡ Unborn) (p : ℕ) where
    -- the tasks of a chain and of a rest are cells, and are no more than there are
    pub task_small : (t : ℕ) → IsIn t (c.line p) → t < cells
    task_small t i = let l = parked_drawn phase drawn undrawn t p ((c.parked p t i).0) in omega arith

    pub line_small : length (c.line p) ≤ cells
    line_small = few_apart cells (c.line p) (linked_apart next (c.line p) (c.linked p)) task_small

    -- a chain lacks each task whose push is to come
    pub line_lacks : (j : ℕ) (e : Push) → IsPush next phase c.pusher j e → suc (length (c.line p)) ≤ cells
    line_lacks j e f = few_apart cells (e.task ∷ c.line p)
        ((λ i. not_in_line p e.task j e.task f.mine i refl), linked_apart next (c.line p) (c.linked p))
        (λ y. ⊎_elim (λ (z : y ≡ e.task). subst (λ k. k < cells) (sym z) task_drawn)
        (λ (i : IsIn y (c.line p)). task_small y i))
      where
        task_drawn : e.task < cells
        task_drawn = let l = parked_drawn phase drawn undrawn e.task e.cell (push_parked e.task j e f refl) in
            omega arith

    -- so the head that isn't shut names a cell
    pub head_small : head p ≢ Shut → head_word (head p) ≤ cells
    head_small unshut = subst (λ h. head_word h ≤ cells) (sym (c.heads p unshut)) (by (c.line p) task_small)
      where
        by : (l : List ℕ) → ((t : ℕ) → IsIn t l → t < cells) → head_word (head_of l) ≤ cells
        by [] small = omega arith
        by (t ∷ ts) small = let h = small t (inl refl) in omega arith
