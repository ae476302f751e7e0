-- How many things a task may have made, and where a new task jumps.
use Rattle.tj_words.proofs.Prelude.{CellState, Contents, Fork, Forks, HasTask, IsHistory, IsJump-of, Law, Node, NodeId}
use Rattle.tj_words.proofs.Prelude.{Program, Reference, [], ap, arith, child, dec_le, dite, drawn_in, if◌then◌else◌}
use Rattle.tj_words.proofs.Prelude.{inl, inr, jump_from, made_of, maker, name, node_of, node_of-child, reference_of}
use Rattle.tj_words.proofs.Prelude.{refl, subst, suc, sym, zero, ℕ, ℕ_discrete, ◌-◌, ◌<◌, ◌==◌, ◌∙◌, ◌∷◌, ◌≡◌, ◌≢◌, ◌≤◌}
use Rattle.tj_words.proofs.Events.StepEvents.{core_of}
use Rattle.tj_tree.proofs.Trees.{node_of-older, parent_there}
use Rattle.tj_words.proofs.Events.ShownParts.{parts_of}
use Rattle.tj_events.specs.Facts.{IsThing}
use Rattle.tj_words.proofs.Cells.CellFacts.{cell_born, name_shown}
use Rattle.tj_words.proofs.Events.ShownCells.{cell_there}
use Rattle.tj_words.proofs.Holders.HeldTasks.{index_is}

module _ {B : Type 0} {program : Program B} {cells : ℕ} {x : Contents B} (r : Law program cells x) where
  pub maker_shown : (c : ℕ) → c < drawn_in cells x → maker (core_of r).cells c ≡ r.maker c
  maker_shown c l = ap (λ (z : CellState). z.maker) (cell_there r.born r.maker (parts_of cells x) c l)

  -- the core sees a cell as the thing that its number says
  pub thing_shown : (c : ℕ) → c < drawn_in cells x → c ≢ 0 → IsThing (core_of r).cells c (r.number c)
  thing_shown c l d =
      let w = r.births.named c (reference_of r.born c) (cell_born r c l) d in
      let m = (r.births.makers_there c l).0 in
      name_shown r c l ∙ (w.2 ∙ ap (λ a. child a (r.number c))
      (ap (λ (q : Reference). q.name) (sym (index_is r.born (r.maker c) _ w.0 w.1))
      ∙ (sym (name_shown r (r.maker c) m) ∙ ap (name (core_of r).cells) (sym (maker_shown c l)))))

  -- of two things that one task made the later one is the later cell
  later_cell : (c d : ℕ) → c < drawn_in cells x → d < drawn_in cells x → c ≢ 0 → d ≢ 0 → r.maker c ≡ r.maker d
      → r.number c < r.number d → c < d
  later_cell c d lc ld zc zd same less = dite (dec_le d c)
      (λ l. dite (ℕ_discrete c d)
      (λ (e : c ≡ d). let q : r.number c ≡ r.number d = ap r.number e in absurd (omega arith))
      (λ e. let g : r.number d < r.number c = r.facts.makers.numbers_grow d c (r.number d) (r.number c) (omega arith) lc
      (maker_shown d ld ∙ (sym same ∙ sym (maker_shown c lc))) (thing_shown d ld zd) (thing_shown c lc zc) in
      absurd (omega arith)))
      (λ l. omega arith)

  numbered_not_root : (c k : ℕ) → r.number c ≡ suc k → c ≢ 0
  numbered_not_root c k e z = let q : r.number c ≡ 0 = ap r.number z ∙ r.births.root_number in absurd (omega arith)

  -- the k-th thing that a task made is a cell whose number is at least k
  made_cell : (t k : ℕ) → suc k ≤ made_of x t
      → (c : ℕ) × (c < drawn_in cells x) × (r.maker c ≡ t) × (r.number c ≡ suc k) × (suc k ≤ c)
  made_cell t zero l = let m = r.births.made_all t 1 (omega arith) l in let z = numbered_not_root m.0 0 m.3 in
      (m.0, m.1, m.2, m.3, omega arith)
  made_cell t (suc k) l =
      let b = made_cell t k (omega arith) in
      let m = r.births.made_all t (suc (suc k)) (omega arith) l in
      let later : b.0 < m.0 = later_cell b.0 m.0 b.1 m.1 (numbered_not_root b.0 k b.3)
      (numbered_not_root m.0 (suc k) m.3) (b.2 ∙ sym m.2) (let p = b.3 in let q = m.3 in omega arith) in
      let least = b.4 in (m.0, m.1, m.2, m.3, omega arith)

  -- a task has made fewer things than there are cells
  pub made_few : (t : ℕ) → made_of x t < drawn_in cells x
  made_few t = by (made_of x t) refl
    where
      by : (m : ℕ) → made_of x t ≡ m → made_of x t < drawn_in cells x
      by zero e = let l = r.facts.makers.root_there in omega arith
      by (suc k) e = let c = made_cell t k (omega arith) in let a = c.1 in let b = c.4 in omega arith

-- the jump of a task's child, by the nodes of the task, of where it jumps, and of where that jumps
abbrev jump_by : NodeId → Node → Node → Node → NodeId
jump_by p here near far = if here.depth - near.depth == near.depth - far.depth then near.jump else p

-- it stays the same as later tasks come
jump_later : (fork : Fork) (fs : Forks) → IsHistory (fork ∷ fs) → (p : NodeId) → HasTask fs p.0
    → jump_from (node_of (fork ∷ fs)) p ≡ jump_from (node_of fs) p
jump_later fork fs h p there = λ j. jump_by p (here j) (near j) (far j)
  where
    on : (m : ℕ) → HasTask fs m → node_of (fork ∷ fs) m ≡ node_of fs m
    on m k = node_of-older fork fs m h.0 k

    up : HasTask fs (node_of fs p.0).jump.0
    up = (IsJump-of fs h.1 p.0 there).jump_there

    here : node_of (fork ∷ fs) p.0 ≡ node_of fs p.0
    here = on p.0 there

    near : node_of (fork ∷ fs) (node_of (fork ∷ fs) p.0).jump.0 ≡ node_of fs (node_of fs p.0).jump.0
    near = ap (λ (z : Node). node_of (fork ∷ fs) z.jump.0) here ∙ on (node_of fs p.0).jump.0 up

    far : node_of (fork ∷ fs) (node_of (fork ∷ fs) (node_of (fork ∷ fs) p.0).jump.0).jump.0
        ≡ node_of fs (node_of fs (node_of fs p.0).jump.0).jump.0
    far = ap (λ (z : Node). node_of (fork ∷ fs) z.jump.0) near
        ∙ on (node_of fs (node_of fs p.0).jump.0).jump.0 (IsJump-of fs h.1 (node_of fs p.0).jump.0 up).jump_there

-- each task but the root jumps as a child of its parent does
pub child_jump : (fs : Forks) → IsHistory fs → (c : ℕ) → HasTask fs c → c ≢ 0
    → (node_of fs c).jump ≡ jump_from (node_of fs) (node_of fs c).parent
child_jump [] h c there some = absurd (some there)
child_jump (fork ∷ fs) h c (inr there) some =
    let older = node_of-older fork fs c h.0 there in
    ap (λ (z : Node). z.jump) older ∙ (child_jump fs h.1 c there some
    ∙ (sym (jump_later fork fs h (node_of fs c).parent (parent_there fs h.1 c there))
    ∙ ap (λ (z : Node). jump_from (node_of (fork ∷ fs)) z.parent) (sym older)))
child_jump (fork ∷ fs) h c (inl same) some =
    subst (λ m. (node_of (fork ∷ fs) m).jump ≡ jump_from (node_of (fork ∷ fs)) (node_of (fork ∷ fs) m).parent)
    (sym same)
    (ap (λ (z : Node). z.jump) (node_of-child fork fs)
    ∙ (sym (jump_later fork fs h (record { 0 = fork.parent }) h.0.parent_there)
    ∙ ap (λ (z : Node). jump_from (node_of (fork ∷ fs)) z.parent) (sym (node_of-child fork fs))))
