-- Where a task is and what the core state shows of it, under the law.
use Rattle.tj_words.proofs.Prelude.{AreThere, Bool, CellId, CellStage, Contents, Custody, Does, Hand, IsBegun}
use Rattle.tj_words.proofs.Prelude.{IsCustody, IsIn, IsThere, Law, List, None, Option, Program, Rec, Some, Walk, Way}
use Rattle.tj_words.proofs.Prelude.{alarmed, ap, arith, dec_le, dite, drawn_in, get_elem?, hand_in, hand_of, hand_phase}
use Rattle.tj_words.proofs.Prelude.{held_in, held_of, home_of, new_stage, owned_by, owned_of, phase_of, phase_sort}
use Rattle.tj_words.proofs.Prelude.{raised, record_cells, refl, running, some, some-injective, stage, stage_there}
use Rattle.tj_words.proofs.Prelude.{subst, sym, waits, walks, ℕ, ◌<◌, ◌∙◌, ◌≡◌, ◌≢◌, ◌≤◌}
use Rattle.tj_words.proofs.Events.StepEvents.{IsHeldWith, core_of}
use Rattle.tj_words.proofs.Events.ShownParts.{parts_of}
use Rattle.tj_words.proofs.Holders.HeldTasks.{none_some, none_unless, one_some, found, finds, hand_found}
use Rattle.tj_words.proofs.Events.ShownCells.{stage_out}
use Rattle.tj_words.specs.declared.phase.Phase.TheVariants as phase
use Rattle.tj_words.specs.declared.view.Does.TheVariants as does

-- what is shown of a task that a seat holds
abbrev pub does_shown : ℕ → Does → CellStage
does_shown t does.Unborn = new_stage t
does_shown t does.Fresh = new_stage t
does_shown t does.Running = running
does_shown t does.Raised = raised
does_shown t (does.Walking c way w) = waits c way (walks w)
does_shown t (does.Alarmed c way w) = waits c way alarmed

module _ {B : Type 0} where
  -- its phase, and what its seat has for it, show that
  pub does_stage_there : (t u : ℕ) (k : Custody B) (home : Option (Rec B)) (d : Does) → k.does ≡ d
      → stage_there t (phase_sort (phase_of d)) (Some u) (phase_of d) (Some k) home ≡ does_shown t d
  does_stage_there t u k home d e = grind arith

  module _ {program : Program B} {cells : ℕ} {x : Contents B} (r : Law program cells x) where
    abbrev n : ℕ
    n = drawn_in cells x

    -- the task is where its phase says, drawn and not in hand
    pub begun_drawn : (t : ℕ) → IsBegun (x.words.phase t) → t < n
    begun_drawn t b = dite (dec_le n t) (λ (l : n ≤ t). absurd (subst IsBegun (r.undrawn t l) b)) (λ l. omega arith)

    pub begun_out : (t : ℕ) → IsBegun (x.words.phase t) → hand_in x.seats.hands t ≡ None
    begun_out t b = none_unless (hand_in x.seats.hands t) (λ h e.
        let f = hand_found x.seats.hands t h e in
        let i = r.hands.each f.0.0 h f.0.1 in
        unbegun h.marked (subst IsBegun (ap x.words.phase (sym f.1) ∙ i.marked) b))
      where
        unbegun : (m : Bool) → IsBegun (hand_phase m) → ⊥
        unbegun m h = grind arith

    pub begun_there : (t : ℕ) → IsBegun (x.words.phase t) → IsThere n (hand_of x) t
    begun_there t b = (begun_drawn t b, begun_out t b)

    -- a task that waits has an owner, which is some task
    pub waiter_owned : (t : ℕ) (c : CellId) (way : Way) (w : Walk) → x.words.phase t ≡ phase.Waiting c way w
        → (u : ℕ) × (x.words.own t ≡ Some u)
    waiter_owned t c way w e = by (x.words.own t) refl
      where
        by : (o : Option ℕ) → x.words.own t ≡ o → (u : ℕ) × (o ≡ Some u)
        by (Some u) q = (u, refl)
        by None q = absurd (r.waiters_own t c way w e q)

    -- the maker of a cell in hand is held by the seat that has it in hand
    pub hand_seat : (j : ℕ) (h : Hand) → get_elem? x.seats.hands j ≡ some (Some h) → r.custody.holder h.maker ≡ Some j
    hand_seat j h e = let m = (r.hands.each j h e).maker_held in
        (r.custody.held j m.0 m.1 h.maker m.2.0 m.2.1).mine

    -- a seat that doesn't hold a task has nothing for it
    pub has_none : (j t : ℕ) (ks : List (Custody B)) → get_elem? x.seats.tasks j ≡ some ks
        → r.custody.holder t ≢ Some j → held_in ks t ≡ None
    has_none j t ks at n = none_unless (held_in ks t) (λ k e. n (r.custody.held j ks at t k e).mine)

    -- where nobody holds a task, nothing is found for it
    pub unheld : (t : ℕ) → r.custody.holder t ≡ None → held_of x t ≡ None
    unheld t e = none_unless (held_of x t) (λ k q. let f = found x.seats.tasks t k q in
        none_some (r.custody.holder t) f.0 e (r.custody.held f.0 f.1.0 f.1.1 t k f.1.2).mine)

    -- a record at home names cells that are there, and is that of the slot's task
    pub home_there : (t : ℕ) (y : Rec B) → home_of x t ≡ Some y → AreThere n (hand_of x) (record_cells y)
        × (y.cell.0 ≡ t)
    home_there t y e = (r.names.records t y e, r.custody.own_slots t y e)

    module _ (id t : ℕ) (k : Custody B) (h : IsHeldWith x id t k) where
      pub custody : IsCustody r.custody.holder x.words.phase (home_of x) id t k
      custody = r.custody.held id h.0 h.1 t k h.2

      -- what the seat has for it is what is found
      pub held_here : held_of x t ≡ Some k
      held_here =
          let g = finds x.seats.tasks t id k h in
          let f = found x.seats.tasks t g.0 g.1 in
          let j : f.0 ≡ id = one_some f.0 id (sym (r.custody.held f.0 f.1.0 f.1.1 t g.0 f.1.2).mine ∙ custody.mine) in
          let ks : f.1.0 ≡ h.0 = some-injective f.1.0 h.0
          (sym f.1.1 ∙ (ap (λ (i : ℕ). get_elem? x.seats.tasks i) j ∙ h.1)) in
          let e : g.0 ≡ k = one_some g.0 k (sym f.1.2 ∙ (ap (λ l. held_in l t) ks ∙ h.2)) in
          g.1 ∙ ap (λ (z : Custody B). Some z) e

      -- where its seat has nothing in hand, it makes no cell
      pub makes_nothing : get_elem? x.seats.hands id ≡ some None → (j : ℕ) (g : Hand)
          → get_elem? x.seats.hands j ≡ some (Some g) → g.maker ≢ t
      makes_nothing free j g e q =
          let i : j ≡ id = one_some j id (sym (hand_seat j g e) ∙ (ap r.custody.holder q ∙ custody.mine)) in
          let z : None ≡ Some g = some-injective None (Some g)
          (sym free ∙ (ap (get_elem? x.seats.hands) (sym i) ∙ e)) in absurd (cc)

      pub held_drawn : t < n
      held_drawn = dite (dec_le n t)
          (λ (l : n ≤ t). none_some (r.custody.holder t) id (r.custody.undrawn_free t l) custody.mine)
          (λ l. omega arith)

      -- a cell that stands in its list is owned by it
      pub list_owned : (c : ℕ) → IsIn c k.owned → IsThere n (hand_of x) c × (x.words.own c ≡ Some t)
      list_owned c i =
          let l : IsIn c (owned_of x t) =
          subst (λ (o : Option (Custody B)). IsIn c (owned_by o (home_of x t))) (sym held_here) i in
          let there = r.owned.owned_there c t l in
          (there, (r.owned.owners c t there).1 l)

      -- what is shown of it
      pub stage_held : (u : ℕ) → hand_in x.seats.hands t ≡ None → x.words.own t ≡ Some u
          → stage (core_of r).cells t ≡ does_shown t k.does
      stage_held u out owns = stage_out r.born r.maker (parts_of cells x) t held_drawn out
          ∙ ((λ j. stage_there t (phase_sort (custody.does j)) (owns j) (custody.does j) (held_here j) (home_of x t))
          ∙ does_stage_there t u k (home_of x t) k.does refl)
