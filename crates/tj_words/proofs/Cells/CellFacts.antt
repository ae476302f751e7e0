-- What the core state shows of a cell that is there: its name, its sort and what it waits for.
use Rattle.tj_words.proofs.Prelude.{CellId, Contents, Custody, Hand, IsCell, IsThere, Law, None, Option, Phase, Program}
use Rattle.tj_words.proofs.Prelude.{Rec, Walk, Way, ap, arith, before, drawn_in, hand_of, held_of, home_of}
use Rattle.tj_words.proofs.Prelude.{is_task_sort, name, phase_sort, reference_of, sort_shown, stage, stage_there, subst}
use Rattle.tj_words.proofs.Prelude.{sym, wait_in, way_by, way_if, way_of_wait, ℕ, ◌&&◌, ◌<◌, ◌∙◌, ◌≡◌, ◌≢◌}
use Rattle.tj_events.specs.CoreState.{CellState, is_task, wait_of, wait}
use Rattle.tj_words.proofs.Events.StepEvents.{core_of}
use Rattle.tj_words.proofs.Events.ShownParts.{parts_of}
use Rattle.tj_words.proofs.Holders.HeldTasks.{at_index}
use Rattle.tj_words.proofs.Events.ShownCells.{stage_out, cell_there}
use Rattle.tj_words.specs.declared.phase.Phase.TheVariants as phase

module _ {B : Type 0} where
  -- a cell shows that it is a task, or a promise, as its phase says, and what it waits for
  tells_there : (t : ℕ) (o : Option ℕ) (p : Phase) (held : Option (Custody B)) (home : Option (Rec B))
      → ((c : CellId) (way : Way) (w : Walk) → p ≡ phase.Waiting c way w → o ≢ None)
      → (is_task (stage_there t (phase_sort p) o p held home) ≡ is_task_sort (phase_sort p))
      × (wait_of (stage_there t (phase_sort p) o p held home) ≡ wait_in p)
  tells_there t o p held home h = grind arith

  module _ {program : Program B} {cells : ℕ} {x : Contents B} (r : Law program cells x) where
    -- a cell that is drawn is one of those that are born
    pub cell_born : (c : ℕ) → c < drawn_in cells x → IsCell r.born c (reference_of r.born c)
    cell_born c l = at_index r.born c _ (subst (λ k. c < k) (sym r.births.all) l)

    pub name_shown : (c : ℕ) → c < drawn_in cells x → name (core_of r).cells c ≡ (reference_of r.born c).name
    name_shown c l = ap (λ (z : CellState). z.name) (cell_there r.born r.maker (parts_of cells x) c l)

    module _ (c : ℕ) (there : IsThere (drawn_in cells x) (hand_of x) c) where
      pub sort_is : (reference_of r.born c).sort ≡ phase_sort (x.words.phase c)
      sort_is = r.births.sorts c (reference_of r.born c) (cell_born c there.0)
          ∙ ap (λ (o : Option Hand). sort_shown o (x.words.phase c)) there.1

      pub task_shown : is_task (stage (core_of r).cells c) ≡ is_task_sort (reference_of r.born c).sort
      task_shown = ap is_task (stage_out r.born r.maker (parts_of cells x) c there.0 there.1)
          ∙ ((tells_there c (x.words.own c) (x.words.phase c) (held_of x c) (home_of x c) (r.waiters_own c)).0
          ∙ ap is_task_sort (sym sort_is))

      -- the way of a wait for it
      pub way_shown : (t : ℕ) → t < drawn_in cells x → way_of_wait (core_of r) t c ≡ way_by r.born t c
      way_shown t l = λ j.
          way_if (task_shown j && before (name_shown t l j) (name_shown c there.0 j))

      pub wait_shown : wait (core_of r).cells c ≡ wait_in (x.words.phase c)
      wait_shown = ap wait_of (stage_out r.born r.maker (parts_of cells x) c there.0 there.1)
          ∙ (tells_there c (x.words.own c) (x.words.phase c) (held_of x c) (home_of x c) (r.waiters_own c)).1
