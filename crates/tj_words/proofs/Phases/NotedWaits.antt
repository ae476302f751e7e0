-- The law after a store of PHASE by which a task that its seat holds does something else from then on: it walks, or has
-- alarmed.
use Rattle.tj_words.proofs.Prelude.{AreThere, Begins, CellId, Contents, CoreFacts, Custody, Does, IsBegun, IsCell, IsIn}
use Rattle.tj_words.proofs.Prelude.{IsParkedOn, Law, List, LiveCount, None, Option, Phase, Program, Reference, Some}
use Rattle.tj_words.proofs.Prelude.{Walk, Way, ap, arith, at_longer, before, core_shown, does_cells, drawn_in, hand_of}
use Rattle.tj_words.proofs.Prelude.{hold, home_of, is_task_sort, now_does, owned_by, phase_of, put, reference_of, refl}
use Rattle.tj_words.proofs.Prelude.{set, some-injective, subst, sym, tag_in, way_by, way_if, ℕ, ◌&&◌, ◌∙◌, ◌≡◌, ◌≢◌}
use Rattle.tj_words.proofs.Lemmas.{IsHeldWith, IsMoved, at_index, begun_there, custody, hold_held, home_there, inside}
use Rattle.tj_words.proofs.Lemmas.{made_held_by, none_some, out_fit, owned_held_by, parts_of, put_else, put_here}
use Rattle.tj_words.proofs.Lemmas.{put_self}
use Rattle.tj_words.proofs.Holders.HeldChanges.{found_held, hold_move}
use Rattle.tj_words.proofs.Waiters.ChainFacts.{held_free}
use Rattle.tj_words.proofs.Waiters.ChainPhases.{chains_turn}
use Rattle.tj_words.proofs.Holders.TaskMoves.{law_task, TaskMove}
use Rattle.tj_words.specs.declared.phase.Phase.TheVariants as phase

-- what a list of cells has at an index
reference_there : (l : List Reference) (c : ℕ) (y : Reference) → IsCell l c y → reference_of l c ≡ y
reference_there l c y e = some-injective (reference_of l c) y (sym (at_index l c _ (inside l c y e)) ∙ e)

-- a beginning of the cells tells what a cell is that stands in it
begun_reference : (b l : List Reference) (c : ℕ) → Begins b l → (y : Reference) × IsCell b c y
    → reference_of b c ≡ reference_of l c
begun_reference b l c h y = reference_there b c y.0 y.1
    ∙ sym (reference_there l c y.0 (subst (λ z. IsCell z c y.0) (sym h.1) (at_longer b h.0 c y.0 y.1)))

-- and so it tells the way of a wait
pub begun_way : (b l : List Reference) (t p : ℕ) → Begins b l → (y : Reference) × IsCell b t y
    → (y : Reference) × IsCell b p y → way_by b t p ≡ way_by l t p
begun_way b l t p h i j = let e = begun_reference b l t h i in let f = begun_reference b l p h j in
    λ z. way_if (is_task_sort (f z).sort && before (e z).name (f z).name)

-- the cell of a wait is one that what the task does names
wait_cells : (d : Does) (c : CellId) (way : Way) (w : Walk) → phase_of d ≡ phase.Waiting c way w
    → IsIn c.0 (does_cells d)
wait_cells d c way w e = grind arith

module _ {B : Type 0} {program : Program B} {cells : ℕ} {x : Contents B} (r : Law program cells x) (id t : ℕ)
    (k : Custody B) (h : IsHeldWith x id t k) (its : k.task ≡ t) (d : Does) (tokens : List ℕ) where
  abbrev n : ℕ
  n = drawn_in cells x

  abbrev k' : Custody B
  k' = now_does d k

  abbrev phases : ℕ → Phase
  phases = put x.words.phase t (phase_of d)

  -- the contents after it
  abbrev pub after_note : Contents B
  after_note = record {
    words = record x.words { phase = phases };
    slots = x.slots;
    seats = record x.seats { tokens = tokens; tasks = set x.seats.tasks id (hold k' h.0) };
  }

  here : phases t ≡ phase_of d
  here = put_here x.words.phase t t (phase_of d) refl

  else : (u : ℕ) → u ≢ t → phases u ≡ x.words.phase u
  else u m = put_else x.words.phase t u (phase_of d) m

  -- the task turns to what it does now
  pub note_turns : IsMoved cells x after_note t (phase_of d) (Some k') (home_of x t)
  note_turns = record {
    made = made_held_by r id t k h;
    parts = λ j. record (parts_of cells x) {
      phase = phases;
      held = found_held r id t k k' h its j;
      home = put_self (home_of x) t (home_of x t) refl j;
    };
  }

  module _ (out : k.home ≡ None) (begun : IsBegun (phase_of k.does))
      (there : AreThere n (hand_of x) (does_cells d)) where
    empty : home_of x t ≡ None
    empty = (custody r id t k h).out out

    -- the law holds of them, where it does of the live count and of what is shown
    pub note_law : x.words.own t ≢ None → LiveCount cells x.words.live phases tokens x.seats.rested
        → CoreFacts (core_shown cells r.born r.maker after_note)
        → Law program cells after_note
    note_law owns live facts = law_task r move x.words (record x.seats { tokens = tokens })
        (ap (λ (o : Option (Custody B)). owned_by o (home_of x t)) (hold_held k' t h.0 its) ∙ owned_held_by r id t k h)
        r.names.knows
        (chains_turn r.chains t (phase_of d)
        (λ c q. held_free k.does c (subst (λ z. IsParkedOn z c) (custody r id t k h).does q)) (held_free d))
        live
        (out_fit (tag_in x) x.words.phase (home_of x) r.records_fit t phases (home_of x) (phase_of d) here
        else (λ u m. refl) empty) r.meaning facts
      where
        move : TaskMove r id t phases h.0 (hold k' h.0) x.slots
        move = hold_move r id t k k' h its x.slots (λ u m. refl) (home_there r t) phases else here
            (begun_there r t (subst IsBegun (sym (custody r id t k h).does) begun))
            (λ c way w e. (there c.0 (wait_cells d c way w (sym here ∙ e)), owns)) there refl (λ z e q i. i)
            (λ a. empty)
            (λ c e. none_some k.home c out e) (λ e. empty)
