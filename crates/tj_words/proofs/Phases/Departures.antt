-- The law after a task leaves its seat with its record at home: it is ready, has ended, or was shelved.
use Rattle.tj_words.proofs.Prelude.{AreThere, CellId, Contents, Custody, Does, Hand, IsKept, Law, LiesAtHome, None}
use Rattle.tj_words.proofs.Prelude.{Option, Phase, Program, Rec, SeatsHave, Slots, Some, Walk, Way, WordsSay, ap}
use Rattle.tj_words.proofs.Prelude.{drawn_in, get_elem?, hand_of, held_in, held_of, home_in, home_of, let_go, made_by}
use Rattle.tj_words.proofs.Prelude.{numbers, owned_by, owned_of, phase_of, phase_sort, put, put_else, put_here}
use Rattle.tj_words.proofs.Prelude.{record_cells, refl, some, stage_there, subst, sym, ℕ, ◌∙◌, ◌≡◌, ◌≢◌}
use Rattle.tj_words.proofs.Lemmas.{IsHeldWith, IsQuietStep, KeepsOthers, custody, held_drawn, none_some, one_some}
use Rattle.tj_words.proofs.Events.WalkSteps.{Leaves}
use Rattle.tj_words.proofs.Holders.SeatTasks.{made_held_by, owned_held_by, let_go_else, let_go_here}
use Rattle.tj_words.proofs.Events.QuietMoves.{quiet_move}
use Rattle.tj_words.proofs.Holders.HeldChanges.{let_go_in}
use Rattle.tj_words.proofs.Holders.TaskMoves.{does_sort, TaskMove, task_moved, task_moves}
use Rattle.tj_base.specs.declared.cell.Sort.TheVariants as sort
use Rattle.tj_words.specs.declared.phase.Phase.TheVariants as phase

module _ {B : Type 0} {program : Program B} {cells : ℕ} {x : Contents B} (r : Law program cells x) (id t : ℕ) where
  abbrev n : ℕ
  n = drawn_in cells x

  -- a task that seat id holds leaves it: from then on this is its phase, and these are the slots, where its record lies
  pub record Departs (q : Phase) (slots : Slots B) : Type 0 where
    pub custody_of : Custody B
    pub held : IsHeldWith x id t custody_of
    pub out : hand_of x t ≡ None
    pub free : (h : Hand) → get_elem? x.seats.hands id ≡ some (Some h) → h.maker ≢ t
    pub is_task : phase_sort q ≡ sort.Task
    pub waits : (c : CellId) (way : Way) (w : Walk) → q ≡ phase.Waiting c way w
        → (u : Walk) × (x.words.phase t ≡ phase.Waiting c way u)
    pub kept : (o : Option ℕ) (h : Option (Rec B)) → LiesAtHome o h → IsKept q o h
    pub record_of : Rec B
    pub lies : home_in slots t ≡ Some record_of
    pub apart : (u : ℕ) → u ≢ t → get_elem? slots u ≡ get_elem? x.slots u
    pub its : record_of.cell.0 ≡ t
    pub owned : numbers record_of.owned ≡ custody_of.owned
    pub made : record_of.made ≡ custody_of.made
    pub there : AreThere n (hand_of x) (record_cells record_of)

  module _ {q : Phase} {slots : Slots B} (d : Departs q slots) where
    pub here : put x.words.phase t q t ≡ q
    here = put_here x.words.phase t q

    abbrev pub leave : TaskMove r id t (put x.words.phase t q) d.held.0 (let_go t d.held.0) slots
    leave = record {
      at = d.held.1;
      same = λ u m. let_go_else t u d.held.0 m;
      mine = λ j e. one_some j id (sym e ∙ (custody r id t d.custody_of d.held).mine);
      there = (held_drawn r id t d.custody_of d.held, d.out);
      was_task = ap phase_sort (custody r id t d.custody_of d.held).does ∙ does_sort d.custody_of.does;
      is_task = ap phase_sort here ∙ d.is_task;
      else = λ u m. put_else x.words.phase t q u m;
      waits = λ p way w e. let y = d.waits p way w (sym here ∙ e) in
          (r.names.waits t p way y.0 y.1, r.waiters_own t p way y.0 y.1);
      makers = λ h e q. absurd (d.free h e q);
      apart = d.apart;
      lies = λ y e. let same : d.record_of ≡ y = one_some d.record_of y (sym d.lies ∙ e) in (
        subst (λ (a : Rec B). AreThere n (hand_of x) (record_cells a)) same d.there,
        ap (λ (a : Rec B). a.cell.0) (sym same) ∙ d.its,
      );
      walks = λ a i. r.names.walks id d.held.0 d.held.1 a (let_go_in t d.held.0 a i);
      made = (λ j. made_by (let_go_here t d.held.0 j) (d.lies j)) ∙ (d.made ∙ made_held_by r id t d.custody_of d.held);
      holder = None;
      kept = subst (λ p. IsKept p None (home_in slots t)) (sym here)
          (d.kept None (home_in slots t) (refl, (d.record_of, d.lies)));
      custody = λ k e. none_some (held_in (let_go t d.held.0) t) k (let_go_here t d.held.0) e;
      holds = λ j e. none_some None j refl e;
    }

    module _ (words : WordsSay) (seats : SeatsHave B) where
      -- the contents after it, with what else these words and seats have changed
      abbrev pub after_leaving : Contents B
      after_leaving = task_moved r leave words seats

      -- the task leaves
      abbrev pub does_leave : (e : Does) → d.custody_of.does ≡ e → Leaves cells x after_leaving id t e q
      does_leave e did = record {
        before_it = d.custody_of;
        record_of = d.record_of;
        held = d.held;
        did = did;
        moved = task_moves r leave words seats q None (Some d.record_of) here (let_go_here t d.held.0) d.lies;
      }

      -- where it shows what it showed, nothing is shown
      pub leaves_quietly : (e : Does) → d.custody_of.does ≡ e → KeepsOthers cells x after_leaving
          → stage_there t (phase_sort q) (x.words.own t) q None (Some d.record_of)
          ≡ stage_there t (phase_sort (phase_of e)) (x.words.own t) (phase_of e) (held_of x t) (home_of x t)
          → IsQuietStep r after_leaving
      leaves_quietly e did keeps = quiet_move r after_leaving t (phase_of e) q None (Some d.record_of)
          ((custody r id t d.custody_of d.held).does ∙ ap phase_of did) leave.there keeps refl (does_leave e did).moved

    -- and its owner owns what it owned
    pub leave_owned : owned_by (held_in (let_go t d.held.0) t) (home_in slots t) ≡ owned_of x t
    leave_owned = (λ j. owned_by (let_go_here t d.held.0 j) (d.lies j))
        ∙ (d.owned ∙ owned_held_by r id t d.custody_of d.held)
