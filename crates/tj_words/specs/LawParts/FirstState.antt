-- The first state of a table: the root is drawn and ready, its record lies at home, and there is one seat.
use Rattle.std.specs.Prelude.{ℕ, ◌-◌, Bool, List, [], ◌∷◌, set, replicate, Option, Some, None}
use Rattle.tj_body.specs.History.{to_task}
use Rattle.tj_words.specs.declared.offsets.Once.TheVariants as once
use Rattle.tj_words.specs.declared.phase.Phase.TheVariants.{Ready}
use Rattle.tj_record.specs.declared.record.Rec.{Rec}
use Rattle.tj_words.specs.declared.view.View.{View}
use Rattle.tj_words.specs.Words.Lists.{cell}
use Rattle.tj_words.specs.Words.Offsets.{words_for, count_at, live_at, own_at, phase_at, once_at}
use Rattle.tj_words.specs.Words.Owners.{owner_word}
use Rattle.tj_words.specs.Words.Phases.{phase_word}
use Rattle.tj_words.specs.LawParts.Lots.{all_lots}
use Rattle.tj_record.specs.StartRecords.{own, start_record}
use Rattle.tj_words.specs.SeatViews.Views.{spent}

-- one cell is drawn, the root; it is ready, owns its result, and jumps to itself
abbrev pub first_words : ℕ → List ℕ
first_words cells =
    set (set (set (set (set (replicate (words_for cells) 0) count_at 1) live_at 1) (own_at 0) (owner_word (Some 0)))
    (phase_at 0) (phase_word Ready)) (once_at 0 once.Jump) 1

module _ {B : Type 0} where
  -- the record of the root at its start
  abbrev pub root_record : B → Rec B
  root_record root = start_record (cell 0) root (own (cell 0) ∷ []) (cell 0 ∷ [])

  -- the slots: the root's record, and none for each other cell
  abbrev pub first_slots : ℕ → B → List (Option (Rec B))
  first_slots cells root = Some (root_record root) ∷ replicate (cells - 1) None

  -- the view of the first seat, which has all lots and knows what cell 0 is
  abbrev pub first_view : ℕ → B → Bool → View B
  first_view cells root strict = record spent {
    about = Some (record { root = root; cells = cells; strict = strict });
    lot = all_lots;
    born = to_task [] ∷ [];
  }
