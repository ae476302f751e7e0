-- The report of a run, task by task in name order.
use Rattle.std.specs.Prelude.{◌≡◌, ℕ, ◌<◌, Bool, true, false, not, ◌||◌, List, [], ◌∷◌, ◌++◌, map, length, get_or}
use Rattle.std.specs.Prelude.{Option, Some, None}
use Rattle.std.specs.List.{flat_map, list_any}
use Rattle.std.specs.Cmp.Lexicographic.{slice_cmp}
use Rattle.std.specs.Ordering.{nat_cmp}
use Rattle.std.specs.declared.cmp.Ordering.TheVariants.{Less}
use Rattle.tj_base.specs.ForkOrder.{Name}
use Rattle.tj_base.specs.Texts.{name_text}
use Rattle.tj_base.specs.declared.cell.CellId.{CellId}
use Rattle.tj_body.specs.Points.{IsIn}
use Rattle.tj_body.specs.Programs.{Program}
use Rattle.tj_body.specs.Rounds.{meaning}
use Rattle.tj_body.specs.declared.point.Point.{Point}
use Rattle.tj_body.specs.declared.point.Reference.{Reference}
use Rattle.tj_mean.specs.Outcomes.{Ascend, AreTold, is_nil, is_troubled}
use Rattle.tj_mean.specs.declared.stopped.Stopped.{Stopped}
use Rattle.tj_words.specs.AtRest.RestMeaning.{AreRecordsOf, AreWordsOf, TellsHistory}
use Rattle.tj_words.specs.LawParts.Telling.{ArePairs}
use Rattle.tj_words.specs.declared.closed.RestCell.{RestCell}
use Rattle.tj_record.specs.declared.record.Finish.{Finish}
use Rattle.tj_record.specs.declared.record.Finish.TheVariants as finish
use Rattle.tj_record.specs.declared.record.Rec.{Rec}
use Rattle.tj_report.specs.Inner.CellNamesBy.{name_by}
use Rattle.tj_mean.specs.ReportTexts.{task_lines}

-- the first name comes before the second
abbrev pub IsBefore : Name → Name → Type 0
IsBefore x y = slice_cmp nat_cmp x y ≡ Less

-- the task failed
abbrev pub has_failed : Finish → Bool
has_failed (finish.Done f) = false
has_failed (finish.Failed h) = true

-- the task with this end failed, owes or waits
abbrev pub has_trouble : Option Finish → List CellId → Bool
has_trouble None owed = true
has_trouble (Some f) owed = has_failed f || not (is_nil owed)

module _ {B : Type 0} (program : Program B) (N : ℕ) (shown : List RestCell) (records : List (Option (Rec B)))
    (born : List Reference) where
  -- The text has the lines of the tasks of these cells, in name order: of those of the meaning whose cells are told.
  -- It is marked where one of them failed, owes or waits.
  pub record AreToldInOrder (order : List ℕ) (told : List Bool) (text : List ℕ) (marked : Bool) : Type 0 where
    pub ss : List Stopped
    pub ps : List (Point B)
    pub are_told : AreTold ps ss
    pub ascend : Ascend (map (λ s. s.line.name) ss)
    pub cells : ArePairs (TellsHistory born records) order ps
    pub only : (p : Point B) → IsIn p ps → IsIn p (meaning program N)
    pub all : (p : Point B) (d : ℕ) → IsIn p (meaning program N) → get_or told d false ≡ true
        → TellsHistory born records d p → IsIn p ps
    pub text_is : text ≡ flat_map task_lines (map (λ s. s.line) ss)
    pub marked_is : marked ≡ list_any is_troubled (map (λ s. s.line) ss)

  -- so it is, and each of them comes before the task of this cell
  pub record AreToldBefore (at : ℕ) (order : List ℕ) (told : List Bool) (text : List ℕ) (marked : Bool) : Type 0 where
    pub so_far : AreToldInOrder order told text marked
    pub before : (s : Stopped) → IsIn s so_far.ss → IsBefore s.line.name (name_by shown at)

  -- so it is, and each of them comes before what comes after the task of this cell
  pub record AreToldTo (at : ℕ) (order : List ℕ) (told : List Bool) (text : List ℕ) (marked : Bool) : Type 0 where
    pub so_far : AreToldInOrder order told text marked
    pub before : (x : Name) → IsBefore (name_by shown at) x → (s : Stopped) → IsIn s so_far.ss
        → IsBefore s.line.name x

module _ {B : Type 0} (program : Program B) (N : ℕ) (shown : List RestCell) (records : List (Option (Rec B))) where
  -- over the references of the meaning, whichever they are, the tasks before this cell are told
  abbrev pub IsWalkedBefore : ℕ → List ℕ → List Bool → List ℕ → Bool → Type 0
  IsWalkedBefore at order told text marked = (born : List Reference) → AreWordsOf program N born shown
      → AreRecordsOf program N born records → AreToldBefore program N shown records born at order told text marked

  -- over these, the tasks up to this cell are told
  abbrev pub IsWalkedTo : ℕ → List ℕ → List Bool → List ℕ → Bool → Type 0
  IsWalkedTo at order told text marked = (born : List Reference) → AreWordsOf program N born shown
      → AreRecordsOf program N born records → AreToldTo program N shown records born at order told text marked

-- each record of the first n slots is that of a cell that is told
abbrev pub AreToldBelow : {B : Type 0} → ℕ → List (Option (Rec B)) → List Bool → Type 0
AreToldBelow {B} n records told = (d : ℕ) (r : Rec B) → d < n → get_or records d None ≡ Some r
    → get_or told d false ≡ true

-- the task of cell u comes after that of cell t in name order, and this is its printed name
pub record IsPrintedAfter (shown : List RestCell) (t : ℕ) (name : List ℕ) (u : ℕ) : Type 0 where
  pub there : u < length shown
  pub printed : name ≡ name_text (name_by shown u)
  pub later : IsBefore (name_by shown t) (name_by shown u)

-- the task of cell u is the fork with this number of that of cell t, and this is its printed name
pub record IsForkOf (shown : List RestCell) (t k : ℕ) (name : List ℕ) (u : ℕ) : Type 0 where
  pub there : u < length shown
  pub printed : name ≡ name_text (name_by shown u)
  pub made : name_by shown u ≡ name_by shown t ++ k ∷ []
