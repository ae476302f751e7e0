-- Tasks depth by depth, where no cell has an entry.
use Rattle.std.specs.Prelude.{◌≡◌, ℕ, suc, ◌-◌, ◌<◌, List, length, None}
use Rattle.std.specs.List.{flat_map}
use Rattle.tj_body.specs.History.{Assignment, history}
use Rattle.tj_body.specs.Points.{HasEnded, IsIn}
use Rattle.tj_body.specs.Programs.{Program, Rules}
use Rattle.tj_body.specs.Rounds.{cells_by, given, tasks}
use Rattle.tj_body.specs.declared.point.Task.{Task}
use Rattle.tj_mean.specs.FirstFull.{IsFirstFull}

-- no cell has an entry
abbrev pub nothing : Assignment
nothing q = None

module _ {B : Type 0} (rules : Rules B) where
  -- the children of these tasks
  abbrev pub below : List (Task B) → List (Task B)
  below ts = flat_map (λ t. (history rules nothing t).children) ts

  -- how many cells these tasks make
  abbrev pub made_of : List (Task B) → ℕ
  made_of ts = length (flat_map (cells_by rules nothing) ts)

  -- each of the tasks ends; this is left of the room when they have made their cells; and if there is any left, these
  -- are their children
  pub record IsDepthTaken (ts : List (Task B)) (room left : ℕ) (children : List (Task B)) : Type 0 where
    pub ended : (t : Task B) → IsIn t ts → HasEnded (history rules nothing t)
    pub left_is : left ≡ room - made_of ts
    pub children_are : 0 < left → children ≡ below ts

module _ {B : Type 0} (program : Program B) where
  -- under these entries each task of the round with this number does what it does in that round
  pub record AreAsInRound (number : ℕ) (V : Assignment) : Type 0 where
    pub before : ℕ
    pub number_is : number ≡ suc before
    pub alike : (t : Task B) → IsIn t (tasks program (suc before))
        → history program.rules V t ≡ history program.rules (given program before) t

  -- the round is the first that has more than N cells, and each of its tasks does without an entry what it does in it
  pub record IsFullDepth (N number : ℕ) : Type 0 where
    pub first : IsFirstFull program N number
    pub entries : AreAsInRound number nothing
