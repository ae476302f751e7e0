-- What stands between the steps by which a cell is made.
use Rattle.std.specs.Prelude.{◌≡◌, ◌≢◌, ℕ, suc, ◌+◌, ◌<◌, List, [], ◌∷◌, ◌++◌, length, Some}
use Rattle.tj_base.specs.declared.cell.Sort.{Sort}
use Rattle.tj_base.specs.declared.cell.Sort.TheVariants as sort
use Rattle.tj_body.specs.Points.{Begins}
use Rattle.tj_body.specs.declared.point.Reference.{Reference}
use Rattle.tj_tree.specs.Forks.{Forks}
use Rattle.tj_tree.specs.Nodes.{node_of, jump_from}
use Rattle.tj_words.specs.declared.offsets.Once.TheVariants as once
use Rattle.tj_words.specs.declared.view.Due.{Due}
use Rattle.tj_words.specs.declared.view.View.{View}
use Rattle.tj_words.specs.Words.Lists.{All}
use Rattle.tj_words.specs.LawParts.TreeWords.{AreCells}
use Rattle.tj_words.specs.SeatViews.TaskLists.{noted}
use Rattle.tj_words.specs.SeatViews.SeenWords.{seen_word}
use Rattle.tj_words.specs.Calls.DrawViews.{drawn_next, new_hand, new_tasks, runs_on, wrote_word}
use Rattle.tj_words.specs.SeatViews.TreeReads.{HasReadTree}

-- where a child of the task jumps
abbrev pub child_jump_of : ℕ → Forks → ℕ
child_jump_of t forks = (jump_from (node_of forks) (record { 0 = t })).0

-- the words of a cell in hand that are still to be written, after PARENT and KID
abbrev pub dues_left : ℕ → Sort → List Due
dues_left c sort.Promise = []
dues_left c sort.Task = record { cell = c; word = once.Depth } ∷ record { cell = c; word = once.Jump } ∷ []

module _ {B : Type 0} where
  -- t has drawn c, of this sort, as the kid-th thing that it makes, and PARENT and KID are written
  abbrev pub drew_named : ℕ → ℕ → Sort → ℕ → List Reference → View B → View B
  drew_named t kid o c born v = record v {
    steps = suc (suc (suc v.steps));
    hand = Some (new_hand c t o);
    tasks = new_tasks c o (noted t runs_on v.tasks);
    born = born ++ drawn_next t o v ∷ [];
    seen = seen_word c once.Kid kid ∷ seen_word c once.Parent (suc t) ∷ v.seen;
    dues = dues_left c o ++ v.dues;
  }

  -- the cell that was drawn is the next after all that there were, and no word of it was due before
  pub record DrawsNamed (cells t kid : ℕ) (o : Sort) (c : ℕ) (v w : View B) : Type 0 where
    pub born : List Reference
    pub begins : Begins v.born born
    pub next : length born ≡ c
    pub small : c < cells
    pub all : AreCells cells (born ++ drawn_next t o v ∷ [])
    pub fresh : All (λ (d : Due). d.cell ≢ c) v.dues
    pub view : w ≡ drew_named t kid o c born v

  -- t has a new task c in hand, of which DEPTH and JUMP are to be written, and nothing else is due of it
  pub record HasInHand (t c : ℕ) (v : View B) : Type 0 where
    pub hand : v.hand ≡ Some (new_hand c t sort.Task)
    pub left : List Due
    pub dues : v.dues ≡ dues_left c sort.Task ++ left
    pub fresh : All (λ (d : Due). d.cell ≢ c) left

  -- the nodes of t and of two tasks above it were read, and DEPTH and JUMP of c are written
  pub record WritesNode (cells c : ℕ) (v w : View B) : Type 0 where
    pub read : View B
    pub reads : HasReadTree cells v read
    pub loads : read.once_loads ≡ 12 + v.once_loads
    pub depth : ℕ
    pub jump : ℕ
    pub view : w ≡ wrote_word c once.Jump jump (wrote_word c once.Depth depth read)
