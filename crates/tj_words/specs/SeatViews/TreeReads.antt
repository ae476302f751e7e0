-- What looks at the tree of forks need of a seat's view, and what they make of it.
use Rattle.std.specs.Prelude.{◌≡◌, ◌⊎◌, ℕ, ◌+◌, List, ◌++◌, Option}
use Rattle.tj_log.specs.Shown.{SeatShown}
use Rattle.tj_body.specs.Points.{IsIn, Begins}
use Rattle.tj_tree.specs.declared.node.Node.{Node}
use Rattle.tj_record.specs.declared.record.Rec.{Rec}
use Rattle.tj_words.specs.declared.table.Laid.{Laid}
use Rattle.tj_words.specs.declared.view.SeenWord.{SeenWord}
use Rattle.tj_words.specs.declared.view.View.{View}
use Rattle.tj_words.specs.SeatViews.SeatSteps.{IsSeatOf, IsCellOf, IsSameSeat}
use Rattle.tj_words.specs.LawParts.TreeWords.{AreCells}
use Rattle.tj_words.specs.SeatViews.SeenWords.{IsTaskIn, MayReadTree, SeesTree, ShowsNode}

module _ {B : Type 0} where
  -- the seat knows the cell, which is a task
  abbrev pub KnowsTask : ℕ → View B → Type 0
  KnowsTask c v = ((c ≡ 0) ⊎ IsIn c v.known) × IsTaskIn v.born c

  -- words of the tree were loaded: the seat knows more of it, and its view is as it was else
  pub record HasReadTree (cells : ℕ) (v w : View B) : Type 0 where
    pub begins : Begins v.born w.born
    pub all : AreCells cells v.born → AreCells cells w.born
    pub more : List SeenWord
    pub seen : w.seen ≡ more ++ v.seen
    pub loads : w.steps + v.once_loads ≡ v.steps + w.once_loads
    pub rest : w ≡ record v { born = w.born; seen = w.seen; once_loads = w.once_loads; steps = w.steps }

  -- the second seat is the first after such loads
  abbrev pub IsLater : ℕ → SeatShown (Option (Rec B)) (View B) → SeatShown (Option (Rec B)) (View B) → Type 0
  IsLater cells old new = IsSameSeat old new × HasReadTree cells old.me.0 new.me.0

  -- the seat has seen the node of the task, as part of a tree of forks
  abbrev pub TreeShown : SeatShown (Option (Rec B)) (View B) → ℕ → Node → Type 0
  TreeShown seat n node = SeesTree seat.me.0.seen seat.me.0.born × ShowsNode seat.me.0.seen n node

  -- the seat may look at the node of the task
  pub record MayLook (laid : Laid B) (seat : SeatShown (Option (Rec B)) (View B)) (c : ℕ) : Type 0 where
    pub table : IsSeatOf laid seat
    pub cell : IsCellOf laid c
    pub may : MayReadTree c seat.me.0
    pub task : IsTaskIn seat.me.0.born c
