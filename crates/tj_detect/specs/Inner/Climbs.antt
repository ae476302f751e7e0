-- Walks up the tree of forks, by looks at the words of a table.
use Rattle.std.specs.Prelude.{◌≡◌, ℕ, ◌+◌, ◌*◌, Option}
use Rattle.std.specs.Borrow.{MutBor}
use Rattle.tj_log.specs.Shown.{SeatShown}
use Rattle.tj_tree.specs.declared.node.TaskNode.{TaskNode}
use Rattle.tj_tree.specs.Inner.Moves.{IsKnown}
use Rattle.tj_tree.specs.Walk.{GoesOn}
use Rattle.tj_record.specs.declared.record.Rec.{Rec}
use Rattle.tj_words.specs.declared.table.Laid.{Laid}
use Rattle.tj_words.specs.declared.view.View.{View}
use Rattle.tj_words.specs.SeatViews.TreeReads.{IsLater, MayLook, TreeShown}
use Rattle.tj_detect.specs.ClimbLogs.{LogsClimb}

module _ {B : Type 0} where
  -- the seat has seen the node of this task, and may look at the task's parent and at its jump
  abbrev pub KnowsNode : Laid B → SeatShown (Option (Rec B)) (View B) → TaskNode → Type 0
  KnowsNode laid seat at = IsKnown (TreeShown seat) (MayLook laid seat) at

  -- a walk up has gone on: it has the same seat and the same count of steps as before; what was seen and might be looked
  -- at still is; and each step was four loads of words that are written once
  pub record HasClimbed (laid : Laid B) (from to : MutBor (SeatShown (Option (Rec B)) (View B))) (old new : MutBor ℕ) :
      Type 0 where
    pub same_seat : to.ghost_name ≡ from.ghost_name
    pub same_count : new.ghost_name ≡ old.ghost_name
    pub goes_on : GoesOn (TreeShown from.now) (MayLook laid from.now) (TreeShown to.now) (MayLook laid to.now)
    pub later : IsLater laid.cells from.now to.now
    pub loads : to.now.me.0.once_loads + 4 * old.now ≡ from.now.me.0.once_loads + 4 * new.now
    pub log : LogsClimb old.now new.now from.now to.now
