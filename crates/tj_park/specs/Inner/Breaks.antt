-- The breaking of the promises that a task owes: what it needs of the view of the seat, and what it makes of it.
use Rattle.std.specs.Prelude.{◌≡◌, ◌⊎◌, ℕ, ◌<◌, Bool, List, ◌∷◌, Some, None}
use Rattle.tj_base.specs.declared.cell.CellId.{CellId}
use Rattle.tj_body.specs.Points.{IsIn}
use Rattle.tj_body.specs.Programs.{Program}
use Rattle.tj_body.specs.declared.point.Entry.TheVariants as entry
use Rattle.tj_words.specs.declared.view.About.{About}
use Rattle.tj_words.specs.declared.view.Custody.{Custody}
use Rattle.tj_words.specs.declared.view.View.{View}
use Rattle.tj_words.specs.LawParts.Holding.{held_in}
use Rattle.tj_words.specs.SeatViews.KnownEntries.{HasSeen, IsToBecome}
use Rattle.tj_words.specs.SeatViews.KnowsMore.{AreAmong, KnowsMore, HasSameHand, HasSameCounts}
use Rattle.tj_words.specs.Words.Lists.{All, AreApart, numbers}
use Rattle.tj_words.specs.Steps.StepEvents.{MayAct}
use Rattle.tj_words.specs.SeatViews.TaskLists.{let_go}
use Rattle.tj_park.specs.Records.{AlarmsLeave, HasNothingToCome}

module _ {B : Type 0} where
  -- the seat holds t, which runs, whose record isn't home, and which owns its result and these promises; each number
  -- stands there once
  pub record OwnsStill (t : ℕ) (promises : List CellId) (v : View B) : Type 0 where
    pub custody : Custody B
    pub held : held_in v.tasks t ≡ Some custody
    pub runs : MayAct custody.does
    pub out : custody.home ≡ None
    pub owned : custody.owned ≡ t ∷ numbers promises
    pub apart : AreApart (t ∷ numbers promises)

  -- the seat may break these promises of t, each of which is to be broken in some round
  pub record MayBreak (program : Bool → B → Program B) (t : ℕ) (promises : List CellId) (v : View B) : Type 0 where
    pub about : About B
    pub is_about : v.about ≡ Some about
    pub owns : OwnsStill t promises v
    pub breaks : All (λ (c : CellId). IsToBecome (program about.strict about.root) v.born c.0 entry.Broken) promises
    pub idle : HasNothingToCome v
    pub token_room : v.tokens < v.lot
    pub cleared_room : v.cleared < v.lot
    pub alarms : AlarmsLeave 0 v

  -- of these promises of t those are left, and the others are broken
  pub record HasBroken (t : ℕ) (promises left : List CellId) (v w : View B) : Type 0 where
    pub knows : KnowsMore v w
    pub born : w.born ≡ v.born
    pub owns : OwnsStill t left w
    pub made : (k : Custody B) → held_in v.tasks t ≡ Some k → owns.custody.made ≡ k.made
    pub others : let_go t w.tasks ≡ let_go t v.tasks
    pub hand : HasSameHand v w
    pub counts : HasSameCounts v w
    pub idle : HasNothingToCome w
    pub alarms : AlarmsLeave 0 w
    pub within : AreAmong left promises
    pub put_home : w.put_home ≡ v.put_home
    pub entries : All (λ (c : CellId). IsIn c left ⊎ HasSeen w.filled c.0 entry.Broken) promises
