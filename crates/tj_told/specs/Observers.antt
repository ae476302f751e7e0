-- The seat of an observer: what it knows of the cells that it has looked at.
use Rattle.std.specs.Prelude.{◌≡◌, ◌-◌, ◌≤◌, ℕ, [], Option, length}
use Rattle.tj_base.specs.ForkOrder.{Name}
use Rattle.tj_body.specs.History.{to_task}
use Rattle.tj_body.specs.Points.{IsIn}
use Rattle.tj_body.specs.declared.point.Reference.{Reference}
use Rattle.tj_log.specs.Shown.{SeatShown}
use Rattle.tj_record.specs.declared.record.Rec.{Rec}
use Rattle.tj_words.specs.declared.table.Laid.{Laid}
use Rattle.tj_words.specs.declared.view.View.{View}
use Rattle.tj_words.specs.LawParts.TreeWords.{IsCell}
use Rattle.tj_words.specs.SeatViews.KnowsMore.{KnowsMore}
use Rattle.tj_words.specs.SeatViews.SeatSteps.{IsSameSeat, IsSeatOf}
use Rattle.tj_words.specs.SeatViews.SeenWords.{SeesNames, seen_word}
use Rattle.tj_words.specs.SeatViews.Views.{IsIdle}
use Rattle.tj_words.specs.declared.offsets.Once.TheVariants as once
use Rattle.tj_told.specs.ToldLoads.{GrowsTo}

module _ {B : Type 0} where
  -- a seat of this table that may be merged and has no slot; it knows that cell 0 is the root
  pub record Observes (laid : Laid B) (seat : SeatShown (Option (Rec B)) (View B)) : Type 0 where
    pub table : IsSeatOf laid seat
    pub idle : IsIdle seat.me.0
    pub slots : seat.me.1 ≡ []
    pub root : IsCell seat.me.0.born 0 (to_task [])

  -- the seat is the same one, and may be merged; it knows what it knew, and its log has gone on
  pub record LooksOn (old new : SeatShown (Option (Rec B)) (View B)) : Type 0 where
    pub same : IsSameSeat old new
    pub idle : IsIdle old.me.0 → IsIdle new.me.0
    pub more : KnowsMore old.me.0 new.me.0
    pub log : GrowsTo old.log new.log

  -- the seat knows the cell, which has this name
  abbrev pub KnowsName : ℕ → Name → View B → Type 0
  KnowsName c q v = (x : Reference) × IsCell v.born c x × (x.name ≡ q)

  -- the seat knows the cell, and what it is
  abbrev pub KnowsCell : ℕ → View B → Type 0
  KnowsCell c v = IsIn c v.known × ((x : Reference) × IsCell v.born c x)

  -- the seat has seen PARENT of the cell, which leads to this maker, and this number as its KID; such words tell names,
  -- and what it knows are cells of the table
  pub record SeesMaker (cells c maker k : ℕ) (v : View B) : Type 0 where
    pub parent : ℕ
    pub leads : maker ≡ parent - 1
    pub parent_seen : IsIn (seen_word c once.Parent parent) v.seen
    pub kid_seen : IsIn (seen_word c once.Kid k) v.seen
    pub names : SeesNames v.seen v.born
    pub few : length v.born ≤ cells
