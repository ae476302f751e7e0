-- What a seat has loaded of all that was told.
use Rattle.std.specs.Prelude.{◌≡◌, ◌⊎◌, ℕ, Bool, true, false, List, get_or, Option, Some}
use Rattle.tj_base.specs.ForkOrder.{Name}
use Rattle.tj_body.specs.Points.{IsIn}
use Rattle.tj_base.specs.declared.value.Shown.{Shown}
use Rattle.tj_base.specs.declared.value.Shown.TheVariants as shown
use Rattle.tj_body.specs.declared.point.Entry.TheVariants as entry
use Rattle.tj_body.specs.declared.point.Value.{Value}
use Rattle.tj_mean.specs.Outcomes.{shown_of}
use Rattle.tj_log.specs.Shown.{SeatShown}
use Rattle.tj_log.specs.declared.entry.Entry.{Entry}
use Rattle.tj_mean.specs.declared.outcome.Link.{Link}
use Rattle.tj_record.specs.declared.record.Rec.{Rec}
use Rattle.tj_words.specs.declared.view.View.{View}
use Rattle.tj_words.specs.LawParts.TreeWords.{AreCells}
use Rattle.tj_words.specs.SeatViews.KnownEntries.{HasSeen}
use Rattle.tj_told.specs.ToldLoads.{StopsLast}
use Rattle.tj_told.specs.Observers.{KnowsCell, KnowsName}
use Rattle.tj_told.specs.ToldLinks.{IsSeenRound, SeesName}
use Rattle.tj_told.specs.declared.news.News.{News}
use Rattle.tj_told.specs.declared.news.News.TheVariants as news

module _ {B : Type 0} where
  -- the seat has loaded TAG of cell c as that of a broken one, and words by which this is the cell's name
  pub record HasSeenBroken (c : ℕ) (q : Name) (v : View B) : Type 0 where
    pub loaded : HasSeen v.filled c entry.Broken
    pub known : KnowsName c q v
    pub named : SeesName v.seen c q

  -- the name of cell c, which the seat knows, is shown
  abbrev pub IsNameOf : ℕ → Shown → View B → Type 0
  IsNameOf c v seat = (q : Name) × (v ≡ shown.Ref q) × KnowsName c q seat

  -- the seat has loaded the value of cell c, which is shown like this
  pub record IsSeenAs (c : ℕ) (v : Shown) (seat : View B) : Type 0 where
    pub value : Value
    pub loaded : HasSeen seat.filled c (entry.Value value)
    pub shown : shown_of value ≡ v

  -- and words by which this is the cell's name
  pub record HasSeenValue (c : ℕ) (q : Name) (v : Shown) (seat : View B) : Type 0 where
    pub seen : IsSeenAs c v seat
    pub named : SeesName seat.seen c q

  -- the seat has loaded TAG of cell c as that of a broken one, and knows the cell and what all cells are so far
  pub record IsBrokenNow (cells c : ℕ) (v : View B) : Type 0 where
    pub loaded : HasSeen v.filled c entry.Broken
    pub known : KnowsCell c v
    pub all : AreCells cells v.born

  -- each cycle that was told is a round of the seat's log, and each cell that was told to be broken was loaded as that,
  -- and is among those that were met; each value that was told is of the wanted cell, and was loaded
  pub record AreSeen (wanted : Option Name) (seat : SeatShown (Option (Rec B)) (View B)) (met : List Bool)
      (told : List News) : Type 0 where
    pub cycles : (c : List Link) → IsIn (news.Cycle c) told → IsSeenRound seat.log seat.me.0.seen c
    pub broken : (q : Name) → IsIn (news.Broken q) told
        → (c : ℕ) × (get_or met c false ≡ true) × HasSeenBroken c q seat.me.0
    pub values : (q : Name) (v : Shown) → IsIn (news.Value q v) told
        → (wanted ≡ Some q) × ((c : ℕ) × HasSeenValue c q v seat.me.0)

  -- the log is the seat's own, or one that it has taken in
  abbrev pub HasLogOf : SeatShown (Option (Rec B)) (View B) → List Entry → Type 0
  HasLogOf seat log = (log ≡ seat.log) ⊎ IsIn log seat.took

  -- the last step of one of its logs stored 2 in STOP
  abbrev pub HasStopped : SeatShown (Option (Rec B)) (View B) → Type 0
  HasStopped seat = (log : List Entry) × HasLogOf seat log × StopsLast log

  -- each cycle that was told is a round of one of its logs, and each cell that was told to
  -- be broken was loaded as that; each value that was told is of the wanted cell, and was loaded
  pub record AreSeenBy (wanted : Option Name) (seat : SeatShown (Option (Rec B)) (View B)) (told : List News) : Type 0
    where
      pub cycles : (c : List Link) → IsIn (news.Cycle c) told
          → (log : List Entry) × HasLogOf seat log × IsSeenRound log seat.me.0.seen c
      pub broken : (q : Name) → IsIn (news.Broken q) told
          → (c : ℕ) × HasSeen seat.me.0.filled c entry.Broken × SeesName seat.me.0.seen c q
      pub values : (q : Name) (v : Shown) → IsIn (news.Value q v) told
          → (wanted ≡ Some q) × ((c : ℕ) × HasSeenValue c q v seat.me.0)
