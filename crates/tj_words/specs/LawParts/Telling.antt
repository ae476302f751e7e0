-- What a record says of a point of its task, and the words of a cell of an entry, over what each cell is.
use Rattle.std.specs.Prelude.{◌≡◌, ℕ, ◌<◌, Bool, List, [], ◌∷◌, length, Option, Some, None}
use Rattle.std.specs.Int.{cast_signed, w64}
use Rattle.tj_base.specs.ForkOrder.{Name}
use Rattle.tj_base.specs.declared.cell.CellId.{CellId}
use Rattle.tj_base.specs.declared.cell.Sort.{Sort}
use Rattle.tj_base.specs.declared.cell.Sort.TheVariants as sort
use Rattle.tj_base.specs.declared.cause.Cause.{Cause}
use Rattle.tj_base.specs.declared.cause.Cause.TheVariants as cause
use Rattle.tj_body.specs.Names.{in_order}
use Rattle.tj_body.specs.History.{to_task, to_promise, reference, owned}
use Rattle.tj_body.specs.declared.ask.Answer.{Answer}
use Rattle.tj_body.specs.declared.ask.Answer.TheVariants as answer
use Rattle.tj_body.specs.declared.point.Reference.{Reference}
use Rattle.tj_body.specs.declared.point.Value.{Value}
use Rattle.tj_body.specs.declared.point.Value.TheVariants as value
use Rattle.tj_body.specs.declared.point.Entry.{Entry}
use Rattle.tj_body.specs.declared.point.Entry.TheVariants as entry
use Rattle.tj_body.specs.declared.point.Close.{Close}
use Rattle.tj_body.specs.declared.point.Close.TheVariants as close
use Rattle.tj_body.specs.declared.point.PointStage.TheVariants as stage
use Rattle.tj_body.specs.declared.point.Point.{Point}
use Rattle.tj_record.specs.declared.record.Fill.{Fill}
use Rattle.tj_record.specs.declared.record.Fill.TheVariants as fill
use Rattle.tj_record.specs.declared.record.Hurt.{Hurt}
use Rattle.tj_record.specs.declared.record.Hurt.TheVariants as hurt
use Rattle.tj_record.specs.declared.record.Finish.{Finish}
use Rattle.tj_record.specs.declared.record.Finish.TheVariants as finish
use Rattle.tj_record.specs.declared.record.Held.{Held}
use Rattle.tj_record.specs.declared.record.Rec.{Rec}
use Rattle.tj_words.specs.LawParts.TreeWords.{IsCell}

-- the lists agree element by element
abbrev pub ArePairs : {A C : Type 0} → (A → C → Type 0) → List A → List C → Type 0
ArePairs F [] [] = Unit {0}
ArePairs F [] (y ∷ ys) = ⊥
ArePairs F (x ∷ xs) [] = ⊥
ArePairs F (x ∷ xs) (y ∷ ys) = F x y × ArePairs F xs ys

-- TAG of a cell of which this has become
abbrev pub sort_tag : Sort → ℕ
sort_tag sort.Promise = 2
sort_tag sort.Task = 3

-- TAG of a cell of which this has become
abbrev pub tag_of : Entry → ℕ
tag_of entry.Broken = 4
tag_of (entry.Value (value.Num i)) = 1
tag_of (entry.Value (value.Ref r)) = sort_tag r.sort

module _ (born : List Reference) where
  -- a cell of this name
  abbrev pub HasName : CellId → Name → Type 0
  HasName c q = (x : Reference) × IsCell born c.0 x × (x.name ≡ q)

  -- BITS of a cell of which this has become: the 64 bits of the number, or the cell
  abbrev pub BitsSay : Entry → ℕ → Type 0
  BitsSay entry.Broken bits = bits ≡ 0
  BitsSay (entry.Value (value.Num i)) bits = cast_signed w64 bits ≡ i
  BitsSay (entry.Value (value.Ref r)) bits = IsCell born bits r

  -- the held cell is the reference
  abbrev pub HeldSays : Held → Reference → Type 0
  HeldSays h r = IsCell born h.cell.0 r × (h.sort ≡ r.sort)

  -- the value with which a cell is filled is this one
  abbrev pub FillSays : Fill → Value → Type 0
  FillSays (fill.Num i) v = v ≡ value.Num i
  FillSays (fill.Promise c) v = (q : Name) × IsCell born c.0 (to_promise q) × (v ≡ value.Ref (to_promise q))
  FillSays (fill.Task c) v = (q : Name) × IsCell born c.0 (to_task q) × (v ≡ value.Ref (to_task q))

  -- the reason for which a task failed is this cause
  abbrev pub HurtSays : Hurt → Cause → Type 0
  HurtSays hurt.Arith why = why ≡ cause.Arith
  HurtSays hurt.Kind why = why ≡ cause.Kind
  HurtSays hurt.Steps why = why ≡ cause.Steps
  HurtSays (hurt.Owner c) why = (q : Name) × HasName c q × (why ≡ cause.Owner q)
  HurtSays (hurt.Broken c) why = (q : Name) × HasName c q × (why ≡ cause.Broken q)
  HurtSays (hurt.Order c) why = (q : Name) × HasName c q × (why ≡ cause.Order q)

  -- the task ended like this
  abbrev pub FinishSays : Finish → Close → Type 0
  FinishSays (finish.Done f) e = (v : Value) × FillSays f v × (e ≡ close.Done v)
  FinishSays (finish.Failed h) e = (why : Cause) × HurtSays h why × (e ≡ close.Failed why)

  module _ {B : Type 0} where
    -- the record says what the point says, but for the point's stage
    pub record Tells (r : Rec B) (p : Point B) : Type 0 where
      pub of : IsCell born r.cell.0 (to_task p.name)
      pub body : r.body ≡ p.body
      pub held : ArePairs HeldSays r.held p.references
      pub owned_cells : ArePairs HasName r.owned (owned p)
      pub made : r.made ≡ p.made
      pub prints : r.prints ≡ p.prints
      pub owed : (names : List Name) × ArePairs HasName r.owed names × (p.owed ≡ in_order names)

    -- a record that lies at home says of the point's stage: it has ended like this, or is to be given Start, or waits
    -- for the cell at this place
    abbrev pub TellsStage : Option Finish → Answer → Bool → Point B → Type 0
    TellsStage (Some f) a spare p = (e : Close) × FinishSays f e × (p.stage ≡ stage.Closed e)
    TellsStage None answer.Start spare p = p.stage ≡ stage.Answered answer.Start
    TellsStage None (answer.RefAt k) spare p =
        (k < length p.references) × (p.stage ≡ stage.Waits (reference p k).name spare)
    TellsStage None (answer.Local k) spare p = ⊥
    TellsStage None answer.Done spare p = ⊥
    TellsStage None (answer.Num i) spare p = ⊥
    TellsStage None answer.Lost spare p = ⊥
