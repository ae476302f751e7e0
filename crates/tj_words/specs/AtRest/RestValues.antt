-- What the words TAG and BITS of a closed table show of the value of a cell, and that it is the one of the meaning.
use Rattle.std.specs.Prelude.{◌≡◌, ℕ, ◌<◌, List, Option, Some, None}
use Rattle.tj_body.specs.Programs.{Program}
use Rattle.tj_body.specs.Rounds.{given, last_round}
use Rattle.tj_body.specs.declared.point.Entry.{Entry}
use Rattle.tj_body.specs.declared.point.Entry.TheVariants as entry
use Rattle.tj_body.specs.declared.point.Reference.{Reference}
use Rattle.tj_words.specs.declared.closed.RestCell.{RestCell}
use Rattle.tj_words.specs.declared.offsets.Once.TheVariants.{Tag, Bits}
use Rattle.tj_record.specs.declared.record.Fill.{Fill}
use Rattle.tj_record.specs.declared.record.Fill.TheVariants as fill
use Rattle.tj_words.specs.AtRest.ClosedCells.{AreNamed}
use Rattle.tj_words.specs.AtRest.ShownCells.{AreTableWords}
use Rattle.tj_words.specs.LawParts.Telling.{FillSays}
use Rattle.tj_words.specs.LawParts.TreeWords.{IsCell}
use Rattle.tj_words.specs.Words.Offsets.{word, once_at}
use Rattle.tj_words.specs.Words.Values.{fill_in}

-- the value of a cell: none where nothing has become of it, or it is broken
abbrev pub value_shown : List ℕ → ℕ → Option Fill
value_shown words c = fill_in (word words (once_at c Tag)) (word words (once_at c Bits))

-- the cell to which a value refers, if it does, is one of the first n
abbrev pub RefersBelow : ℕ → Option Fill → Type 0
RefersBelow n None = Unit {0}
RefersBelow n (Some (fill.Num i)) = Unit {0}
RefersBelow n (Some (fill.Promise c)) = c.0 < n
RefersBelow n (Some (fill.Task c)) = c.0 < n

-- the words of a table of so many cells, of which n were drawn: the values of these refer to these
pub record AreClosedWords (cells n : ℕ) (words : List ℕ) : Type 0 where
  pub table : AreTableWords cells words
  pub refer : (c : ℕ) → c < n → RefersBelow n (value_shown words c)

module _ (born : List Reference) where
  -- the value is that of the entry: its number, or the cell of its reference; there is none for an open or broken cell
  abbrev pub IsValueOf : Option Fill → Option Entry → Type 0
  IsValueOf f None = f ≡ None
  IsValueOf f (Some entry.Broken) = f ≡ None
  IsValueOf f (Some (entry.Value v)) = (x : Fill) × (f ≡ Some x) × FillSays born x v

-- the value of each cell is what the meaning has for the cell's name, by PARENT and KID
abbrev pub AreValuesOfMeaning : {B : Type 0} → Program B → ℕ → List RestCell → List ℕ → Type 0
AreValuesOfMeaning program N shown words = (born : List Reference) → AreNamed shown born
    → (c : ℕ) (r : Reference) → IsCell born c r
    → IsValueOf born (value_shown words c) (given program (last_round N) r.name)
