-- What a seat knows of what becomes of cells, as it stores BITS and TAG and lays a record home.
use Rattle.std.specs.Prelude.{ℕ, List}
use Rattle.tj_body.specs.Points.{IsIn}
use Rattle.tj_body.specs.Programs.{Program}
use Rattle.tj_body.specs.RoundPoints.{Becomes}
use Rattle.tj_body.specs.declared.point.Reference.{Reference}
use Rattle.tj_body.specs.declared.point.Value.TheVariants as value
use Rattle.tj_body.specs.declared.point.Entry.{Entry}
use Rattle.tj_body.specs.declared.point.Entry.TheVariants as entry
use Rattle.tj_record.specs.declared.record.Rec.{Rec}
use Rattle.tj_words.specs.declared.view.Filled.{Filled}
use Rattle.tj_words.specs.LawParts.TreeWords.{IsCell}
use Rattle.tj_words.specs.LawParts.Telling.{BitsSay}
use Rattle.tj_words.specs.LawParts.Meaning.{IsToldRecord}

-- the cell stands in the list with this entry
abbrev pub HasSeen : List Filled → ℕ → Entry → Type 0
HasSeen fs c e = IsIn (record { cell = c; entry = e }) fs

-- the cell that BITS names is one of these
abbrev pub NamesOneOf : List ℕ → Entry → ℕ → Type 0
NamesOneOf known entry.Broken n = Unit {0}
NamesOneOf known (entry.Value (value.Num i)) n = Unit {0}
NamesOneOf known (entry.Value (value.Ref r)) n = IsIn n known

module _ {B : Type 0} (program : Program B) where
  -- the record tells a point by what its seat knows: what the cells are, and what has become of those that the point
  -- wrote
  abbrev pub ToldBy : List Reference → List Filled → Rec B → Type 0
  ToldBy born filled r = IsToldRecord program born (HasSeen filled) r

  -- this becomes of the cell in some round
  abbrev pub IsToBecome : List Reference → ℕ → Entry → Type 0
  IsToBecome born c e = (x : Reference) × IsCell born c x × Becomes program x.name e

  -- the cell is to become this, BITS says it, and the cell that BITS names is one of those known
  pub record MayStoreBits (born : List Reference) (known : List ℕ) (c : ℕ) (e : Entry) (n : ℕ) : Type 0 where
    pub to_become : IsToBecome born c e
    pub bits_say : BitsSay born e n
    pub knows : NamesOneOf known e n
