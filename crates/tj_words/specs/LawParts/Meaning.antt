-- Within the meaning: all that stands in the words and the records is of some round of the program.
use Rattle.std.specs.Prelude.{◌≡◌, ◌≢◌, ℕ, ◌<◌, List, Option, Some}
use Rattle.tj_base.specs.ForkOrder.{Name}
use Rattle.tj_base.specs.declared.cell.Sort.TheVariants as sort
use Rattle.tj_body.specs.Points.{IsIn, Begins}
use Rattle.tj_body.specs.declared.point.Reference.{Reference}
use Rattle.tj_body.specs.declared.point.Value.TheVariants as value
use Rattle.tj_body.specs.declared.point.Entry.{Entry}
use Rattle.tj_body.specs.declared.point.Entry.TheVariants as entry
use Rattle.tj_body.specs.declared.point.Task.{Task}
use Rattle.tj_body.specs.declared.point.Point.{Point}
use Rattle.tj_record.specs.declared.record.Rec.{Rec}
use Rattle.tj_words.specs.declared.view.Hand.{Hand}
use Rattle.tj_words.specs.declared.view.Filled.{Filled}
use Rattle.tj_words.specs.Words.Lists.{Each, All}
use Rattle.tj_words.specs.LawParts.Hands.{IsThere}
use Rattle.tj_body.specs.Programs.{Program}
use Rattle.tj_body.specs.Rounds.{IsFull}
use Rattle.tj_body.specs.RoundPoints.{Becomes, InRounds, IsOfRounds}
use Rattle.tj_words.specs.LawParts.TreeWords.{IsCell}
use Rattle.tj_words.specs.LawParts.Telling.{tag_of, BitsSay, Tells, TellsStage}

-- a cell of this name is there, and it is as F says
abbrev pub HasCell : List Reference → Name → (ℕ → Reference → Type 0) → Type 0
HasCell born q F = (c : ℕ) × (x : Reference) × IsCell born c x × (x.name ≡ q) × F c x

-- a cell that BITS names where this has become of its cell is drawn and isn't in hand
abbrev pub IsNamedThere : ℕ → (ℕ → Option Hand) → Entry → ℕ → Type 0
IsNamedThere drawn hand entry.Broken bits = Unit {0}
IsNamedThere drawn hand (entry.Value (value.Num i)) bits = Unit {0}
IsNamedThere drawn hand (entry.Value (value.Ref r)) bits = IsThere drawn hand bits

module _ {B : Type 0} (program : Program B) (drawn : ℕ) (hand : ℕ → Option Hand) (born : List Reference)
    (tag bits : ℕ → ℕ) where
  -- BITS of the cell is that of an entry which the cell's name has in some round
  pub record IsWritten (c : ℕ) (e : Entry) : Type 0 where
    pub reference : Reference
    pub is : IsCell born c reference
    pub becomes : Becomes program reference.name e
    pub bits_say : BitsSay born e (bits c)
    pub named_there : IsNamedThere drawn hand e (bits c)

  -- and TAG is too
  pub record IsFilled (c : ℕ) (e : Entry) : Type 0 where
    pub written : IsWritten c e
    pub tag_is : tag c ≡ tag_of e

-- what a point of some round needs: its children and promises are cells, and each cell that it wrote has that entry
module _ {B : Type 0} (program : Program B) (born : List Reference) (Has : ℕ → Entry → Type 0) where
  -- the point is one of some round, and what it forked, made and wrote is there
  pub record StandsIn (p : Point B) : Type 0 where
    pub of_rounds : IsOfRounds program p
    pub children : (k : Task B) → IsIn k p.children → HasCell born k.name (λ c x. x.sort ≡ sort.Task)
    pub promises : (q : Name) → IsIn q p.promises → HasCell born q (λ c x. x.sort ≡ sort.Promise)
    pub writes : (q : Name) (e : Entry) → IsIn (q, e) p.writes → HasCell born q (λ c x. Has c e)

  -- the record tells a point that stands in the table
  pub record IsToldRecord (r : Rec B) : Type 0 where
    pub point : Point B
    pub tells : Tells born r point
    pub tells_stage : TellsStage born r.finish r.answer r.spare point
    pub stands : StandsIn point

-- all that stands is within the meaning of the program with this many cells, and what the seats know of it does: a
-- beginning of what the cells are; cells whose BITS it has written, with what they are to become; and cells of which
-- it knows what has become
pub record Meaning {B : Type 0} (program : Program B) (cells count stop drawn : ℕ) (hand : ℕ → Option Hand)
    (born : List Reference) (tag bits : ℕ → ℕ) (home : ℕ → Option (Rec B))
    (born_seen : List (List Reference)) (wrote filled : List (List Filled)) : Type 0 where
  pub names : (c : ℕ) (x : Reference) → IsCell born c x → InRounds program x.name
  pub entries : (c : ℕ) → tag c ≢ 0 → (e : Entry) × IsFilled program drawn hand born tag bits c e
  pub records : (t : ℕ) (r : Rec B) → home t ≡ Some r
      → IsToldRecord program born (IsFilled program drawn hand born tag bits) r
  pub full : cells < count → IsFull program cells
  pub stopped : stop ≡ 1 → cells < count
  pub begins : Each (λ j l. Begins l born) born_seen
  pub wrote_stands : Each (λ j l. All (λ (f : Filled). IsWritten program drawn hand born tag bits f.cell f.entry) l)
      wrote
  pub filled_stands : Each (λ j l. All (λ (f : Filled). IsFilled program drawn hand born tag bits f.cell f.entry) l)
      filled
