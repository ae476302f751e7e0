-- Where the meaning fits the limit: all that stands in the words and in the records at home is the meaning's.
use Rattle.std.specs.Prelude.{◌≡◌, ◌≢◌, ℕ, suc, List, [], length, Some}
use Rattle.tj_base.specs.ForkOrder.{child}
use Rattle.tj_body.specs.Asks.{Await}
use Rattle.tj_body.specs.History.{history, to_task}
use Rattle.tj_body.specs.Points.{IsIn, Begins, IsPointOf}
use Rattle.tj_body.specs.Programs.{Program, program_of}
use Rattle.tj_body.specs.Rounds.{IsFull, cells, given, last_round, tasks}
use Rattle.tj_body.specs.declared.ask.Answer.{Answer}
use Rattle.tj_body.specs.declared.ask.Ask.{Ask}
use Rattle.tj_body.specs.declared.point.Entry.{Entry}
use Rattle.tj_body.specs.declared.point.Point.{Point}
use Rattle.tj_body.specs.declared.point.Reference.{Reference}
use Rattle.tj_body.specs.declared.point.Task.{Task}
use Rattle.tj_words.specs.declared.offsets.Once.TheVariants as once
use Rattle.tj_record.specs.declared.record.Rec.{Rec}
use Rattle.tj_words.specs.declared.table.Key.{Key}
use Rattle.tj_words.specs.CallLaws.RestedRuns.{Ruled}
use Rattle.tj_words.specs.LawParts.Contents.{Contents, bits_in, drawn_in, hand_of, home_of, tag_in}
use Rattle.tj_words.specs.LawParts.Hands.{IsThere}
use Rattle.tj_words.specs.LawParts.ShownState.{phase_sort}
use Rattle.tj_words.specs.LawParts.Telling.{BitsSay, Tells, TellsStage, tag_of}
use Rattle.tj_words.specs.LawParts.TreeWords.{IsCell}
use Rattle.tj_runs.specs.Moments.{contents_at, program_at}

module _ {B : Type 0} (limit : ℕ) (x : Contents B) where
  -- the cell is drawn, and isn't in hand
  abbrev pub IsThereNow : ℕ → Type 0
  IsThereNow c = IsThere (drawn_in limit x) (hand_of x) c

  -- these are the cells that are drawn, in order; of those that aren't in hand PHASE tells the sort, and PARENT and KID
  -- the name: the root's is empty, another one's is that of its maker and its number among the maker's things
  pub record AreNamedByWords (born : List Reference) : Type 0 where
    pub all : length born ≡ drawn_in limit x
    pub root : IsCell born 0 (to_task [])
    pub sorts : (c : ℕ) (r : Reference) → IsThereNow c → IsCell born c r → r.sort ≡ phase_sort (x.words.phase c)
    pub named : (c : ℕ) (r : Reference) → c ≢ 0 → IsThereNow c → IsCell born c r
        → (maker : ℕ) × (m : Reference) × (x.words.once c once.Parent ≡ suc maker) × IsThereNow maker
        × IsCell born maker m × (r.name ≡ child m.name (x.words.once c once.Kid))

module _ {B : Type 0} (program : Program B) (limit : ℕ) where
  -- a point of a task of the meaning, under the meaning's assignment, with the task
  pub record IsPointOfMeaning (p : Point B) : Type 0 where
    pub task : Task B
    pub meant : IsIn task (tasks program (last_round limit))
    pub is_point : IsPointOf program.rules (given program (last_round limit)) task p
    -- what it has printed is a beginning of what the task's history prints
    pub prints : Begins p.prints (history program.rules (given program (last_round limit)) task).prints

  -- what stands is the meaning's
  pub record IsWithinMeaning (x : Contents B) : Type 0 where
    pub born : List Reference
    pub named : AreNamedByWords limit x born
    -- each cell that is drawn and isn't in hand has a name of the meaning
    pub names : (c : ℕ) (r : Reference) → IsThereNow limit x c → IsCell born c r
        → IsIn r.name (cells program (last_round limit))
    -- each TAG that is set, with its BITS, is the meaning's entry for its cell's name
    pub entries : (c : ℕ) → tag_in x c ≢ 0 → (r : Reference) × (e : Entry) × IsThereNow limit x c × IsCell born c r
        × (given program (last_round limit) r.name ≡ Some e) × (tag_in x c ≡ tag_of e) × BitsSay born e (bits_in x c)
    -- each record at home is at a point of its task's history under the meaning
    pub records : (t : ℕ) (r : Rec B) → home_of x t ≡ Some r
        → (p : Point B) × IsPointOfMeaning p × (r.cell.0 ≡ t) × Tells born r p
        × TellsStage born r.finish r.answer r.spare p

module _ {B : Type 0} (places : B → ℕ) (awaits : B → Await) (left : B → ℕ) (asks : B → Answer → Ask B)
    (then : B → Answer → B) where
  -- at every moment of a table of a program with such bodies, where the meaning isn't full, what stands is the
  -- meaning's
  abbrev pub StandsWithinMeaning : Type 0
  StandsWithinMeaning = (key : Key B) (u : Ruled (program_of places awaits left asks then) key)
      → ¬ IsFull (program_at (program_of places awaits left asks then) key) key.cells
      → IsWithinMeaning (program_at (program_of places awaits left asks then) key) key.cells
      (contents_at (program_of places awaits left asks then) key u)
