-- The law of the table. It holds between any two steps, of the words, the slots and the views of all seats. Each part
-- is a definition over the words and the fields of the views that it names, so a step that changes none of them keeps
-- it.
use Rattle.std.specs.Prelude.{◌≡◌, ◌⊎◌, ℕ, ◌<◌, ◌≤◌, Bool, List, [], length, Option, None, Some}
use Rattle.atomic_table.specs.Table.{State}
use Rattle.tj_base.specs.declared.cell.TheConstants.{MAX_CELLS}
use Rattle.tj_body.specs.declared.point.Reference.{Reference}
use Rattle.tj_events.specs.CoreFacts.{CoreFacts}
use Rattle.tj_tree.specs.Forks.{Forks}
use Rattle.tj_words.specs.declared.phase.Phase.TheVariants.{Unborn}
use Rattle.tj_record.specs.declared.record.Rec.{Rec}
use Rattle.tj_words.specs.declared.table.Key.{Key}
use Rattle.tj_words.specs.declared.view.About.{About}
use Rattle.tj_words.specs.declared.view.Custody.{Custody}
use Rattle.tj_words.specs.declared.view.Due.{Due}
use Rattle.tj_words.specs.declared.view.Push.{Push}
use Rattle.tj_words.specs.declared.view.Rest.{Rest}
use Rattle.tj_words.specs.declared.view.View.{View}
use Rattle.tj_words.specs.Words.Lists.{Each, All}
use Rattle.tj_words.specs.Words.Offsets.{words_for}
use Rattle.tj_words.specs.Words.Codes.{Codes}
use Rattle.tj_words.specs.LawParts.Contents.{Contents, contents_of, drawn_in, tag_in, bits_in, home_of, owned_of}
use Rattle.tj_words.specs.LawParts.Contents.{made_of, core_shown, hand_of}
use Rattle.tj_words.specs.LawParts.Lots.{WithinLot, Lots}
use Rattle.tj_words.specs.LawParts.Hands.{Hands}
use Rattle.tj_words.specs.LawParts.NamedCells.{NamesCells}
use Rattle.tj_words.specs.LawParts.TreeWords.{IsCell, Births, IsForkTree, TreeWords}
use Rattle.tj_words.specs.LawParts.Custodies.{Custodies, OwnedLists}
use Rattle.tj_words.specs.LawParts.OnceWords.{OnceWords}
use Rattle.tj_words.specs.LawParts.Chains.{Chains}
use Rattle.tj_words.specs.LawParts.LiveCount.{LiveCount, BackingOf}
use Rattle.tj_words.specs.LawParts.Stops.{Stops}
use Rattle.tj_body.specs.Asks.{IsFresh}
use Rattle.tj_body.specs.Programs.{Program}
use Rattle.tj_words.specs.LawParts.Meaning.{Meaning}
use Rattle.tj_words.specs.LawParts.RecordPhases.{WaitersOwn, RecordsFit}
use Rattle.tj_words.specs.LawParts.PushedRecords.{LieAsPut}

-- the fields of a view of which something holds alone
pub record SeatPart (B : Type 0) : Type 0 where
  pub about : Option (About B)
  pub lot : ℕ
  pub refused : ℕ
  pub tokens : ℕ
  pub cleared : ℕ
  pub tasks : List (Custody B)
  pub pushes : List Push
  pub shuts : List ℕ
  pub rest : Option Rest
  pub dues : List Due
  pub born : List Reference
  pub known : List ℕ

module _ {B : Type 0} where
  -- the root's body has asked nothing yet, and has one place
  abbrev pub IsRooted : Program B → Type 0
  IsRooted program =
      IsFresh program.rules.places program.rules.awaits program.rules.left 1 program.root

  -- a view that isn't spent names the root, the number of cells and the rule that the table was made with
  abbrev pub IsAbout : Key B → Option (About B) → Type 0
  IsAbout key about = (a : About B) → about ≡ Some a
      → a ≡ record { root = key.root.value; cells = key.cells; strict = key.strict }

  -- a view that isn't spent names a root, a number of cells and a rule
  abbrev pub NamedBy : Option (About B) → List (Custody B) → Type 0
  NamedBy about tasks = ((about ≡ None) × (tasks ≡ [])) ⊎ ((a : About B) × (about ≡ Some a))

  -- the same of a view
  abbrev pub IsNamed : View B → Type 0
  IsNamed v = NamedBy v.about v.tasks

  -- these fields of a view
  abbrev pub seat_part : View B → SeatPart B
  seat_part v = record {
    about = v.about;
    lot = v.lot;
    refused = v.refused;
    tokens = v.tokens;
    cleared = v.cleared;
    tasks = v.tasks;
    pushes = v.pushes;
    shuts = v.shuts;
    rest = v.rest;
    dues = v.dues;
    born = v.born;
    known = v.known;
  }

  -- what holds of each view alone: a step that leaves these fields keeps it
  pub record IsSeatOf (key : Key B) (v : SeatPart B) : Type 0 where
    pub about : IsAbout key v.about
    pub named : NamedBy v.about v.tasks
    pub within_lot : WithinLot v.about v.tasks v.lot v.refused v.tokens v.cleared
    pub backing : BackingOf v.tokens v.tasks v.pushes v.shuts v.rest v.dues
    -- it has what the cells are that it knows
    pub known_born : All (λ c. (r : Reference) × IsCell v.born c r) v.known

  -- the same of a view
  abbrev pub IsSeat : Key B → View B → Type 0
  IsSeat key v = IsSeatOf key (seat_part v)

  -- the law of the contents of a table of so many cells: part by part
  pub record Law (program : Program B) (cells : ℕ) (x : Contents B) : Type 0 where
    -- what each cell is, who made it and the how-many-th thing it is, and the forks that made the tasks
    pub born : List Reference
    pub maker : ℕ → ℕ
    pub number : ℕ → ℕ
    pub forks : Forks
    pub lots : Lots cells x.words.count x.seats.lots x.seats.refused
    pub hands : Hands (drawn_in cells x) x.words.phase x.seats.hands x.seats.tasks
    pub names : NamesCells (drawn_in cells x) (hand_of x) x.words.own x.words.phase (home_of x) x.seats.tasks
        x.seats.known
    pub births : Births (drawn_in cells x) born maker number (made_of x) (hand_of x) x.words.phase
    pub tree : IsForkTree (drawn_in cells x) born maker number forks (hand_of x)
    pub tree_words : TreeWords (drawn_in cells x) born maker number forks (hand_of x) x.words.once x.seats.dues
    pub custody : Custodies cells (drawn_in cells x) (hand_of x) x.words.phase x.slots x.seats.tasks
    pub owned : OwnedLists (drawn_in cells x) (hand_of x) x.words.own (owned_of x)
    pub once_words : OnceWords (drawn_in cells x) (hand_of x) x.seats.hands x.words.own x.words.once x.seats.seen
        x.seats.dues
    pub chains : Chains (tag_in x) x.words.head x.words.next x.words.phase x.seats.pushes x.seats.shuts x.seats.rests
        x.seats.closed x.seats.found
    pub live_count : LiveCount cells x.words.live x.words.phase x.seats.tokens x.seats.rested
    pub stops : Stops x.words.stop x.seats.stored x.seats.told
    pub waiters_own : WaitersOwn x.words.own x.words.phase
    pub records_fit : RecordsFit (tag_in x) x.words.phase (home_of x)
    pub meaning : Meaning program cells x.words.count x.words.stop (drawn_in cells x) (hand_of x) born (tag_in x)
        (bits_in x) (home_of x) x.seats.born_seen x.seats.wrote x.seats.filled
    pub undrawn : (c : ℕ) → drawn_in cells x ≤ c → x.words.phase c ≡ Unborn
    -- the facts of the core state that is shown: along waits, others count, walks, last closer and alarms among them
    pub facts : CoreFacts (core_shown cells born maker x)

  -- the rule of a table
  pub record Rule (program : Bool → B → Program B) (key : Key B) (s : State (Option (Rec B)) (View B)) : Type 0 where
    pub some_cells : 0 < key.cells
    pub few_cells : key.cells ≤ MAX_CELLS
    pub rooted : IsRooted (program key.strict key.root.value)
    pub all_words : length s.words ≡ words_for key.cells
    pub all_slots : length s.homes ≡ key.cells
    pub codes : Codes key.cells s.words
    pub seats : Each (λ j v. IsSeat key v) s.views
    -- the record of a task that a seat is to push lies at home as this seat put it there
    pub pushed : Each (λ j (v : View B). LieAsPut s.homes v.pushes v.put_home) s.views
    pub law : Law (program key.strict key.root.value) key.cells (contents_of s)
