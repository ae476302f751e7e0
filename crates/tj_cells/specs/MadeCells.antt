-- What the making of a promise or of a task needs of the view of a seat, and what it makes of it; and the handing of a
-- promise.
use Rattle.std.specs.Prelude.{◌≡◌, ℕ, suc, ◌+◌, ◌<◌, ◌≤◌, Bool, List, [], ◌∷◌, ◌++◌, length, None}
use Rattle.tj_base.specs.declared.cell.Sort.{Sort}
use Rattle.tj_base.specs.declared.cell.Sort.TheVariants as sort
use Rattle.tj_body.specs.Points.{IsIn, Begins}
use Rattle.tj_body.specs.Programs.{Program}
use Rattle.tj_words.specs.declared.offsets.Once.TheVariants as once
use Rattle.tj_words.specs.declared.view.Does.TheVariants as does
use Rattle.tj_words.specs.declared.view.Custody.{Custody}
use Rattle.tj_words.specs.declared.view.SeenWord.{SeenWord}
use Rattle.tj_words.specs.declared.view.View.{View}
use Rattle.tj_words.specs.LawParts.TreeWords.{IsCell, AreCells}
use Rattle.tj_words.specs.SeatViews.TaskLists.{hold, noted}
use Rattle.tj_words.specs.SeatViews.SeenWords.{seen_word}
use Rattle.tj_words.specs.Calls.DrawViews.{MayDraw, drawn_next}
use Rattle.tj_words.specs.Calls.OwnerViews.{MayHand}

-- how many words that are written once are loaded as a cell is made: those of three nodes for the jump of a task
abbrev pub loads_of : Sort → ℕ
loads_of sort.Promise = 0
loads_of sort.Task = 12

-- how many steps it takes: the draw and the stores of PARENT, KID and OWN; for a promise that of PHASE; for a task
-- those
-- of DEPTH and JUMP
abbrev pub steps_of : Sort → ℕ
steps_of sort.Promise = 5
steps_of sort.Task = 6 + loads_of sort.Task

module _ {B : Type 0} where
  -- a task runs on, has made one thing more, and owns it
  abbrev pub makes_promise : ℕ → Custody B → Custody B
  makes_promise c k = record k { does = does.Running; owned = k.owned ++ c ∷ []; made = suc k.made }

  -- a task runs on, and has made one thing more
  abbrev pub makes_task : Custody B → Custody B
  makes_task k = record k { does = does.Running; made = suc k.made }

  -- a task that isn't ready yet, and that owns its result
  abbrev pub new_born : ℕ → Custody B
  new_born c = record { task = c; does = does.Unborn; owned = c ∷ []; made = 0; home = None }

  -- what the seat has for its tasks, after t has made c: it holds a new task too
  abbrev pub made_tasks : Sort → ℕ → ℕ → List (Custody B) → List (Custody B)
  made_tasks sort.Promise t c ks = noted t (makes_promise c) ks
  made_tasks sort.Task t c ks = hold (new_born c) (noted t makes_task ks)

  -- t is to make its kid-th thing: the seat may draw a cell for it
  pub record MayMake (program : Bool → B → Program B) (t kid : ℕ) (v : View B) : Type 0 where
    pub draw : MayDraw program t v
    pub next : kid ≡ suc draw.has.made

  -- t has made c, of this sort, which is a new cell; t goes on, and all else is as it was
  pub record IsMade (o : Sort) (cells t c : ℕ) (v w : View B) : Type 0 where
    pub small : c < cells
    pub new : length v.born ≤ c
    pub begins : Begins v.born w.born
    pub all : AreCells cells w.born
    pub is : IsCell w.born c (drawn_next t o v)
    pub tasks : w.tasks ≡ made_tasks o t c v.tasks
    pub known : w.known ≡ c ∷ v.known
    pub more : List SeenWord
    pub seen : w.seen ≡ more ++ v.seen
    pub parent : IsIn (seen_word c once.Parent (suc t)) more
    pub loads : w.once_loads ≡ loads_of o + v.once_loads
    pub steps : w.steps ≡ steps_of o + v.steps
    pub rest : w ≡ record v {
      born = w.born;
      tasks = w.tasks;
      known = w.known;
      seen = w.seen;
      once_loads = w.once_loads;
      steps = w.steps;
    }

  -- t may hand promise p to its child c
  abbrev pub MayGiveAway : ℕ → ℕ → ℕ → View B → Type 0
  MayGiveAway t p c v = (m : MayHand p c v) × (m.task ≡ t)
