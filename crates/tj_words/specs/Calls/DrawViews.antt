-- What a draw, the writing of a new cell's words and the first store of its owner ask of the view of their seat, and
-- what they make of it.
use Rattle.std.specs.Prelude.{◌≡◌, ◌≢◌, ℕ, suc, ◌<◌, ◌≤◌, cond, nat_eq, Bool, true, false, List, [], ◌∷◌, ◌++◌, length}
use Rattle.std.specs.Prelude.{Option, Some, None}
use Rattle.tj_base.specs.ForkOrder.{child}
use Rattle.tj_base.specs.declared.cell.Sort.{Sort}
use Rattle.tj_base.specs.declared.cell.Sort.TheVariants as sort
use Rattle.tj_body.specs.Points.{IsIn, Begins}
use Rattle.tj_body.specs.Programs.{Program}
use Rattle.tj_body.specs.Rounds.{IsFull}
use Rattle.tj_body.specs.RoundPoints.{InRounds}
use Rattle.tj_body.specs.declared.point.Reference.{Reference}
use Rattle.tj_tree.specs.Nodes.{node_of, jump_from, InEachTree}
use Rattle.tj_words.specs.declared.offsets.Once.{Once}
use Rattle.tj_words.specs.declared.offsets.Once.TheVariants as once
use Rattle.tj_record.specs.declared.record.Rec.{Rec}
use Rattle.tj_words.specs.declared.view.About.{About}
use Rattle.tj_words.specs.declared.view.Does.TheVariants as does
use Rattle.tj_words.specs.declared.view.Hand.{Hand}
use Rattle.tj_words.specs.declared.view.Custody.{Custody}
use Rattle.tj_words.specs.declared.view.Due.{Due}
use Rattle.tj_words.specs.declared.view.View.{View}
use Rattle.tj_words.specs.Words.Lists.{All}
use Rattle.tj_words.specs.Words.Offsets.{once_at}
use Rattle.tj_words.specs.LawParts.Holding.{held_in, made_by}
use Rattle.tj_words.specs.LawParts.TreeWords.{IsCell, IsDue, AreCells}
use Rattle.tj_words.specs.LawParts.ShownState.{first_owner}
use Rattle.tj_words.specs.Steps.OwnerSteps.{next_reference}
use Rattle.tj_words.specs.Steps.StepEvents.{MayAct}
use Rattle.tj_words.specs.SeatViews.TaskLists.{noted}
use Rattle.tj_words.specs.SeatViews.SeatSteps.{Tells}
use Rattle.tj_words.specs.SeatViews.SeenWords.{seen_word, ShowsNode}

-- a cell that was just drawn for task t
abbrev pub new_hand : ℕ → ℕ → Sort → Hand
new_hand c t o = record { cell = c; maker = t; sort = o; marked = false }

-- the words that its drawer is to write: DEPTH and JUMP of a promise stay 0
abbrev pub new_dues : ℕ → Sort → List Due
new_dues c sort.Promise = record { cell = c; word = once.Parent } ∷ record { cell = c; word = once.Kid } ∷ []
new_dues c sort.Task = record { cell = c; word = once.Parent } ∷ record { cell = c; word = once.Kid }
    ∷ record { cell = c; word = once.Depth } ∷ record { cell = c; word = once.Jump } ∷ []

module _ {B : Type 0} where
  -- a task runs on, after an event of its own
  abbrev pub runs_on : Custody B → Custody B
  runs_on k = record k { does = does.Running }

  -- a task has made one thing more
  abbrev pub made_one : Custody B → Custody B
  made_one k = record k { made = suc k.made }

  -- a task owns one cell more, the last of its list
  abbrev pub owns_also : ℕ → Custody B → Custody B
  owns_also c k = record k { owned = k.owned ++ c ∷ [] }

  -- a new task, as its drawer holds it
  abbrev pub new_task : ℕ → Custody B
  new_task c = record { task = c; does = does.Unborn; owned = []; made = 0; home = None }

  -- a drawer holds a new task too, and has its slot
  abbrev pub new_tasks : ℕ → Sort → List (Custody B) → List (Custody B)
  new_tasks c sort.Promise ks = ks
  new_tasks c sort.Task ks = new_task c ∷ ks

  -- and its slot is the one that it took last
  abbrev pub new_slots : ℕ → Sort → List (ℕ × Option (Rec B)) → List (ℕ × Option (Rec B))
  new_slots c sort.Promise slots = slots
  new_slots c sort.Task slots = (c, None) ∷ slots

  -- what the cell is that t draws next
  abbrev pub drawn_next : ℕ → Sort → View B → Reference
  drawn_next t o v = next_reference v.born t (made_by (held_in v.tasks t) None) o

  -- t drew cell c, where these were all cells
  abbrev pub drew : ℕ → ℕ → Sort → List Reference → View B → View B
  drew c t o born v = record v {
    steps = suc v.steps;
    hand = Some (new_hand c t o);
    tasks = new_tasks c o (noted t runs_on v.tasks);
    born = born ++ drawn_next t o v ∷ [];
    dues = new_dues c o ++ v.dues;
  }

  -- a draw found no cell left
  abbrev pub was_refused : View B → View B
  was_refused v = record v { steps = suc v.steps; refused = suc v.refused }

  -- what a draw for t asks: the seat has t, which runs and has its result, and whose record isn't home; it has nothing
  -- in hand, and room for a refused draw; the name of what t makes next is that of a cell of some round
  pub record MayDraw (program : Bool → B → Program B) (t : ℕ) (v : View B) : Type 0 where
    pub about : About B
    pub is_about : v.about ≡ Some about
    pub has : Custody B
    pub held : held_in v.tasks t ≡ Some has
    pub may : MayAct has.does
    pub result : IsIn t has.owned
    pub out : has.home ≡ None
    pub no_hand : v.hand ≡ None
    pub room : v.refused < v.lot
    pub task : Reference
    pub is_task : IsCell v.born t task
    pub named : InRounds (program about.strict about.root) (child task.name (suc has.made))

  -- a draw found cell c, of so many: the next after all that were drawn; its number among the things that t has made is
  -- at most c; no word of c is due
  pub record FindsCell (cells t : ℕ) (o : Sort) (c : ℕ) (v w : View B) : Type 0 where
    pub born : List Reference
    pub begins : Begins v.born born
    pub next : length born ≡ c
    pub small : c < cells
    pub all : AreCells cells (born ++ drawn_next t o v ∷ [])
    pub few_made : made_by (held_in v.tasks t) None < c
    pub fresh : All (λ (d : Due). d.cell ≢ c) v.dues
    pub view : w ≡ drew c t o born v

  -- a draw found none: the meaning needs more cells than there are
  pub record FindsNone (program : Bool → B → Program B) (v w : View B) : Type 0 where
    pub full : (a : About B) → v.about ≡ Some a → IsFull (program a.strict a.root) a.cells
    pub view : w ≡ was_refused v

  -- a draw, by the number of cells found
  abbrev pub draw_step : (Bool → B → Program B) → ℕ → ℕ → Sort → Tells B
  draw_step program cells t o st m n m' =
      (n < cells → FindsCell cells t o n m.0 m'.0 × (m'.1 ≡ new_slots n o m.1))
      × (cells ≤ n → FindsNone program m.0 m'.0 × (m'.1 ≡ m.1))

-- PHASE tells that what is in hand is a promise
abbrev pub mark : Option Hand → Option Hand
mark None = None
mark (Some h) = Some (record h { marked = true })

-- the words that are due, but this one
abbrev pub without_due : ℕ → Once → List Due → List Due
without_due c f [] = []
without_due c f (d ∷ ds) =
    cond (nat_eq (once_at d.cell d.word) (once_at c f)) (without_due c f ds) (d ∷ without_due c f ds)

module _ {B : Type 0} where
  -- what is to stand in a word of the tree of a cell in hand: its maker; the how-many-th thing of the maker it is; for
  -- a task the depth and the jump of a child of the maker, as each tree has them that fits what the seat has seen
  abbrev pub IsRightWord : Once → ℕ → Hand → View B → Type 0
  IsRightWord once.Tag n h v = ⊥
  IsRightWord once.Bits n h v = ⊥
  IsRightWord once.Parent n h v = n ≡ suc h.maker
  IsRightWord once.Kid n h v = (k : Custody B) × (held_in v.tasks h.maker ≡ Some k) × (n ≡ suc k.made)
  IsRightWord once.Depth n h v = (h.sort ≡ sort.Task)
      × InEachTree (ShowsNode v.seen) (λ forks. n ≡ suc (node_of forks h.maker).depth)
  IsRightWord once.Jump n h v = (h.sort ≡ sort.Task)
      × InEachTree (ShowsNode v.seen) (λ forks. n ≡ suc (jump_from (node_of forks) (record { 0 = h.maker })).0)

  -- the seat has the cell in hand, is to write the word, and this is to stand there
  pub record MayWrite (c : ℕ) (f : Once) (n : ℕ) (v : View B) : Type 0 where
    pub hand : Hand
    pub has : v.hand ≡ Some hand
    pub its_cell : hand.cell ≡ c
    pub due : IsDue c f v.dues
    pub right : IsRightWord f n hand v

  -- a word was written that is written once
  abbrev pub wrote_word : ℕ → Once → ℕ → View B → View B
  wrote_word c f n v = record v {
    steps = suc v.steps;
    seen = seen_word c f n ∷ v.seen;
    dues = without_due c f v.dues;
  }

  -- the store of a word of the tree
  abbrev pub word_store : ℕ → Once → Tells B
  word_store c f st m n m' = (m'.1 ≡ m.1) × (m'.0 ≡ wrote_word c f st.first m.0)

  -- the promise in hand was marked
  abbrev pub marked_promise : View B → View B
  marked_promise v = record v { steps = suc v.steps; hand = mark v.hand }

  -- the seat has this promise in hand
  pub record MayMark (c : ℕ) (v : View B) : Type 0 where
    pub hand : Hand
    pub has : v.hand ≡ Some hand
    pub its_cell : hand.cell ≡ c
    pub promise : hand.sort ≡ sort.Promise

  -- the store of Promise
  abbrev pub mark_store : Tells B
  mark_store st m n m' = (m'.1 ≡ m.1) × (m'.0 ≡ marked_promise m.0)

  -- the maker of what is in hand has made one thing more
  abbrev pub maker_made : Option Hand → List (Custody B) → List (Custody B)
  maker_made None ks = ks
  maker_made (Some h) ks = noted h.maker made_one ks

  -- the cell has left the hand: it is there, and o owns it
  abbrev pub gave_owner : ℕ → ℕ → View B → View B
  gave_owner c o v = record v {
    steps = suc v.steps;
    hand = None;
    tasks = noted o (owns_also c) (maker_made v.hand v.tasks);
    known = c ∷ v.known;
  }

  -- what the first store of an owner asks: the seat has the cell in hand, and has written its other words; a promise is
  -- its maker's, a task its own, which the seat holds
  pub record MayGive (c o : ℕ) (v : View B) : Type 0 where
    pub hand : Hand
    pub has : v.hand ≡ Some hand
    pub its_cell : hand.cell ≡ c
    pub owner : o ≡ first_owner hand.sort hand.maker c
    pub marked : hand.sort ≡ sort.Promise → hand.marked ≡ true
    pub holds : hand.sort ≡ sort.Task → (k : Custody B) × (held_in v.tasks c ≡ Some k)
    pub written : All (λ (d : Due). d.cell ≢ c) v.dues
    pub reference : Reference
    pub is_reference : IsCell v.born c reference
