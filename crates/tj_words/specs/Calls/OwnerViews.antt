-- What the stores of OWN need of the view of their seat, and what they make of it: a promise goes to a child that isn't
-- born yet; a cell is closed, of which nobody is the owner then.
use Rattle.std.specs.Prelude.{◌≡◌, ◌≢◌, ◌⊎◌, ℕ, suc, [], ◌∷◌, Option, Some, None}
use Rattle.tj_body.specs.Points.{IsIn}
use Rattle.tj_words.specs.declared.offsets.Once.TheVariants as once
use Rattle.tj_words.specs.declared.view.Does.TheVariants as does
use Rattle.tj_words.specs.declared.view.Custody.{Custody}
use Rattle.tj_words.specs.declared.view.View.{View}
use Rattle.tj_words.specs.Words.Lists.{without}
use Rattle.tj_words.specs.LawParts.Holding.{held_in}
use Rattle.tj_words.specs.Words.Owners.{owner_in}
use Rattle.tj_words.specs.Steps.StepEvents.{MayAct}
use Rattle.tj_words.specs.SeatViews.TaskLists.{noted}
use Rattle.tj_words.specs.SeatViews.SeatSteps.{Tells}
use Rattle.tj_words.specs.SeatViews.SeenWords.{seen_word}
use Rattle.tj_words.specs.Calls.DrawViews.{MayGive, gave_owner, owns_also}

module _ {B : Type 0} where
  -- the seat has this for the owner t of cell c: t runs and has its result, and its record isn't home
  pub record IsOwnersSeat (t c : ℕ) (v : View B) : Type 0 where
    pub custody : Custody B
    pub held : held_in v.tasks t ≡ Some custody
    pub may : MayAct custody.does
    pub out : custody.home ≡ None
    pub result : IsIn t custody.owned
    pub owns : IsIn c custody.owned

  -- nobody is to own cell c any more; a task closes its result last, with no cell in hand
  pub record MayClose (c : ℕ) (v : View B) : Type 0 where
    pub task : ℕ
    pub owner : IsOwnersSeat task c v
    pub last : c ≡ task → (owner.custody.owned ≡ c ∷ []) × (v.hand ≡ None)

  -- the owner of promise c hands it to its child u, which isn't born yet; the seat has seen or written that it is one
  pub record MayHand (c u : ℕ) (v : View B) : Type 0 where
    pub task : ℕ
    pub owner : IsOwnersSeat task c v
    pub promise : c ≢ task
    pub child : Custody B
    pub child_held : held_in v.tasks u ≡ Some child
    pub unborn : child.does ≡ does.Unborn
    pub child_out : child.home ≡ None
    pub child_result : IsIn u child.owned
    pub is_child : IsIn (seen_word u once.Parent (suc task)) v.seen

  -- a task runs on, and has given a cell up
  abbrev pub gave_up : ℕ → Custody B → Custody B
  gave_up c k = record k { does = does.Running; owned = without c k.owned }

  -- t has closed c, of which BITS and TAG are to be written
  abbrev pub closed_cell : ℕ → ℕ → View B → View B
  closed_cell t c v = record v {
    steps = suc v.steps;
    tasks = noted t (gave_up c) v.tasks;
    dues = record { cell = c; word = once.Bits } ∷ record { cell = c; word = once.Tag } ∷ v.dues;
  }

  -- t has handed c to u
  abbrev pub handed_promise : ℕ → ℕ → ℕ → View B → View B
  handed_promise t c u v = record v {
    steps = suc v.steps;
    tasks = noted u (owns_also c) (noted t (gave_up c) v.tasks);
  }

  -- who may be stored as the owner of c: at first the one that its drawer gives it; then a child; at last nobody
  abbrev pub MayPutOwner : ℕ → Option ℕ → View B → Type 0
  MayPutOwner c None v = MayClose c v
  MayPutOwner c (Some u) v = MayGive c u v ⊎ MayHand c u v

  -- what the store makes of the view
  abbrev pub PutsOwner : ℕ → Option ℕ → View B → View B → Type 0
  PutsOwner c None v w = (m : MayClose c v) → w ≡ closed_cell m.task c v
  PutsOwner c (Some u) v w = (MayGive c u v → w ≡ gave_owner c u v)
      × ((m : MayHand c u v) → w ≡ handed_promise m.task c u v)

  -- the store of OWN
  abbrev pub owner_put : ℕ → Tells B
  owner_put c st m n m' = (m'.1 ≡ m.1) × PutsOwner c (owner_in st.first) m.0 m'.0
