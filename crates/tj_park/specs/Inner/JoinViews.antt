-- A task that its seat has parked is added to a chain, or goes on, where the head was found shut.
use Rattle.std.specs.Prelude.{◌≡◌, ℕ, suc, ◌+◌, ◌-◌, ◌*◌, ◌≤◌, Bool, true, false, List, [], ◌∷◌, length, map, Option}
use Rattle.tj_body.specs.Points.{IsIn}
use Rattle.tj_body.specs.Programs.{Program}
use Rattle.tj_events.specs.declared.walk.Way.{Way}
use Rattle.tj_words.specs.declared.head.Head.{Head}
use Rattle.tj_words.specs.declared.head.Head.TheVariants as head
use Rattle.tj_record.specs.declared.record.Rec.{Rec}
use Rattle.tj_words.specs.declared.view.Found.{Found}
use Rattle.tj_words.specs.declared.view.Push.{Push}
use Rattle.tj_words.specs.declared.view.View.{View}
use Rattle.tj_words.specs.Calls.ChainSteps.{KnowsEntry, without_push}
use Rattle.tj_words.specs.SeatViews.KnowsMore.{KnowsMore, HasSameHand, HasSameCounts}
use Rattle.tj_words.specs.LawParts.RecordPhases.{WaitsFor}
use Rattle.tj_words.specs.Calls.TakenRecords.{custody_of}
use Rattle.tj_words.specs.SeatViews.TaskLists.{hold}
use Rattle.tj_words.specs.LawParts.TreeWords.{AreCells}
use Rattle.tj_park.specs.Records.{HasTaken}

-- the push of t to the chain of q, and what was stored last into NEXT of t
abbrev pub push_behind : ℕ → ℕ → Way → Option Head → Push
push_behind t q way next = record { task = t; cell = q; way = way; next = next }

-- the chain that was found last
abbrev pub last_found : List Found → List ℕ
last_found [] = []
last_found (f ∷ fs) = f.chain

-- how many pushes may still come: none where the head is shut, and else one more than cells that the chain lacks
abbrev pub pushes_left : ℕ → Head → List Found → ℕ
pushes_left cells head.Empty fs = suc (cells - length (last_found fs))
pushes_left cells (head.Task t) fs = suc (cells - length (last_found fs))
pushes_left cells head.Shut fs = 0

-- a load of HEAD and at most N + 1 pushes, each with a store before it
abbrev pub join_steps : ℕ → ℕ
join_steps cells = 2 * cells + 3

module _ {B : Type 0} where
  -- the seat knows more, and its view is as it was but for its pushes; no load was made that is counted
  pub record LooksOn (cells : ℕ) (v w : View B) : Type 0 where
    pub knows : KnowsMore v w
    pub all : AreCells cells v.born → AreCells cells w.born
    pub hand : HasSameHand v w
    pub counts : HasSameCounts v w
    pub tasks : w.tasks ≡ v.tasks
    pub shuts : w.shuts ≡ v.shuts
    pub rest : w.rest ≡ v.rest
    pub plain_loads : w.plain_loads ≡ v.plain_loads
    pub once_loads : w.once_loads ≡ v.once_loads
    pub records : w.records ≡ v.records
    pub put_home : w.put_home ≡ v.put_home

  -- the push was made; or the head of q was found shut, so something has become of q, and of the push what was stored
  -- last into NEXT alone has changed
  abbrev pub IsAdded : ℕ → Bool → View B → View B → Type 0
  IsAdded q true v w = w.pushes ≡ []
  IsAdded q false v w =
      ((next : Option Head) × (w.pushes ≡ map (λ (p : Push). record p { next = next }) v.pushes))
      × IsIn q w.closed × KnowsEntry q w

  -- the head of q was found shut once, where t wasn't added to its chain, and else never
  abbrev pub FindsShutOnce : ℕ → Bool → View B → View B → Type 0
  FindsShutOnce q true v w = w.closed ≡ v.closed
  FindsShutOnce q false v w = w.closed ≡ q ∷ v.closed

  -- the wait of t for q is cleared, and OTHERS lowered for it; t runs with the seat, which has spent a token
  pub record TakesBack (program : Bool → B → Program B) (t q : ℕ) (r : Rec B) (v w : View B) : Type 0 where
    pub knows : KnowsMore v w
    pub hand : HasSameHand v w
    pub tokens : w.tokens ≡ v.tokens - 1
    pub cleared : w.cleared ≡ v.cleared
    pub refused : w.refused ≡ v.refused
    pub tasks : w.tasks ≡ hold (custody_of r) v.tasks
    pub pushes : w.pushes ≡ without_push t v.pushes
    pub shuts : w.shuts ≡ v.shuts
    pub rest : w.rest ≡ v.rest
    pub plain_loads : w.plain_loads ≡ v.plain_loads
    pub once_loads : w.once_loads ≡ v.once_loads
    pub found : w.found ≡ v.found
    pub closed : w.closed ≡ v.closed
    pub steps : w.steps ≤ v.steps + 2
    pub taken : HasTaken program t r w
    pub waited : WaitsFor r q
    pub records : w.records ≡ r ∷ v.records
    pub put_home : w.put_home ≡ v.put_home
