-- The facts that each allowed event keeps, one by one. Each takes only what it reads of a state.
use Rattle.std.specs.Prelude.{◌≡◌, ◌≢◌, ◌⊎◌, ℕ, zero, suc, ◌+◌, ◌*◌, ◌<◌, ◌≤◌, true, List, [], ◌∷◌, length}
use Rattle.std.specs.Prelude.{Some, None}
use Rattle.tj_base.specs.ForkOrder.{child, before, IsAncestor}
use Rattle.tj_events.specs.declared.walk.Way.{Way}
use Rattle.tj_events.specs.declared.walk.Way.TheVariants.{Along}
use Rattle.tj_events.specs.declared.walk.TrailLink.{TrailLink}
use Rattle.tj_events.specs.declared.walk.Walker.{Walker}
use Rattle.tj_events.specs.declared.walk.LastRead.{LastRead}
use Rattle.tj_events.specs.declared.walk.LastRead.TheVariants.{Published, SawOthers, Counted, SawOwner, SawWait, Passed}
use Rattle.tj_events.specs.declared.walk.LastRead.TheVariants.{Changed}
use Rattle.tj_events.specs.CoreState.{WaitStage, walks, parked, alarmed, CellStage, promise, fresh, running, raised}
use Rattle.tj_events.specs.CoreState.{waits, ended, Cells, blank, owner, name, maker, stage, wait, IsTask, Lives}
use Rattle.tj_events.specs.CoreState.{HasBegun, IsClosed, present, IfWalks}
use Rattle.tj_events.specs.Events.{raised_by}
use Rattle.tj_events.specs.WaitGraph.{Reaches, IsOnCycle, IsOnCycleOf}

-- the next cell of each link is there
abbrev pub AreNextsThere : ℕ → List TrailLink → Type 0
AreNextsThere count [] = Unit {0}
AreNextsThere count (link ∷ links) = (link.next < count) × AreNextsThere count links

-- the cell that was read as an owner's wait is there
abbrev pub IsReadThere : ℕ → LastRead → Type 0
IsReadThere count Published = Unit {0}
IsReadThere count (SawOthers n) = Unit {0}
IsReadThere count Counted = Unit {0}
IsReadThere count (SawOwner o) = Unit {0}
IsReadThere count (SawWait u None) = Unit {0}
IsReadThere count (SawWait u (Some v)) = v < count
IsReadThere count Passed = Unit {0}
IsReadThere count Changed = Unit {0}

-- places: cells that aren't there are blank, and waits, trails and reads name cells that are there
pub record PlacesFact (count : ℕ) (cells : Cells) : Type 0 where
  pub blanks : (c : ℕ) → count ≤ c → cells c ≡ blank
  pub waits_there : (t c : ℕ) → wait cells t ≡ Some c → c < count
  pub nexts_there : (t : ℕ) → IfWalks cells t (λ c way w. AreNextsThere count w.trail)
  pub reads_there : (t : ℕ) → IfWalks cells t (λ c way w. IsReadThere count w.last)

-- the name of c is that of its maker and one number more, from 1 to the number of things that the maker made
pub record IsNamed (cells : Cells) (c : ℕ) : Type 0 where
  pub number : ℕ
  pub some : 0 < number
  pub made : number ≤ (cells (maker cells c)).made
  pub name_is : name cells c ≡ child (name cells (maker cells c)) number

-- c is the k-th thing that its maker made, by its name
abbrev pub IsThing : Cells → ℕ → ℕ → Type 0
IsThing cells c k = name cells c ≡ child (name cells (maker cells c)) k

-- makers: the root is a task, and its own maker; each other cell's maker is a task of a smaller number, whose name
-- and one number are the cell's name, a number of the things that it made; no two cells have the same name; of two
-- cells of one maker the one with the greater cell number is the later thing that it made
pub record MakersFact (count : ℕ) (cells : Cells) : Type 0 where
  pub root_there : 0 < count
  pub root_task : IsTask cells 0
  pub root_maker : maker cells 0 ≡ 0
  pub root_name : name cells 0 ≡ []
  pub makers_before : (c : ℕ) → c < count → c ≢ 0 → maker cells c < c
  pub makers_task : (c : ℕ) → c < count → c ≢ 0 → IsTask cells (maker cells c)
  pub makers_name : (c : ℕ) → c < count → c ≢ 0 → IsNamed cells c
  pub names_apart : (c d : ℕ) → c < count → d < count → name cells c ≡ name cells d → c ≡ d
  pub numbers_grow : (c d j k : ℕ) → c < d → d < count → maker cells c ≡ maker cells d
      → IsThing cells c j → IsThing cells d k → j < k

-- owners: an owner is a task that hasn't ended; a result's owner is its own task, and a task owns its result exactly
-- until it has ended; a promise's owner is its maker or a descendant of it
pub record OwnersFact (cells : Cells) : Type 0 where
  pub owners_live : (c u : ℕ) → owner cells c ≡ Some u → Lives (stage cells u)
  pub results_own : (c u : ℕ) → IsTask cells c → owner cells c ≡ Some u → u ≡ c
  pub live_results : (t : ℕ) → Lives (stage cells t) → owner cells t ≡ Some t
  pub ended_results : (t : ℕ) → stage cells t ≡ ended → owner cells t ≡ None
  pub promises : (p u : ℕ) → stage cells p ≡ promise → owner cells p ≡ Some u
      → (u ≡ maker cells p) ⊎ IsAncestor (name cells (maker cells p)) (name cells u)

-- along waits: an along wait of t is for a task that t is before
pub record AlongWaitsFact (cells : Cells) : Type 0 where
  pub for_task : (t c : ℕ) (w : WaitStage) → stage cells t ≡ waits c Along w → IsTask cells c
  pub in_order : (t c : ℕ) (w : WaitStage) → stage cells t ≡ waits c Along w
      → before (name cells t) (name cells c) ≡ true

-- by how much the first n cells have raised OTHERS
abbrev pub raised_by_all : ℕ → Cells → ℕ
raised_by_all zero cells = 0
raised_by_all (suc n) cells = raised_by (stage cells n) + raised_by_all n cells

-- others count: OTHERS is the number of raised tasks, other waits, and waits cleared and not yet lowered
abbrev pub OthersCountFact : ℕ → Cells → ℕ → ℕ → Type 0
OthersCountFact count cells others cleared = others ≡ raised_by_all count cells + cleared

-- u owns c and waits for v
abbrev pub IsLinked : Cells → ℕ → ℕ → ℕ → Type 0
IsLinked cells c u v = (owner cells c ≡ Some u) × (wait cells u ≡ Some v)

-- a trail of t's walk from p: no link's owner is t, and it owns the link's cell and waits for the next cell, or the
-- next cell is closed. A link's cell is the next cell of the link before it, or p
abbrev pub IsTrail : ℕ → Cells → ℕ → ℕ → List TrailLink → Type 0
IsTrail count cells t p [] = Unit {0}
IsTrail count cells t p (link ∷ links) =
    (link.owner ≢ t)
    × (IsLinked cells (present p links) link.owner link.next ⊎ IsClosed count cells link.next)
    × IsTrail count cells t p links

-- trail: each walker's trail is one of its walk
abbrev pub TrailFact : ℕ → Cells → Type 0
TrailFact count cells = (t : ℕ) → IfWalks cells t (λ c way w. IsTrail count cells t c w.trail)

-- what t's last event read of its present cell c, with this trail, and how far that still holds
abbrev pub IsLastRead : ℕ → Cells → ℕ → ℕ → List TrailLink → LastRead → Type 0
IsLastRead count cells t c trail Published = trail ≡ []
IsLastRead count cells t c trail (SawOthers n) = trail ≡ []
IsLastRead count cells t c trail Counted = trail ≡ []
IsLastRead count cells t c trail (SawOwner None) = Unit {0}
-- the owner that was read owns the cell or has begun, and where it is t, t owns the cell
IsLastRead count cells t c trail (SawOwner (Some u)) =
    ((owner cells c ≡ Some u) ⊎ HasBegun (stage cells u)) × (u ≡ t → owner cells c ≡ Some t)
IsLastRead count cells t c trail (SawWait u None) = u ≢ t
-- the owner whose wait was read has begun, and where it owns the cell, it waits for v or v is closed
IsLastRead count cells t c trail (SawWait u (Some v)) =
    (u ≢ t)
    × HasBegun (stage cells u)
    × (owner cells c ≡ Some u → (wait cells u ≡ Some v) ⊎ IsClosed count cells v)
IsLastRead count cells t c trail Passed = Unit {0}
IsLastRead count cells t c trail Changed = Unit {0}

-- last reads: each walker's last read holds as far as that
abbrev pub LastReadsFact : ℕ → Cells → Type 0
LastReadsFact count cells =
    (t : ℕ) → IfWalks cells t (λ c way w. IsLastRead count cells t (present c w.trail) w.trail w.last)

-- the loads of a walk so far, three for each passed owner, and its bound, at each point of a walk
abbrev pub AreLoads : ℕ → ℕ → ℕ → LastRead → Type 0
AreLoads len bound loads Published = loads ≡ 0
AreLoads len bound loads (SawOthers n) = loads ≡ 0
AreLoads len bound loads Counted = (loads ≡ 0) × (len < bound)
AreLoads len bound loads (SawOwner o) = (loads ≡ 3 * len + 1) × (len < bound)
AreLoads len bound loads (SawWait u o) = (loads ≡ 3 * len + 2) × (len < bound)
AreLoads len bound loads Passed = (loads ≡ 3 * len) × (len ≤ bound)
AreLoads len bound loads Changed = (loads ≡ 3 * len + 3) × (len < bound)

-- loads: each walker's loads are those of its trail and its last read, and its trail is no longer than its bound
abbrev pub LoadsFact : Cells → Type 0
LoadsFact cells = (t : ℕ) → IfWalks cells t (λ c way w. AreLoads (length w.trail) w.bound w.loads w.last)

-- others-read: a walker that has read OTHERS waits along
abbrev pub OthersReadFact : Cells → Type 0
OthersReadFact cells = (t : ℕ) → IfWalks cells t (λ c way w. (n : ℕ) → w.last ≡ SawOthers n → way ≡ Along)

-- the trail is the chain of the present waits from p on
abbrev pub IsPresentChain : Cells → ℕ → List TrailLink → Type 0
IsPresentChain cells p [] = Unit {0}
IsPresentChain cells p (link ∷ links) =
    IsLinked cells (present p links) link.owner link.next × IsPresentChain cells p links

-- the walk from p follows a cycle of n tasks: its bound allows for them, and its trail is shorter and stands still
abbrev pub Follows : Cells → ℕ → ℕ → Walker → Type 0
Follows cells n p w = (n ≤ w.bound) × (length w.trail < n) × IsPresentChain cells p w.trail

-- a walker from p is on course on a cycle of n tasks: it has just published, or has just read OTHERS above 0, or
-- it follows the cycle, its walk isn't at its end, and what it last read is so now
abbrev pub IsOnCourse : Cells → ℕ → ℕ → Walker → LastRead → Type 0
IsOnCourse cells n p w Published = Unit {0}
IsOnCourse cells n p w (SawOthers k) = 0 < k
IsOnCourse cells n p w Counted = Follows cells n p w
IsOnCourse cells n p w (SawOwner o) =
    Follows cells n p w × ((u : ℕ) × (o ≡ Some u) × (owner cells (present p w.trail) ≡ o))
IsOnCourse cells n p w (SawWait u o) =
    Follows cells n p w × (owner cells (present p w.trail) ≡ Some u) × ((v : ℕ) × (o ≡ Some v) × (wait cells u ≡ o))
IsOnCourse cells n p w Passed = Follows cells n p w
IsOnCourse cells n p w Changed = ⊥

-- a task at this stage, on a cycle of n tasks, has alarmed or is on course
abbrev pub Watches : Cells → ℕ → CellStage → Type 0
Watches cells n promise = ⊥
Watches cells n fresh = ⊥
Watches cells n running = ⊥
Watches cells n raised = ⊥
Watches cells n (waits p way (walks w)) = IsOnCourse cells n p w w.last
Watches cells n (waits p way parked) = ⊥
Watches cells n (waits p way alarmed) = Unit {0}
Watches cells n ended = ⊥

-- last closer: each standing cycle has a member that has alarmed or is on course
abbrev pub LastCloserFact : Cells → Type 0
LastCloserFact cells =
    (t n : ℕ) → IsOnCycleOf cells t n → (k u : ℕ) × Reaches cells t k u × Watches cells n (stage cells u)

-- alarm: a task that has alarmed is on a standing cycle
abbrev pub AlarmFact : Cells → Type 0
AlarmFact cells = (t c : ℕ) (way : Way) → stage cells t ≡ waits c way alarmed → IsOnCycle cells t
