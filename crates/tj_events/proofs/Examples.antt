-- Worked runs: the definitions say of them what the rules say by hand.
use Rattle.std.proofs.Common.{◌≡◌, ℕ, List, [], ◌∷◌, refl, inl, inr, arith}
use Rattle.tj_base.specs.declared.cell.CellId.{CellId}
use Rattle.tj_events.specs.declared.event.Event.{Event}
use Rattle.tj_events.specs.declared.event.Event.TheVariants.{Make, Fork, Hand, Close, Raise, Publish, LoadOthers}
use Rattle.tj_events.specs.declared.event.Event.TheVariants.{LoadCount, ReadOwner, ReadWait, ReadOwnerAgain, Alarm}
use Rattle.tj_events.specs.declared.event.Event.TheVariants.{Settle, Unwait, Lower}
use Rattle.tj_events.specs.declared.walk.Way.TheVariants.{Along, Other}
use Rattle.tj_events.specs.CoreState.{parked, alarmed, ended, waits, stage}
use Rattle.tj_events.specs.Runs.{IsLegalRun}
use Rattle.tj_events.specs.RunLaws.{run_to}

-- an event is allowed, and so are those behind it
also : {A B : Type 0} → A → B → A × B
also a b = (a, b)

abbrev cell : ℕ → CellId
cell c = record { 0 = c }

-- the root makes a promise and forks a child, which waits for the promise; then the root joins the child
abbrev two_wait : List Event
two_wait =
    Make (cell 0) ∷ Fork (cell 0)
    ∷ Raise (cell 2) ∷ Publish (cell 2) (cell 1) ∷ LoadCount (cell 2) ∷ ReadOwner (cell 2) ∷ ReadWait (cell 2)
    ∷ Settle (cell 2)
    ∷ Publish (cell 0) (cell 2) ∷ LoadOthers (cell 0) ∷ LoadCount (cell 0) ∷ ReadOwner (cell 0) ∷ ReadWait (cell 0)
    ∷ ReadOwnerAgain (cell 0) ∷ ReadOwner (cell 0) ∷ Alarm (cell 0) ∷ []

two_wait_end : stage (run_to two_wait).cells 0 ≡ waits 2 Along alarmed
two_wait_end = refl

two_wait_legal : IsLegalRun 8 two_wait
two_wait_legal =
    also (tt, omega arith) (also (tt, omega arith) (also tt (also (omega arith, refl) (
    also (1, Other, _, refl, inl (refl, refl)) (also (1, Other, _, refl, inl refl) (
    also (1, Other, _, refl, (0, refl, λ e. absurd (cc))) (also (1, Other, _, refl, refl) (also (omega arith, tt) (
    also (2, Along, _, refl, (refl, refl)) (also (2, Along, _, refl, inr (1, refl, omega arith)) (
    also (2, Along, _, refl, inl refl) (also (2, Along, _, refl, (2, refl, λ e. absurd (cc))) (
    also (2, Along, _, refl, (2, 1, refl)) (also (2, Along, _, refl, inr (refl, omega arith)) (
    also (2, Along, _, refl, refl) (tt))))))))))))))))

-- the root makes a promise, for which its child walks; between the walker's two reads of the owner the root hands the
-- promise to a younger child and joins the walker: the walker finds the owner changed, and settles
abbrev handed_on : List Event
handed_on =
    Fork (cell 0) ∷ Make (cell 0)
    ∷ Raise (cell 1) ∷ Publish (cell 1) (cell 2) ∷ LoadCount (cell 1) ∷ ReadOwner (cell 1)
    ∷ Fork (cell 0) ∷ Hand (cell 0) (cell 2) (cell 3) ∷ Publish (cell 0) (cell 1)
    ∷ ReadWait (cell 1) ∷ ReadOwnerAgain (cell 1) ∷ Settle (cell 1) ∷ []

handed_on_end : stage (run_to handed_on).cells 1 ≡ waits 2 Other parked
handed_on_end = refl

handed_on_legal : IsLegalRun 8 handed_on
handed_on_legal =
    also (tt, omega arith) (also (tt, omega arith) (also tt (also (omega arith, refl) (
    also (2, Other, _, refl, inl (refl, refl)) (also (2, Other, _, refl, inl refl) (also (tt, omega arith) (
    also (tt, refl, refl, (refl, refl, λ e. absurd (cc))) (also (omega arith, tt) (
    also (2, Other, _, refl, (0, refl, λ e. absurd (cc))) (also (2, Other, _, refl, (0, 1, refl)) (
    also (2, Other, _, refl, tt) (tt))))))))))))

-- a wait for a promise that is closed meanwhile is cleared, OTHERS is lowered, and both tasks end
abbrev all_closed : List Event
all_closed =
    Make (cell 0) ∷ Fork (cell 0)
    ∷ Raise (cell 2) ∷ Publish (cell 2) (cell 1) ∷ LoadCount (cell 2) ∷ ReadOwner (cell 2) ∷ ReadWait (cell 2)
    ∷ Settle (cell 2)
    ∷ Close (cell 0) (cell 1) ∷ Unwait (cell 2) ∷ Close (cell 2) (cell 2) ∷ Lower ∷ Close (cell 0) (cell 0) ∷ []

all_closed_end : (stage (run_to all_closed).cells 0 ≡ ended) × (stage (run_to all_closed).cells 2 ≡ ended)
    × ((run_to all_closed).others ≡ 0) × ((run_to all_closed).cleared ≡ 0)
all_closed_end = (refl, refl, refl, refl)
