-- No two events have one line, so no two lists of events have the same lines.
use Rattle.std.proofs.Common.{◌≡◌, ℕ, ◌∙◌, cond, List, [], ◌∷◌, get_or, map, codes, decimal, refl, sym, ap}
use Rattle.std.specs.Str.{bytes_eq}
use Rattle.tj_base.specs.declared.cell.CellId.{CellId}
use Rattle.tj_events.specs.declared.event.Event.{Event}
use Rattle.tj_events.specs.declared.event.Event.TheVariants.{Make, Fork, Hand, Close, Raise, Publish, LoadOthers}
use Rattle.tj_events.specs.declared.event.Event.TheVariants.{LoadCount, ReadOwner, ReadWait, ReadOwnerAgain, Alarm}
use Rattle.tj_events.specs.declared.event.Event.TheVariants.{Settle, Unwait, Lower}
use Rattle.tj_core.specs.Journals.Lines.{verb_of, cells_of, words_of, HasSmallCells, Names}
use Rattle.tj_core.specs.Journals.Laws.{EventsAreOne, EventsHaveNoFault}
use Rattle.tj_core.proofs.Journals.Lines.{fault_or_events}
use Rattle.tj_core.proofs.Journals.Words.{cells_are}

-- the cell at index i
abbrev nth : List ℕ → ℕ → CellId
nth cells i = record { 0 = get_or cells i 0 }

-- the event of this word with these cells
abbrev event_of : List ℕ → List ℕ → Event
event_of verb cells =
    cond (bytes_eq verb (codes "make")) (Make (nth cells 0)) (
    cond (bytes_eq verb (codes "fork")) (Fork (nth cells 0)) (
    cond (bytes_eq verb (codes "hand")) (Hand (nth cells 0) (nth cells 1) (nth cells 2)) (
    cond (bytes_eq verb (codes "close")) (Close (nth cells 0) (nth cells 1)) (
    cond (bytes_eq verb (codes "raise")) (Raise (nth cells 0)) (
    cond (bytes_eq verb (codes "publish")) (Publish (nth cells 0) (nth cells 1)) (
    cond (bytes_eq verb (codes "others")) (LoadOthers (nth cells 0)) (
    cond (bytes_eq verb (codes "count")) (LoadCount (nth cells 0)) (
    cond (bytes_eq verb (codes "owner")) (ReadOwner (nth cells 0)) (
    cond (bytes_eq verb (codes "wait")) (ReadWait (nth cells 0)) (
    cond (bytes_eq verb (codes "again")) (ReadOwnerAgain (nth cells 0)) (
    cond (bytes_eq verb (codes "alarm")) (Alarm (nth cells 0)) (
    cond (bytes_eq verb (codes "settle")) (Settle (nth cells 0)) (
    cond (bytes_eq verb (codes "unwait")) (Unwait (nth cells 0)) (
    Lower))))))))))))))

-- an event is told by its word and its cells
event_of-words : (e : Event) → event_of (verb_of e) (cells_of e) ≡ e
event_of-words (Make t) = refl
event_of-words e = refl

-- words name one event at most
event_one : (words : List (List ℕ)) (e f : Event) → HasSmallCells e → HasSmallCells f
    → Names words e → Names words f → e ≡ f
event_one words e f small_e small_f a b =
    let same : verb_of e ∷ map decimal (cells_of e) ≡ verb_of f ∷ map decimal (cells_of f) = sym a ∙ b in
    let verb : verb_of e ≡ verb_of f = cc in
    let decimals : map decimal (cells_of e) ≡ map decimal (cells_of f) = cc in
    let cells : cells_of e ≡ cells_of f = cells_are (cells_of e) (cells_of f) small_e small_f decimals in
    sym (event_of-words e) ∙ ap (λ v. event_of v (cells_of e)) verb ∙ ap (event_of (verb_of f)) cells ∙ event_of-words f

-- lines are those of one list of events at most
pub events_one : EventsAreOne
events_one [] [] [] p q = refl
events_one [] [] (f ∷ fs) p q = absurd q
events_one [] (e ∷ es) b p q = absurd p
events_one (line ∷ lines) [] b p q = absurd p
events_one (line ∷ lines) (e ∷ es) [] p q = absurd q
events_one (line ∷ lines) (e ∷ es) (f ∷ fs) p q =
    let first : e ≡ f = event_one (words_of line) e f p.0 q.0 p.1 q.1 in
    let rest : es ≡ fs = events_one lines es fs p.2 q.2 in cc

-- the lines of a list of events have no first fault
pub no_fault : EventsHaveNoFault
no_fault lines events n good fault = fault_or_events lines n events fault good
