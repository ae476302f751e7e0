-- The law of hands: a line tells each promise that its task handed on, and to which of the things that it made.
use Rattle.std.specs.Prelude.{◌≡◌, ℕ, Bool, List, map, Some}
use Rattle.std.specs.List.{flat_map}
use Rattle.tj_base.specs.ForkOrder.{Name, child}
use Rattle.tj_body.specs.Points.{IsIn}
use Rattle.tj_body.specs.Rounds.{meaning}
use Rattle.tj_body.specs.declared.point.Point.{Point}
use Rattle.tj_body.specs.declared.point.Task.{Task}
use Rattle.tj_eval.specs.Stands.{PlacedState}
use Rattle.tj_trace.specs.Logs.{Logged, logged_program}
use Rattle.tj_trace.specs.Traces.{line_of}
use Rattle.tj_trace.specs.declared.line.HandNote.{HandNote}
use Rattle.tj_trace.specs.declared.line.TraceLine.{TraceLine}

-- the promises that a task was handed, each behind its name
abbrev pub handed_to : {B : Type 0} → Task B → List (Name × Name)
handed_to c = map (λ q. (c.name, q)) c.handed

-- what the notes of the task x tell in the same way
abbrev pub told_hands : Name → List HandNote → List (Name × Name)
told_hands x = map (λ n. (child x n.thing, n.promise))

-- each task of the meaning that has a line handed on what this tells, and to whom it tells
abbrev pub HandsAreWhole : Bool → PlacedState → Type 0
HandsAreWhole strict root = (N : ℕ) (p : Point Logged) (l : TraceLine)
    → IsIn p (meaning (logged_program strict root) N) → line_of p ≡ Some l
    → told_hands l.line.name l.hands ≡ flat_map handed_to p.children
