-- The law of positions: each number of a statement of a script has the position at which that statement begins.
use Rattle.std.specs.Prelude.{◌≡◌, ℕ, Bool, List, [], ◌∷◌, map, slice_get, Some, None}
use Rattle.std.specs.Option.{option_map}
use Rattle.tj_body.specs.Points.{IsIn}
use Rattle.tj_lex.specs.declared.place.Place.{Place}
use Rattle.tj_lex.specs.declared.token.Token.{Token}
use Rattle.tj_lex.specs.declared.token.Mark.TheVariants as m
use Rattle.tj_syntax.specs.Grammar.{IsProgram}
use Rattle.tj_syntax.specs.Marks.{Noted, mark}
use Rattle.tj_syntax.specs.Parts.{StandsAt, StatementStandsAt}
use Rattle.tj_syntax.specs.PlacesOf.{PlacesOfTask, place_at, places_of}
use Rattle.tj_syntax.specs.Starts.{Start, TaskStart, in_tasks}
use Rattle.tj_syntax.specs.Trees.{Statement, Task}
use Rattle.tj_eval.specs.Stands.{PlacedState, StandsRight}
use Rattle.tj_trace.specs.Logs.{logged_program}
use Rattle.tj_trace.specs.Lookups.{spot_of, ask_spot_of}
use Rattle.tj_trace.specs.RightLines.{IsStatementAt, IsBraceAt}
use Rattle.tj_trace.specs.Traces.{AreTraced}
use Rattle.tj_trace.specs.declared.line.Maker.{Maker}
use Rattle.tj_trace.specs.declared.line.SetNote.{SetNote}
use Rattle.tj_trace.specs.declared.line.TraceLine.{TraceLine}

-- the declaration's start, and the statement's with this number, at which it stands with its ask; both have the
-- positions of the tokens there
pub record HasSpot (tokens : List Token) (notes : List Noted) (script : List Task) (starts : List TaskStart)
    (decl at : ℕ) (s : Statement) : Type 0 where
  pub task : TaskStart
  pub is_declared : slice_get starts decl ≡ Some task
  pub start : Start
  pub is_there : slice_get task.statements at ≡ Some start
  pub stands : StatementStandsAt (map (λ t. t.name) script) notes s start
  pub spot : spot_of (slice_get (places_of tokens starts) decl) at ≡ Some (place_at tokens start.at)
  pub ask_spot : ask_spot_of (slice_get (places_of tokens starts) decl) at ≡ option_map (place_at tokens) start.ask

-- the declaration's start, and its closing brace, which has the position of the token there and no ask
pub record HasBraceSpot (tokens : List Token) (notes : List Noted) (starts : List TaskStart) (decl at : ℕ) :
    Type 0 where
  pub task : TaskStart
  pub is_declared : slice_get starts decl ≡ Some task
  pub stands : StandsAt notes (mark m.BraceClose ∷ []) task.brace
  pub spot : spot_of (slice_get (places_of tokens starts) decl) at ≡ Some (place_at tokens task.brace)
  pub ask_spot : ask_spot_of (slice_get (places_of tokens starts) decl) at ≡ None

-- each statement of a script has its spot, and so has each closing brace
abbrev pub SpotsAreThere : Type 0
SpotsAreThere = (tokens : List Token) (notes : List Noted) (script : List Task) (derived : IsProgram notes script)
    (decl at : ℕ) →
    ((s : Statement) → IsStatementAt script decl at s → HasSpot tokens notes script (in_tasks derived 0) decl at s)
    × (IsBraceAt script decl at → HasBraceSpot tokens notes (in_tasks derived 0) decl at)

-- the number has a position among these places
abbrev pub HasPlace : List PlacesOfTask → ℕ → ℕ → Type 0
HasPlace places decl at = (place : Place) × (spot_of (slice_get places decl) at ≡ Some place)

-- each number that a line tells has a position among the places of the same script
abbrev pub LinesHavePlaces : Bool → PlacedState → Type 0
LinesHavePlaces strict root = (N : ℕ) (lines : List TraceLine) → StandsRight root
    → AreTraced (logged_program strict root) N lines
    → (tokens : List Token) (notes : List Noted) (derived : IsProgram notes root.task.script)
    → let places = places_of tokens (in_tasks derived 0) in
    (l : TraceLine) → IsIn l lines → HasPlace places l.decl l.at
    × ((maker : Maker) → IsIn maker l.makers → HasPlace places maker.decl maker.at)
    × ((n : SetNote) → IsIn n l.sets → HasPlace places l.decl n.at)
