-- The places of tokens, and of the parts that begin there.
use Rattle.std.specs.Prelude.{ℕ, List, map, slice_get, Option, Some, None}
use Rattle.std.specs.Option.{option_map}
use Rattle.tj_lex.specs.declared.token.Token.{Token}
use Rattle.tj_lex.specs.declared.place.Place.{Place}
use Rattle.tj_syntax.specs.declared.positions.StatementPlace.{StatementPlace}
use Rattle.tj_syntax.specs.declared.positions.TaskPlaces.{TaskPlaces}
use Rattle.tj_syntax.specs.declared.positions.ScriptPlaces.{ScriptPlaces}
use Rattle.tj_syntax.specs.Starts.{Start, TaskStart}

-- the places of a task's parts
pub record PlacesOfTask : Type 0 where
  pub at : Place
  pub statements : List StatementPlace
  pub brace : Place

-- the places that were found
abbrev pub view_task : TaskPlaces → PlacesOfTask
view_task t = record { at = t.at; statements = t.statements.items; brace = t.brace }

-- the places of each task
abbrev pub view : ScriptPlaces → List PlacesOfTask
view places = map view_task places.tasks.items

-- where a token stands; behind all of them there is no place, and the first stands for it
abbrev pub place_in : Option Token → Place
place_in None = record { line = 1; column = 1 }
place_in (Some t) = t.at

-- the place of the token behind so many others
abbrev pub place_at : List Token → ℕ → Place
place_at tokens n = place_in (slice_get tokens n)

-- the place of a statement and of its ask
abbrev pub statement_place : List Token → Start → StatementPlace
statement_place tokens s = record { at = place_at tokens s.at; ask = option_map (place_at tokens) s.ask }

-- the places of the parts of a task
abbrev pub task_place : List Token → TaskStart → PlacesOfTask
task_place tokens t = record {
  at = place_at tokens t.at;
  statements = map (statement_place tokens) t.statements;
  brace = place_at tokens t.brace;
}

-- the places of the parts of each task
abbrev pub places_of : List Token → List TaskStart → List PlacesOfTask
places_of tokens = map (task_place tokens)
