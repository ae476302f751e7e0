-- What a trace tells of one name, and where a statement stands.
use Rattle.std.specs.Prelude.{ℕ, zero, suc, List, [], ◌∷◌, ◌++◌, map, Option, Some, None, slice_get}
use Rattle.tj_base.specs.ForkOrder.{Name}
use Rattle.tj_lex.specs.declared.place.Place.{Place}
use Rattle.tj_syntax.specs.PlacesOf.{PlacesOfTask}
use Rattle.tj_syntax.specs.declared.positions.StatementPlace.{StatementPlace}
use Rattle.tj_mean.specs.declared.outcome.Ending.{Ending}
use Rattle.tj_mean.specs.declared.outcome.Ending.TheVariants as ending
use Rattle.tj_trace.specs.declared.line.Maker.{Maker}
use Rattle.tj_trace.specs.declared.line.TraceLine.{TraceLine}

-- the cells that a task owned where it stopped: the promises that it owed when it ended; where it waits, its result and
-- the promises that it holds
abbrev pub kept_with : Ending → TraceLine → List Name
kept_with (ending.Done v) l = l.line.owes
kept_with (ending.Failed c) l = l.line.owes
kept_with (ending.Waits q) l = l.line.name ∷ l.holds

-- the same of a line
abbrev pub kept_by : TraceLine → List Name
kept_by l = kept_with l.line.ending l

-- what made the thing with number k of a task; the first has number 1
abbrev pub maker_at : TraceLine → ℕ → Option Maker
maker_at l zero = None
maker_at l (suc k) = slice_get l.makers k

-- the same where the task has a line
abbrev pub made_by : Option TraceLine → ℕ → Option Maker
made_by None k = None
made_by (Some l) k = maker_at l k

-- where the statements of a declaration stand, and behind them its closing brace
abbrev pub spots : PlacesOfTask → List Place
spots t = map (λ s. s.at) t.statements ++ t.brace ∷ []

-- where a statement stands, if there is such a declaration
abbrev pub spot_of : Option PlacesOfTask → ℕ → Option Place
spot_of None n = None
spot_of (Some t) n = slice_get (spots t) n

-- where the ask of a statement stands, if there is such a statement and it has one
abbrev pub ask_in : Option StatementPlace → Option Place
ask_in None = None
ask_in (Some s) = s.ask

-- where the ask of the statement with this number stands, if there is such a declaration
abbrev pub ask_spot_of : Option PlacesOfTask → ℕ → Option Place
ask_spot_of None n = None
ask_spot_of (Some t) n = ask_in (slice_get t.statements n)
