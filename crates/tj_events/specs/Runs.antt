-- Runs of the core: lists of events, each allowed where it stands.
use Rattle.std.specs.Prelude.{ℕ, List, [], ◌∷◌}
use Rattle.tj_events.specs.declared.event.Event.{Event}
use Rattle.tj_events.specs.CoreState.{CoreState, root_alone}
use Rattle.tj_events.specs.Events.{Allowed, after}

-- from s on, each event is allowed where it stands
abbrev pub AreAllowed : ℕ → CoreState → List Event → Type 0
AreAllowed N s [] = Unit {0}
AreAllowed N s (e ∷ es) = Allowed N s e × AreAllowed N (after s e) es

-- the state after these events
abbrev pub after_all : CoreState → List Event → CoreState
after_all s [] = s
after_all s (e ∷ es) = after_all (after s e) es

-- a legal run with at most N cells
abbrev pub IsLegalRun : ℕ → List Event → Type 0
IsLegalRun N es = AreAllowed N root_alone es
