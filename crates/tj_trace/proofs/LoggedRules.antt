-- The rules of a task with its notes.
use Rattle.tj_body.specs.Programs.{Rules, rules_of}
use Rattle.std.proofs.Common.{Bool}
use Rattle.tj_trace.specs.Logs.{Logged, logged_places, logged_awaits, logged_left, logged_asks, logged_then}

abbrev pub rules : Bool → Rules Logged
rules strict = rules_of logged_places logged_awaits logged_left logged_asks logged_then strict
