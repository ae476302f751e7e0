-- Where a promise went that a task had no right to set or to hand on: what the task itself did with it stands first,
-- then who set it, and else who owned it where it stopped. Who owned it as the task failed depends on the schedule.
use Rattle.std.specs.Prelude.{ℕ, Bool, true, false, ◌&&◌, nat_eq, cond, List, Option, Some, None, map}
use Rattle.std.specs.List.{find}
use Rattle.std.specs.Option.{option_map}
use Rattle.tj_base.specs.ForkOrder.{Name}
use Rattle.tj_base.specs.declared.cause.Cause.{Cause}
use Rattle.tj_base.specs.declared.cause.Cause.TheVariants as cause
use Rattle.tj_body.specs.Names.{has, same}
use Rattle.tj_mean.specs.declared.outcome.Ending.{Ending}
use Rattle.tj_mean.specs.declared.outcome.Ending.TheVariants as ending
use Rattle.tj_trace.specs.Lookups.{maker_at}
use Rattle.tj_trace.specs.declared.line.HandNote.{HandNote}
use Rattle.tj_trace.specs.declared.line.Maker.{Maker}
use Rattle.tj_trace.specs.declared.line.SetNote.{SetNote}
use Rattle.tj_trace.specs.declared.line.TraceLine.{TraceLine}
use Rattle.tj_findings.specs.Searches.{owner_of}
use Rattle.tj_findings.specs.declared.finding.Went.{Went}
use Rattle.tj_findings.specs.declared.finding.Went.TheVariants as went

-- where the task with this line set the promise
abbrev pub set_in : TraceLine → Name → Option SetNote
set_in l q = find (λ n. same n.promise q) l.sets

-- to which of its things the task with this line handed the promise
abbrev pub hand_in : TraceLine → Name → Option HandNote
hand_in l q = find (λ n. same n.promise q) l.hands

-- the promises that the task with this line set
abbrev pub sets_by : TraceLine → List Name
sets_by l = map (λ n. n.promise) l.sets

-- the line of the task that set the promise
abbrev pub setter_of : List TraceLine → Name → Option TraceLine
setter_of lines q = find (λ l. has q (sets_by l)) lines

-- the statement of what made a thing
abbrev pub maker_place : Option Maker → ℕ
maker_place None = 0
maker_place (Some m) = m.at

-- the task with this line had handed the promise to that thing
abbrev pub handed : TraceLine → HandNote → Went
handed l n = went.HandedHere l.line.name n.thing (maker_place (maker_at l n.thing))

-- the first of two answers that is one
abbrev pub or_else : Option Went → Went → Went
or_else None w = w
or_else (Some v) w = v

-- the task with this line set the promise there
abbrev pub set_by : TraceLine → Option SetNote → Option Went
set_by l None = None
set_by l (Some n) = Some (went.SetBy l.line.name l.decl n.at)

-- who set the promise
abbrev pub by_setter : Option TraceLine → Name → Option Went
by_setter None q = None
by_setter (Some l) q = set_by l (set_in l q)

module _ (lines : List TraceLine) where
  -- where the promise went that the task with this line neither set nor handed on before
  abbrev pub went_elsewhere : Name → Went
  went_elsewhere q = or_else (by_setter (setter_of lines q) q)
      (or_else (option_map (λ (l : TraceLine). went.OwnedBy l.line.name) (owner_of lines q)) went.Nowhere)

  -- where the promise went: the task that still owned it as it failed handed it twice
  abbrev pub went_from : TraceLine → Name → Went
  went_from l q = cond (has q l.line.owes) went.TwiceHere
      (or_else (option_map (λ (n : SetNote). went.SetHere n.at) (set_in l q))
      (or_else (option_map (handed l) (hand_in l q)) (went_elsewhere q)))

  -- where the promise went that a cause names as not owned
  abbrev pub went_for : TraceLine → Cause → Went
  went_for l cause.Arith = went.Nowhere
  went_for l cause.Kind = went.Nowhere
  went_for l cause.Steps = went.Nowhere
  went_for l (cause.Owner q) = went_from l q
  went_for l (cause.Broken q) = went.Nowhere
  went_for l (cause.Order q) = went.Nowhere

  -- the same of a task that stopped so
  abbrev pub went_at : TraceLine → Ending → Went
  went_at l (ending.Done v) = went.Nowhere
  went_at l (ending.Failed c) = went_for l c
  went_at l (ending.Waits q) = went.Nowhere

-- the promises went the same way: they were set or handed on at the same statement and by the same task
abbrev pub same_went : Went → Went → Bool
same_went went.Nowhere went.Nowhere = true
same_went (went.SetHere n) (went.SetHere m) = nat_eq n m
same_went (went.HandedHere x k n) (went.HandedHere y j m) = same x y && nat_eq k j && nat_eq n m
same_went went.TwiceHere went.TwiceHere = true
same_went (went.SetBy x d n) (went.SetBy y e m) = same x y && nat_eq d e && nat_eq n m
same_went (went.OwnedBy x) (went.OwnedBy y) = same x y
same_went v w = false
