use Rattle.tj_program.proofs.Prelude.{HasNoForm, HasRead, IsCommand, IsOutput, Known, List, MatchOption, Some, [], ap}
use Rattle.tj_program.proofs.Prelude.{TakesInput, subst, takes_input, true, usage, ℕ, ◌≡◌}
use Rattle.tj_modes.proofs.Lines.CommandLines.{one_command, within_limits}
use Rattle.tj_command.proofs.Puts.{IsAnsweredBy-put, IsPartOf-put, exact, no_write_fault, put_whole}
use Rattle.tj_modes.proofs.Deliveries.{IsAnswered-command, put_whole-command, IsOutputPart-command}
use Rattle.tj_modes.proofs.Deliveries.{no_write_fault-command}
use Rattle.tj_program.proofs.ClosedRuns.{HaveWorkers-command, IsClosedRunOf-command, IsClosedRunOf-some, never_with}
use Rattle.tj_program.proofs.ClosedRuns.{nothing}
use Rattle.tj_command.proofs.Inputs.{some_input}
use Rattle.tj_modes.proofs.StrictRuns.{never_waits-words}
use Rattle.tj_program.proofs.top_call.run_words.Given.{Over}
use Rattle.tj_program.proofs.top_call.run_words.Goals as goal

-- The words have no form.
formless : (g : Over) (c : goal.After-put_text g) → HasNoForm c.args.words.now
formless g c = subst (λ found. MatchOption found (HasNoForm c.args.words.now) (IsCommand c.args.words.now))
    c.in-Ok-None.field-0-is c.in-Ok-None.ensures

pub returns-in-Ok-None-clause-output : goal.returns-in-Ok-None-clause-output
returns-in-Ok-None-clause-output g c = λ input held told holds none_read none_put.
    IsAnsweredBy-put (IsOutput c.args.words.now input) (g.K.Sink.has_room c.args.sink.now) held _ _ _ _ _ _ _
    (usage (formless g c)) c.put_text.ensures.put holds
    none_put

pub returns-in-Ok-None-clause-whole : goal.returns-in-Ok-None-clause-whole
returns-in-Ok-None-clause-whole g c = λ input told has.
    put_whole (IsOutput c.args.words.now input) (g.K.Sink.has_room c.args.sink.now) _ _ _ _ _ _ _ (usage (formless g c))
    c.put_text.ensures.put has

pub returns-in-Ok-None-clause-taken : goal.returns-in-Ok-None-clause-taken
returns-in-Ok-None-clause-taken g c = λ input told read has. absurd (formless g c read.0 read.1)

pub returns-in-Ok-None-clause-cause : goal.returns-in-Ok-None-clause-cause
returns-in-Ok-None-clause-cause g c = λ has.
    let put = put_whole (IsOutput c.args.words.now []) (g.K.Sink.has_room c.args.sink.now) _ _ _ _ _ _ _
    (usage (formless g c))
    c.put_text.ensures.put has in
    ([], put.0, put.1, put.2)

pub returns-in-Ok-None-clause-part : goal.returns-in-Ok-None-clause-part
returns-in-Ok-None-clause-part g c = λ is input told. IsPartOf-put (IsOutput c.args.words.now input)
    (g.K.Sink.has_room c.args.sink.now) _ _ _ _ _ _ _
    (usage (formless g c)) (λ e. cc) c.put_text.ensures.put is

pub answer-requires-clause-limits : goal.answer-requires-clause-limits
answer-requires-clause-limits g c κs within = within_limits c.args.words.now c.in-Ok-Some.command
    (subst (λ found. MatchOption found (HasNoForm c.args.words.now) (IsCommand c.args.words.now))
    c.in-Ok-Some.field-0-is c.in-Ok-Some.ensures)

-- The words are a command.
is_command : (g : Over) (c : goal.Joined-input g) → IsCommand c.args.words.now c.in-Ok-Some.command
is_command g c = subst (λ found. MatchOption found (HasNoForm c.args.words.now) (IsCommand c.args.words.now))
    c.in-Ok-Some.field-0-is c.in-Ok-Some.ensures

-- what was read of an input that is told where it is read
has_read : (g : Over) (c : goal.Joined-input g) (input : List ℕ)
    → (TakesInput c.args.words.now → g.S.Source.left c.args.source.now ≡ Some input)
    → HasRead c.in-Ok-Some.command input c.in-Ok.input
has_read g c input told = λ does.
    c.in-Ok.ensures.read input (told (c.in-Ok-Some.command, is_command g c, does)) does

pub returns-in-Ok-clause-output : goal.returns-in-Ok-clause-output
returns-in-Ok-clause-output g c = λ input held told holds none_read none_put.
    IsAnswered-command c.args.words.now c.in-Ok-Some.command (is_command g c) input _ _ _ _ _
    (g.K.Sink.has_room c.args.sink.now)
    (λ other. c.answer.ensures.output other input (has_read g c input told)) held
    (λ is. ap g.K.Sink.held (c.answer.ensures.memory is)) holds none_put

pub returns-in-Ok-clause-whole : goal.returns-in-Ok-clause-whole
returns-in-Ok-clause-whole g c = λ input told has.
    put_whole-command c.args.words.now c.in-Ok-Some.command (is_command g c) input _ _ _ _ _
    (g.K.Sink.has_room c.args.sink.now)
    (λ other. c.answer.ensures.output other input (has_read g c input told)) has

pub returns-in-Ok-clause-taken : goal.returns-in-Ok-clause-taken
returns-in-Ok-clause-taken g c = λ input told read has.
    let same : read.0 ≡ c.in-Ok-Some.command =
    one_command c.args.words.now read.0 c.in-Ok-Some.command read.1 (is_command g c) in
    c.in-Ok.ensures.taken (subst (λ k. takes_input k ≡ true) same read.2) input told

pub returns-in-Ok-clause-cause : goal.returns-in-Ok-clause-cause
returns-in-Ok-clause-cause g c = λ has.
    let some = some_input c.in-Ok.input c.in-Ok.ensures.within in
    let put = put_whole-command c.args.words.now c.in-Ok-Some.command (is_command g c) some.0 _ _ _ _ _
    (g.K.Sink.has_room c.args.sink.now)
    (λ other. c.answer.ensures.output other some.0 (λ does. some.1)) has in
    (some.0, put.0, put.1, put.2)

pub returns-in-Ok-clause-part : goal.returns-in-Ok-clause-part
returns-in-Ok-clause-part g c = λ is input told.
    IsOutputPart-command c.args.words.now c.in-Ok-Some.command (is_command g c) input _ _ _ _ _
    (g.K.Sink.has_room c.args.sink.now)
    (λ other. c.answer.ensures.output other input (has_read g c input told)) is

pub returns-in-Ok-None-clause-never_waits : goal.returns-in-Ok-None-clause-never_waits
returns-in-Ok-None-clause-never_waits g c = λ command input is.
    never_waits-words c.strict_runs_never_wait.ensures c.args.words.now command input is

pub returns-in-Err-clause-never_waits : goal.returns-in-Err-clause-never_waits
returns-in-Err-clause-never_waits g c = λ command input is.
    never_waits-words c.strict_runs_never_wait.ensures c.args.words.now command input is

pub returns-in-Ok-clause-never_waits : goal.returns-in-Ok-clause-never_waits
returns-in-Ok-clause-never_waits g c = λ command input is.
    never_waits-words c.strict_runs_never_wait.ensures c.args.words.now command input is

pub returns-in-Err-Failed-clause-never_waits : goal.returns-in-Err-Failed-clause-never_waits
returns-in-Err-Failed-clause-never_waits g c = λ command input is.
    never_waits-words c.strict_runs_never_wait.ensures c.args.words.now command input is

pub returns-in-Err-Oom-clause-never_waits : goal.returns-in-Err-Oom-clause-never_waits
returns-in-Err-Oom-clause-never_waits g c = λ command input is.
    never_waits-words c.strict_runs_never_wait.ensures c.args.words.now command input is

pub returns-in-Ok-None-clause-exact : goal.returns-in-Ok-None-clause-exact
returns-in-Ok-None-clause-exact g c = λ input text status told out has.
    exact (IsOutput c.args.words.now input) (g.K.Sink.has_room c.args.sink.now)
    (c.one_output.ensures c.args.words.now input) text status _ _ _ out
    (returns-in-Ok-None-clause-whole g c input told has)

pub returns-in-Ok-clause-exact : goal.returns-in-Ok-clause-exact
returns-in-Ok-clause-exact g c = λ input text status told out has.
    exact (IsOutput c.args.words.now input) (g.K.Sink.has_room c.args.sink.now)
    (c.one_output.ensures c.args.words.now input) text status _ _ _ out
    (returns-in-Ok-clause-whole g c input told has)

pub returns-in-Ok-None-clause-part_cause : goal.returns-in-Ok-None-clause-part_cause
returns-in-Ok-None-clause-part_cause g c = λ is. (
  [],
  IsPartOf-put (IsOutput c.args.words.now []) (g.K.Sink.has_room c.args.sink.now) _ _ _ _ _ _ _
      (usage (formless g c)) (λ e. cc) c.put_text.ensures.put is,
)

pub returns-in-Ok-clause-part_cause : goal.returns-in-Ok-clause-part_cause
returns-in-Ok-clause-part_cause g c = λ is.
    let some = some_input c.in-Ok.input c.in-Ok.ensures.within in (
      some.0,
      IsOutputPart-command c.args.words.now c.in-Ok-Some.command (is_command g c) some.0 _ _ _ _ _
          (g.K.Sink.has_room c.args.sink.now) (λ other. c.answer.ensures.output other some.0 (λ does. some.1)) is,
    )

pub returns-in-Ok-None-clause-fits : goal.returns-in-Ok-None-clause-fits
returns-in-Ok-None-clause-fits g c = λ room input text status has told out fits.
    no_write_fault (IsOutput c.args.words.now input) (g.K.Sink.has_room c.args.sink.now)
    (c.one_output.ensures c.args.words.now input) text _ status _ _ _
    _ _ _
    (usage (formless g c)) (λ e. cc) c.put_text.ensures.put out room has fits

pub returns-in-Ok-clause-fits : goal.returns-in-Ok-clause-fits
returns-in-Ok-clause-fits g c = λ room input text status has told out fits.
    no_write_fault-command c.args.words.now c.in-Ok-Some.command (is_command g c) input _ _ _ _ _
    (g.K.Sink.has_room c.args.sink.now)
    (λ other. c.answer.ensures.output other input (has_read g c input told)) c.one_output.ensures text status out room
    has fits

pub returns-in-Ok-None-clause-closed_with : goal.returns-in-Ok-None-clause-closed_with
returns-in-Ok-None-clause-closed_with g c = never_with c.args.words.now c.put_text.result (formless g c)

pub returns-in-Err-clause-closed_with : goal.returns-in-Err-clause-closed_with
returns-in-Err-clause-closed_with g c = ((λ some. absurd (nothing some)), (λ h. absurd h.0))

pub returns-in-Err-Failed-clause-closed_with : goal.returns-in-Err-Failed-clause-closed_with
returns-in-Err-Failed-clause-closed_with g c = ((λ some. absurd (nothing some)), (λ h. absurd h.0))

pub returns-in-Err-Oom-clause-closed_with : goal.returns-in-Err-Oom-clause-closed_with
returns-in-Err-Oom-clause-closed_with g c = ((λ some. absurd (nothing some)), (λ h. absurd h.0))

pub returns-in-Ok-clause-closed_with : goal.returns-in-Ok-clause-closed_with
returns-in-Ok-clause-closed_with g c = HaveWorkers-command c.args.words.now c.in-Ok-Some.command _ _ (is_command g c)
    (λ other is. one_command c.args.words.now other c.in-Ok-Some.command is (is_command g c))
    c.answer.ensures.closed_with

pub returns-in-Ok-clause-closed : goal.returns-in-Ok-clause-closed
returns-in-Ok-clause-closed g c = λ input told.
    IsClosedRunOf-command c.args.words.now c.in-Ok-Some.command input _ _ _ _ (is_command g c)
    (c.answer.ensures.closed input (has_read g c input told))

pub returns-in-Ok-clause-closed_cause : goal.returns-in-Ok-clause-closed_cause
returns-in-Ok-clause-closed_cause g c =
    let some = some_input c.in-Ok.input c.in-Ok.ensures.within in
    IsClosedRunOf-some c.args.words.now some.0 _ _ _ _
    (IsClosedRunOf-command c.args.words.now c.in-Ok-Some.command some.0 _ _ _ _ (is_command g c)
    (c.answer.ensures.closed some.0 (λ does. some.1)))

pub returns-in-Ok-None-clause-known_is_along : goal.returns-in-Ok-None-clause-known_is_along
returns-in-Ok-None-clause-known_is_along g c = λ cells steps input is.
    c.known_joins_are_along.ensures cells steps input (within_limits c.args.words.now (Known cells steps) is)

pub returns-in-Err-clause-known_is_along : goal.returns-in-Err-clause-known_is_along
returns-in-Err-clause-known_is_along g c = λ cells steps input is.
    c.known_joins_are_along.ensures cells steps input (within_limits c.args.words.now (Known cells steps) is)

pub returns-in-Ok-clause-known_is_along : goal.returns-in-Ok-clause-known_is_along
returns-in-Ok-clause-known_is_along g c = λ cells steps input is.
    c.known_joins_are_along.ensures cells steps input (within_limits c.args.words.now (Known cells steps) is)

pub returns-in-Err-Failed-clause-known_is_along : goal.returns-in-Err-Failed-clause-known_is_along
returns-in-Err-Failed-clause-known_is_along g c = λ cells steps input is.
    c.known_joins_are_along.ensures cells steps input (within_limits c.args.words.now (Known cells steps) is)

pub returns-in-Err-Oom-clause-known_is_along : goal.returns-in-Err-Oom-clause-known_is_along
returns-in-Err-Oom-clause-known_is_along g c = λ cells steps input is.
    c.known_joins_are_along.ensures cells steps input (within_limits c.args.words.now (Known cells steps) is)
