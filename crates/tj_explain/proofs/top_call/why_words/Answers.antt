use Rattle.std.proofs.Common.{[], ap, rules}
use Rattle.tj_command.proofs.Inputs.{some_input}
use Rattle.tj_command.proofs.Puts.{IsAnsweredBy-given, IsAnsweredBy-put, IsPartOf-given, IsPartOf-put, exact}
use Rattle.tj_command.proofs.Puts.{no_write_fault, no_write_fault-given, put_whole, put_whole-given}
use Rattle.tj_explain.proofs.CommandLimits.{within_limits}
use Rattle.tj_explain.proofs.FoundCommands.{is_command, is_read}
use Rattle.tj_explain.proofs.Owns.{own}
use Rattle.tj_explain.specs.WhyLine.{HasNoForm}
use Rattle.tj_explain.specs.WhyOutput.{IsCommandOutput, IsOutput, of_command, usage}
use Rattle.tj_explain.proofs.top_call.why_words.Goals as goal

pub returns-in_default-clause-output : goal.returns-in_default-clause-output
returns-in_default-clause-output g c = λ input held told holds none_read none_put.
    let none : HasNoForm c.args.words.now = search rules in
    IsAnsweredBy-put (IsOutput c.args.words.now input) (g.K.Sink.has_room c.args.sink.now) held _ _ _ _ _ _ _
    (usage none) c.put_text.ensures.put holds none_put

pub returns-in_default-clause-whole : goal.returns-in_default-clause-whole
returns-in_default-clause-whole g c = λ input told has.
    let none : HasNoForm c.args.words.now = search rules in
    put_whole (IsOutput c.args.words.now input) (g.K.Sink.has_room c.args.sink.now) _ _ _ _ _ _ _ (usage none)
    c.put_text.ensures.put has

pub returns-in_default-clause-exact : goal.returns-in_default-clause-exact
returns-in_default-clause-exact g c = λ input text status told out has.
    let none : HasNoForm c.args.words.now = search rules in
    exact (IsOutput c.args.words.now input) (g.K.Sink.has_room c.args.sink.now)
    (c.one_output.ensures c.args.words.now input) text
    status _ _ _ out (put_whole (IsOutput c.args.words.now input) (g.K.Sink.has_room c.args.sink.now)
    _ _ _ _ _ _ _ (usage none)
    c.put_text.ensures.put has)

pub returns-in_default-clause-cause : goal.returns-in_default-clause-cause
returns-in_default-clause-cause g c = λ has.
    let none : HasNoForm c.args.words.now = search rules in
    let put = put_whole (IsOutput c.args.words.now []) (g.K.Sink.has_room c.args.sink.now) _ _ _ _ _ _ _ (usage none)
    c.put_text.ensures.put has in
    ([], put.0, put.1, put.2)

pub returns-in_default-clause-taken : goal.returns-in_default-clause-taken
returns-in_default-clause-taken g c = λ input told form has.
    let none : HasNoForm c.args.words.now = search rules in
    absurd (none form.0 form.1)

pub returns-in_default-clause-part : goal.returns-in_default-clause-part
returns-in_default-clause-part g c = λ is input told.
    let none : HasNoForm c.args.words.now = search rules in
    IsPartOf-put (IsOutput c.args.words.now input) (g.K.Sink.has_room c.args.sink.now) _ _ _ _ _ _ _ (usage none)
    (λ e. cc) c.put_text.ensures.put is

pub returns-in_default-clause-fits : goal.returns-in_default-clause-fits
returns-in_default-clause-fits g c = λ room input text status has told out fits.
    let none : HasNoForm c.args.words.now = search rules in
    no_write_fault (IsOutput c.args.words.now input) (g.K.Sink.has_room c.args.sink.now)
    (c.one_output.ensures c.args.words.now input)
    text _ status _ _ _ _ _ _ (usage none) (λ e. cc) c.put_text.ensures.put out room has fits

pub returns-in_default-clause-part_cause : goal.returns-in_default-clause-part_cause
returns-in_default-clause-part_cause g c = λ is.
    let none : HasNoForm c.args.words.now = search rules in (
      [],
      IsPartOf-put (IsOutput c.args.words.now []) (g.K.Sink.has_room c.args.sink.now) _ _ _ _ _ _ _ (usage none)
          (λ e. cc) c.put_text.ensures.put is,
    )

pub answer-requires-clause-limits : goal.answer-requires-clause-limits
answer-requires-clause-limits g c =
    let is = is_command c.args.words.now _ c.in-Some.command c.command_of.ensures c.in-Some.is in
    within_limits c.args.words.now c.in-Some.command is

pub returns-in-Ok-clause-output : goal.returns-in-Ok-clause-output
returns-in-Ok-clause-output g c = λ input held told holds none_read none_put.
    let is = is_command c.args.words.now _ c.in-Some.command c.command_of.ensures c.in-Some.is in
    let read = is_read _ input c.in-Ok.input c.in-Ok.ensures.read (told (c.in-Some.command, is)) in
    IsAnsweredBy-given (IsOutput c.args.words.now input) (IsCommandOutput c.in-Some.command input)
    (λ s t out. of_command c.in-Some.command is out) (own c.in-Some.command input) (g.K.Sink.has_room c.args.sink.now)
    _ _ _ _ _ (λ other. c.answer.ensures.output other input read) held
    (λ e. ap g.K.Sink.held (c.answer.ensures.memory e)) holds none_put

pub returns-in-Ok-clause-whole : goal.returns-in-Ok-clause-whole
returns-in-Ok-clause-whole g c = λ input told has.
    let is = is_command c.args.words.now _ c.in-Some.command c.command_of.ensures c.in-Some.is in
    let read = is_read _ input c.in-Ok.input c.in-Ok.ensures.read (told (c.in-Some.command, is)) in
    put_whole-given (IsOutput c.args.words.now input) (IsCommandOutput c.in-Some.command input)
    (λ s t out. of_command c.in-Some.command is out) (own c.in-Some.command input) (g.K.Sink.has_room c.args.sink.now)
    _ _ _ _ _ (λ other. c.answer.ensures.output other input read) has

pub returns-in-Ok-clause-exact : goal.returns-in-Ok-clause-exact
returns-in-Ok-clause-exact g c = λ input text status told out has.
    let is = is_command c.args.words.now _ c.in-Some.command c.command_of.ensures c.in-Some.is in
    let read = is_read _ input c.in-Ok.input c.in-Ok.ensures.read (told (c.in-Some.command, is)) in
    exact (IsOutput c.args.words.now input) (g.K.Sink.has_room c.args.sink.now)
    (c.one_output.ensures c.args.words.now input) text
    status _ _ _ out (put_whole-given (IsOutput c.args.words.now input) (IsCommandOutput c.in-Some.command input)
    (λ s t out. of_command c.in-Some.command is out) (own c.in-Some.command input) (g.K.Sink.has_room c.args.sink.now)
    _ _ _ _ _ (λ other. c.answer.ensures.output other input read) has)

pub returns-in-Ok-clause-cause : goal.returns-in-Ok-clause-cause
returns-in-Ok-clause-cause g c = λ has.
    let is = is_command c.args.words.now _ c.in-Some.command c.command_of.ensures c.in-Some.is in
    let some = some_input c.in-Ok.input c.in-Ok.ensures.within in
    let put = put_whole-given (IsOutput c.args.words.now some.0) (IsCommandOutput c.in-Some.command some.0)
    (λ s t out. of_command c.in-Some.command is out)
    (own c.in-Some.command some.0) (g.K.Sink.has_room c.args.sink.now) _ _ _
    _ _ (λ other. c.answer.ensures.output other some.0 some.1) has in
    (some.0, put.0, put.1, put.2)

pub returns-in-Ok-clause-untouched : goal.returns-in-Ok-clause-untouched
returns-in-Ok-clause-untouched g c = λ none.
    let is = is_command c.args.words.now _ c.in-Some.command c.command_of.ensures c.in-Some.is in
    absurd (none c.in-Some.command is)

pub returns-in-Ok-clause-part : goal.returns-in-Ok-clause-part
returns-in-Ok-clause-part g c = λ failed input told.
    let is = is_command c.args.words.now _ c.in-Some.command c.command_of.ensures c.in-Some.is in
    let read = is_read _ input c.in-Ok.input c.in-Ok.ensures.read (told (c.in-Some.command, is)) in
    IsPartOf-given (IsOutput c.args.words.now input) (IsCommandOutput c.in-Some.command input)
    (λ s t out. of_command c.in-Some.command is out) (own c.in-Some.command input) (g.K.Sink.has_room c.args.sink.now)
    _ _ _ _ _ (λ other. c.answer.ensures.output other input read) failed

pub returns-in-Ok-clause-fits : goal.returns-in-Ok-clause-fits
returns-in-Ok-clause-fits g c = λ room input text status has told out fits.
    let is = is_command c.args.words.now _ c.in-Some.command c.command_of.ensures c.in-Some.is in
    let read = is_read _ input c.in-Ok.input c.in-Ok.ensures.read (told (c.in-Some.command, is)) in
    no_write_fault-given (IsOutput c.args.words.now input) (IsCommandOutput c.in-Some.command input)
    (λ s t out. of_command c.in-Some.command is out) (own c.in-Some.command input) (g.K.Sink.has_room c.args.sink.now)
    _ _ _ _ _ (λ other. c.answer.ensures.output other input read)
    (c.one_output.ensures c.args.words.now input) text status out room has fits

pub returns-in-Ok-clause-part_cause : goal.returns-in-Ok-clause-part_cause
returns-in-Ok-clause-part_cause g c = λ failed.
    let is = is_command c.args.words.now _ c.in-Some.command c.command_of.ensures c.in-Some.is in
    let some = some_input c.in-Ok.input c.in-Ok.ensures.within in (
      some.0,
      IsPartOf-given (IsOutput c.args.words.now some.0) (IsCommandOutput c.in-Some.command some.0)
          (λ s t out. of_command c.in-Some.command is out)
          (own c.in-Some.command some.0) (g.K.Sink.has_room c.args.sink.now) _ _ _
          _ _ (λ other. c.answer.ensures.output other some.0 some.1) failed,
    )

pub returns-in-Err-Failed-clause-untouched : goal.returns-in-Err-Failed-clause-untouched
returns-in-Err-Failed-clause-untouched g c = λ none.
    let is = is_command c.args.words.now _ c.in-Some.command c.command_of.ensures c.in-Some.is in
    absurd (none c.in-Some.command is)

pub returns-in-Err-Oom-clause-untouched : goal.returns-in-Err-Oom-clause-untouched
returns-in-Err-Oom-clause-untouched g c = λ none.
    let is = is_command c.args.words.now _ c.in-Some.command c.command_of.ensures c.in-Some.is in
    absurd (none c.in-Some.command is)
