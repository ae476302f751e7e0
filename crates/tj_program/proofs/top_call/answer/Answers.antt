use Rattle.tj_program.proofs.Prelude.{HasRead, IsGiven, List, ℕ}
use Rattle.tj_program.proofs.ClosedRuns.{nothing, AreWith-put, IsClosedRun-put, IsPutAs-with}
use Rattle.tj_command.proofs.Puts.{IsOwnAnswer}
use Rattle.tj_modes.proofs.Deliveries.{own_answer}
use Rattle.tj_command.proofs.Inputs.{some_input}
use Rattle.tj_program.proofs.top_call.answer.Given.{Over}
use Rattle.tj_program.proofs.top_call.answer.Goals as goal

-- what was given is what the command gives for each input of which this was read
given : (g : Over) (c : goal.After-put_given g) (all : List ℕ) → HasRead c.args.command all c.args.input.now
    → IsGiven c.args.command all c.in-Ok.given.output.status c.in-Ok.given.output.text.items c.in-Ok.given.closed
given g c = c.in-Ok.ensures

own : (g : Over) (c : goal.After-put_given g) → IsOwnAnswer (g.K.Sink.faults c.args.sink.now)
    (g.K.Sink.faults c.put_given.new.sink) c.put_given.result.0
own g c = let some = some_input c.args.input.now c.requires.within in
    own_answer (g.K.Sink.has_room c.args.sink.now) c.args.command some.0 c.in-Ok.given.output.status
    c.in-Ok.given.output.text.items (g.K.Sink.held c.args.sink.now) (g.K.Sink.held c.put_given.new.sink) _ _ _
    (given g c some.0 (λ does. some.1)).is_output
    (IsPutAs-with (g.K.Sink.has_room c.args.sink.now) _ _ _ _ _ _ _ _ _ c.put_given.ensures.put)

pub returns-in-Ok-clause-output : goal.returns-in-Ok-clause-output
returns-in-Ok-clause-output g c = λ other all read. (
  c.in-Ok.given.output.status,
  c.in-Ok.given.output.text.items,
  (given g c all read).is_output,
  IsPutAs-with (g.K.Sink.has_room c.args.sink.now) _ _ _ _ _ _ _ _ _ c.put_given.ensures.put,
)

pub returns-in-Ok-clause-closed_with : goal.returns-in-Ok-clause-closed_with
returns-in-Ok-clause-closed_with g c = let some = some_input c.args.input.now c.requires.within in
    AreWith-put (g.K.Sink.has_room c.args.sink.now) c.args.command _ _ _ _ _ _ _ _ _
    (given g c some.0 (λ does. some.1)).are_with c.put_given.ensures.put

pub returns-in-Ok-clause-closed : goal.returns-in-Ok-clause-closed
returns-in-Ok-clause-closed g c = λ all read.
    IsClosedRun-put (g.K.Sink.has_room c.args.sink.now) c.args.command all _ _ _ _ _ _ _ _ _ (given g c all read)
    c.put_given.ensures.put

pub returns-in-Ok-clause-memory : goal.returns-in-Ok-clause-memory
returns-in-Ok-clause-memory g c = λ is. absurd ((own g c).no_memory is)

pub returns-in-Ok-clause-write_fault : goal.returns-in-Ok-clause-write_fault
returns-in-Ok-clause-write_fault g c = (own g c).write_fault

pub returns-in-Ok-clause-others : goal.returns-in-Ok-clause-others
returns-in-Ok-clause-others g c = ((own g c).no_usage, (own g c).no_read_fault)

pub returns-in-Err-clause-closed_with : goal.returns-in-Err-clause-closed_with
returns-in-Err-clause-closed_with g c = ((λ some. absurd (nothing some)), (λ h. absurd h.0))
