use Rattle.tj_command.proofs.Inputs.{some_input}
use Rattle.tj_command.proofs.Puts.{IsOwnAnswer, own_put}
use Rattle.tj_command.specs.Delivery.{IsPutAs}
use Rattle.tj_explain.proofs.Owns.{own, put_items}
use Rattle.tj_explain.proofs.top_call.answer.Given.{Over}
use Rattle.tj_explain.proofs.top_call.answer.Goals as goal

-- what was put, as the text of the output
put : (g : Over) (c : goal.After-drop-output g) → IsPutAs (g.K.Sink.has_room c.args.sink.now) c.in-Ok.output.status
    c.in-Ok.output.text.items (g.K.Sink.held c.args.sink.now) (g.K.Sink.held c.put_text.new.sink)
    (g.K.Sink.faults c.args.sink.now) (g.K.Sink.faults c.put_text.new.sink) c.put_text.result
put g c = put_items (g.K.Sink.has_room c.args.sink.now) _ _ _ _ _ _ _ _ c.as_slice.ensures.value
    c.put_text.ensures.put

own_answer : (g : Over) (c : goal.After-drop-output g) → IsOwnAnswer (g.K.Sink.faults c.args.sink.now)
    (g.K.Sink.faults c.put_text.new.sink) c.put_text.result
own_answer g c = let some = some_input c.args.input.now c.requires.within in
    own_put (g.K.Sink.has_room c.args.sink.now) c.in-Ok.output.status c.in-Ok.output.text.items
    (g.K.Sink.held c.args.sink.now) (g.K.Sink.held c.put_text.new.sink) _ _ _
    (own c.args.command some.0 _ _ (c.in-Ok.ensures some.0 some.1)) (put g c)

pub returns-in-Ok-clause-output : goal.returns-in-Ok-clause-output
returns-in-Ok-clause-output g c = λ other all read.
    (c.in-Ok.output.status, c.in-Ok.output.text.items, c.in-Ok.ensures all read, put g c)

pub returns-in-Ok-clause-memory : goal.returns-in-Ok-clause-memory
returns-in-Ok-clause-memory g c = λ is. absurd ((own_answer g c).no_memory is)

pub returns-in-Ok-clause-write_fault : goal.returns-in-Ok-clause-write_fault
returns-in-Ok-clause-write_fault g c = (own_answer g c).write_fault

pub returns-in-Ok-clause-others : goal.returns-in-Ok-clause-others
returns-in-Ok-clause-others g c = ((own_answer g c).no_usage, (own_answer g c).no_read_fault)
