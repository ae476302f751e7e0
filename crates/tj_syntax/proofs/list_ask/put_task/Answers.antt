use Rattle.std.proofs.lemmas.Result.{on_ok_weaker}
use Rattle.tj_syntax.proofs.Listed.Texts.{task_text}
use Rattle.tj_syntax.proofs.list_ask.put_task.Goals as goal

pub returns-in-Some : goal.returns-in-Some
returns-in-Some c =
    on_ok_weaker c.put.result (task_text _ _ _ _ _ _ c.in-Some.ensures.lookup.3.0 c.in-Some.ensures.lookup.1
    c.bytes.ensures) c.put.ensures
