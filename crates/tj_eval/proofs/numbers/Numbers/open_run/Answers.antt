use Rattle.std.proofs.Common.{◌-◌, Some, ap, arith, refl}
use Rattle.tj_eval.specs.declared.numbers.Numbers.{Numbers}
use Rattle.tj_eval.specs.declared.numbers.Run.{Run}
use Rattle.tj_eval.specs.Inner.Standing.{stands}
use Rattle.tj_eval.proofs.Tables.{opened_around}
use Rattle.tj_eval.proofs.numbers.Numbers.open_run.Goals as goal

pub returns-in_ok-push-in-Some : goal.returns-in_ok-push-in-Some
returns-in_ok-push-in-Some c = λ own decl. let w = c.args.self.now in
    let run : Run = record { next = c.args.n; more = c.args.count - 1 } in
    let new : Numbers = record { block = Some run; around = c.push.new.self; at = w.at; called = w.called } in
    ap (λ z. record (stands own decl w) { ahead = z })
    (opened_around own c.args.n c.args.count (omega arith) w new run refl refl refl c.in-Some.run' c.in-Some.is
    c.in_ok-push-in-Some.ensures.items)
