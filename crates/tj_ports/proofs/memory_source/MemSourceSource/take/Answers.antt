use Rattle.std.proofs.Common.{◌≤◌, ◌≡◌, ◌-◌, length, drop, take, ap, ◌∙◌, subst, arith}
use Rattle.std.proofs.lemmas.List.{take_rest}
use Rattle.tj_ports.proofs.Known.{front_given}
use Rattle.tj_ports.proofs.memory_source.MemSourceSource.take.Goals as goal

pub returns-clause-taken : goal.returns-clause-taken
returns-clause-taken c =
    let given = c.args.self.now.given in
    let bytes = c.args.self.now.bytes.items in
    let seen = c.deref.result.now in
    let here : take (length seen - given) (drop given seen) ≡ drop given bytes =
    take_rest seen given ∙ ap (drop given) c.deref.ensures.value in
    let fits : c.min-count.result ≤ length (drop given bytes) =
    subst (λ l. c.min-count.result ≤ length l) here (omega arith) in
    let copied : c.copy_from_slice.new.self ≡ take c.min-count.result (drop given bytes) =
    c.copy_from_slice.ensures.after ∙ ap (take c.min-count.result) here in
    front_given given c.min-count.result bytes c.copy_from_slice.new.self _ fits copied
