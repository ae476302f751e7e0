use Rattle.std.proofs.Common.{All, Global, Vec, ap, length-set, rules, set, ◌∙◌, ◌≡◌}
use Rattle.std.proofs.lemmas.List.{with_items_is}
use Rattle.std.proofs.lemmas.List.Elements.{All-same, All-set}
use Rattle.tj_run.proofs.beginning.begun.Goals as goal
use Rattle.tj_run.proofs.beginning.begun.Goals.{in-Some+in_ok-put, in_default}

pub returns-clause-limit : goal.returns-clause-limit
returns-clause-limit g c =
    let P : g.row.P.Denot → Type 0 = λ end. g.P.Pool.limit end ≡ c.args.cells in
    let v = c.in_ok-ends.ends in let now = c.as_mut_slice.result.now in let ends = c.match-first_mut.ends in
    let was : All P now = All-same P now v.items c.as_mut_slice.ensures.value c.in_ok-ends.ensures.limit in
    elim c.match-first_mut.branch [
      | in-Some+in_ok-put w ↦ All-same P ends.items (set now 0 w.put.new.self)
          (ap (λ (e : Vec g.row.P.Denot Global). e.items) w.ends-is ∙ with_items_is v (set now 0 w.put.new.self)
          (length-set now 0 w.put.new.self ∙ c.as_mut_slice.ensures.len))
          (All-set P now 0 w.put.new.self (w.in_ok-put.ensures.limit
          ∙ (ap (λ (e : g.row.P.Denot). g.P.Pool.limit e) w.in-Some.ensures.item.1
          ∙ was 0 w.in-Some.first.now (search rules))) was)
      | in_default w ↦ All-same P ends.items now
          (ap (λ (e : Vec g.row.P.Denot Global). e.items) w.ends-is
          ∙ with_items_is v now c.as_mut_slice.ensures.len) was
    ]
