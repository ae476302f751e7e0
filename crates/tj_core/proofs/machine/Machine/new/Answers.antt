use Rattle.std.proofs.Common.{rules, ◌≡◌, ℕ, List, [], ◌∷◌, Option, Some, None, set, replicate, ap, ◌∙◌}
use Rattle.tj_core.specs.Inner.Columns.{state_in}
use Rattle.tj_core.proofs.Columns.Starts.{start_state}
use Rattle.tj_core.proofs.machine.Machine.new.Goals as goal

pub returns-clause-state : goal.returns-clause-state
returns-clause-state c =
    let births : c.in_ok-births.births.births.items ≡ [] = c.in_ok-births.ensures.births in
    let made : c.in_ok-births.births.made.items ≡ 0 ∷ [] = c.in_ok-births.ensures.made in
    let owners : c.set.new.self.owners.items ≡ set (replicate c.args.cells None) 0 (Some 0) = c.set.ensures ∙ ap
    (λ (l : List (Option ℕ)). set l 0 (Some 0)) c.in_ok-owners.ensures in
    let slots : c.push.new.self.items ≡ c.begin.new.self ∷ [] = search rules in
    (λ j. state_in (births j) (made j) (owners j) (slots j) 0 0) ∙ start_state c.args.cells c.begin.new.self
    c.requires.some c.begin.ensures.stage
