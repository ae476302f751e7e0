use Rattle.std.proofs.Common.{map, sym, subst}
use Rattle.std.specs.List.Sorted.{IsPermutation}
use Rattle.std.proofs.lemmas.List.Sorted.{IsPermutation-refl}
use Rattle.tj_mean.specs.Outcomes.{AreApart, AreCycles, Ascend}
use Rattle.tj_mean.specs.declared.outcome.TaskLine.{TaskLine}
use Rattle.tj_mean.specs.declared.stopped.Stopped.{Stopped}
use Rattle.tj_mean.proofs.Lists.Maps.{map_map}
use Rattle.tj_mean.proofs.Outcomes.ToldOutcomes.{apart_in_order, outcome_in_order}
use Rattle.tj_mean.proofs.told.outcome_of.Goals as goal

pub cycles-requires-clause-apart : goal.cycles-requires-clause-apart
cycles-requires-clause-apart c =
    subst AreApart (sym c.as_slice.ensures.value)
    (apart_in_order c.args.tasks.items c.in_ok-tasks.tasks.items c.in_ok-tasks.ensures.same c.requires)

pub returns : goal.returns
returns c =
    let sorted = c.in_ok-tasks.tasks.items in
    let line : Stopped → TaskLine = λ s. s.line in
    outcome_in_order c.args.tasks.items sorted c.in_ok-tasks.ensures.same
    (record { lines = c.in_ok-lines.lines; cycles = c.in_ok-cycles.cycles })
    (record {
      lines = subst (IsPermutation (map line sorted)) (sym c.in_ok-lines.ensures)
          (IsPermutation-refl (map line sorted));
      lines_in_order = subst (λ ls. Ascend (map (λ (l : TaskLine). l.name) ls)) (sym c.in_ok-lines.ensures)
          (subst Ascend (sym (map_map line (λ (l : TaskLine). l.name) sorted)) c.in_ok-tasks.ensures.ascend);
      cycles = subst (λ ss. AreCycles ss c.in_ok-cycles.cycles) c.as_slice.ensures.value c.in_ok-cycles.ensures;
    })
