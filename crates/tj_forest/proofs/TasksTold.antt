-- Each task that is told is that of a line, which tells of its history.
use Rattle.std.proofs.Common.{Bool, refl, sym, subst}
use Rattle.tj_eval.specs.Stands.{PlacedState}
use Rattle.tj_trace.proofs.MadeThere.{lines_are_of_stands}
use Rattle.tj_forest.proofs.Placed.{of_lines}
use Rattle.tj_forest.proofs.PlacedTasks.{of_placed}
use Rattle.tj_forest.proofs.ToldOnce.{to_point}
use Rattle.tj_forest.specs.TasksTold.{IsOfHistory, TasksAreOfHistories}

-- the law
pub tasks_are_of_histories : (strict : Bool) (root : PlacedState) → TasksAreOfHistories strict root
tasks_are_of_histories strict root N lines o traced out t i =
    let l = of_lines lines o.cycles t i in
    let p = to_point strict root N lines o traced out l.0 l.1 in
    let so = p.2 in
    subst (IsOfHistory strict root N) (sym l.2) (record {
      ending = l.0.line.ending;
      stopped = (refl, (p.0, p.1, so.name, so.stopped));
      is_task = of_placed strict root N lines traced l.0 l.1;
      stood = λ u j e.
          let is = lines_are_of_stands strict root N lines traced l.0 l.1 u j e in
          (is.decl, is.at, is.began, is.held);
    })
