use Rattle.std.proofs.Common.{◌≡◌, ℕ, List, [], ◌∷◌, map, drop, ◌∙◌, subst, rules}
use Rattle.std.proofs.lemmas.Option.{MatchOption-at_none, MatchOption-at_some}
use Rattle.std.proofs.lemmas.Result.{IfOk-weaker}
use Rattle.tj_base.specs.declared.cell.CellId.{CellId}
use Rattle.tj_events.specs.CoreState.{Cells}
use Rattle.tj_events.specs.WaitGraph.{IsCycle, IsOnCycle, IsCycleFrom}
use Rattle.tj_core.specs.Journals.Judging.{alarm_line}
use Rattle.tj_core.specs.Checker.Core.{core_state, core_limit}
use Rattle.tj_events.proofs.Events.WalkEnds.{alarm_on_cycle}
use Rattle.tj_core.proofs.judge.said_of_alarm.Goals as goal

-- the other tasks of a cycle from t on
cycle_from : (cells : Cells) (t : ℕ) (tasks : List CellId)
    → IsCycleFrom cells t (map (λ k. k.0) tasks) → IsCycle cells (t ∷ map (λ k. k.0) (drop 1 tasks))
cycle_from cells t [] from = absurd from
cycle_from cells t (x ∷ xs) from = subst (λ (u : ℕ). IsCycle cells (u ∷ map (λ k. k.0) xs)) from.0 from.1

pub returns-in_default-2 : goal.returns-in_default-2
returns-in_default-2 c = λ facts allowed.
    let s = core_state c.args.core.now in
    let none = MatchOption-at_none (¬ IsOnCycle s.cells c.args.t.0)
    (λ tasks. IsCycleFrom s.cells c.args.t.0 (map (λ k. k.0) tasks.items)) c.in_default-2.is c.in_ok-tasks.ensures in
    absurd (none (alarm_on_cycle s facts c.args.t (core_limit c.args.core.now) allowed))

pub returns : goal.returns
returns c =
    let s = core_state c.args.core.now in let t = c.args.t.0 in let tasks = c.in-Some-2.tasks in
    let from = MatchOption-at_some (¬ IsOnCycle s.cells t) (λ tasks. IsCycleFrom s.cells t (map (λ k. k.0) tasks.items))
    tasks
    c.in-Some-2.is c.in_ok-tasks.ensures in
    let w = c.in-Some.ensures in
    let behind : c.behind_first-others.result.now ≡ drop 1 tasks.items = search rules in
    let loads : c.in-Some.loads ≡ w.2.loads = search rules in
    IfOk-weaker c.alarmed.result _ _ (λ line e facts allowed. (
      w.0,
      w.1,
      w.2,
      w.3,
      (
        map (λ k. k.0) (drop 1 tasks.items),
        cycle_from s.cells t tasks.items from,
        e ∙ (λ i. alarm_line s.cells t (loads i) (map (λ k. k.0) (behind i))),
      ),
    )) c.alarmed.ensures
