use Rattle.std.proofs.Common.{◌≡◌}
use Rattle.tj_core.specs.Checker.Core.{core_state, core_limit, core_applied}
use Rattle.tj_core.proofs.Journals.JudgedRuns.{IsJudgedTo}
use Rattle.tj_core.proofs.judge.judge_text.Given as goal

abbrev pub invariant-loop-event : goal.invariant-loop-event
invariant-loop-event l = record {
  limit : core_limit l.core ≡ l.cells;
  applied : core_applied l.core ≡ l.event-index;
  judged : IsJudgedTo l.cells l.events (core_state l.core) l.event-index l.text.items l.marked;
}
