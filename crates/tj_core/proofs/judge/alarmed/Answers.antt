use Rattle.std.proofs.Common.{ℕ, List, ◌++◌, get_or, ap, ◌∙◌, arith}
use Rattle.tj_base.specs.declared.cell.CellId.{CellId}
use Rattle.tj_core.specs.Checker.Core.{core_state}
use Rattle.tj_core.specs.Journals.Judging.{wait_text}
use Rattle.tj_core.proofs.Journals.AlarmLines.{alarm_head, head_said, waits_more, alarm_whole}
use Rattle.tj_core.proofs.judge.alarmed.Goals as goal

pub loop-other-init : goal.loop-other-init
loop-other-init c =
    head_said (core_state c.args.core.now).cells c.args.t.0 c.args.loads c.args.others.now _ _ _ _ _ _
    c.in_ok-line.ensures.items c.in_ok-add_number.ensures.ok c.in_ok-extend_from_slice.ensures.items
    c.in_ok-add_number-2.ensures.ok c.in_ok-extend_from_slice-2.ensures.items c.in_ok-add_wait.ensures

pub loop-other-preserved : goal.loop-other-preserved
loop-other-preserved c =
    let cells = (core_state c.args.core.now).cells in
    let d : CellId = record { 0 = 0 } in
    let o : CellId = get_or c.args.others.now c.loop-other.other-index d in
    waits_more cells (alarm_head cells c.args.t.0 c.args.loads) c.loop-other.line.items
    c.add_wait-in-loop-other.new.text.items
    c.args.others.now c.loop-other.other-index d (omega arith) c.loop-other.invariant
    (c.in_ok-add_wait-2.ensures ∙ ap (λ (x : List ℕ). x ++ wait_text cells o.0)
    c.in_ok-extend_from_slice-3.ensures.items)

pub returns : goal.returns
returns c =
    alarm_whole (core_state c.args.core.now).cells c.args.t.0 c.args.loads c.loop-other.line.items
    c.extend_from_slice-3.new.self.items c.args.others.now c.loop-other.other-index c.loop-other.invariant (omega arith)
    c.in_ok-extend_from_slice-4.ensures.items
