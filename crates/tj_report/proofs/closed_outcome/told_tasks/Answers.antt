use Rattle.tj_report.proofs.Prelude.{IsRecordBelow, Some, Stopped, ap, arith, program_of, sym, told_by, ◌+◌, ◌∙◌, ◌≡◌}
use Rattle.std.proofs.Common.{length, Vec, Global, subst}
use Rattle.tj_report.proofs.ToldTasks.{ToldBelow, told_none, told_at, told_on, told_next, told_all}
use Rattle.tj_report.proofs.closed_outcome.told_tasks.Goals.{in-Some+in_ok-told_by+in_ok-push, in_default}
use Rattle.tj_report.proofs.closed_outcome.told_tasks.Goals as goal

pub loop-c-init : goal.loop-c-init
loop-c-init g c = let b = g.B.Body in
    let program = program_of b.places b.awaits b.left b.asks b.then c.args.rest.now.strict c.args.rest.now.root in
    λ born w rs. subst (ToldBelow program c.args.rest.now.limit c.args.rest.now.records born 0)
    (sym c.new-tasks.ensures.items) (told_none program c.args.rest.now.limit c.args.rest.now.records born)

pub told_by-requires : goal.told_by-requires
told_by-requires g c = let b = g.B.Body in
    let program = program_of b.places b.awaits b.left b.asks b.then c.args.rest.now.strict c.args.rest.now.root in
    let m = c.requires.meaning in
    subst (λ l. IsRecordBelow (length l) c.in-Some.r.now) (sym (c.requires.names m.0 m.1.named))
    (told_at program c.args.rest.now.limit c.args.rest.now.cells c.args.rest.now.records m.0 m.1 m.2 c.loop-c.c
    c.in-Some.r.now (sym c.in-Some.ensures.record)).below

pub loop-c-preserved : goal.loop-c-preserved
loop-c-preserved g c = let b = g.B.Body in
    let program = program_of b.places b.awaits b.left b.asks b.then c.args.rest.now.strict c.args.rest.now.root in
    let limit = c.args.rest.now.limit in
    let cells = c.args.rest.now.cells in
    let records = c.args.rest.now.records in
    elim c.match-rec.branch [
      | in-Some+in_ok-told_by+in_ok-push w ↦ λ born ws rs.
          told_next program limit cells records born ws rs c.loop-c.c c.loop-c.tasks.items c.match-rec.tasks.items
          w.in-Some.r.now w.in_ok-told_by.field-0 (sym w.in-Some.ensures.record)
          (subst (λ l. told_by l w.in-Some.r.now ≡ Some w.in_ok-told_by.field-0) (c.requires.names born ws.named)
          w.in_ok-told_by.ensures)
          (ap (λ (t : Vec Stopped Global). t.items) w.tasks-is ∙ w.in_ok-push.ensures.items)
          (c.loop-c.invariant born ws rs)
      | in_default w ↦ λ born ws rs.
          subst (ToldBelow program limit records born (c.loop-c.c + 1))
          (ap (λ (t : Vec Stopped Global). t.items) (sym w.tasks-is))
          (told_on program limit cells records born ws rs c.loop-c.c c.loop-c.tasks.items
          (sym w.in_default.ensures.record) (c.loop-c.invariant born ws rs))
    ]

pub returns : goal.returns
returns g c = let b = g.B.Body in
    let program = program_of b.places b.awaits b.left b.asks b.then c.args.rest.now.strict c.args.rest.now.root in
    let m = c.requires.meaning in
    let drawn = c.drawn-c-end.ensures in
    let test = c.loop-c-test.false in
    told_all program c.args.rest.now.limit c.args.rest.now.cells c.args.rest.now.records m.0 m.1 m.2 c.loop-c.c
    c.loop-c.tasks.items (omega arith) (c.loop-c.invariant m.0 m.1 m.2)
