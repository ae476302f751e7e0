use Rattle.std.proofs.Common.{refl, ◌∙◌, arith}
use Rattle.tj_body.specs.Programs.{rules_of}
use Rattle.tj_mean.specs.Inner.Assignments.{assignment_in}
use Rattle.tj_mean.proofs.TakenTasks.{children_begin, children_kept, children_left_out}
use Rattle.tj_mean.proofs.waves.take_up.Goals as goal

pub returns-then-depth-round : goal.returns-then-depth-round
returns-then-depth-round g c =
    let b = g.B.Body in
    let rules = rules_of b.places b.awaits b.left b.asks b.then c.args.strict in
    let l = c.depth.ensures in
    let f = c.if-depth-round.true in
    children_begin
    rules (assignment_in c.args.given.now) c.args.cells c.args.round c.args.at c.args.points.now.items
    c.requires.there c.index_mut.result.now c.index_mut.ensures.value c.go_to_stop.new.p
    c.in_ok-go_to_stop.ensures.reached c.in_ok-go_to_stop.ensures.stopped c.index_mut-2.result.now
    c.index_mut-2.ensures.value c.hand_on-handed.new.p c.hand_on-handed.ensures.emptied
    c.hand_on-handed.result.children.items c.hand_on-handed.ensures.children c.hand_on-handed.result.writes.items
    c.hand_on-handed.ensures.writes c.args.writes.now.items c.append.new.self.items c.in_ok-append.ensures.items
    c.index.result.now c.index.ensures c.args.later.now.items c.start_all.new.points.items (omega arith)
    c.in_ok-start_all.ensures

pub returns-then-len-cells : goal.returns-then-len-cells
returns-then-len-cells g c =
    let b = g.B.Body in
    let rules = rules_of b.places b.awaits b.left b.asks b.then c.args.strict in
    let l = c.depth.ensures in
    let f = c.if-depth-round.false in
    let m = c.if-len-cells.true in
    let e = c.len.ensures ∙ c.args.later.now.ok.0 in
    children_left_out
    rules (assignment_in c.args.given.now) c.args.cells c.args.round c.args.at c.args.points.now.items
    c.requires.there c.index_mut.result.now c.index_mut.ensures.value c.go_to_stop.new.p
    c.in_ok-go_to_stop.ensures.reached c.in_ok-go_to_stop.ensures.stopped c.index_mut-2.result.now
    c.index_mut-2.ensures.value c.hand_on-handed.new.p c.hand_on-handed.ensures.emptied
    c.hand_on-handed.result.children.items c.hand_on-handed.ensures.children c.hand_on-handed.result.writes.items
    c.hand_on-handed.ensures.writes c.args.writes.now.items c.append.new.self.items c.in_ok-append.ensures.items
    c.index.result.now c.index.ensures c.args.later.now.items _ (omega arith) refl (omega arith)

pub returns : goal.returns
returns g c =
    let b = g.B.Body in
    let rules = rules_of b.places b.awaits b.left b.asks b.then c.args.strict in
    let l = c.depth.ensures in
    let f = c.if-depth-round.false in
    children_kept
    rules (assignment_in c.args.given.now) c.args.cells c.args.round c.args.at c.args.points.now.items
    c.requires.there c.index_mut.result.now c.index_mut.ensures.value c.go_to_stop.new.p
    c.in_ok-go_to_stop.ensures.reached c.in_ok-go_to_stop.ensures.stopped c.index_mut-2.result.now
    c.index_mut-2.ensures.value c.hand_on-handed.new.p c.hand_on-handed.ensures.emptied
    c.hand_on-handed.result.children.items c.hand_on-handed.ensures.children c.hand_on-handed.result.writes.items
    c.hand_on-handed.ensures.writes c.args.writes.now.items c.append.new.self.items c.in_ok-append.ensures.items
    c.index.result.now c.index.ensures c.args.later.now.items c.append-2.new.self.items _ (omega arith) refl
    c.in_ok-append-2.ensures.items
