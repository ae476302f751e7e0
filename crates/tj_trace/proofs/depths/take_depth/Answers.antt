use Rattle.std.proofs.Common.{◌≡◌, ◌∙◌, ◌-◌, ◌++◌, [], ◌∷◌, inl, append_assoc, ap, refl, sym, subst}
use Rattle.std.specs.Prelude.{IfSome, length}
use Rattle.tj_body.specs.Points.{HasEnded, IsIn}
use Rattle.tj_body.specs.Programs.{rules_of}
use Rattle.tj_body.proofs.Lists.{in_right}
use Rattle.tj_mean.specs.Inner.Assignments.{assignment_in}
use Rattle.tj_trace.specs.Inner.TaskDepths.{IsDepthTaken}
use Rattle.tj_trace.proofs.DepthTaken.{empty_map, fills_room, leaves_room}
use Rattle.tj_trace.proofs.depths.take_depth.Goals as goal
use Rattle.tj_trace.proofs.depths.take_depth.Goals.{then-left-gt0+in_ok-append+else-len-cells, else-left-gt0}

-- the task is one of the depth
pub history-requires-clause-proper : goal.history-requires-clause-proper
history-requires-clause-proper g c κs within =
    let l = c.loop-task in
    let t = c.in-Some.task in
    let is = l.invariant.0 ∙ ap (λ more. l.yielded ++ more) c.in-Some.ensures.steps.0 in
    c.requires.proper t (subst (IsIn t) (sym is) (in_right t l.yielded (t ∷ c.next.new.self.rest.items) (inl refl)))

pub loop-task-preserved : goal.loop-task-preserved
loop-task-preserved g c =
    let b = g.B.Body in
    let rules = rules_of b.places b.awaits b.left b.asks b.then c.args.strict in
    let l = c.loop-task in
    let t = c.in-Some.task in
    let p = c.in_ok-history.field-0 in
    let made = subst (λ o. IfSome o (λ m. HasEnded p × (m.promises ≡ length p.promises)
    × (m.children.items ≡ p.children))) c.in-Some-found.is c.made_by-found.ensures in
    let ts = l.yielded ++ t ∷ [] in
    let left = c.saturating_sub-left.result in
    let left_is = c.saturating_sub-left.ensures
    ∙ ap (λ x. x - c.in-Some-found.made.promises) c.saturating_sub.ensures in
    let is = l.invariant.0 ∙ ap (λ more. l.yielded ++ more) c.in-Some.ensures.steps.0
    ∙ sym (append_assoc l.yielded (t ∷ []) c.next.new.self.rest.items) in
    elim c.if-left-gt0.branch [
      | then-left-gt0+in_ok-append+else-len-cells w ↦ (
        is,
        subst (λ z. IsDepthTaken rules ts c.args.room left z.items) (sym w.children-is)
            (leaves_room rules l.yielded c.args.room l.left l.children.items l.invariant.1 t p
            (assignment_in c.new-none.result) (empty_map c.new-none.result c.new-none.ensures)
            c.in_ok-history.ensures made.0 c.in-Some-found.made.promises made.1 left left_is w.if-left-gt0.true
            c.in-Some-found.made.children.items w.append.new.self.items made.2 w.in_ok-append.ensures.items),
      )
      | else-left-gt0 w ↦ (
        is,
        subst (λ z. IsDepthTaken rules ts c.args.room left z.items) (sym w.children-is)
            (fills_room rules l.yielded c.args.room l.left l.children.items l.invariant.1 t p
            (assignment_in c.new-none.result) (empty_map c.new-none.result c.new-none.ensures)
            c.in_ok-history.ensures made.0 c.in-Some-found.made.promises made.1 left left_is w.if-left-gt0.false),
      )
    ]
