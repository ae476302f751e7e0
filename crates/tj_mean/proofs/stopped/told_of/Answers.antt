use Rattle.std.proofs.Common.{inl, refl, List, [], ◌∷◌, map, reverse, Some, sym, ap, subst, ◌∙◌}
use Rattle.std.proofs.Common.{append-nil}
use Rattle.std.proofs.lemmas.List.{nil_from_length}
use Rattle.tj_body.specs.Points.{IsIn}
use Rattle.tj_body.proofs.Lists.{in_left, in_right}
use Rattle.tj_mean.specs.Outcomes.{stopped_of}
use Rattle.tj_mean.specs.declared.stopped.Stopped.{Stopped}
use Rattle.tj_mean.proofs.Outcomes.ToldBodies.{told_with}
use Rattle.tj_mean.proofs.TakenPoints.{one_told, all_told}
use Rattle.tj_mean.proofs.stopped.told_of.Goals as goal

pub loop-point-init : goal.loop-point-init
loop-point-init g c = (
  [],
  sym (append-nil c.args.points.items),
  ap (λ (l : List Stopped). map (λ s. Some s) (reverse l)) (sym c.new-tasks.ensures.items),
)

pub body_of-requires-after_bounds : goal.body_of-requires-after_bounds
body_of-requires-after_bounds g c κs within =
    let i = c.loop-point.invariant in
    let x = c.in-Some.point in
    c.requires.stopped x
    (subst (IsIn x) (sym i.1)
    (in_left x c.loop-point.points.items i.0
    (subst (IsIn x) (sym c.in-Some.ensures.items) (in_right x c.pop.new.self.items (x ∷ []) (inl refl)))))

pub loop-point-preserved : goal.loop-point-preserved
loop-point-preserved g c =
    let i = c.loop-point.invariant in
    let more = one_told stopped_of c.args.points.items c.loop-point.points.items c.pop.new.self.items i.0
    c.loop-point.tasks.items c.push.new.self.items i.1 i.2 c.in-Some.point c.body_of.result.told
    c.in-Some.ensures.items (told_with c.in-Some.point c.body_of.result c.body_of.ensures) c.in_ok-push.ensures.items in
    (c.in-Some.point ∷ i.0, more.0, more.1)

pub returns : goal.returns
returns g c =
    let i = c.loop-point.invariant in
    all_told stopped_of c.args.points.items c.loop-point.points.items c.pop.new.self.items i.0 c.loop-point.tasks.items
    c.reverse.new.self.items i.1 i.2 c.in_default.ensures.items
    (nil_from_length c.pop.new.self.items (sym c.pop.new.self.ok.0 ∙ c.in_default.ensures.cases.1))
    c.reverse.ensures.items
