-- What a line tells of what its task set and held is told of the end of the task's history.
use Rattle.tj_trace.proofs.LoggedRules.{rules}
use Rattle.tj_trace.proofs.Prelude.{Bool, Ending, Logged, PlacedState, Point, PointStage, Some, Task, TraceLine, ap}
use Rattle.tj_trace.proofs.Prelude.{ending_of, history, map, refl, subst, sym, ℕ, ◌∙◌, ◌≡◌}
use Rattle.tj_body.specs.SeenAs.{point_as}
use Rattle.tj_trace.specs.MadeAt.{values_of}
use Rattle.tj_trace.specs.Traces.{held_at, set_of}
use Rattle.tj_trace.proofs.HasLines.{HasLine, V, line_is, not_none}
use Rattle.tj_trace.proofs.SetsThere.{place, sets_at, sets_of_point}
use Rattle.tj_body.specs.declared.point.PointStage.TheVariants as stage

-- what a task that has stopped has set
pub sets_of_ended : (z : PointStage) (e : Ending) (x : Logged) → ending_of z ≡ Some e → x.sets ≡ sets_at z x
sets_of_ended (stage.Answered a) e x h = absurd (not_none e h)
sets_of_ended z e x h = refl

module _ (strict : Bool) (root : PlacedState) (N : ℕ) (t : Task Logged) (l : TraceLine)
    (h : HasLine strict root N t l) where
  -- where the history of the task comes to
  abbrev end : Point Logged
  end = history (rules strict) (V strict root N) t

  pub line_sets : l.sets ≡ map (set_of end.name end.references) (sets_of_point end)
  line_sets = let k = line_is end l h.is in
      ap (λ (z : TraceLine). z.sets) (sym k.2)
      ∙ ap (map (set_of end.name end.references)) (sets_of_ended end.stage k.0 end.body k.1)

  pub line_began : l.began ≡ values_of (point_as place end) end.body.began
  line_began = let k = line_is end l h.is in ap (λ (z : TraceLine). z.began) (sym k.2)

  pub line_held : l.held ≡ held_at l.line.ending (values_of (point_as place end) end.body.placed.task.vars)
  line_held = let k = line_is end l h.is in
      subst (λ (z : TraceLine). z.held ≡ held_at z.line.ending
      (values_of (point_as place end) end.body.placed.task.vars)) k.2 refl
