-- The names that most proofs of this crate cite, passed on from one place. Declares nothing.
pub use Rattle.std.proofs.Common.{Bool, Err, List, None, Ok, Option, Result, Some, [], ap, arith, cond, false, inl, inr}
pub use Rattle.std.proofs.Common.{length, map, not, refl, subst, suc, sym, true, zero, ℕ, ⊎_elim, ◌&&◌, ◌*◌, ◌++◌, ◌+◌}
pub use Rattle.std.proofs.Common.{◌∙◌, ◌∷◌, ◌≡◌, ◌⊎◌}
pub use Rattle.std.proofs.lemmas.List.{length-append}
pub use Rattle.std.specs.Option.{option_map}
pub use Rattle.std.specs.Prelude.{slice_get}
pub use Rattle.tj_base.specs.ForkOrder.{Name, before, child}
pub use Rattle.tj_base.specs.declared.cause.Cause.{Cause}
pub use Rattle.tj_base.specs.declared.cell.Sort.{Sort}
pub use Rattle.tj_body.proofs.Lists.{to_map}
pub use Rattle.tj_body.specs.History.{Assignment, after_ask, after_failure, after_get, after_join, after_look}
pub use Rattle.tj_body.specs.History.{after_new, after_read, after_set, after_stage, after_try_fork, after_write}
pub use Rattle.tj_body.specs.History.{hand_all, history, point_after, reference, with_wait}
pub use Rattle.tj_body.specs.Names.{has}
pub use Rattle.tj_body.specs.Points.{IsIn}
pub use Rattle.tj_body.specs.Programs.{Rules, root_task, rules_of}
pub use Rattle.tj_body.specs.Rounds.{given, last_round, meaning, tasks}
pub use Rattle.tj_body.specs.SeenAs.{ask_as}
pub use Rattle.tj_body.specs.declared.ask.Ask.{Ask}
pub use Rattle.tj_body.specs.declared.point.Entry.{Entry}
pub use Rattle.tj_body.specs.declared.point.Point.{Point}
pub use Rattle.tj_body.specs.declared.point.PointStage.{PointStage}
pub use Rattle.tj_body.specs.declared.point.Reference.{Reference}
pub use Rattle.tj_body.specs.declared.point.Task.{Task}
pub use Rattle.tj_body.specs.declared.point.Value.{Value}
pub use Rattle.tj_eval.specs.Stands.{PlacedState, placed_then}
pub use Rattle.tj_mean.proofs.Lists.NameOrder.{in_permuted, in_unpermuted}
pub use Rattle.tj_mean.specs.Outcomes.{Ascend, ending_of}
pub use Rattle.tj_mean.specs.declared.outcome.Ending.{Ending}
pub use Rattle.tj_syntax.specs.Trees.{Statement}
pub use Rattle.tj_syntax.specs.Within.{within}
pub use Rattle.tj_trace.specs.Logs.{Logged, logged, logged_asks, logged_awaits, logged_left, logged_places}
pub use Rattle.tj_trace.specs.Logs.{logged_program, logged_then, made_by, maker_here}
pub use Rattle.tj_trace.specs.Traces.{AreTraced, line_in, line_of, line_with, names_of}
pub use Rattle.tj_trace.specs.declared.line.Maker.{Maker}
pub use Rattle.tj_trace.specs.declared.line.TraceLine.{TraceLine}
