-- The statement that made most has a position in its script.
use Rattle.tj_trace.proofs.LoggedRules.{rules}
use Rattle.tj_trace.proofs.Prelude.{Bool, IsIn, List, Logged, Maker, Name, PlacedState, PointStage, Some, Statement}
use Rattle.tj_trace.proofs.Prelude.{Task, [], ap, given, history, inl, inr, logged_program, maker_here, slice_get}
use Rattle.tj_trace.proofs.Prelude.{subst, suc, sym, tasks, ℕ, ◌∙◌, ◌∷◌, ◌≡◌}
use Rattle.tj_body.specs.Programs.{Program}
use Rattle.tj_body.specs.declared.ask.Answer.TheVariants as answer
use Rattle.tj_body.specs.declared.point.PointStage.TheVariants as stage
use Rattle.tj_body.proofs.Lists.{in_left}
use Rattle.tj_eval.specs.Stands.{StandsRight}
use Rattle.tj_mean.proofs.Lists.Elements.{in_get}
use Rattle.tj_trace.specs.MadeCells.{AreMadeBy, IsMadeBy}
use Rattle.tj_trace.specs.MostLaws.{MostHasAPlace}
use Rattle.tj_trace.specs.RightLines.{IsStatementAt}
use Rattle.tj_trace.proofs.LinesRight.{task_new}
use Rattle.tj_trace.proofs.Noted.{notes_at}
use Rattle.tj_trace.proofs.RightPoints.{right_history}
use Rattle.tj_trace.proofs.SpotsThere.{spots_are_there}

-- what a body has noted stands among its notes at each stage
still_noted : (z : PointStage) (x : Logged) (m : Maker) → IsIn m x.makers → IsIn m (notes_at z x)
still_noted (stage.Answered (answer.Local k)) x m i = in_left m x.makers (maker_here x.due x.placed.stand) i
still_noted (stage.Answered a) x m i = i
still_noted (stage.Waits q spare) x m i = i
still_noted (stage.Closed c) x m i = i

-- what made some cells made one of them
made_one : (program : Program Logged) (n : ℕ) (qs : List Name) (ms : List Maker) → AreMadeBy program n qs ms
    → (m : Maker) → IsIn m ms → (q : Name) × IsMadeBy program n q m
made_one program n [] [] a m i = absurd i
made_one program n [] (k ∷ ms) a m i = absurd a
made_one program n (q ∷ qs) [] a m i = absurd i
made_one program n (q ∷ qs) (k ∷ ms) a m (inl e) = (q, subst (IsMadeBy program n q) (sym e) a.0)
made_one program n (q ∷ qs) (k ∷ ms) a m (inr i) = made_one program n qs ms a.1 m i

module _ (strict : Bool) (root : PlacedState) (right : StandsRight root) (n : ℕ) where
  -- what a task of the round notes is a statement of the script
  noted_there : (t : Task Logged) → IsIn t (tasks (logged_program strict root) (suc n)) → (m : Maker)
      → IsIn m (history (rules strict) (given (logged_program strict root) n) t).body.makers
      → (s : Statement) × IsStatementAt root.task.script m.decl m.at s
  noted_there t i m j =
      let new = task_new strict root 0 right (suc n) t i in
      let V = given (logged_program strict root) n in
      let p = history (rules strict) V t in
      let note = (right_history root.task.script strict V t new).notes.right m (still_noted p.stage p.body m j) in (
        note.1.0,
        record {
          task = new.right.task;
          is_declared = ap (slice_get root.task.script) note.0
              ∙ ap (λ s. slice_get s t.body.placed.stand.decl) (sym new.same) ∙ new.right.is_declared;
          is_there = note.1.1;
        },
      )

-- the law
pub most_has_a_place : (strict : Bool) (root : PlacedState) → MostHasAPlace strict root
most_has_a_place strict root N most right made tokens notes derived =
    let one = made_one (logged_program strict root) made.round made.others made.makers made.are_made most.maker
    made.is_most.among in
    let by = one.1 in
    let there = noted_there strict root right made.round by.task by.of_round most.maker
    (in_get (history (rules strict) (given (logged_program strict root) made.round) by.task).body.makers by.thing
    most.maker by.noted) in
    let h = (spots_are_there tokens notes root.task.script derived most.maker.decl most.maker.at).0 there.0 there.1 in
    (_, h.spot)
