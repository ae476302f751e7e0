-- What is noted to have made a cell of a full run is where the history of its task stood.
use Rattle.std.proofs.Common.{◌≡◌, ℕ, zero, suc, ◌*◌, Bool, List, [], ◌∷◌, ◌++◌, Some, refl, sym, ap, subst, ◌∙◌}
use Rattle.std.specs.Prelude.{slice_get}
use Rattle.tj_base.specs.ForkOrder.{Name}
use Rattle.tj_body.specs.History.{Assignment, history}
use Rattle.tj_body.specs.Points.{IsIn}
use Rattle.tj_body.specs.Programs.{root_task}
use Rattle.tj_body.specs.Rounds.{given, tasks}
use Rattle.tj_body.specs.SeenAs.{RoundsAreSeen, task_as}
use Rattle.tj_body.specs.declared.ask.Answer.{Answer}
use Rattle.tj_body.specs.declared.ask.Answer.TheVariants as answer
use Rattle.tj_body.specs.declared.point.PointStage.{PointStage}
use Rattle.tj_body.specs.declared.point.PointStage.TheVariants as stage
use Rattle.tj_body.specs.declared.point.Task.{Task}
use Rattle.tj_body.proofs.Lists.{to_map}
use Rattle.tj_body.proofs.SeenAs.{rounds_seen}
use Rattle.tj_eval.specs.Stands.{PlacedState}
use Rattle.tj_trace.specs.Logs.{Logged, logged, logged_left, logged_program, maker_here, noted}
use Rattle.tj_trace.specs.MadeAt.{made_until, placed_program}
use Rattle.tj_trace.specs.MadeCells.{AreMadeBy, IsMadeBy}
use Rattle.tj_trace.specs.declared.line.Maker.{Maker}
use Rattle.tj_trace.proofs.MadeThere.{noted_until}
use Rattle.tj_trace.proofs.Noted.{IsLogged, family_fresh, notes_at}
use Rattle.tj_trace.proofs.SetsThere.{place}
use Rattle.tj_forest.proofs.PlacedTasks.{placed_seen}
use Rattle.tj_explain.specs.FullPlaces.{AreMadeThere, IsMadeThere}

-- what a list has it has with more behind it
more : (xs ys : List Maker) (k : ℕ) (m : Maker) → slice_get xs k ≡ Some m → slice_get (xs ++ ys) k ≡ Some m
more [] ys k m e = absurd (cc)
more (x ∷ xs) ys zero m e = e
more (x ∷ xs) ys (suc k) m e = more xs ys k m e

-- an answer leaves what was noted
still_noted : (a : Answer) (x : Logged) (k : ℕ) (m : Maker) → slice_get x.makers k ≡ Some m
    → slice_get (noted a x) k ≡ Some m
still_noted answer.Start x k m e = e
still_noted (answer.Local j) x k m e = more x.makers (maker_here x.due x.placed.stand) k m e
still_noted answer.Done x k m e = e
still_noted (answer.Num i) x k m e = e
still_noted (answer.RefAt j) x k m e = e
still_noted answer.Lost x k m e = e

-- so does the stage at which a history is
at_stage : (s : PointStage) (x : Logged) (k : ℕ) (m : Maker) → slice_get x.makers k ≡ Some m
    → slice_get (notes_at s x) k ≡ Some m
at_stage (stage.Answered a) x k m e = still_noted a x k m e
at_stage (stage.Waits q spare) x k m e = e
at_stage (stage.Closed c) x k m e = e

module _ (strict : Bool) (root : PlacedState) (n : ℕ) where
  -- a round is seen without notes
  seen : (k : ℕ) → RoundsAreSeen place (logged_program strict root) (placed_program strict root) k
  seen k = rounds_seen place (logged_program strict root) (placed_program strict root)
      (record { rules = placed_seen strict root; root = refl }) k

  -- a cell
  there : (q : Name) (m : Maker) → IsMadeBy (logged_program strict root) n q m
      → IsMadeThere (placed_program strict root) n q m
  there q m is =
      let p = logged_program strict root in
      let V : Assignment = given p n in
      let t : Task Logged = is.task in
      let fresh : IsLogged t = family_fresh strict V (suc n) (root_task (logged root)) refl t is.of_round in
      let last : ℕ = 2 * suc (logged_left t.body) in
      let h = history p.rules V t in record {
        task = task_as place t;
        of_round = subst (IsIn (task_as place t)) (sym (seen (suc n)).tasks)
            (to_map (task_as place) t (tasks p (suc n)) is.of_round);
        thing = is.thing;
        named = is.named;
        stood = subst (λ W. slice_get (made_until (placed_program strict root).rules W (task_as place t) last) is.thing
            ≡ Some m) (sym (seen n).given)
            (ap (λ ms. slice_get ms is.thing)
            (sym (noted_until strict V t (ap (λ (x : Logged). x.makers) fresh) last))
            ∙ at_stage h.stage h.body is.thing m is.noted);
      }

  -- each of the cells
  pub all_there : (qs : List Name) (ms : List Maker) → AreMadeBy (logged_program strict root) n qs ms
      → AreMadeThere (placed_program strict root) n qs ms
  all_there [] [] made = tt
  all_there [] (m ∷ ms) made = absurd made
  all_there (q ∷ qs) [] made = absurd made
  all_there (q ∷ qs) (m ∷ ms) made = (there q m made.0, all_there qs ms made.1)
