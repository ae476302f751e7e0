-- How a task goes on after an ask that needs nothing of the table.
use Rattle.tj_run.proofs.Prelude.{Bool, Fill, Finish, Goes, Hurt, IsAsked, IsClosing, Laid, List, Pay, PointsAsk}
use Rattle.tj_run.proofs.Prelude.{Program, Rec, RunsTask, SeatMe, Trouble, [], fill_at, hurt_of, more_itself, refl}
use Rattle.tj_run.proofs.Prelude.{subst, sym, table_program, ℤ, ◌++◌, ◌∷◌, ◌≡◌}
use Rattle.tj_run.proofs.Asks.PointSteps.{emitted, ended, failed}
use Rattle.tj_run.proofs.Seats.RunningTasks.{gives_known, runs_too}
use Rattle.tj_body.specs.declared.ask.Answer.TheVariants as answer
use Rattle.tj_body.specs.declared.ask.Ask.TheVariants as ask
use Rattle.tj_record.specs.declared.record.Finish.TheVariants as finish
use Rattle.tj_run.specs.declared.next.Next.TheVariants as next

module _ {B : Type 0} (program : Bool → B → Program B) (laid : Laid B) (r : Rec B) (me : SeatMe B)
    (runs : RunsTask laid r me) where
  -- it is to end like this, by what its seat knows already
  pub goes_to_end : (f : Finish) → IsClosing (table_program program laid) me.0 r f
      → Goes program laid (next.Ends f) r me.0 me
  goes_to_end f h = record { knows = more_itself me.0; runs = runs; goes_on = h }

  module _ (law : PointsAsk (table_program program laid)) where
    -- a print
    pub emit_goes : (i : ℤ) (l : List ℤ) → l ≡ r.prints ++ i ∷ []
        → IsAsked (table_program program laid) me.0 r (ask.Emit i)
        → Goes program laid next.Runs (record r { prints = l; answer = answer.Done }) me.0 me
    emit_goes i l e h = subst (λ (z : List ℤ). Goes program laid next.Runs
        (record r { prints = z; answer = answer.Done }) me.0 me) (sym e) (record {
          knows = more_itself me.0;
          runs = runs_too laid r (record r { prints = r.prints ++ i ∷ []; answer = answer.Done }) me refl refl refl
              runs.has.knows runs;
          goes_on = emitted (table_program program laid) me.0 law r i h;
        })

    -- an end
    pub end_goes : (y : Pay) (f : Fill) → f ≡ fill_at r.held y
        → IsAsked (table_program program laid) me.0 r (ask.End y)
        → Goes program laid (next.Ends (finish.Done f)) r me.0 me
    end_goes y f e h = subst (λ z. Goes program laid (next.Ends (finish.Done z)) r me.0 me) (sym e)
        (goes_to_end (finish.Done (fill_at r.held y)) (ended (table_program program laid) me.0 law r y h
        (gives_known r me.0.known y runs.has.knows h.placed)))

    -- a failure of the body's own
    pub fail_goes : (t : Trouble) (f : Hurt) → f ≡ hurt_of t
        → IsAsked (table_program program laid) me.0 r (ask.Fail t)
        → Goes program laid (next.Ends (finish.Failed f)) r me.0 me
    fail_goes t f e h = subst (λ z. Goes program laid (next.Ends (finish.Failed z)) r me.0 me) (sym e)
        (goes_to_end (finish.Failed (hurt_of t)) (failed (table_program program laid) me.0 law r t h))
