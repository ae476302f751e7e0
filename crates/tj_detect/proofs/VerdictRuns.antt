-- What the verdicts Walked and Skipped say of a run: the walk of the task is at its end.
use Rattle.tj_detect.proofs.Prelude.{Alarm, Blocks, EndsWith, MayBlock, Skipped, Verdict, View, Walked, Walker, Way, ap}
use Rattle.tj_detect.proofs.Prelude.{does_after, held_in, now_does, refl, subst, sym, tokens_given, ℕ, ◌∙◌, ◌≡◌, ◌≢◌}
use Rattle.std.specs.Prelude.{length}
use Rattle.tj_events.specs.Events.{EndsWalk, MaySettle}
use Rattle.tj_runs.specs.Verdicts.{HasEndedWalk}
use Rattle.tj_runs.proofs.Verdicts.{ended_walks_off_cycles}
use Rattle.tj_detect.specs.VerdictRuns.{VerdictsAreOffCycles}
use Rattle.tj_detect.proofs.Doings.{doing_held}
use Rattle.tj_words.specs.declared.view.Does.TheVariants as does

-- what t does after such a call, and that its walk may settle
walks_on : (verdict : Verdict) (q : ℕ) (way : Way) (w : Walker) → verdict ≢ Alarm
    → does_after verdict q way w ≡ does.Walking q way w
walks_on Alarm q way w n = absurd (n refl)
walks_on verdict q way w n = refl

settles : (verdict : Verdict) (t : ℕ) (way : Way) (w : Walker) → verdict ≢ Alarm → EndsWith verdict t way w
    → MaySettle w
settles Alarm t way w n e = absurd (n refl)
settles Walked t way w n e = e.0
settles Skipped t way w n e = subst (EndsWalk (length w.trail) w.bound) (sym e.1) refl

ended : {B : Type 0} (verdict : Verdict) (t q : ℕ) (way : Way) (old new : ℕ) (v v' : View B) → MayBlock t q way v
    → Blocks verdict t q way old new v v' → verdict ≢ Alarm → HasEndedWalk t v'
ended {B} verdict t q way old new v v' may b n = record {
  task = now_does (does_after verdict q way b.walker) may.custody;
  held = ap (λ (x : View B). held_in x.tasks t) b.view
      ∙ doing_held v t may.custody may.held (does_after verdict q way b.walker) b.steps (tokens_given verdict);
  wait = q;
  way = way;
  walker = b.walker;
  does = walks_on verdict q way b.walker n;
  may = settles verdict t way b.walker n b.ends;
}

pub verdicts_off_cycles : (B : Type 0) → VerdictsAreOffCycles B
verdicts_off_cycles B program key u w later t q p id old new way verdict v v' e a at may b n =
    ended_walks_off_cycles B program key u w later t p id v' e a at (ended verdict t q way old new v v' may b n)
