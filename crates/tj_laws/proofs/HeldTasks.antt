-- A task stays with its seat as long as any seat holds it, and its record at home as long as none does.
use Rattle.std.proofs.Common.{[], ◌∷◌, ⊎_elim}
use Rattle.tj_words.specs.CallLaws.CallRuns.{CallRunsAreRuns}
use Rattle.tj_runs.specs.LastingWords.{CountNeverFalls}
use Rattle.tj_runs.proofs.TaskHolders.{holders_last, one_holder}
use Rattle.tj_runs.specs.Moments.{contents_at}
use Rattle.tj_runs.specs.TaskHolders.{IsFree}
use Rattle.tj_laws.specs.Holders.{HeldThroughout, LaidThroughout, OneSeatHolds}

pub one_seat_holds : (B : Type 0) → OneSeatHolds B
one_seat_holds B program key u = one_holder u.rule.law

pub held_throughout : (B : Type 0) → CallRunsAreRuns B → CountNeverFalls B → HeldThroughout B
held_throughout B runs counts program key t j u [] a h held = h
held_throughout B runs counts program key t j u (w ∷ ws) a h held = ⊎_elim
    (λ z. held_throughout B runs counts program key t j w ws a.1 z held.1)
    (λ z. absurd (held.0 z.0)) ((holders_last B runs counts program key u w a.0).0 t j h)

pub laid_throughout : (B : Type 0) → CallRunsAreRuns B → CountNeverFalls B → LaidThroughout B
laid_throughout B runs counts program key t r u [] a free home none_holds = home
laid_throughout B runs counts program key t r u (w ∷ ws) a free home none_holds = ⊎_elim
    (λ z. laid_throughout B runs counts program key t r w ws a.1 z.0 z.1 none_holds.1)
    (λ z. let nobody : IsFree (contents_at program key w) t = none_holds.0 in absurd (nobody z.0 z.1))
    ((holders_last B runs counts program key u w a.0).1 t r free home)
