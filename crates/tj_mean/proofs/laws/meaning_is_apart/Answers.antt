use Rattle.std.proofs.lemmas.List.Sorted.{IsPermutation-sym}
use Rattle.tj_body.specs.Programs.{program_of}
use Rattle.tj_body.specs.Rounds.{meaning}
use Rattle.tj_mean.proofs.Outcomes.ToldOutcomes.{apart_in_order, meaning_apart, told_in_order}
use Rattle.tj_mean.proofs.laws.meaning_is_apart.Goals as goal

pub returns : goal.returns
returns g c =
    let b = g.B.Body in
    λ strict root fresh N ps ss perm told.
    let program = program_of b.places b.awaits b.left b.asks b.then strict root in
    let r = told_in_order ps (meaning program N) (IsPermutation-sym (meaning program N) ps perm) ss told in
    apart_in_order r.0 ss (IsPermutation-sym ss r.0 r.2) (meaning_apart program N r.0 r.1)
