-- The outcome of what a table names is that of what it was made for.
use Rattle.std.proofs.Common.{ℕ, Bool, subst}
use Rattle.tj_body.specs.Programs.{Program}
use Rattle.tj_body.specs.Rounds.{meaning}
use Rattle.tj_mean.specs.declared.outcome.Outcome.{Outcome}
use Rattle.tj_mean.specs.Outcomes.{IsOutcome}
use Rattle.tj_run.specs.Runs.{RestsAt}
use Rattle.tj_words.specs.AtRest.RestShown.{RestShown}

-- an outcome by the names of the table is one by the root, the limit and the rule that were given
pub outcome_named : {B : Type 0} (program : Bool → B → Program B) (root : B) (limit : ℕ) (strict : Bool) (r : RestShown B)
    (o : Outcome) → RestsAt program root limit strict r → IsOutcome (meaning (program r.strict r.root) r.limit) o
    → IsOutcome (meaning (program strict root) limit) o
outcome_named program root limit strict r o h is =
    subst (λ z. IsOutcome (meaning (program strict z) limit) o) h.names_root
    (subst (λ z. IsOutcome (meaning (program strict r.root) z) o) h.names_limit
    (subst (λ z. IsOutcome (meaning (program z r.root) r.limit) o) h.names_strict is))
