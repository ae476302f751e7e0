use Rattle.tj_modes.proofs.Prelude.{crosses, expr_sync, false, kinds_of, refl, script_sync, sendable, stmt_sync}
use Rattle.tj_modes.proofs.Prelude.{subst, sym}
use Rattle.tj_modes.specs.KnownRuns.{KnownJoinsOfMeaningAreAlong}
use Rattle.tj_modes.proofs.StrictRuns.{fresh-root}
use Rattle.tj_modes.proofs.laws.known_joins_are_along.Goals as goal

pub returns : goal.returns
returns c = λ cells steps input within start is.
    let root = is.2.0 in
    let fresh = fresh-root (kinds_of is.1.tokens) is.0 steps root is.1.is_script is.2.1 within.1.1 in
    subst KnownJoinsOfMeaningAreAlong (sym is.2.2) (λ fits joins are.
    c.known_is_along.ensures are.lines joins
    (c.acts_can_be_worked_off.ensures false root fresh refl cells fits are.lines are.acts) are.told)

-- a body of a script may cross threads
pub acts_can_be_worked_off-requires-send-B : goal.acts_can_be_worked_off-requires-send-B
acts_can_be_worked_off-requires-send-B c κs = search (sendable, crosses, expr_sync, stmt_sync, script_sync) depth 40
