use Rattle.std.proofs.Common.{◌<◌, length, rules, arith, refl}
use Rattle.std.proofs.lemmas.Grind.{common_steps}
use Rattle.std.proofs.lemmas.List.Sorted.{IsPermutation-refl, IsPermutation-more}
use Rattle.tj_mean.proofs.ask_steps.hand_all.Goals as goal

pub loop-reference-init : goal.loop-reference-init
loop-reference-init c = rw (c.into_vec-left.ensures, c.new-taken.ensures.items) (refl, IsPermutation-refl c.args.holds)

pub returns-in-Task-clause-keeps : goal.returns-in-Task-clause-keeps
returns-in-Task-clause-keeps c = rw (c.of.ensures, c.in_ok-append.ensures.items) c.loop-reference.invariant.1

pub returns-in-None-clause-keeps : goal.returns-in-None-clause-keeps
returns-in-None-clause-keeps c =
    rw (c.of-in-None.ensures, c.in_ok-append-in-None.ensures.items) c.loop-reference.invariant.1

pub loop-reference-preserved : goal.loop-reference-preserved
loop-reference-preserved c =
    let within : c.in-Some.at < length c.loop-reference.left.items = search rules in (
      grind (arith, common_steps),
      rw (c.in_ok-push-in-Some.ensures.items, c.remove.ensures.items)
          (IsPermutation-more c.args.holds c.loop-reference.taken.items c.loop-reference.left.items c.in-Some.at
          c.remove.result within c.remove.ensures.value c.loop-reference.invariant.1),
    )
