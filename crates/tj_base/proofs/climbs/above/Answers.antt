use Rattle.std.proofs.Common.{rules}
use Rattle.tj_base.specs.Leaps.{IsLeap}
use Rattle.tj_base.proofs.LeapsAndSteps.{leaps_up}
use Rattle.tj_base.proofs.climbs.above.Goals as goal

pub returns-then-depth-clause-ancestor : goal.returns-then-depth-clause-ancestor
returns-then-depth-clause-ancestor c = let s = c.in-Some-leap.leap.value in
    let l : IsLeap c.args.name.now s.before s.numbers.items = search rules in
    let h = leaps_up c.args.name.now s.before s.numbers.items l in search rules
