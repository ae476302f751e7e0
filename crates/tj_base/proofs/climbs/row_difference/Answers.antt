use Rattle.std.proofs.Common.{rules, ◌≡◌, nat_eq, true}
use Rattle.std.specs.Cmp.Lexicographic.{pointwise}
use Rattle.tj_base.proofs.Differences.{same_nowhere}
use Rattle.tj_base.proofs.climbs.row_difference.Goals as goal

pub returns-then-eq : goal.returns-then-eq
returns-then-eq c = let e : pointwise nat_eq c.args.a.now c.args.b.now ≡ true = search rules in
    let h = same_nowhere c.args.a.now c.args.b.now e in search rules
