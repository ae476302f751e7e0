use Rattle.tj_report.proofs.Prelude.{program_of}
use Rattle.tj_report.proofs.NamedValues.{is_of_name, none_of_name}
use Rattle.tj_report.proofs.named_values.value_named.Goals as goal

pub became_at-requires-clause-there : goal.became_at-requires-clause-there
became_at-requires-clause-there g c κs within = c.in-Some.ensures.0

pub became_at-requires-clause-named : goal.became_at-requires-clause-named
became_at-requires-clause-named g c κs within = let m = c.requires.meaning in (m.0, m.1.named)

pub returns-in_default : goal.returns-in_default
returns-in_default g c = let b = g.B.Body in let rest = c.args.rest.now in let m = c.requires.meaning in
    none_of_name (program_of b.places b.awaits b.left b.asks b.then rest.strict rest.root) rest.limit rest.cells
    rest.words m.0 m.1 c.requires.values c.args.name.now c.in_default.ensures

pub returns : goal.returns
returns g c = let b = g.B.Body in let rest = c.args.rest.now in let m = c.requires.meaning in
    is_of_name (program_of b.places b.awaits b.left b.asks b.then rest.strict rest.root) rest.limit rest.cells
    rest.words m.0 m.1 c.requires.values c.args.name.now c.in-Some.c.0 c.in_ok-became_at.field-0 c.in-Some.ensures.0
    c.in-Some.ensures.1 c.in_ok-became_at.ensures
