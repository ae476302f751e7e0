use Rattle.tj_words.proofs.Prelude.{length, subst, sym, ◌<◌}
use Rattle.tj_words.specs.AtRest.RestShown.{RestShown}
use Rattle.tj_words.proofs.Meaning.ClosedValues.{names_small}
use Rattle.tj_words.proofs.rest.RestWords.value.Goals as goal

pub show_value-requires-clause-small : goal.show_value-requires-clause-small
show_value-requires-clause-small g c κs within = names_small c.self.invariant.2 c.args.c.0
    (subst (λ (z : RestShown g.row.B.Denot). c.args.c.0 < length z.cells) (sym c.self.view_is) c.requires)
    c.self.invariant.1
