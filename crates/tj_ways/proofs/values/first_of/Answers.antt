use Rattle.tj_ways.proofs.values.first_of.Goals as goal

pub value_named-requires-clause-meaning : goal.value_named-requires-clause-meaning
value_named-requires-clause-meaning g c κs within = c.in_ok-rest.ensures.meaning

pub value_named-requires-clause-values : goal.value_named-requires-clause-values
value_named-requires-clause-values g c κs within = c.in_ok-rest.ensures.values
