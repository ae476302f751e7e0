use Rattle.std.proofs.Common.{◌∷◌, inl, refl, subst, sym}
use Rattle.tj_body.proofs.Lists.{in_right}
use Rattle.tj_body.specs.Points.{IsIn}
use Rattle.tj_future.proofs.beside.take_in.Goals as goal

pub returns-in-Rested-None-clause-took : goal.returns-in-Rested-None-clause-took
returns-in-Rested-None-clause-took g c e = let watched = c.args.watched.log in let worked = c.args.worked.took in
    subst (IsIn watched) (sym c.merge.ensures.took)
    (in_right watched worked (watched ∷ c.args.watched.took) (inl refl))
