use Rattle.std.proofs.Common.{◌≡◌, ◌++◌, ◌∷◌, [], refl}
use Rattle.tj_told.specs.declared.listener.Goes.TheVariants as goes
use Rattle.tj_ways.proofs.KeptNews.{kept_all}
use Rattle.tj_ways.proofs.kept.kept_of.Goals as goal

pub returns-in-Ok : goal.returns-in-Ok
returns-in-Ok g c = let r = c.run_script_told-outcome in
    kept_all (λ before news answer after. answer ≡ goes.On → after.news ≡ before.news ++ news ∷ [])
    (λ s news t h. h refl) c.new.result r.result.1 r.result.0 c.in-Ok.outcome c.new.ensures c.in-Ok.is r.ensures.told
