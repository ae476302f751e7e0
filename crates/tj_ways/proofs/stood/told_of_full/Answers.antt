use Rattle.std.proofs.Common.{◌≡◌, ◌++◌, ◌∷◌, [], None, refl}
use Rattle.tj_syntax.specs.View as shown
use Rattle.tj_told.specs.EndedNews.{IsEarlyOfScript}
use Rattle.tj_told.specs.declared.listener.Goes.TheVariants as goes
use Rattle.tj_ways.proofs.KeptNews.{kept_full}
use Rattle.tj_ways.proofs.stood.told_of_full.Goals as goal

pub returns-in-Err : goal.returns-in-Err
returns-in-Err g c =
    let r = c.run_script_told-run in
    kept_full (λ before news answer after. answer ≡ goes.On → after.news ≡ before.news ++ news ∷ [])
    (λ s news t h. h refl) (IsEarlyOfScript (shown.script c.args.script.now) c.args.options None) c.new-kept.result
    r.result.1 r.result.0 c.in-Err.fault c.only_of_full.result c.new-kept.ensures c.in-Err.is c.only_of_full.ensures
    r.ensures.early
