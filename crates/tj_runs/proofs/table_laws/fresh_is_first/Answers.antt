use Rattle.std.proofs.Common.{ap, map, ◌∙◌}
use mathlib.Core.Option.{some}
use Rattle.tj_log.proofs.Unmoved.{fresh_first}
use Rattle.tj_words.specs.CallLaws.StepLogs.{table_terms}
use Rattle.tj_runs.proofs.table_laws.fresh_is_first.Goals as goal

pub returns : goal.returns
returns g c = λ program key s seat kept at fresh.
    let o = fresh_first (table_terms program key) s seat kept at fresh in
    (o.3 ∙ o.2.0, o.4 ∙ ap (λ xs. map some xs) o.2.1)
