use Rattle.tj_words.proofs.Waiters.ChainsSaid.{chains_said}
use Rattle.tj_runs.proofs.laws.wakes.Goals as goal

pub returns : goal.returns
returns g c = λ program cells x law. chains_said law.chains
