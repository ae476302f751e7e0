use Rattle.tj_runs.proofs.LastingWords.{cells_for_good, closes_for_good, count_never_falls, shuts_for_good}
use Rattle.tj_runs.proofs.LastingWords.{trees_for_good, values_for_good}
use Rattle.tj_runs.proofs.laws.lasting_words.Goals as goal

pub returns-clause-values : goal.returns-clause-values
returns-clause-values g c = values_for_good _

pub returns-clause-shuts : goal.returns-clause-shuts
returns-clause-shuts g c = shuts_for_good _

pub returns-clause-count : goal.returns-clause-count
returns-clause-count g c = count_never_falls _

pub returns-clause-cells : goal.returns-clause-cells
returns-clause-cells g c = cells_for_good _

pub returns-clause-closes : goal.returns-clause-closes
returns-clause-closes g c = closes_for_good _

pub returns-clause-tree_words : goal.returns-clause-tree_words
returns-clause-tree_words g c = trees_for_good _
