use Rattle.tj_texts.proofs.GroupsTold.{all_tell_each, none_tell_nothing, tell_each}
use Rattle.tj_texts.proofs.NamesTold.{have_names}
use Rattle.tj_texts.proofs.TextsOfLines.{have_lines}
use Rattle.tj_texts.proofs.laws.texts_tell_each_finding.Goals as goal

pub returns : goal.returns
returns c = ((λ s. (tell_each s, have_lines s, have_names s)), all_tell_each, none_tell_nothing)
