use Rattle.tj_texts.proofs.GroupsSame.{groups_same}
use Rattle.tj_texts.proofs.laws.groups_say_the_same.Goals as goal

pub returns : goal.returns
returns c = groups_same
