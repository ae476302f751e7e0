use Rattle.tj_cells.proofs.FillSteps.{bits_next, filled_next, tag_next}
use Rattle.tj_cells.proofs.closing.fill.Goals as goal

pub put_once-requires-clause-may : goal.put_once-requires-clause-may
put_once-requires-clause-may g c κs within =
    bits_next c.requires.owner c.requires.value c.put_owner.ensures.view c.value_words-tag.result.1
    c.value_words-tag.ensures.tag c.value_words-tag.ensures.bits

pub put_once-requires-2-clause-may : goal.put_once-requires-2-clause-may
put_once-requires-2-clause-may g c κs within =
    tag_next c.requires.owner c.requires.value c.put_owner.ensures.view c.value_words-tag.result.1
    c.value_words-tag.ensures.tag c.value_words-tag.ensures.bits c.put_once.ensures.view

pub returns-clause-view : goal.returns-clause-view
returns-clause-view g c =
    filled_next c.requires.owner c.requires.value c.put_owner.ensures.view c.value_words-tag.result.1
    c.value_words-tag.ensures.tag c.value_words-tag.ensures.bits c.put_once.ensures.view c.put_once-2.ensures.view
