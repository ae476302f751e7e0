use Rattle.tj_texts.proofs.LinesAgreed.{lines_agree}
use Rattle.tj_texts.proofs.PartsAgreed.{parts_agree}
use Rattle.tj_texts.proofs.part_laws.lines_tell_what_agrees.Goals as goal

pub returns : goal.returns
returns c = λ scene. (parts_agree scene, lines_agree scene)
