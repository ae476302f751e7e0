use Rattle.tj_words.proofs.Prelude.{ap, ◌∙◌}
use Rattle.std.proofs.Common.{take}
use Rattle.tj_words.proofs.KeptWords.{flat, in_front}
use Rattle.tj_words.specs.Words.Offsets.{words_for}
use Rattle.tj_words.proofs.first_rows.kept_words.Goals as goal

pub returns : goal.returns
returns c = ap (λ l. take (words_for c.args.cells) l) (c.as_flattened.ensures.value ∙ flat)
    ∙ in_front c.args.cells c.requires.some c.requires.few
