use Rattle.tj_words.proofs.Prelude.{subst, sym, ℕ, ◌<◌, ◌^◌, ◌∙◌}
use Rattle.tj_words.proofs.Meaning.ClosedWords.{read_at}
use Rattle.tj_words.specs.Words.Values.{NamesCell, fill_in}
use Rattle.tj_words.proofs.rest.show_value.Goals as goal

pub value_of_words-requires : goal.value_of_words-requires
value_of_words-requires g c names = let t = read_at _ c.once_at.ensures.word c.word-tag.ensures in
    let b = read_at _ c.once_at-2.ensures.word c.word-bits.ensures in
    subst (λ (n : ℕ). n < 2 ^ 32) (sym b) (c.requires.small (subst NamesCell t names))

pub returns : goal.returns
returns g c = let t = read_at _ c.once_at.ensures.word c.word-tag.ensures in
    let b = read_at _ c.once_at-2.ensures.word c.word-bits.ensures in
    c.value_of_words.ensures ∙ (λ j. fill_in (t j) (b j))
