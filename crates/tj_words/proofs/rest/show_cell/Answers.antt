use Rattle.tj_words.proofs.Prelude.{ap, arith, maker_in, phase_in, phase_word, subst, sym, task_in, ◌/◌, ◌∙◌, ◌≡◌, ◌≤◌}
use Rattle.tj_words.proofs.Meaning.ClosedWords.{read_at, owner_is, maker_is, phase_cell}
use Rattle.tj_words.proofs.rest.show_cell.Goals as goal

pub owner_of_word-requires : goal.owner_of_word-requires
owner_of_word-requires g c = let e = read_at _ c.own_at.ensures.word c.word.ensures in
    let h = (c.requires.words.codes.each c.args.c.0 c.requires.cell).own in let few = c.requires.words.few in
    omega (arith, e, h, few)

pub of_word-requires-clause-code : goal.of_word-requires-clause-code
of_word-requires-clause-code g c = let e = read_at _ c.phase_at.ensures.word c.word-2.ensures in
    subst (λ n. phase_word (phase_in n) ≡ n) (sym e)
    (c.requires.words.codes.each c.args.c.0 c.requires.cell).phase.code

pub of_word-requires-clause-cell : goal.of_word-requires-clause-cell
of_word-requires-clause-cell g c = let e = read_at _ c.phase_at.ensures.word c.word-2.ensures in
    let h : c.word-2.result / 16 ≤ c.args.cells = subst (λ n. n / 16 ≤ c.args.cells) (sym e)
    (phase_cell c.args.cells _ (c.requires.words.codes.each c.args.c.0 c.requires.cell).phase) in
    let few = c.requires.words.few in omega arith

pub link_cell-requires : goal.link_cell-requires
link_cell-requires g c = let e = read_at _ c.once_at-2.ensures.word c.word-4.ensures in
    let h = (c.requires.words.codes.each c.args.c.0 c.requires.cell).parent in let few = c.requires.words.few in
    omega (arith, e, h, few)

pub overflow_cast-result : goal.overflow_cast-result
overflow_cast-result g c = let e = read_at _ c.once_at-3.ensures.word c.word-5.ensures in
    let h = (c.requires.words.codes.each c.args.c.0 c.requires.cell).kid in omega (arith, e, h)

pub returns : goal.returns
returns g c =
    let own = read_at _ c.own_at.ensures.word c.word.ensures in let phase = read_at _ c.phase_at.ensures.word
    c.word-2.ensures in
    let tag = read_at _ c.once_at.ensures.word c.word-3.ensures in
    let parent = read_at _ c.once_at-2.ensures.word c.word-4.ensures in
    let kid = read_at _ c.once_at-3.ensures.word c.word-5.ensures in λ j. record {
      own = (owner_is c.owner_of_word.result c.word.result c.owner_of_word.ensures.owner ∙ ap task_in own) j;
      phase = (c.of_word.ensures.phase ∙ ap phase_in phase) j;
      tag = tag j;
      parent = (maker_is c.word-4.result c.link_cell.result c.link_cell.ensures ∙ ap maker_in parent) j;
      kid = kid j;
    }
