use Rattle.tj_words.proofs.Prelude.{[], ap, arith, cell_of, count_at, get_elem?, length, length-append, min, refl}
use Rattle.tj_words.proofs.Prelude.{slots_items, ◌∙◌, ◌∷◌, ◌≡◌}
use Rattle.tj_words.proofs.Meaning.ClosedWords.{read_at, filled_more}
use Rattle.tj_words.proofs.rest.show_cells.Goals as goal

pub loop-c-init : goal.loop-c-init
loop-c-init g c = (omega arith, c.requires.unused, c.requires.room, λ k h. absurd (omega arith))

pub loop-c-preserved : goal.loop-c-preserved
loop-c-preserved g c = let i = c.loop-c.invariant in
    let items = c.push_reserved.ensures.items in
    let all = i.0 in let more = length-append c.loop-c.room.items (c.show_cell.result ∷ []) in (
      ap (λ l. length l) items ∙ omega (arith, all, more),
      omega arith,
      omega arith,
      λ k h. ap (λ l. get_elem? l k) items
          ∙ filled_more (cell_of (slots_items c.args.table.now.words)) c.loop-c.room.items c.loop-c.c
          c.show_cell.result i.0 c.show_cell.ensures i.3 k (omega arith),
    )

pub returns : goal.returns
returns g c = let i = c.loop-c.invariant in let test = c.loop-c-test.false in let few = c.min-drawn.ensures in
    let count = read_at (slots_items c.args.table.now.words) {i = count_at} refl c.word.ensures in
    let done : c.loop-c.c ≡ c.min-drawn.result = omega arith in record {
      all = i.0 ∙ (done ∙ (few ∙ ap (λ n. min n c.args.cells) count));
      each = λ k h. i.3 k (omega arith);
    }
