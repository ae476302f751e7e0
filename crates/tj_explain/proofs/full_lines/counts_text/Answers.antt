use Rattle.std.proofs.Common.{◌+◌, ◌∷◌, [], decimal}
use Rattle.tj_explain.proofs.Counts.{both_counted}
use Rattle.tj_explain.proofs.full_lines.counts_text.Goals as goal

pub returns : goal.returns
returns c =
    both_counted c.new-text.result.items c.add_count.new.text.items c.add_count-2.new.text.items (32 ∷ 32 ∷ [])
    (decimal c.args.count) (32 ∷ 111 ∷ 102 ∷ 32 ∷ 116 ∷ 104 ∷ 101 ∷ 32 ∷ 102 ∷ 105 ∷ 114 ∷ 115 ∷ 116 ∷ 32 ∷ [])
    (decimal (c.args.cells + 1)) c.new-text.ensures.items c.in_ok-add_count.ensures c.in_ok-add_count-2.ensures
