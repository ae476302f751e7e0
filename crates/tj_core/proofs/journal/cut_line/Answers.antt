use Rattle.std.proofs.Common.{rules, ◌≡◌, ℕ, ◌+◌, ◌<◌, suc, List, ◌∷◌, length, take, drop, sym, ap, ◌∙◌, subst, arith, add-one}
use Rattle.tj_core.specs.Journals.Lines.{lines_of}
use Rattle.tj_core.proofs.Journals.Lines.{on_line, lines_cut, lines_whole}
use Rattle.tj_core.proofs.Journals.Reads.{rest_whole}
use Rattle.std.specs.List.{prefix_len}
use Rattle.tj_core.proofs.journal.cut_line.Goals as goal

pub returns-then-len-text-clause-lines : goal.returns-then-len-text-clause-lines
returns-then-len-text-clause-lines c =
    let text = c.args.text.now in let n = c.line_len-len.result in let len = c.line_len-len.ensures.len in
    let inside : prefix_len on_line text < length text = search (rules, sym len) in
    let cut = lines_cut text inside in
    let here : lines_of text ≡ take n text ∷ lines_of (drop (suc n) text) =
    subst (λ (k : ℕ). lines_of text ≡ take k text ∷ lines_of (drop (suc k) text)) (sym len) cut in
    here ∙ ap (λ (ls : List ℕ). take n text ∷ lines_of ls)
    (sym (rest_whole (n + 1) text ∙ ap (λ (k : ℕ). drop k text) (add-one n)))

pub returns-else-len-text-clause-lines : goal.returns-else-len-text-clause-lines
returns-else-len-text-clause-lines c =
    let len = c.line_len-len.ensures.len in let all = c.if-len-text.false in
    lines_whole c.args.text.now c.requires (omega arith)
