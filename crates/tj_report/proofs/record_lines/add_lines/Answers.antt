use Rattle.tj_report.proofs.Prelude.{List, ap, in_order, line_feed, map, name_in, sym, ◌++◌}
use Rattle.tj_report.proofs.Prelude.{◌∙◌, ◌≡◌, ℕ}
use Rattle.std.specs.List.{flat_map}
use Rattle.tj_base.specs.declared.cell.CellId.{CellId}
use Rattle.tj_report.specs.Inner.CellNamesBy.{names_by}
use Rattle.tj_mean.specs.ReportTexts.{ending_text, lines_of, owes_line, print_line}
use Rattle.tj_report.proofs.AwaitedCells.{told_line}
use Rattle.tj_report.proofs.Parts.{adds}
use Rattle.tj_report.proofs.record_lines.add_lines.Goals as goal

-- the prints, the name with the end and its line feed, and what is owed, one after the other
whole : (t p n e f o u v w x y : List ℕ) → u ≡ t ++ p → v ≡ u ++ n → w ≡ v ++ e → x ≡ w ++ f → y ≡ x ++ o
    → y ≡ t ++ ((p ++ ((n ++ e) ++ f)) ++ o)
whole t p n e f o u v w x y a b c d h =
    adds t (p ++ ((n ++ e) ++ f)) o x y
    (adds t p ((n ++ e) ++ f) u x a (adds u (n ++ e) f w x (adds u n e v w b c) d)) h

pub returns : goal.returns
returns g c = λ s h.
    let r = c.args.r.now in let ns = names_by c.args.rest.now.cells in let name = c.args.name.now in
    let l = told_line ns r s h in
    whole c.args.text.now.items (flat_map (print_line name) r.prints) name (ending_text l.0) line_feed
    (owes_line name (in_order (map (name_in ns) r.owed))) c.add_prints.new.text.items
    c.extend_from_slice.new.self.items c.add_end.new.text.items c.push.new.self.items c.add_owed_line.new.text.items
    (c.in_ok-add_prints.ensures
    ∙ ap (λ ps. c.args.text.now.items ++ flat_map (print_line name) ps) c.prints.ensures)
    c.in_ok-extend_from_slice.ensures.items (c.in_ok-add_end.ensures l.0 l.1) c.in_ok-push.ensures.items
    (c.in_ok-add_owed_line.ensures
    ∙ ap (λ (cs : List CellId). c.push.new.self.items ++ owes_line name (in_order (map (name_in ns) cs)))
    c.owed.ensures)
    ∙ ap (λ z. c.args.text.now.items ++ lines_of name z) (sym l.2)
