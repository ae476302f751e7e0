use Rattle.std.proofs.Common.{[], refl, rules, ◌++◌, ◌∷◌, ◌≡◌}
use Rattle.std.proofs.lemmas.Result.{IfOk-equal}
use Rattle.tj_base.specs.Texts.{name_text, parts_text}
use Rattle.tj_report.proofs.ShownNames.{child_text}
use Rattle.tj_report.proofs.shown_names.go_to.Goals.{then-ne+in_ok-text_into, else-ne}
use Rattle.tj_report.proofs.shown_names.go_to.Goals as goal

pub returns : goal.returns
returns c = let maker = c.in-Some.maker.now in let text = c.if-ne.text.items in
    let whole = text ++ parts_text (c.in-Some.number ∷ []) in
    let kept : text ≡ name_text maker = elim c.if-ne.branch [
      | then-ne+in_ok-text_into w ↦ search rules
      | else-ne w ↦ search rules
    ] in
    IfOk-equal c.add_parts.result c.add_parts.new.text.items whole (name_text c.args.to.now) c.add_parts.ensures
    (child_text maker c.args.to.now c.in-Some.number text whole kept refl c.in-Some.ensures.some)
