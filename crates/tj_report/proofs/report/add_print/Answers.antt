use Rattle.tj_report.proofs.Prelude.{codes, line_feed, subst, ◌++◌, ◌≡◌}
use Rattle.std.proofs.Common.{w64}
use Rattle.std.proofs.lemmas.Int.{to_z-of_z}
use Rattle.std.specs.Fmt.{signed_decimal}
use Rattle.tj_report.proofs.Parts.{adds}
use Rattle.tj_report.proofs.report.add_print.Goals as goal

pub returns : goal.returns
returns c =
    let t = c.args.text.now.items in
    let x = c.args.name.now in
    let number = signed_decimal c.args.number in
    let added : c.add_signed.new.text.items ≡ c.extend_from_slice-2.new.self.items ++ number =
    subst (λ z. c.add_signed.new.text.items ≡ c.extend_from_slice-2.new.self.items ++ signed_decimal z)
    (to_z-of_z w64 c.args.number c.ranges.number) c.in_ok-add_signed.ensures.ok in
    let named = adds t x (codes " prints ") c.extend_from_slice.new.self.items c.extend_from_slice-2.new.self.items
    c.in_ok-extend_from_slice.ensures.items c.in_ok-extend_from_slice-2.ensures.items in
    let numbered = adds t (x ++ codes " prints ") number c.extend_from_slice-2.new.self.items
    c.add_signed.new.text.items
    named added in
    adds t (x ++ codes " prints " ++ number) line_feed c.add_signed.new.text.items c.push.new.self.items
    numbered c.in_ok-push.ensures.items
