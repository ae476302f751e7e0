use Rattle.tj_report.proofs.Prelude.{ap, arith, codes, line_feed, link_text, name_text, sym, ◌++◌, ◌∙◌}
use Rattle.std.proofs.lemmas.List.{take_all}
use Rattle.std.specs.List.{join_by}
use Rattle.tj_report.proofs.Parts.{adds, between_more, joined_more, linked}
use Rattle.tj_report.proofs.report.add_alarm.Goals as goal

pub loop-link-preserved : goal.loop-link-preserved
loop-link-preserved c =
    let l = c.loop-link in let k = c.link-item.result in (
      sym (between_more (codes ", ") l.link-index),
      joined_more link_text (codes ", ") c.args.links.now l.link-index k c.extend_from_slice.new.self.items
          l.text.items c.add_named-in-loop-link.new.text.items l.before.now c.loop-link-test.true c.link-item.is
          l.invariant.0 l.invariant.1
          (linked l.text.items l.before.now (name_text k.task) (codes " waits for ") (name_text k.cell)
          c.add_named.new.text.items c.add_named-in-loop-link.new.text.items c.in_ok-add_named.ensures
          c.in_ok-add_named-2.ensures),
    )

pub returns : goal.returns
returns c =
    let t = c.args.text.now.items in let l = c.loop-link in let e = c.extend_from_slice.new.self.items in
    let ended = c.loop-link-test.false in
    let links = join_by link_text (codes ", ") c.args.links.now in
    let told = l.invariant.1 ∙ ap (λ z. e ++ join_by link_text (codes ", ") z)
    (take_all l.link-index c.args.links.now (omega arith)) in
    let all = adds t (codes "alarm ") links e l.text.items c.in_ok-extend_from_slice.ensures.items told in
    adds t (codes "alarm " ++ links) line_feed l.text.items c.push.new.self.items all c.in_ok-push.ensures.items
