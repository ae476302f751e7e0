use Rattle.std.proofs.Common.{ap, ◌++◌, ◌∙◌}
use Rattle.std.specs.Prelude.{codes}
use Rattle.tj_base.specs.Texts.{counted}
use Rattle.tj_findings.proofs.ChildNames.{child_behind}
use Rattle.tj_findings.proofs.texts.child_named.Goals as goal

pub returns : goal.returns
returns c = c.in_ok-add_count.ensures ∙ ap (λ l. l ++ counted (codes ".") c.args.thing) c.in_ok-text.ensures
    ∙ child_behind c.args.before.now c.args.maker.now c.args.thing
