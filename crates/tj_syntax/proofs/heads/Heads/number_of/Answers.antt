use Rattle.std.proofs.Common.{ap, sym, ◌∙◌}
use Rattle.tj_syntax.specs.Marks.{index_of}
use Rattle.tj_syntax.proofs.Naming.HeadNames.{names_of-heads, found_below}
use Rattle.tj_syntax.proofs.heads.Heads.number_of.Goals as goal

pub returns-clause-value : goal.returns-clause-value
returns-clause-value c =
    c.number_of.ensures ∙ ap (λ ns. index_of ns c.args.name.now) (c.args.self.now.named ∙ sym (names_of-heads
    c.args.self.now.list.items))

pub returns-clause-below : goal.returns-clause-below
returns-clause-below c =
    found_below c.args.self.now.list.items c.args.self.now.names c.args.name.now c.number_of.result
    c.args.self.now.named c.number_of.ensures
