use Rattle.std.proofs.Common.{◌∙◌, sym, ap, refl}
use Rattle.tj_syntax.specs.View.{statement}
use Rattle.tj_eval.proofs.Blocks.{take-around}
use Rattle.tj_eval.proofs.state.State.take.Goals as goal

pub returns : goal.returns
returns c = let here = c.self.inside in
    let one = ap (λ z. z.rest) (sym c.self.view_is)
    ∙ take-around (λ block. block.now) statement here.block.now here.outer.now here.around.items c.pop.new.self.items
    c.in_ok-pop.field-0 c.in_ok-stmt.stmt.now c.in_ok-stmt.rest.now c.in_default.ensures.cases
    c.in_default-split_first.ensures.cases c.in_ok-pop.ensures.items c.in_ok-stmt.ensures.cases.0 in
    (one, rw (← c.self.view_is) refl)
