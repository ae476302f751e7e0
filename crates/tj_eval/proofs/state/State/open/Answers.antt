use Rattle.std.proofs.Common.{map, refl}
use Rattle.tj_syntax.specs.View.{statement}
use Rattle.tj_eval.proofs.Blocks.{rest_of-push}
use Rattle.tj_eval.proofs.state.State.open.Goals as goal

pub returns : goal.returns
returns c =
    rw (← c.self.view_is, c.in_ok-push.ensures)
    (rw (rest_of-push (λ block. map statement block.now) c.self.inside.around.items c.self.inside.outer) refl)
