-- A task that is read has the name behind which it is read.
use Rattle.std.proofs.Common.{◌≡◌, Ok, refl}
use Rattle.tj_lex.specs.declared.token.Mark.TheVariants as m
use Rattle.tj_syntax.specs.Trees.{Task}
use Rattle.tj_syntax.specs.Marks.{Name, most_levels}
use Rattle.tj_syntax.specs.Inner.Input.{Input, expect}
use Rattle.tj_syntax.specs.Inner.Reading.{params, block, task_behind}
use Rattle.tj_syntax.proofs.Taken.{bind_ok, landed}

pub task_name : (f : Name) (i j : Input) (t : Task) → task_behind f i ≡ Ok (t, j) → t.name ≡ f
unfolding task_behind
task_name f i j t h =
    let first = bind_ok (expect m.ParenOpen i) _ t j h in
    let list = bind_ok (params first.1) _ t j first.3 in
    let close = bind_ok (expect m.ParenClose list.1) _ t j list.3 in
    let body = bind_ok (block most_levels close.1) _ t j close.3 in
    landed (λ s l. s.name ≡ f) _ t _ j body.3 refl
