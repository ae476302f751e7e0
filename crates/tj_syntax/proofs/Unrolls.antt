-- A unary or a block behind an opened level, with numbers as the code has them.
use Rattle.std.proofs.Common.{◌≡◌, ℕ, zero, suc, ◌-◌, Option, Some, None, refl, ap, arith}
use Rattle.tj_lex.specs.declared.token.Tok.{Tok}
use Rattle.tj_syntax.specs.Trees.{Expression, Statement}
use Rattle.tj_syntax.specs.Inner.Input.{Input, Parser, first, refuse, open_level}
use Rattle.tj_syntax.specs.Inner.Reading.{unary_by, unary, expression_over, block_by, block, statement_over}

no_level : (inner grouped inner' grouped' : Parser Expression) (t : Option Tok) (i : Input) → unary_by inner grouped
    zero t i ≡ unary_by inner' grouped' zero t i
unfolding open_level
no_level inner grouped inner' grouped' None i = refl
no_level inner grouped inner' grouped' (Some t) i = refl

-- a unary by its first token
pub unary-is : (room : ℕ) (i : Input) → unary room i ≡ unary_by (unary (room - 1)) (expression_over (unary (room -
    1))) room (first i.ahead) i
unfolding unary
unary-is zero i = no_level refuse refuse (unary (0 - 1)) (expression_over (unary (0 - 1))) (first i.ahead) i
unary-is (suc room) i =
    let e : room ≡ suc room - 1 = omega arith in
    ap (λ r. unary_by (unary r) (expression_over (unary r)) (suc room) (first i.ahead) i) e

no_block : (item item' : Parser Statement) (t : Option Tok) (i : Input) → block_by zero item t i ≡ block_by zero item'
    t i
unfolding open_level
no_block item item' None i = refl
no_block item item' (Some t) i = refl

-- a block by its first token
pub block-is : (room : ℕ) (i : Input) → block room i ≡ block_by room (statement_over (room - 1) (block (room - 1)))
    (first i.ahead) i
unfolding block
block-is zero i = no_block refuse (statement_over (0 - 1) (block (0 - 1))) (first i.ahead) i
block-is (suc room) i =
    let e : room ≡ suc room - 1 = omega arith in
    ap (λ r. block_by (suc room) (statement_over r (block r)) (first i.ahead) i) e
