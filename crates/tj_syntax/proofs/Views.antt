-- Parsed values and the trees that they stand for, one level at a time.
use Rattle.std.proofs.Common.{◌≡◌, ◌<◌, List, [], ◌∷◌, length, map, Vec, Global, refl, rules, arith}
use Rattle.std.specs.declared.boxed.Box.{Box}
use Rattle.tj_syntax.specs.declared.expr.Op.{Op}
use Rattle.tj_syntax.specs.declared.expr.Expr.{Expr, Chain, the_lemmas}
use Rattle.tj_syntax.specs.Trees as tree
use Rattle.tj_syntax.specs.Grammar.{chain_of}
use Rattle.tj_syntax.specs.View.{expression, pair, pairs_of}

pub view-Chain : (x : Box Expr Global) (pairs : Vec (Op × Expr) Global) → expression (Chain x pairs) ≡ tree.chain
    (expression x.value) (pairs_of (map pair pairs.items))
view-Chain x pairs = search (rules, the_lemmas)

-- a chain of some pairs isn't its operand alone
pub chain_of-some : (x : tree.Expression) (pairs : List (Op × Expr)) → 0 < length pairs
    → chain_of x (pairs_of (map pair pairs)) ≡ tree.chain x (pairs_of (map pair pairs))
chain_of-some x [] some = absurd (omega arith)
chain_of-some x (p ∷ pairs) some = refl

pub ruleset used_views = (view-Chain, chain_of-some)
