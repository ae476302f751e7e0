-- Parsed values and the trees that they stand for, and the texts of parts one behind the other.
use Rattle.std.proofs.Common.{◌≡◌, ℕ, zero, suc, get_or, sym, ◌<◌, List, [], ◌∷◌, ◌++◌, length, map, Vec, Global, ap}
use Rattle.std.proofs.Common.{rules, arith}
use Rattle.std.proofs.lemmas.Grind.{flat_map-append}
use Rattle.std.specs.declared.boxed.Box.{Box}
use Rattle.tj_syntax.specs.declared.expr.Op.{Op}
use Rattle.tj_syntax.specs.declared.expr.Expr.{Expr, Chain, the_lemmas}
use Rattle.tj_syntax.specs.Trees as tree
use Rattle.tj_syntax.specs.View.{expression, pair, pairs_of, task}
use Rattle.tj_syntax.specs.Listing.{Part, part_text, text_of, names_of}
use Rattle.tj_syntax.specs.declared.script.Decl.{Decl}

pub view_chain : (x : Box Expr Global) (pairs : Vec (Op × Expr) Global)
    → expression (Chain x pairs) ≡ tree.chain (expression x.value) (pairs_of (map pair pairs.items))
view_chain x pairs = search (rules, the_lemmas)

pub text_append : (a b : List Part) → text_of (a ++ b) ≡ text_of a ++ text_of b
text_append a b = flat_map-append part_text a b

pub named_task : (tasks : List Decl) (f : ℕ) (d : Decl) → f < length tasks → d ≡ get_or tasks f d
    → get_or (names_of (map task tasks)) f [] ≡ d.name
named_task [] f d h is = absurd (omega arith)
named_task (t ∷ tasks) zero d h is = ap (λ d. d.name) (sym is)
named_task (t ∷ tasks) (suc f) d h is = named_task tasks f d (omega arith) is

pub ruleset listing_steps = (view_chain, text_append)
