-- Parsed statements and the trees that they stand for.
use Rattle.std.proofs.Common.{◌≡◌, ℕ, zero, suc, List, [], ◌∷◌, ◌++◌, map, refl, ap, sym, ◌∙◌, rules}
use Rattle.std.proofs.lemmas.List.{append-nil}
use Rattle.std.specs.Prelude.{slice_get}
use Rattle.std.specs.Option.{option_map}
use Rattle.tj_syntax.specs.declared.stmt.Block.{Block, the_lemmas}
use Rattle.tj_syntax.specs.declared.stmt.Stmt.{Stmt}
use Rattle.tj_syntax.specs.Trees as tree
use Rattle.tj_syntax.specs.View.{statement, statements_of, block}
use Rattle.tj_eval.specs.Bodies.{rest_of}
use Rattle.tj_eval.specs.Statements.{listed}

listed-of : (list : List tree.Statement) → listed (statements_of list) ≡ list
listed-of [] = refl
listed-of (s ∷ list) = ap (λ z. s ∷ z) (listed-of list)

block-of : (b : Block) → block b ≡ statements_of (map statement b.stmts.items)
block-of b = search (rules, the_lemmas)

-- the statements of a block are those of its tree
pub listed_block : (b : Block) → listed (block b) ≡ map statement b.stmts.items
listed_block b = ap listed (block-of b) ∙ listed-of (map statement b.stmts.items)

-- where no block is open, nothing remains
pub none_remains : {X : Type 0} (now : X → List tree.Statement) (around : List X) → around ≡ []
    → rest_of (map now around) ≡ []
none_remains now around e = ap (λ z. rest_of (map now z)) e

-- an element of a list that is seen by f
pub get_map : {A B : Type 0} (f : A → B) (list : List A) (n : ℕ) → slice_get (map f list) n
    ≡ option_map f (slice_get list n)
get_map f [] n = refl
get_map f (x ∷ list) zero = refl
get_map f (x ∷ list) (suc n) = get_map f list n

-- what remains where a block has just begun and no block is around it
pub begins-block : {X : Type 0} (now : X → List tree.Statement) (body : Block) (list : List Stmt) (around : List X)
    → list ≡ body.stmts.items → around ≡ []
    → map statement list ++ rest_of (map now around) ≡ listed (block body)
begins-block now body list around e f = ap (λ z. map statement z ++ rest_of (map now around)) e
    ∙ ap (λ z. map statement body.stmts.items ++ rest_of (map now z)) f
    ∙ append-nil (map statement body.stmts.items) ∙ sym (listed_block body)
