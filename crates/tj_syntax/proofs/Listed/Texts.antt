-- The texts of a chain, of a comparison and of a task's name, put together.
use Rattle.std.proofs.Common.{◌≡◌, ◌+◌, ◌<◌, length, ℕ, List, [], ◌∷◌, ◌++◌, map, get_or, Vec, Global, ap, sym, ◌∙◌}
use Rattle.std.proofs.Common.{rules, append_assoc}
use Rattle.std.specs.declared.boxed.Box.{Box}
use Rattle.tj_lex.specs.Spelling.{mark_text}
use Rattle.tj_syntax.specs.declared.expr.Op.{Op}
use Rattle.tj_syntax.specs.declared.expr.Rel.{Rel}
use Rattle.tj_syntax.specs.declared.expr.Expr.{Expr, Chain, Cmp, the_lemmas}
use Rattle.tj_syntax.specs.declared.script.Decl.{Decl}
use Rattle.tj_syntax.specs.Trees as tree
use Rattle.tj_syntax.specs.Marks.{Name}
use Rattle.tj_syntax.specs.Grammar.{rel_mark}
use Rattle.tj_syntax.specs.View.{expression, pair, pairs_of, task}
use Rattle.tj_syntax.specs.Listing as listing
use Rattle.tj_syntax.specs.Listing.{Part, space, mark, text_of, operand, pairs_level, pairs_parts, names_of}
use Rattle.tj_syntax.proofs.Listed.Views.{view_chain, text_append, named_task}

chain_parts : (vars : List Name) (x : tree.Expression) (pairs : tree.Pairs) (start : List ℕ)
    → (start ++ text_of (operand vars (pairs_level pairs + 1) x)) ++ text_of (pairs_parts vars pairs)
    ≡ start ++ text_of (listing.expression vars (tree.chain x pairs))
chain_parts vars x pairs start =
    append_assoc start _ _
    ∙ ap (λ bytes. start ++ bytes) (sym (text_append (operand vars (pairs_level pairs + 1) x) (pairs_parts vars pairs)))

pub chain_text : (vars : List Name) (e : Expr) (a : Box Expr Global) (pairs : Vec (Op × Expr) Global)
    (p q : List (Op × Expr)) (y : Expr)
    (need : ℕ) (start one all : List ℕ) → e ≡ Chain a pairs → p ≡ pairs.items → y ≡ a.value → q ≡ pairs.items
    → need ≡ pairs_level (pairs_of (map pair p)) → one ≡ start ++ text_of (operand vars (need + 1) (expression y))
    → all ≡ one ++ text_of (pairs_parts vars (pairs_of (map pair q)))
    → all ≡ start ++ text_of (listing.expression vars (expression e))
chain_text vars e a pairs p q y need start one all is ep ey eq en first rest =
    rw (is, view_chain a pairs)
    (rest ∙ (rw (first, en, ep, ey, eq) (chain_parts vars (expression a.value)
    (pairs_of (map pair pairs.items)) start)))

spread : (s a m b : List ℕ) → ((s ++ a) ++ (32 ∷ (m ++ 32 ∷ []))) ++ b ≡ s ++ (a ++ (32 ∷ (m ++ (32 ∷ b))))
spread s a m b =
    append_assoc (s ++ a) (32 ∷ (m ++ 32 ∷ [])) b ∙ append_assoc s a _
    ∙ ap (λ bytes. s ++ (a ++ (32 ∷ bytes))) (append_assoc m (32 ∷ []) b)

view_comparison : (rel : Rel) (a b : Box Expr Global)
    → expression (Cmp rel a b) ≡ tree.comparison rel (expression a.value) (expression b.value)
view_comparison rel a b = search (rules, the_lemmas)

pub comparison_text : (vars : List Name) (rel : Rel) (e : Expr) (a b : Box Expr Global) (x y : Expr)
    (start one two all : List ℕ)
    → e ≡ Cmp rel a b → x ≡ a.value → y ≡ b.value → one ≡ start ++ text_of (operand vars 1 (expression x))
    → two ≡ one ++ 32 ∷ (mark_text (rel_mark rel) ++ 32 ∷ []) → all ≡ two ++ text_of (operand vars 1 (expression y))
    → all ≡ start ++ text_of (listing.expression vars (expression e))
comparison_text vars rel e a b x y start one two all is ex ey first second third =
    let left = operand vars 1 (expression a.value) in
    let right = operand vars 1 (expression b.value) in
    rw (is, view_comparison rel a b)
    (third ∙ (rw (second, first, ex, ey) (spread start (text_of left) (mark_text (rel_mark rel)) (text_of right)
    ∙ ap (λ bytes. start ++ bytes) (sym (text_append left (space ∷ mark (rel_mark rel) ∷ space ∷ right))))))

pub task_text : (start name all : List ℕ) (tasks : List Decl) (f : ℕ) (d : Decl) → f < length tasks
    → d ≡ get_or tasks f d → name ≡ d.name
    → all ≡ start ++ name → all ≡ start ++ get_or (names_of (map task tasks)) f []
task_text start name all tasks f d within found is e =
    e ∙ ap (λ bytes. start ++ bytes) (is ∙ sym (named_task tasks f d within found))
