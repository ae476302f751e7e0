-- The texts of statements, put together.
use Rattle.std.proofs.Common.{◌≡◌, ℕ, List, [], ◌∷◌, ◌++◌, codes, get_or, ap, sym, ◌∙◌, append_assoc, Option, option_map}
use Rattle.std.proofs.Common.{rules}
use Rattle.tj_lex.specs.declared.token.Mark.TheVariants as m
use Rattle.tj_syntax.specs.declared.expr.Expr.{Expr}
use Rattle.tj_syntax.specs.declared.stmt.Block.{Block}
use Rattle.tj_syntax.specs.declared.stmt.Stmt.{Stmt, Print, Set, Return, If, While, the_lemmas}
use Rattle.tj_syntax.specs.Trees as tree
use Rattle.tj_syntax.specs.Marks.{Name}
use Rattle.tj_syntax.specs.View.{expression, statement, block, otherwise_of}
use Rattle.tj_syntax.specs.Listing as listing
use Rattle.tj_syntax.specs.Listing.{mark, space, text_of}
use Rattle.tj_syntax.proofs.Listed.Views.{text_append}

-- ---- what statements are as trees

view_print : (x : Expr) → statement (Print x) ≡ tree.print (expression x)
view_print x = search (rules, the_lemmas)

view_set : (n : ℕ) (x : Expr) → statement (Set n x) ≡ tree.set_cell n (expression x)
view_set n x = search (rules, the_lemmas)

view_return : (x : Expr) → statement (Return x) ≡ tree.return (expression x)
view_return x = search (rules, the_lemmas)

view_choose : (x : Expr) (body : Block) (other : Option Block)
    → statement (If x body other) ≡ tree.choose (expression x) (block body) (otherwise_of (option_map block other))
view_choose x body other = search (rules, the_lemmas)

view_repeat : (x : Expr) (body : Block) → statement (While x body) ≡ tree.repeat (expression x) (block body)
view_repeat x body = search (rules, the_lemmas)

-- ---- their texts

-- an expression and its semicolon
ended : (vars : List Name) (x : tree.Expression)
    → text_of (listing.expression vars x) ++ codes ";" ≡ text_of (listing.expression vars x ++ mark m.Semi ∷ [])
ended vars x = sym (text_append (listing.expression vars x) (mark m.Semi ∷ []))

pub print_text : (tasks vars : List Name) (indent : List ℕ) (s : Stmt) (x : Expr) (start all : List ℕ) → s ≡ Print x
    → all ≡ start ++ (codes "print " ++ (text_of (listing.expression vars (expression x)) ++ codes ";"))
    → all ≡ start ++ text_of (listing.statement tasks vars indent (statement s))
print_text tasks vars indent s x start all is e =
    rw (is, view_print x) (e ∙ ap (λ bytes. start ++ (codes "print " ++ bytes)) (ended vars (expression x)))

pub return_text : (tasks vars : List Name) (indent : List ℕ) (s : Stmt) (x : Expr) (start all : List ℕ) → s ≡ Return x
    → all ≡ start ++ (codes "return " ++ (text_of (listing.expression vars (expression x)) ++ codes ";"))
    → all ≡ start ++ text_of (listing.statement tasks vars indent (statement s))
return_text tasks vars indent s x start all is e =
    rw (is, view_return x) (e ∙ ap (λ bytes. start ++ (codes "return " ++ bytes)) (ended vars (expression x)))

pub set_text : (tasks vars : List Name) (indent : List ℕ) (s : Stmt) (n : ℕ) (x : Expr) (start one two all : List ℕ)
    → s ≡ Set n x → one ≡ start ++ codes "set " → two ≡ one ++ get_or vars n []
    → all ≡ two ++ (codes " = " ++ (text_of (listing.expression vars (expression x)) ++ codes ";"))
    → all ≡ start ++ text_of (listing.statement tasks vars indent (statement s))
set_text tasks vars indent s n x start one two all is first second third =
    let name = get_or vars n [] in
    let value = text_of (listing.expression vars (expression x)) ++ codes ";" in
    rw (is, view_set n x)
    (third ∙ ap (λ bytes. bytes ++ (codes " = " ++ value)) (second ∙ ap (λ bytes. bytes ++ name) first)
    ∙ append_assoc (start ++ codes "set ") name (codes " = " ++ value)
    ∙ append_assoc start (codes "set ") (name ++ (codes " = " ++ value))
    ∙ ap (λ bytes. start ++ (codes "set " ++ (name ++ (codes " = " ++ bytes)))) (ended vars (expression x)))

-- a condition between a keyword and a block, with what stands behind the block
headed : (start word condition body more : List ℕ)
    → (start ++ (word ++ (condition ++ codes " "))) ++ (body ++ more)
    ≡ start ++ (word ++ (condition ++ (32 ∷ (body ++ more))))
headed start word condition body more =
    append_assoc start (word ++ (condition ++ codes " ")) (body ++ more)
    ∙ ap (λ bytes. start ++ bytes) (append_assoc word (condition ++ codes " ") (body ++ more))
    ∙ ap (λ bytes. start ++ (word ++ bytes)) (append_assoc condition (codes " ") (body ++ more))

pub choose_text : (tasks vars : List Name) (indent : List ℕ) (s : Stmt) (x : Expr) (body : Block) (other : Option Block)
    (start one two all : List ℕ) → s ≡ If x body other
    → one ≡ start ++ (codes "if " ++ (text_of (listing.expression vars (expression x)) ++ codes " "))
    → two ≡ one ++ text_of (listing.block tasks vars indent (block body))
    → all ≡ two ++ text_of (listing.else_parts tasks vars indent (otherwise_of (option_map block other)))
    → all ≡ start ++ text_of (listing.statement tasks vars indent (statement s))
choose_text tasks vars indent s x body other start one two all is first second third =
    let condition = listing.expression vars (expression x) in
    let inner = listing.block tasks vars indent (block body) in
    let otherwise = listing.else_parts tasks vars indent (otherwise_of (option_map block other)) in
    rw (is, view_choose x body other)
    (third ∙ ap (λ bytes. bytes ++ text_of otherwise) (second ∙ ap (λ bytes. bytes ++ text_of inner) first)
    ∙ append_assoc (start ++ (codes "if " ++ (text_of condition ++ codes " "))) (text_of inner) (text_of otherwise)
    ∙ headed start (codes "if ") (text_of condition) (text_of inner) (text_of otherwise)
    ∙ ap (λ bytes. start ++ (codes "if " ++ (text_of condition ++ (32 ∷ bytes)))) (sym (text_append inner otherwise))
    ∙ ap (λ bytes. start ++ (codes "if " ++ bytes)) (sym (text_append condition (space ∷ (inner ++ otherwise)))))

pub repeat_text : (tasks vars : List Name) (indent : List ℕ) (s : Stmt) (x : Expr) (body : Block)
    (start one all : List ℕ) → s ≡ While x body
    → one ≡ start ++ (codes "while " ++ (text_of (listing.expression vars (expression x)) ++ codes " "))
    → all ≡ one ++ text_of (listing.block tasks vars indent (block body))
    → all ≡ start ++ text_of (listing.statement tasks vars indent (statement s))
repeat_text tasks vars indent s x body start one all is first second =
    let condition = listing.expression vars (expression x) in
    let inner = listing.block tasks vars indent (block body) in
    rw (is, view_repeat x body)
    (second ∙ ap (λ bytes. bytes ++ text_of inner) first
    ∙ append_assoc start (codes "while " ++ (text_of condition ++ codes " ")) (text_of inner)
    ∙ ap (λ bytes. start ++ bytes) (append_assoc (codes "while ") (text_of condition ++ codes " ") (text_of inner))
    ∙ ap (λ bytes. start ++ (codes "while " ++ bytes)) (append_assoc (text_of condition) (codes " ") (text_of inner))
    ∙ ap (λ bytes. start ++ (codes "while " ++ bytes)) (sym (text_append condition (space ∷ inner))))
