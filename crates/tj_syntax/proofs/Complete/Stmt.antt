-- Each statement is read as the one that it is, and each block.
use Rattle.std.proofs.Common.{◌≡◌, ℕ, ◌<◌, Bool, true, false, List, [], ◌∷◌, ◌++◌, length, Option, Some, Ok, refl, ap}
use Rattle.std.proofs.Common.{sym, ◌∙◌, subst, arith, append_assoc, length-append}
use Rattle.tj_lex.specs.declared.token.Tok.{Tok}
use Rattle.tj_lex.specs.declared.token.Tok.TheVariants as toks
use Rattle.tj_lex.specs.declared.token.Key.TheVariants as k
use Rattle.tj_lex.specs.declared.token.Mark.{Mark}
use Rattle.tj_lex.specs.declared.token.Mark.TheVariants as m
use Rattle.tj_syntax.specs.declared.fault.Stop.{Stop}
use Rattle.tj_syntax.specs.Trees as tree
use Rattle.tj_syntax.specs.Trees.{Expression, Ask, Given, Statement, Statements}
use Rattle.tj_syntax.specs.Marks.{Name, Noted, fine, key, mark, use_of, number_of, declaration, most_vars}
use Rattle.tj_syntax.specs.Faults.{tokens_of}
use Rattle.tj_syntax.specs.Grammar as g
use Rattle.tj_syntax.specs.Grammar.{IsExpression, IsAsk, IsGiven, IsStatement, IsBlock, IsStatements}
use Rattle.tj_syntax.specs.View.{statements_of}
use Rattle.tj_syntax.specs.Inner.Input.{Head, Input, Outcome, Parser, and_then, first, expect, is_mark, variable}
use Rattle.tj_syntax.specs.Inner.Input.{fresh_variable, names_of}
use Rattle.tj_syntax.specs.Inner.Reading.{expression, ask, given, let_new, assign, set_cell, ended, ask_statement}
use Rattle.tj_syntax.specs.Inner.Reading.{otherwise_by, statement_by}
use Rattle.tj_syntax.proofs.Complete.Steps.{at, Does, nothing_read, fine_read, expect_does, known_does, fresh_does}
use Rattle.tj_syntax.proofs.Complete.Steps.{ahead-append}
use Rattle.tj_syntax.proofs.Complete.Expr.{IsBehind, expression_does}
use Rattle.tj_syntax.proofs.Complete.Forks.{AreQuiet, quiet_done, mapped_done, then_done, quiet_key, quiet_mark}
use Rattle.tj_syntax.proofs.Complete.Forks.{quiet_use, quiet_declaration, quiet_expression}
use Rattle.tj_syntax.proofs.Complete.Ask.{Reads, ask_does, given_does}

pub quiet_reads : {A : Type 0} {heads : List Head} {r : Outcome A} {notes : List Noted} {rest : List Tok}
    {vars : List Name} {flaw : Option Stop} {x : A}
    → AreQuiet notes → Does heads r notes rest vars flaw x → Reads heads r notes rest vars flaw x
quiet_reads {flaw = flaw} q d = record { behind = flaw; done = quiet_done q d }

pub mapped_reads : {A B : Type 0} {heads : List Head} {r : Outcome A} {notes : List Noted} {rest : List Tok}
    {vars : List Name} {before : Option Stop} {x : A}
    (f : A → B) → Reads heads r notes rest vars before x
    → Reads heads (and_then r (λ a i. Ok (f a, i))) notes rest vars before (f x)
mapped_reads f d = record { behind = d.behind; done = mapped_done f d.done }

pub then_reads : {A B : Type 0} (heads : List Head) (p : Parser A) (f : A → Parser B) (a b : List Noted)
    (rest : List Tok) (vars mid last : List Name)
    (before : Option Stop) (x : A) (y : B)
    → Reads heads (p (at heads (tokens_of a ++ (tokens_of b ++ rest)) vars before)) a (tokens_of b ++ rest) mid before x
    → ((flaw : Option Stop) → Reads heads (f x (at heads (tokens_of b ++ rest) mid flaw)) b rest last flaw y)
    → Reads heads (and_then (p (at heads (tokens_of (a ++ b) ++ rest) vars before)) f) (a ++ b) rest last before y
then_reads heads p f a b rest vars mid last before x y one two =
    let later = two one.behind in
    record {
      behind = later.behind;
      done = then_done heads p f a b rest vars mid last before one.behind later.behind
          x y one.done later.done;
    }

-- nothing is read, with these variables then
pub nothing_more : {A : Type 0} (heads : List Head) (rest : List Tok) (vars : List Name) (flaw : Option Stop) (x : A)
    → Reads heads (Ok (x, at heads rest vars flaw)) [] rest vars flaw x
nothing_more heads rest vars flaw x = quiet_reads (λ h left f. refl) (nothing_read heads rest vars flaw x)

pub key_reads : {A : Type 0} (heads : List Head) (t : _) (rest : List Tok) (vars : List Name) (flaw : Option Stop)
    (x : A)
    → Reads heads (Ok (x, at heads rest vars flaw)) (key t ∷ []) rest vars flaw x
key_reads heads t rest vars flaw x = quiet_reads (quiet_key t) (fine_read heads (toks.Key t) rest vars flaw x)

pub expect_reads : (heads : List Head) (t : Mark) (rest : List Tok) (vars : List Name) (flaw : Option Stop)
    → Reads heads (expect t (at heads (toks.Mark t ∷ rest) vars flaw)) (mark t ∷ []) rest vars flaw tt
expect_reads heads t rest vars flaw = quiet_reads (quiet_mark t fine) (expect_does heads t rest vars flaw)

variable_reads : (heads : List Head) (x : Name) (rest : List Tok) (vars : List Name) (flaw : Option Stop)
    → Reads heads (variable (at heads (toks.Name x ∷ rest) vars flaw))
    ((toks.Name x, use_of vars x) ∷ []) rest vars flaw (number_of vars x)
unfolding variable
variable_reads heads x rest vars flaw = quiet_reads (quiet_use vars x) (known_does heads x rest vars flaw)

-- ---- statements without blocks

-- a part and its semicolon
semi_reads : {A B : Type 0} (heads : List Head) (p : Parser B) (f : B → Parser A) (a : List Noted) (rest : List Tok)
    (vars last : List Name) (flaw : Option Stop) (x : B) (y : A)
    → Reads heads (p (at heads (tokens_of a ++ (toks.Mark m.Semi ∷ rest)) vars flaw)) a
    (toks.Mark m.Semi ∷ rest) vars flaw x
    → ((g : Option Stop) → f x (at heads rest vars g) ≡ Ok (y, at heads rest last g))
    → Reads heads (and_then (p (at heads (tokens_of (a ++ mark m.Semi ∷ []) ++ rest) vars flaw))
    (λ s j. and_then (expect m.Semi j) (λ _ l. f s l))) (a ++ mark m.Semi ∷ []) rest last flaw y
semi_reads heads p f a rest vars last flaw x y one ends =
    then_reads heads p (λ s j. and_then (expect m.Semi j) (λ _ l. f s l)) a
    (mark m.Semi ∷ []) rest vars vars last flaw x y one
    (λ g. then_reads heads (expect m.Semi) (λ _ l. f x l) (mark m.Semi ∷ []) [] rest vars vars last g tt y
    (expect_reads heads m.Semi rest vars g)
    (λ h. subst (λ r. Reads heads r [] rest last h y) (sym (ends h)) (nothing_more heads rest last h y)))

-- the same behind `=`
assign_reads : {A B : Type 0} (heads : List Head) (p : Parser B) (f : B → Parser A) (a : List Noted)
    (rest : List Tok) (vars last : List Name) (flaw : Option Stop) (x : B) (y : A)
    → ((g : Option Stop) → Reads heads (p (at heads (tokens_of a ++ (toks.Mark m.Semi ∷ rest)) vars g)) a
    (toks.Mark m.Semi ∷ rest) vars g x)
    → ((g : Option Stop) → f x (at heads rest vars g) ≡ Ok (y, at heads rest last g))
    → Reads heads (and_then (expect m.Assign (at heads
    (tokens_of (mark m.Assign ∷ (a ++ mark m.Semi ∷ [])) ++ rest) vars flaw))
    (λ _ i. and_then (p i) (λ s j. and_then (expect m.Semi j) (λ _ l. f s l))))
    (mark m.Assign ∷ (a ++ mark m.Semi ∷ [])) rest last flaw y
assign_reads heads p f a rest vars last flaw x y one ends =
    then_reads heads (expect m.Assign) (λ _ i. and_then (p i) (λ s j. and_then (expect m.Semi j) (λ _ l. f s l)))
    (mark m.Assign ∷ []) (a ++ mark m.Semi ∷ []) rest vars vars last flaw tt y
    (expect_reads heads m.Assign (tokens_of (a ++ mark m.Semi ∷ []) ++ rest) vars flaw)
    (λ g. semi_reads heads p f a rest vars last g x y (one g) ends)

expression_reads : (heads : List Head) {vars : List Name} {room : ℕ} {a : List Noted} {x : Expression}
    → IsExpression vars room a x
    → (rest : List Tok) (flaw : Option Stop)
    → Reads heads (expression room (at heads (tokens_of a ++ (toks.Mark m.Semi ∷ rest)) vars flaw)) a
    (toks.Mark m.Semi ∷ rest) vars flaw x
expression_reads heads e rest flaw =
    quiet_reads (quiet_expression e) (expression_does heads e (toks.Mark m.Semi ∷ rest) flaw
    (record { ends = (refl, refl); no_relation = refl }))

pub let_reads : (heads : List Head) {vars : List Name} {room : ℕ} {a : List Noted} {side : Given} (x : Name)
    → IsGiven (names_of heads) vars room a side
    → (rest : List Tok) (flaw : Option Stop)
    → Reads heads (let_new room (at heads (toks.Name x ∷ toks.Mark m.Assign ∷
    (tokens_of (a ++ mark m.Semi ∷ []) ++ rest)) vars flaw))
    ((toks.Name x, declaration most_vars vars x fine) ∷ mark m.Assign ∷ (a ++ mark m.Semi ∷ [])) rest
    (vars ++ x ∷ []) flaw (tree.let_new (length vars) side)
unfolding let_new
let_reads heads {vars = vars} {room = room} {a = a} {side = side} x p rest flaw =
    then_reads heads fresh_variable
    (λ z h. and_then (expect m.Assign h) (λ _ i. and_then (given room i)
    (λ s j. and_then (expect m.Semi j) (λ _ l. Ok
    (tree.let_new (length l.vars) s, record l { vars = l.vars ++ z ∷ [] })))))
    ((toks.Name x, declaration most_vars vars x fine) ∷ []) (mark m.Assign ∷ (a ++ mark m.Semi ∷ [])) rest vars vars
    (vars ++ x ∷ []) flaw x (tree.let_new (length vars) side)
    (quiet_reads (quiet_declaration most_vars vars x fine (λ h left. refl))
    (fresh_does heads most_vars vars x fine (toks.Mark m.Assign ∷ (tokens_of (a ++ mark m.Semi ∷ []) ++ rest)) vars
    flaw (λ left. refl)))
    (λ g. assign_reads heads (given room) (λ s l. Ok
    (tree.let_new (length l.vars) s, record l { vars = l.vars ++ x ∷ [] })) a rest vars (vars ++ x ∷ []) g side
    (tree.let_new (length vars) side)
    (λ h. given_does heads p rest h) (λ h. refl))

-- behind a variable: the mark, the side that it is given and a semicolon
side_reads : {A : Type 0} (heads : List Head) (side : Parser A) (wrap : ℕ → A → Statement) {vars : List Name}
    {a : List Noted} {y : A} (x : Name) (rest : List Tok) (flaw : Option Stop)
    → ((h : Option Stop) → Reads heads (side (at heads (tokens_of a ++ (toks.Mark m.Semi ∷ rest)) vars h)) a
    (toks.Mark m.Semi ∷ rest) vars h y)
    → Reads heads (and_then (variable (at heads (toks.Name x ∷ toks.Mark m.Assign ∷
    (tokens_of (a ++ mark m.Semi ∷ []) ++ rest)) vars flaw)) (λ n h. and_then (expect m.Assign h)
    (λ _ i. and_then (side i) (λ s j. and_then (expect m.Semi j) (λ _ l. Ok (wrap n s, l))))))
    ((toks.Name x, use_of vars x) ∷ mark m.Assign ∷ (a ++ mark m.Semi ∷ [])) rest vars flaw (wrap (number_of vars x) y)
side_reads heads side wrap {vars = vars} {a = a} {y = y} x rest flaw one =
    then_reads heads variable
    (λ n h. and_then (expect m.Assign h) (λ _ i. and_then (side i)
    (λ s j. and_then (expect m.Semi j) (λ _ l. Ok (wrap n s, l)))))
    ((toks.Name x, use_of vars x) ∷ []) (mark m.Assign ∷ (a ++ mark m.Semi ∷ [])) rest vars vars vars flaw
    (number_of vars x) (wrap (number_of vars x) y)
    (variable_reads heads x (toks.Mark m.Assign ∷ (tokens_of (a ++ mark m.Semi ∷ []) ++ rest)) vars flaw)
    (λ g. assign_reads heads side (λ s l. Ok (wrap (number_of vars x) s, l)) a rest vars vars g y
    (wrap (number_of vars x) y) one (λ h. refl))

pub assigned_reads : (heads : List Head) {vars : List Name} {room : ℕ} {a : List Noted} {side : Given} (x : Name)
    → IsGiven (names_of heads) vars room a side
    → (rest : List Tok) (flaw : Option Stop)
    → Reads heads (assign room (at heads (toks.Name x ∷ toks.Mark m.Assign ∷
    (tokens_of (a ++ mark m.Semi ∷ []) ++ rest)) vars flaw))
    ((toks.Name x, use_of vars x) ∷ mark m.Assign ∷ (a ++ mark m.Semi ∷ [])) rest vars flaw
    (tree.assign (number_of vars x) side)
unfolding assign
assigned_reads heads {room = room} x p rest flaw =
    side_reads heads (given room) tree.assign x rest flaw (λ h. given_does heads p rest h)

pub set_reads : (heads : List Head) {vars : List Name} {room : ℕ} {a : List Noted} {e : Expression} (x : Name)
    → IsExpression vars room a e
    → (rest : List Tok) (flaw : Option Stop)
    → Reads heads (set_cell room (at heads (toks.Name x ∷ toks.Mark m.Assign ∷
    (tokens_of (a ++ mark m.Semi ∷ []) ++ rest)) vars flaw))
    ((toks.Name x, use_of vars x) ∷ mark m.Assign ∷ (a ++ mark m.Semi ∷ [])) rest vars flaw
    (tree.set_cell (number_of vars x) e)
unfolding set_cell
set_reads heads {room = room} x p rest flaw =
    side_reads heads (expression room) tree.set_cell x rest flaw (λ h. expression_reads heads p rest h)

pub ended_reads : (heads : List Head) {vars : List Name} {room : ℕ} {a : List Noted} {x : Expression}
    → IsExpression vars room a x
    → (rest : List Tok) (flaw : Option Stop)
    → Reads heads (ended room (at heads (tokens_of (a ++ mark m.Semi ∷ []) ++ rest) vars flaw))
    (a ++ mark m.Semi ∷ []) rest vars flaw x
unfolding ended
ended_reads heads {vars = vars} {room = room} {a = a} {x = x} p rest flaw =
    semi_reads heads (expression room) (λ s l. Ok (s, l)) a rest vars vars flaw x x
    (expression_reads heads p rest flaw) (λ h. refl)

pub ask_statement_reads : (heads : List Head) {vars : List Name} {room : ℕ} {a : List Noted} {x : Ask}
    → IsAsk (names_of heads) vars room a x
    → (rest : List Tok) (flaw : Option Stop)
    → Reads heads (ask_statement room (at heads (tokens_of (a ++ mark m.Semi ∷ []) ++ rest) vars flaw))
    (a ++ mark m.Semi ∷ []) rest vars flaw (tree.ask x)
unfolding ask_statement
ask_statement_reads heads {vars = vars} {room = room} {a = a} {x = x} p rest flaw =
    semi_reads heads (ask room) (λ s l. Ok (tree.ask s, l)) a rest vars vars flaw x (tree.ask x)
    (ask_does heads p rest flaw) (λ h. refl)

pub as_ask_statement : (heads : List Head) {vars : List Name} {room : ℕ} {a : List Noted} {x : Ask}
    → IsAsk (names_of heads) vars room a x
    → (block_ : Parser Statements) (rest : List Tok) (i : Input)
    → statement_by room block_ (first (tokens_of (a ++ mark m.Semi ∷ []) ++ rest)) i ≡ ask_statement room i
as_ask_statement heads g.new b rest i = refl
as_ask_statement heads p b rest i = refl

-- ---- what stands behind a statement

abbrev pub is_else : Option Tok → Bool
is_else (Some (toks.Key k.Else)) = true
is_else t = false

pub no_else_by : (b : Parser Statements) (t : Option Tok) (i : Input) → is_else t ≡ false
    → otherwise_by b t i ≡ Ok (tree.nothing, i)
no_else_by b (Some (toks.Key k.Else)) i h = absurd (cc)
no_else_by b t i h = refl

-- what a statement begins with
pub record Opens (t : Option Tok) : Type 0 where
  pub no_else : is_else t ≡ false
  pub no_close : is_mark m.BraceClose t ≡ false

pub ask_opens : {tasks vars : List Name} {room : ℕ} {a : List Noted} {x : Ask}
    → IsAsk tasks vars room a x → (b : List Noted) (rest : List Tok)
    → Opens (first (tokens_of (a ++ b) ++ rest))
ask_opens g.new b rest = record { no_else = refl; no_close = refl }
ask_opens p b rest = record { no_else = refl; no_close = refl }

pub statement_opens : {tasks vars last : List Name} {room : ℕ} {a : List Noted} {s : Statement}
    → IsStatement tasks room vars a s last → (rest : List Tok)
    → Opens (first (tokens_of a ++ rest))
statement_opens (g.ask p) rest = ask_opens p (mark m.Semi ∷ []) rest
statement_opens p rest = record { no_else = refl; no_close = refl }

pub statement_longer : {tasks vars last : List Name} {room : ℕ} {a : List Noted} {s : Statement}
    → IsStatement tasks room vars a s last → 0 < length a
statement_longer (g.ask {a = a} p) = omega (arith, length-append a (mark m.Semi ∷ []))
statement_longer p = omega arith

pub statements_open : {tasks vars last : List Name} {room : ℕ} {a : List Noted} {body : Statements}
    → IsStatements tasks room vars a body last → (rest : List Tok)
    → is_else (first (tokens_of (a ++ mark m.BraceClose ∷ []) ++ rest)) ≡ false
statements_open g.statements_end rest = refl
statements_open (g.statements_more {a = a} {b = b} p q) rest =
    ap (λ ns. is_else (first (tokens_of ns ++ rest))) (append_assoc a b (mark m.BraceClose ∷ []))
    ∙ ap (λ ts. is_else (first ts)) (ahead-append a (b ++ mark m.BraceClose ∷ []) rest)
    ∙ (statement_opens p (tokens_of (b ++ mark m.BraceClose ∷ []) ++ rest)).no_else

pub block_front : {tasks vars last : List Name} {room : ℕ} {a : List Noted} {body : Statements}
    → IsBlock tasks room vars a body last → (b : List Noted) (rest : List Tok)
    → IsBehind (first (tokens_of (a ++ b) ++ rest))
block_front (g.braces p) b rest = record { ends = (refl, refl); no_relation = refl }

-- statements behind those found
abbrev pub behind_all : List Statement → Statements → Statements
behind_all [] body = body
behind_all (s ∷ found) body = tree.then_do s (behind_all found body)

pub behind_all-end : (found : List Statement) → behind_all found tree.no_more ≡ statements_of found
behind_all-end [] = refl
behind_all-end (s ∷ found) = ap (λ b. tree.then_do s b) (behind_all-end found)

pub behind_all-push : (found : List Statement) (s : Statement) (body : Statements)
    → behind_all (found ++ s ∷ []) body ≡ behind_all found (tree.then_do s body)
behind_all-push [] s body = refl
behind_all-push (t ∷ found) s body = ap (λ b. tree.then_do t b) (behind_all-push found s body)
