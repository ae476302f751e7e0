-- Statements and blocks are read alike.
use Rattle.std.proofs.Common.{ℕ, zero, suc, List, [], ◌∷◌, ◌++◌, length, Option, Some, None, refl, ap, arith}
use Rattle.tj_lex.specs.declared.token.Tok.{Tok}
use Rattle.tj_lex.specs.declared.token.Tok.TheVariants as toks
use Rattle.tj_lex.specs.declared.token.Key.TheVariants as k
use Rattle.tj_lex.specs.declared.token.Mark.TheVariants as m
use Rattle.tj_syntax.specs.declared.fault.Breach.{Breach}
use Rattle.tj_syntax.specs.Trees as tree
use Rattle.tj_syntax.specs.Trees.{Statement, Statements}
use Rattle.tj_syntax.specs.Marks.{Name, most_vars}
use Rattle.tj_syntax.specs.View.{statements_of}
use Rattle.tj_syntax.specs.Inner.Input.{Parser, and_then, skip, refuse, pure, unless, breach_of, fresh_by, fresh}
use Rattle.tj_syntax.specs.Inner.Input.{fresh_variable, add_variable, count_variables, is_mark, ◌>>◌}
use Rattle.tj_syntax.specs.Inner.Reading.{expression, given, ask, let_new, assigned, assign, set_cell, closed, ended}
use Rattle.tj_syntax.specs.Inner.Reading.{ask_statement}
use Rattle.tj_syntax.specs.Inner.Reading.{otherwise_by, otherwise, choose, repeat, statement_by, statement_over}
use Rattle.tj_syntax.specs.Inner.Reading.{statements_from, statements, block_by, block}
use Rattle.tj_syntax.proofs.Same.AlikeSteps.{Local, Loose, Strict, Narrow, Needs, read, any, it, bind_local, bind_same}
use Rattle.tj_syntax.proofs.Same.AlikeSteps.{then_local, mapped_local, bind_narrow, pure_narrow, pure_local, skip_local}
use Rattle.tj_syntax.proofs.Same.AlikeSteps.{refuse_local, breaks_local, by_first, by_vars, by_count, first_narrow}
use Rattle.tj_syntax.proofs.Same.AlikeSteps.{either_local, either_narrow, loose, strictly, needs_one, one_needed}
use Rattle.tj_syntax.proofs.Same.AlikeExpr.{expect_local, expression_local, open_local, variable_local}
use Rattle.tj_syntax.proofs.Same.AlikeAsk.{given_local, ask_local}

pub fresh_local : (most : ℕ) (earlier : List Name) → Strict it (fresh most earlier) (fresh most earlier)
unfolding fresh
fresh_local most earlier n d = by_first _ _ by
  where
    named : (x : Name) (b : Option Breach) → Local (suc n) (suc d) n d it (unless b (skip >> pure x))
        (unless b (skip >> pure x))
    named x None = then_local (skip_local n d) (pure_local refl n d)
    named x (Some b) = breaks_local b (suc n) (suc d) n d

    by : (t : Option Tok) → Local (suc n) (suc d) n d it (fresh_by most earlier t) (fresh_by most earlier t)
    by (Some (toks.Name x)) = named x (breach_of most earlier x)
    by t = refuse_local (suc n) (suc d) n d

pub fresh_variable_local : Strict it fresh_variable fresh_variable
fresh_variable_local n d = by_vars (fresh most_vars) (fresh most_vars) (λ vars. fresh_local most_vars vars n d)

pub add_local : (x : Name) → Loose any (add_variable x) (add_variable x)
add_local x n d = record {
  narrow = record { stays = λ i. omega arith };
  alike = λ x' y before vars heads heads' flaw flaw' same small small'. read before
      (vars ++ x ∷ []) heads heads' flaw flaw' tt tt refl small small';
}

pub count_local : Loose any count_variables count_variables
count_local n d = by_vars (λ vars. pure (length vars)) (λ vars. pure (length vars)) (λ vars. pure_local refl n d)

let_local : (room : ℕ) → Strict any (let_new room) (let_new room)
unfolding let_new
let_local room n d =
    bind_same (fresh_variable_local n d) (λ x. then_local (loose (expect_local m.Assign) n d)
    (bind_local (loose (given_local room) n d) (λ a b _. then_local (loose (expect_local m.Semi) n d)
    (bind_local (count_local n d) (λ c e _. then_local (add_local x n d)
    (pure_local {a = tree.let_new c a} {b = tree.let_new e b} refl n d))))))

-- behind a variable: the mark, the side that it is given and a semicolon
side_local : {A : Type 0} (side : Parser A) (wrap : ℕ → A → Statement) → Strict any side side
    → Strict any (assigned side wrap) (assigned side wrap)
side_local side wrap same n d =
    bind_local (variable_local n d) (λ x y _. then_local (loose (expect_local m.Assign) n d)
    (bind_local (loose same n d)
    (λ a b _. then_local (loose (expect_local m.Semi) n d) (pure_local refl n d))))

assign_local : (room : ℕ) → Strict any (assign room) (assign room)
unfolding assign
assign_local room = side_local (given room) tree.assign (given_local room)

set_local : (room : ℕ) → Strict any (set_cell room) (set_cell room)
unfolding set_cell
set_local room = side_local (expression room) tree.set_cell (expression_local room)

-- what this reads, and a semicolon
closed_local : {A B : Type 0} (part : Parser A) (wrap : A → B) → Strict any part part
    → Strict any (closed part wrap) (closed part wrap)
closed_local part wrap same n d = bind_local (same n d)
    (λ a b _. then_local (loose (expect_local m.Semi) n d) (pure_local refl n d))

ended_local : (room : ℕ) → Strict any (ended room) (ended room)
unfolding ended
ended_local room = closed_local (expression room) (λ x. x) (expression_local room)

ask_statement_local : (room : ℕ) → Strict any (ask_statement room) (ask_statement room)
unfolding ask_statement
ask_statement_local room = closed_local (ask room) tree.ask (ask_local room)

otherwise_local : (block : Parser Statements) → Loose any block block → Loose any (otherwise block) (otherwise block)
unfolding otherwise
otherwise_local block h n d = by_first _ _ by
  where
    by : (t : Option Tok) → Local n d n d any (otherwise_by block t) (otherwise_by block t)
    by (Some (toks.Key k.Else)) = then_local (loose skip_local n d) (mapped_local _ _ (h n d))
    by t = pure_local refl n d

choose_local : (room : ℕ) (block : Parser Statements) → Loose any block block
    → Strict any (choose room block) (choose room block)
unfolding choose
choose_local room block h n d =
    bind_local (expression_local room n d) (λ x y _. bind_local (h n d)
    (λ a b _. bind_local (otherwise_local block h n d) (λ o u _. pure_local refl n d)))

repeat_local : (room : ℕ) (block : Parser Statements) → Loose any block block
    → Strict any (repeat room block) (repeat room block)
unfolding repeat
repeat_local room block h n d = bind_local (expression_local room n d)
    (λ x y _. bind_local (h n d) (λ a b _. pure_local refl n d))

statement_local : (room : ℕ) (block : Parser Statements) → Loose any block block
    → Strict any (statement_over room block) (statement_over room block)
unfolding statement_over
statement_local room block h n d = by_first _ _ by
  where
    other : Local (suc n) (suc d) n d any (statement_by room block None) (statement_by room block None)
    other = ask_statement_local room n d

    by : (t : Option Tok) → Local (suc n) (suc d) n d any (statement_by room block t) (statement_by room block t)
    by (Some (toks.Key k.Let)) = then_local (skip_local n d) (loose (let_local room) n d)
    by (Some (toks.Name x)) = assign_local room n d
    by (Some (toks.Key k.Print)) = then_local (skip_local n d) (mapped_local _ _ (loose (ended_local room) n d))
    by (Some (toks.Key k.Set)) = then_local (skip_local n d) (loose (set_local room) n d)
    by (Some (toks.Key k.Return)) = then_local (skip_local n d) (mapped_local _ _ (loose (ended_local room) n d))
    by (Some (toks.Key k.If)) = then_local (skip_local n d) (loose (choose_local room block h) n d)
    by (Some (toks.Key k.While)) = then_local (skip_local n d) (loose (repeat_local room block h) n d)
    by t = other

-- a statement needs a token
statement_needs : (room : ℕ) (block : Parser Statements) → Needs (statement_over room block)
unfolding statement_over ask_statement ask
statement_needs room block = record { stops = λ heads vars flaw. refl }

module _ (item : Parser Statement) (h : Strict any item item) (needs : Needs item) where
  turn_narrow : (n : ℕ) → ((found : List Statement) → Narrow (statements_from item n found))
      → (found : List Statement) → Narrow (statements_from item (suc n) found)
  unfolding statements_from
  turn_narrow n more found =
      first_narrow (λ t. either_narrow (is_mark m.BraceClose t)
      (bind_narrow (skip_local 0 0).narrow (λ _. pure_narrow (statements_of found)))
      (bind_narrow (h 0 0).narrow (λ s. more (found ++ s ∷ []))))

  statements_narrow : (n : ℕ) (found : List Statement) → Narrow (statements_from item n found)
  unfolding statements_from
  statements_narrow zero found = (refuse_local {see = any} 0 0 0 0).narrow
  statements_narrow (suc n) found = turn_narrow n (statements_narrow n) found

  statements_need : (n : ℕ) (found : List Statement) → Needs (statements_from item (suc n) found)
  unfolding statements_from
  statements_need n found = record {
    stops = λ heads vars flaw. ap
        (λ r. and_then r (λ s. statements_from item n (found ++ s ∷ []))) (needs.stops heads vars flaw);
  }

  turns_local : (n d : ℕ) (found found' : List Statement)
      → Local n d n d any (statements_from item n found) (statements_from item d found')
  unfolding statements_from
  turns_local zero zero found found' = refuse_local 0 0 0 0
  turns_local zero (suc d) found found' = needs_one (suc d) zero (suc d) (statements_need d found')
  turns_local (suc n) zero found found' = one_needed (suc n) (suc n) zero (statements_need n found)
      (statements_narrow (suc n) found)
  turns_local (suc n) (suc d) found found' =
      strictly n d (by_first _ _ (λ t. either_local (is_mark m.BraceClose t)
      (then_local (skip_local n d) (pure_local {a = statements_of found} {b = statements_of found'} refl n d))
      (bind_local (h n d) (λ s u _. turns_local n d (found ++ s ∷ []) (found' ++ u ∷ [])))))

  pub statements_local : Loose any (statements item) (statements item)
  unfolding statements
  statements_local n d = by_count (λ c. statements_from item c []) (λ c. statements_from item c [])
      (λ a b. turns_local a b [] [])

block_by_local : (room : ℕ) (item : Parser Statement) → Loose any (statements item) (statements item)
    → (t : Option Tok) → Strict any (block_by room item t) (block_by room item t)
block_by_local room item h (Some (toks.Mark m.BraceOpen)) n d = then_local (open_local room n d) (h n d)
block_by_local room item h t n d = refuse_local (suc n) (suc d) n d

refusing : Loose any (statements refuse) (statements refuse)
refusing = statements_local refuse (λ n d. refuse_local (suc n) (suc d) n d)
    (record { stops = λ heads vars flaw. refl })

pub block_local : (room : ℕ) → Strict any (block room) (block room)
unfolding block
block_local zero n d = by_first _ _ (λ t. block_by_local zero refuse refusing t n d)
block_local (suc room) n d =
    by_first _ _ (λ t. block_by_local (suc room) (statement_over room (block room))
    (statements_local (statement_over room (block room))
    (statement_local room (block room) (loose (block_local room))) (statement_needs room (block room))) t n d)
