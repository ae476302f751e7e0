-- Asks, and what they are made of, are read alike.
use Rattle.std.proofs.Common.{ℕ, zero, suc, Bool, true, false, cond, List, [], ◌∷◌, ◌++◌, length, Option, Some, None}
use Rattle.std.proofs.Common.{refl, arith}
use Rattle.tj_lex.specs.declared.token.Tok.{Tok}
use Rattle.tj_lex.specs.declared.token.Tok.TheVariants as toks
use Rattle.tj_lex.specs.declared.token.Key.TheVariants as k
use Rattle.tj_lex.specs.declared.token.Mark.{Mark}
use Rattle.tj_lex.specs.declared.token.Mark.TheVariants as m
use Rattle.tj_syntax.specs.Marks.{Name}
use Rattle.tj_syntax.specs.Inner.Input.{Parser, skip, pure, eat, is_mark, note_fork, ◌>>◌}
use Rattle.tj_syntax.specs.Inner.Reading.{unary, separated_from, separated, argument_by, argument, reference_by, reference}
use Rattle.tj_syntax.specs.Inner.Reading.{or_else_by, or_else, forked_by, forked, fork, asked, ask_by, ask}
use Rattle.tj_syntax.specs.Inner.Reading.{given_by, given, chain, expression_over}
use Rattle.tj_syntax.proofs.Same.AlikeSteps.{Local, Loose, Strict, Narrow, Needs, read, any, it, bind_local, bind_same}
use Rattle.tj_syntax.proofs.Same.AlikeSteps.{needs_behind, then_local, mapped_local, bind_narrow, pure_narrow, pure_local}
use Rattle.tj_syntax.proofs.Same.AlikeSteps.{skip_local, refuse_local, by_first, by_count, by_counts, either_local}
use Rattle.tj_syntax.proofs.Same.AlikeSteps.{chosen_local, chosen_narrow, loose, strictly, needs_one, one_needed}
use Rattle.tj_syntax.proofs.Same.AlikeExpr.{expect_local, expression_local, known_local, variable_local}

pub eat_local : (mark : Mark) → Loose it (eat mark) (eat mark)
unfolding eat
eat_local mark n d = by_first _ _ (λ t. by (is_mark mark t))
  where
    by : (b : Bool) → Local n d n d it (λ i. cond b ((skip >> pure true) i) (pure false i))
        (λ i. cond b ((skip >> pure true) i) (pure false i))
    by b = either_local b (then_local (loose skip_local n d) (pure_local refl n d)) (pure_local refl n d)

module _ {A : Type 0} (item : Parser A) (h : Strict any item item) (needs : Needs item) where
  more_narrow : (n : ℕ) → ((found : List A) → Narrow (separated_from item n found)) → (found : List A)
      → Narrow (separated_from item (suc n) found)
  unfolding separated_from
  more_narrow n more found =
      bind_narrow (h 0 0).narrow (λ x. bind_narrow (eat_local m.Comma 0 0).narrow
      (λ b. chosen_narrow b (more (found ++ x ∷ [])) (pure_narrow (found ++ x ∷ []))))

  separated_narrow : (n : ℕ) (found : List A) → Narrow (separated_from item n found)
  unfolding separated_from
  separated_narrow zero found = (refuse_local {see = any} 0 0 0 0).narrow
  separated_narrow (suc n) found = more_narrow n (separated_narrow n) found

  turns_local : (n d : ℕ) (found found' : List A)
      → Local n d n d any (separated_from item n found) (separated_from item d found')
  unfolding separated_from
  turns_local zero zero found found' = refuse_local 0 0 0 0
  turns_local zero (suc d) found found' = needs_one (suc d) zero (suc d) (needs_behind _ needs)
  turns_local (suc n) zero found found' = one_needed (suc n) (suc n) zero (needs_behind _ needs)
      (separated_narrow (suc n) found)
  turns_local (suc n) (suc d) found found' =
      strictly n d (bind_local (h n d) (λ x y _. bind_same (eat_local m.Comma n d)
      (λ b. chosen_local b (turns_local n d (found ++ x ∷ []) (found' ++ y ∷ [])) (pure_local refl n d))))

  pub separated_local : Loose any (separated item) (separated item)
  unfolding separated
  separated_local n d =
      by_first _ _ (λ t. either_local (is_mark m.ParenClose t) (pure_local {a = []} {b = []} refl n d)
      (by_count (λ c. separated_from item c []) (λ c. separated_from item c []) (λ a b. turns_local a b [] [])))

argument_local : (room : ℕ) → Strict any (argument room) (argument room)
unfolding argument
argument_local room n d = by_first _ _ by
  where
    value : Local (suc n) (suc d) n d any (argument_by room None) (argument_by room None)
    value = mapped_local _ _ (expression_local room n d)

    by : (t : Option Tok) → Local (suc n) (suc d) n d any (argument_by room t) (argument_by room t)
    by (Some (toks.Key k.Own)) = then_local (skip_local n d) (mapped_local _ _ (loose variable_local n d))
    by t = value

-- an argument, as each expression, needs a token
argument_needs : (room : ℕ) → Needs (argument room)
unfolding argument expression_over chain unary
argument_needs zero = record { stops = λ heads vars flaw. refl }
argument_needs (suc room) = record { stops = λ heads vars flaw. refl }

pub arguments_local : (room : ℕ) → Loose any (separated (argument room)) (separated (argument room))
arguments_local room = separated_local (argument room) (argument_local room) (argument_needs room)

reference_local : Strict any reference reference
unfolding reference
reference_local n d = by_first _ _ by
  where
    by : (t : Option Tok) → Local (suc n) (suc d) n d any (reference_by t) (reference_by t)
    by (Some (toks.Name x)) = mapped_local _ _ (known_local x n d)
    by (Some (toks.Key k.Me)) = then_local (skip_local n d) (pure_local refl n d)
    by t = refuse_local (suc n) (suc d) n d

or_else_local : (room : ℕ) → Loose any (or_else room) (or_else room)
unfolding or_else
or_else_local room n d = by_first _ _ by
  where
    by : (t : Option Tok) → Local n d n d any (or_else_by room t) (or_else_by room t)
    by (Some (toks.Key k.Or)) = then_local (loose skip_local n d) (mapped_local _ _ (loose (expression_local room) n d))
    by t = pure_local refl n d

-- the name of a forked task is not looked at, and no task's fork stops the reading
note_local : (f f' : Name) (left left' count count' : ℕ) (n d : ℕ)
    → Local n d n d any (note_fork f left count) (note_fork f' left' count')
unfolding note_fork
note_local f f' left left' count count' n d = record {
  narrow = record { stays = λ i. omega arith };
  alike = λ x y before vars heads heads' flaw flaw' same small small'. read before vars heads heads' _ _ _ _ refl
      small small';
}

-- a name with a number
abbrev name_with : Name → ℕ → Parser (Name × ℕ)
name_with f left = skip >> pure (f, left)

forked_local : Strict any forked forked
unfolding forked
forked_local n d = by_first _ _ by
  where
    named : (f : Name) → Local (suc n) (suc d) n d any (forked_by (Some (toks.Name f))) (forked_by (Some (toks.Name f)))
    named f = by_counts {f = name_with f} {g = name_with f} (λ c e. then_local (skip_local n d) (pure_local refl n d))

    by : (t : Option Tok) → Local (suc n) (suc d) n d any (forked_by t) (forked_by t)
    by (Some (toks.Name f)) = named f
    by t = refuse_local (suc n) (suc d) n d

fork_local : (room : ℕ) → Strict any (fork room) (fork room)
unfolding fork
fork_local room n d =
    bind_local (forked_local n d) (λ f f' _. then_local (loose (expect_local m.ParenOpen) n d)
    (bind_local (arguments_local room n d) (λ args args' _. then_local (loose (expect_local m.ParenClose) n d)
    (bind_local (note_local f.0 f'.0 f.1 f'.1 (length args) (length args') n d) (λ a b _. pure_local refl n d)))))

asked_local : (room : ℕ) → Strict any (asked room) (asked room)
unfolding asked
asked_local room n d = bind_local (reference_local n d)
    (λ r r' _. bind_local (or_else_local room n d) (λ o o' _. pure_local refl n d))

pub ask_local : (room : ℕ) → Strict any (ask room) (ask room)
unfolding ask
ask_local room n d = by_first _ _ by
  where
    by : (t : Option Tok) → Local (suc n) (suc d) n d any (ask_by room t) (ask_by room t)
    by (Some (toks.Key k.New)) = then_local (skip_local n d) (pure_local refl n d)
    by (Some (toks.Key k.Fork)) = then_local (skip_local n d) (loose (fork_local room) n d)
    by (Some (toks.Key k.Get)) = then_local (skip_local n d) (mapped_local _ _ (loose (asked_local room) n d))
    by (Some (toks.Key k.Join)) = then_local (skip_local n d) (mapped_local _ _ (loose (asked_local room) n d))
    by t = refuse_local (suc n) (suc d) n d

pub given_local : (room : ℕ) → Strict any (given room) (given room)
unfolding given
given_local room n d = by_first _ _ by
  where
    answer : Local (suc n) (suc d) n d any (given_by room (Some (toks.Key k.New)))
        (given_by room (Some (toks.Key k.New)))
    answer = mapped_local _ _ (ask_local room n d)

    result : Local (suc n) (suc d) n d any (given_by room None) (given_by room None)
    result = mapped_local _ _ (expression_local room n d)

    by : (t : Option Tok) → Local (suc n) (suc d) n d any (given_by room t) (given_by room t)
    by (Some (toks.Key k.New)) = answer
    by (Some (toks.Key k.Fork)) = answer
    by (Some (toks.Key k.Get)) = answer
    by (Some (toks.Key k.Join)) = answer
    by t = result
