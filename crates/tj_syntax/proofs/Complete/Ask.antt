-- Each ask is read as the one that it is, and what a variable is given.
use Rattle.std.proofs.Common.{◌≡◌, ℕ, zero, suc, ◌+◌, ◌≤◌, Bool, true, false, cond, List, [], ◌∷◌, ◌++◌, length, Option}
use Rattle.std.proofs.Common.{Some, None, Ok, refl, ap, sym, ◌∙◌, subst, arith, append_assoc, length-append}
use Rattle.tj_lex.specs.declared.token.Tok.{Tok}
use Rattle.tj_lex.specs.declared.token.Tok.TheVariants as toks
use Rattle.tj_lex.specs.declared.token.Key.{Key}
use Rattle.tj_lex.specs.declared.token.Key.TheVariants as k
use Rattle.tj_lex.specs.declared.token.Mark.TheVariants as m
use Rattle.tj_syntax.specs.declared.read_expr.Level.{Level}
use Rattle.tj_syntax.specs.declared.expr.RefOf.{RefOf}
use Rattle.tj_syntax.specs.declared.expr.RefOf.TheVariants as ref
use Rattle.tj_syntax.specs.declared.fault.Stop.{Stop}
use Rattle.tj_syntax.specs.Trees as tree
use Rattle.tj_syntax.specs.Trees.{Expression, Argument, Ask, Given}
use Rattle.tj_syntax.specs.Marks.{Name, Noted, fine, forks, key, mark, use_of, number_of}
use Rattle.tj_syntax.specs.Faults.{tokens_of}
use Rattle.tj_syntax.specs.Grammar as g
use Rattle.tj_syntax.specs.Grammar.{IsExpression, IsChain, IsOperand, IsUnary, IsArgument, IsMoreArguments, IsArguments}
use Rattle.tj_syntax.specs.Grammar.{IsReference, IsOr, IsAsk, IsGiven}
use Rattle.tj_syntax.specs.Inner.Input.{Head, Input, Outcome, and_then, first, skip, expect, eat, is_mark, variable}
use Rattle.tj_syntax.specs.Inner.Input.{head_named, flaw_at, first_flaw, note_fork, names_of}
use Rattle.tj_syntax.specs.Inner.Reading.{expression, separated_from, separated, argument_by, argument, reference}
use Rattle.tj_syntax.specs.Inner.Reading.{or_else, forked, fork, asked, ask, given_by, given}
use Rattle.tj_syntax.proofs.Taken.{flaw_after, first_flaw-none}
use Rattle.tj_syntax.proofs.Complete.Steps.{at, Does, then_does, mapped, nothing_read, fine_read, expect_does}
use Rattle.tj_syntax.proofs.Complete.Steps.{known_does, length-ahead, ahead-append}
use Rattle.tj_syntax.proofs.Complete.Expr.{IsBehind, expression_does}
use Rattle.tj_syntax.proofs.Complete.Forks.{AreQuiet, Done, quiet_done, mapped_done, quiet-append, quiet_key}
use Rattle.tj_syntax.proofs.Complete.Forks.{quiet_mark, quiet_use, quiet_expression, quiet_arguments}

-- whether an expression can begin with the token
abbrev pub begins : Option Tok → Bool
begins (Some (toks.Num n)) = true
begins (Some (toks.Name x)) = true
begins (Some (toks.Key k.Me)) = true
begins (Some (toks.Mark m.Minus)) = true
begins (Some (toks.Mark m.ParenOpen)) = true
begins _ = false

mutual
  chain_begins : {vars : List Name} {level : Level} {room : ℕ} {a : List Noted} {x : Expression}
      → IsChain vars level room a x
      → (rest : List Tok) → begins (first (tokens_of a ++ rest)) ≡ true
  chain_begins (g.operands {a = a} {b = b} p q) rest =
      ap (λ ts. begins (first ts)) (ahead-append a b rest) ∙ operand_begins p (tokens_of b ++ rest)

  operand_begins : {vars : List Name} {level : Level} {room : ℕ} {a : List Noted} {x : Expression}
      → IsOperand vars level room a x
      → (rest : List Tok) → begins (first (tokens_of a ++ rest)) ≡ true
  operand_begins (g.product c) rest = chain_begins c rest
  operand_begins (g.unary u) rest = unary_begins u rest

  unary_begins : {vars : List Name} {room : ℕ} {a : List Noted} {x : Expression} → IsUnary vars room a x
      → (rest : List Tok) → begins (first (tokens_of a ++ rest)) ≡ true
  unary_begins (g.signed u) rest = refl
  unary_begins e rest = refl

pub expression_begins : {vars : List Name} {room : ℕ} {a : List Noted} {x : Expression} → IsExpression vars room a x
    → (rest : List Tok) → begins (first (tokens_of a ++ rest)) ≡ true
expression_begins (g.alone c) rest = chain_begins c rest
expression_begins (g.compared {a = a} {b = b} r c d) rest =
    ap (λ ts. begins (first ts)) (ahead-append a (mark _ ∷ b) rest) ∙ chain_begins c _

-- the token is no closing parenthesis
no_close : (t : Option Tok) → begins t ≡ true → is_mark m.ParenClose t ≡ false
no_close t h = grind arith

as_value : (room : ℕ) (t : Option Tok) (i : Input) → begins t ≡ true
    → argument_by room t i ≡ and_then (expression room i) (λ x j. Ok (tree.value x, j))
as_value room t i h = grind arith

as_result : (room : ℕ) (t : Option Tok) (i : Input) → begins t ≡ true
    → given_by room t i ≡ and_then (expression room i) (λ x j. Ok (tree.result_of x, j))
as_result room t i h = grind arith

pub argument_does : (heads : List Head) {vars : List Name} {room : ℕ} {a : List Noted} {x : Argument}
    → IsArgument vars room a x
    → (rest : List Tok) (flaw : Option Stop) → IsBehind (first rest)
    → Does heads (argument room (at heads (tokens_of a ++ rest) vars flaw)) a rest vars flaw x
unfolding argument variable
argument_does heads {vars = vars} {room = room} (g.own x) rest flaw behind =
    then_does heads skip (λ _ i. and_then (variable i) (λ n j. Ok (tree.own n, j))) (key k.Own ∷ [])
    ((toks.Name x, use_of vars x) ∷ []) rest vars vars vars flaw flaw flaw tt (tree.own (number_of vars x))
    (fine_read heads (toks.Key k.Own) (toks.Name x ∷ rest) vars flaw tt)
    (mapped tree.own (known_does heads x rest vars flaw))
argument_does heads {vars = vars} {room = room} (g.value {a = a} {x = x} e) rest flaw behind =
    subst (λ r. Does heads r a rest vars flaw (tree.value x))
    (sym (as_value room (first (tokens_of a ++ rest)) (at heads (tokens_of a ++ rest) vars flaw)
    (expression_begins e rest)))
    (mapped tree.value (expression_does heads e rest flaw behind))

arguments_from : (heads : List Head) {vars : List Name} {room : ℕ} {a b : List Noted} {x : Argument}
    {xs : List Argument} → IsArgument vars room a x
    → IsMoreArguments vars room b xs → (n : ℕ) → length b + 1 ≤ n
    → (found : List Argument) (rest : List Tok) (flaw : Option Stop)
    → Does heads (separated_from (argument room) n found
    (at heads (tokens_of (a ++ b) ++ (toks.Mark m.ParenClose ∷ rest)) vars flaw)) (a ++ b)
    (toks.Mark m.ParenClose ∷ rest) vars flaw (found ++ x ∷ xs)
unfolding separated_from eat
arguments_from heads p q zero h found rest flaw = absurd (omega arith)
arguments_from heads {vars = vars} {room = room} {a = a} {x = x} p g.arguments_end (suc n) h found rest flaw =
    then_does heads (argument room)
    (λ y i. and_then (eat m.Comma i) (λ more. cond more (separated_from (argument room) n (found ++ y ∷ []))
    (λ j. Ok (found ++ y ∷ [], j))))
    a [] (toks.Mark m.ParenClose ∷ rest) vars vars vars flaw flaw flaw x (found ++ x ∷ [])
    (argument_does heads p (toks.Mark m.ParenClose ∷ rest) flaw (record { ends = (refl, refl); no_relation = refl }))
    (nothing_read heads (toks.Mark m.ParenClose ∷ rest) vars flaw (found ++ x ∷ []))
arguments_from heads {vars = vars} {room = room} {a = a} {x = x} p
    (g.arguments_more {a = c} {b = d} {x = y} {xs = ys} q r) (suc n) h found rest flaw =
    then_does heads (argument room)
    (λ z i. and_then (eat m.Comma i) (λ more. cond more (separated_from (argument room) n (found ++ z ∷ []))
    (λ j. Ok (found ++ z ∷ [], j))))
    a (mark m.Comma ∷ (c ++ d)) (toks.Mark m.ParenClose ∷ rest) vars vars vars flaw flaw flaw x (found ++ x ∷ y ∷ ys)
    (argument_does heads p (toks.Mark m.Comma ∷ (tokens_of (c ++ d) ++ (toks.Mark m.ParenClose ∷ rest))) flaw
    (record { ends = (refl, refl); no_relation = refl }))
    (then_does heads (eat m.Comma) (λ more. cond more (separated_from (argument room) n (found ++ x ∷ []))
    (λ j. Ok (found ++ x ∷ [], j)))
    (mark m.Comma ∷ []) (c ++ d) (toks.Mark m.ParenClose ∷ rest) vars vars vars flaw flaw flaw true
    (found ++ x ∷ y ∷ ys)
    (fine_read heads (toks.Mark m.Comma) (tokens_of (c ++ d) ++ (toks.Mark m.ParenClose ∷ rest)) vars flaw true)
    (subst (λ l. Does heads (separated_from (argument room) n (found ++ x ∷ [])
    (at heads (tokens_of (c ++ d) ++ (toks.Mark m.ParenClose ∷ rest)) vars flaw)) (c ++ d)
    (toks.Mark m.ParenClose ∷ rest) vars flaw l) (append_assoc found (x ∷ []) (y ∷ ys))
    (arguments_from heads q r n (omega (arith, length-append c d)) (found ++ x ∷ []) rest flaw)))

argument_opens : {vars : List Name} {room : ℕ} {a : List Noted} {x : Argument} → IsArgument vars room a x
    → (rest : List Tok)
    → is_mark m.ParenClose (first (tokens_of a ++ rest)) ≡ false
argument_opens (g.own x) rest = refl
argument_opens (g.value {a = a} e) rest = no_close (first (tokens_of a ++ rest)) (expression_begins e rest)

pub arguments_does : (heads : List Head) {vars : List Name} {room : ℕ} {a : List Noted} {xs : List Argument}
    → IsArguments vars room a xs
    → (rest : List Tok) (flaw : Option Stop)
    → Does heads (separated (argument room) (at heads (tokens_of a ++ (toks.Mark m.ParenClose ∷ rest)) vars flaw)) a
    (toks.Mark m.ParenClose ∷ rest) vars flaw xs
unfolding separated
arguments_does heads {vars = vars} g.no_arguments rest flaw = nothing_read heads
    (toks.Mark m.ParenClose ∷ rest) vars flaw []
arguments_does heads {vars = vars} {room = room} (g.arguments {a = a} {b = b} {x = x} {xs = xs} p q) rest flaw =
    let ts = tokens_of (a ++ b) ++ (toks.Mark m.ParenClose ∷ rest) in
    let opens : is_mark m.ParenClose (first ts) ≡ false =
    ap (λ l. is_mark m.ParenClose (first l)) (ahead-append a b (toks.Mark m.ParenClose ∷ rest))
    ∙ argument_opens p (tokens_of b ++ (toks.Mark m.ParenClose ∷ rest)) in
    let size : length ts ≡ length (a ++ b) + length (toks.Mark m.ParenClose ∷ rest) =
    length-ahead (a ++ b) (toks.Mark m.ParenClose ∷ rest) in
    subst (λ t. Does heads (cond t (Ok ([], at heads ts vars flaw))
    (separated_from (argument room) (length ts) [] (at heads ts vars flaw))) (a ++ b)
    (toks.Mark m.ParenClose ∷ rest) vars flaw (x ∷ xs))
    (sym opens)
    (arguments_from heads p q (length ts) (omega (arith, length-append a b, size)) [] rest flaw)

pub reference_does : (heads : List Head) {vars : List Name} {a : List Noted} {r : RefOf} → IsReference vars a r
    → (rest : List Tok) (flaw : Option Stop) → Does heads
    (reference (at heads (tokens_of a ++ rest) vars flaw)) a rest vars flaw r
unfolding reference
reference_does heads {vars = vars} (g.reference_name x) rest flaw = mapped ref.Var (known_does heads x rest vars flaw)
reference_does heads {vars = vars} g.reference_me rest flaw = fine_read heads (toks.Key k.Me) rest vars flaw ref.Me

pub or_does : (heads : List Head) {vars : List Name} {room : ℕ} {a : List Noted} {x : Option Expression}
    → IsOr vars room a x
    → (rest : List Tok) (flaw : Option Stop)
    → Does heads (or_else room (at heads (tokens_of a ++ (toks.Mark m.Semi ∷ rest)) vars flaw)) a
    (toks.Mark m.Semi ∷ rest) vars flaw x
unfolding or_else
or_does heads {vars = vars} g.no_or rest flaw = nothing_read heads (toks.Mark m.Semi ∷ rest) vars flaw None
or_does heads {vars = vars} {room = room} (g.or_else {a = a} {x = x} e) rest flaw =
    then_does heads skip (λ _ i. and_then (expression room i) (λ y j. Ok (Some y, j))) (key k.Or ∷ []) a
    (toks.Mark m.Semi ∷ rest) vars vars vars flaw flaw flaw tt (Some x)
    (fine_read heads (toks.Key k.Or) (tokens_of a ++ (toks.Mark m.Semi ∷ rest)) vars flaw tt)
    (mapped Some (expression_does heads e (toks.Mark m.Semi ∷ rest) flaw
    (record { ends = (refl, refl); no_relation = refl })))

pub asked_does : (heads : List Head) {vars : List Name} {room : ℕ} {a b : List Noted} {r : RefOf}
    {x : Option Expression} → IsReference vars a r
    → IsOr vars room b x → (rest : List Tok) (flaw : Option Stop)
    → Does heads (asked room (at heads (tokens_of (a ++ b) ++ (toks.Mark m.Semi ∷ rest)) vars flaw)) (a ++ b)
    (toks.Mark m.Semi ∷ rest) vars flaw (r, x)
unfolding asked
asked_does heads {vars = vars} {room = room} {a = a} {b = b} {r = r} {x = x} p q rest flaw =
    then_does heads reference (λ s i. and_then (or_else room i) (λ y j. Ok ((s, y), j))) a b
    (toks.Mark m.Semi ∷ rest) vars vars vars flaw flaw flaw r (r, x)
    (reference_does heads p (tokens_of b ++ (toks.Mark m.Semi ∷ rest)) flaw)
    (mapped (λ y. (r, y)) (or_does heads q rest flaw))

quiet_reference : {vars : List Name} {a : List Noted} {r : RefOf} → IsReference vars a r → AreQuiet a
quiet_reference {vars = vars} (g.reference_name x) = quiet_use vars x
quiet_reference g.reference_me = quiet_key k.Me

quiet_or : {vars : List Name} {room : ℕ} {a : List Noted} {x : Option Expression} → IsOr vars room a x → AreQuiet a
quiet_or g.no_or = λ heads left flaw. refl
quiet_or (g.or_else {a = a} e) = quiet-append (key k.Or ∷ []) a (quiet_key k.Or) (quiet_expression e)

-- the name of a forked task is taken
forked_does : (heads : List Head) (f : Name) (count : ℕ) (rest : List Tok) (vars : List Name) (flaw : Option Stop)
    → Does heads (forked (at heads (toks.Name f ∷ rest) vars flaw)) ((toks.Name f, forks count) ∷ []) rest vars flaw
    (f, suc (length rest))
unfolding forked
forked_does heads f count rest vars flaw = record { reads = λ h. refl; stops = λ s h. absurd (cc) }

-- the fault of a fork with these arguments, where so much is behind its name
fork_flaw : (heads : List Head) (f : Name) (count : ℕ) (a : List Noted) (left : ℕ) (flaw : Option Stop) → AreQuiet a
    → flaw_after heads (key k.Fork ∷ (toks.Name f, forks count) ∷ a) left flaw
    ≡ first_flaw flaw (flaw_at (head_named heads f) (suc (length a + left)) count)
fork_flaw heads f count a left flaw quiet =
    quiet heads left _
    ∙ ap (λ o. first_flaw o (flaw_at (head_named heads f) (suc (length a + left)) count)) (first_flaw-none flaw)

fork_noted : (heads : List Head) (f : Name) (left count : ℕ) (args : List Argument) (rest : List Tok)
    (vars : List Name) (flaw : Option Stop)
    → Does heads (note_fork f left count (at heads rest vars flaw)) [] rest vars
    (first_flaw flaw (flaw_at (head_named heads f) left count)) (number_of (names_of heads) f)
unfolding note_fork
fork_noted heads f left count args rest vars flaw = record { reads = λ h. refl; stops = λ s h. absurd (cc) }

fork_does : (heads : List Head) (vars : List Name) (room : ℕ) (a : List Noted) (args : List Argument) (f : Name)
    → IsArguments vars room a args
    → (rest : List Tok) (flaw : Option Stop)
    → Done heads (ask room (at heads (tokens_of
    (key k.Fork ∷ (toks.Name f, forks (length args)) ∷ mark m.ParenOpen ∷ (a ++ mark m.ParenClose ∷ [])) ++ rest)
    vars flaw))
    (key k.Fork ∷ (toks.Name f, forks (length args)) ∷ mark m.ParenOpen ∷ (a ++ mark m.ParenClose ∷ [])) rest vars flaw
    (first_flaw flaw (flaw_at (head_named heads f)
    (suc (length (tokens_of (mark m.ParenOpen ∷ (a ++ mark m.ParenClose ∷ [])) ++ rest))) (length args)))
    (tree.fork (number_of (names_of heads) f) args)
unfolding ask fork
fork_does heads vars room a args f p rest flaw =
    let inner = mark m.ParenOpen ∷ (a ++ mark m.ParenClose ∷ []) in
    let left = suc (length (tokens_of inner ++ rest)) in
    let out = first_flaw flaw (flaw_at (head_named heads f) left (length args)) in
    let n = number_of (names_of heads) f in
    record {
      does =
          then_does heads skip (λ _ i. fork room i) (key k.Fork ∷ [])
          ((toks.Name f, forks (length args)) ∷ inner) rest vars vars vars flaw flaw out tt (tree.fork n args)
          (fine_read heads (toks.Key k.Fork) (toks.Name f ∷ (tokens_of inner ++ rest)) vars flaw tt)
          (then_does heads forked
          (λ g i. and_then (expect m.ParenOpen i)
          (λ _ j. and_then (separated (argument room) j)
          (λ xs l. and_then (expect m.ParenClose l)
          (λ _ o. and_then (note_fork g.0 g.1 (length xs) o) (λ c q. Ok (tree.fork c xs, q))))))
          ((toks.Name f, forks (length args)) ∷ []) inner rest vars vars vars flaw flaw out (f, left) (tree.fork n args)
          (forked_does heads f (length args) (tokens_of inner ++ rest) vars flaw)
          (then_does heads (expect m.ParenOpen)
          (λ _ j. and_then (separated (argument room) j)
          (λ xs l. and_then (expect m.ParenClose l)
          (λ _ o. and_then (note_fork f left (length xs) o) (λ c q. Ok (tree.fork c xs, q)))))
          (mark m.ParenOpen ∷ []) (a ++ mark m.ParenClose ∷ []) rest vars vars vars flaw flaw out tt (tree.fork n args)
          (expect_does heads m.ParenOpen (tokens_of (a ++ mark m.ParenClose ∷ []) ++ rest) vars flaw)
          (then_does heads (separated (argument room))
          (λ xs l. and_then (expect m.ParenClose l)
          (λ _ o. and_then (note_fork f left (length xs) o) (λ c q. Ok (tree.fork c xs, q))))
          a (mark m.ParenClose ∷ []) rest vars vars vars flaw flaw out args (tree.fork n args)
          (arguments_does heads p rest flaw)
          (then_does heads (expect m.ParenClose)
          (λ _ o. and_then (note_fork f left (length args) o) (λ c q. Ok (tree.fork c args, q)))
          (mark m.ParenClose ∷ []) [] rest vars vars vars flaw flaw out tt (tree.fork n args)
          (expect_does heads m.ParenClose rest vars flaw)
          (mapped (λ c. tree.fork c args) (fork_noted heads f left (length args) args rest vars flaw))))));
      forks =
          fork_flaw heads f (length args) inner (length rest) flaw
          (quiet-append (mark m.ParenOpen ∷ []) (a ++ mark m.ParenClose ∷ []) (quiet_mark m.ParenOpen fine)
          (quiet-append a (mark m.ParenClose ∷ []) (quiet_arguments p) (quiet_mark m.ParenClose fine)))
          ∙ ap (λ c. first_flaw flaw (flaw_at (head_named heads f) (suc c) (length args)))
          (sym (length-ahead inner rest));
    }

-- some fault of a fork is known behind what is read
pub record Reads {A : Type 0} (heads : List Head) (outcome : Outcome A) (notes : List Noted) (rest : List Tok)
    (vars : List Name)
    (before : Option Stop) (x : A) : Type 0 where
  pub behind : Option Stop
  pub done : Done heads outcome notes rest vars before behind x

-- a keyword with a reference behind it, and what is computed where the cell is broken
key_asked : (heads : List Head) {vars : List Name} {room : ℕ} {a b : List Noted} {r : RefOf} {x : Option Expression}
    (w : Key) (make : RefOf → Option Expression → Ask) → IsReference vars a r → IsOr vars room b x
    → (rest : List Tok) (flaw : Option Stop)
    → Reads heads (and_then (skip (at heads (toks.Key w ∷ (tokens_of (a ++ b) ++ (toks.Mark m.Semi ∷ rest))) vars
    flaw)) (λ _ i. and_then (asked room i) (λ y j. Ok (make y.0 y.1, j))))
    (key w ∷ (a ++ b)) (toks.Mark m.Semi ∷ rest) vars flaw (make r x)
key_asked heads {vars = vars} {room = room} {a = a} {b = b} {r = r} {x = x} w make p q rest flaw = record {
  behind = flaw;
  done = quiet_done (quiet-append (key w ∷ []) (a ++ b) (quiet_key w)
      (quiet-append a b (quiet_reference p) (quiet_or q)))
      (then_does heads skip (λ _ i. and_then (asked room i) (λ y j. Ok (make y.0 y.1, j))) (key w ∷ [])
      (a ++ b) (toks.Mark m.Semi ∷ rest) vars vars vars flaw flaw flaw tt (make r x)
      (fine_read heads (toks.Key w) (tokens_of (a ++ b) ++ (toks.Mark m.Semi ∷ rest)) vars flaw tt)
      (mapped (λ y. make y.0 y.1) (asked_does heads p q rest flaw)));
}

pub ask_does : (heads : List Head) {vars : List Name} {room : ℕ} {a : List Noted} {x : Ask}
    → IsAsk (names_of heads) vars room a x
    → (rest : List Tok) (flaw : Option Stop)
    → Reads heads (ask room (at heads (tokens_of a ++ (toks.Mark m.Semi ∷ rest)) vars flaw)) a
    (toks.Mark m.Semi ∷ rest) vars flaw x
unfolding ask
ask_does heads {vars = vars} g.new rest flaw =
    record {
      behind = flaw;
      done = quiet_done (quiet_key k.New)
          (fine_read heads (toks.Key k.New) (toks.Mark m.Semi ∷ rest) vars flaw tree.new);
    }
ask_does heads {vars = vars} {room = room} (g.fork {a = a} {args = args} f p) rest flaw =
    record { behind = _; done = fork_does heads vars room a args f p (toks.Mark m.Semi ∷ rest) flaw }
ask_does heads (g.get p q) rest flaw = key_asked heads k.Get tree.get p q rest flaw
ask_does heads (g.join p q) rest flaw = key_asked heads k.Join tree.join p q rest flaw

as_answer : (heads : List Head) {vars : List Name} {room : ℕ} {a : List Noted} {x : Ask}
    → IsAsk (names_of heads) vars room a x
    → (rest : List Tok) (i : Input) → given_by room (first (tokens_of a ++ rest)) i ≡ and_then (ask room i)
    (λ x j. Ok (tree.answer x, j))
as_answer heads g.new rest i = refl
as_answer heads p rest i = refl

pub given_does : (heads : List Head) {vars : List Name} {room : ℕ} {a : List Noted} {side : Given}
    → IsGiven (names_of heads) vars room a side
    → (rest : List Tok) (flaw : Option Stop)
    → Reads heads (given room (at heads (tokens_of a ++ (toks.Mark m.Semi ∷ rest)) vars flaw)) a
    (toks.Mark m.Semi ∷ rest) vars flaw side
unfolding given
given_does heads {vars = vars} {room = room} (g.answer {a = a} {ask = x} p) rest flaw =
    let d = ask_does heads p rest flaw in
    record {
      behind = d.behind;
      done = subst (λ r. Done heads r a (toks.Mark m.Semi ∷ rest) vars flaw d.behind (tree.answer x))
          (sym (as_answer heads p (toks.Mark m.Semi ∷ rest)
          (at heads (tokens_of a ++ (toks.Mark m.Semi ∷ rest)) vars flaw)))
          (mapped_done tree.answer d.done);
    }
given_does heads {vars = vars} {room = room} (g.result_of {a = a} {x = x} e) rest flaw = record {
  behind = flaw;
  done = subst (λ r. Done heads r a (toks.Mark m.Semi ∷ rest) vars flaw flaw (tree.result_of x))
      (sym (as_result room (first (tokens_of a ++ (toks.Mark m.Semi ∷ rest)))
      (at heads (tokens_of a ++ (toks.Mark m.Semi ∷ rest)) vars flaw) (expression_begins e (toks.Mark m.Semi ∷ rest))))
      (mapped_done tree.result_of
      (quiet_done (quiet_expression e) (expression_does heads e (toks.Mark m.Semi ∷ rest) flaw
      (record { ends = (refl, refl); no_relation = refl }))));
}
