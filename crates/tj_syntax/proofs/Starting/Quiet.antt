-- In an expression no statement, ask or task begins, and none does behind the first token of an ask.
use Rattle.std.proofs.Common.{◌≡◌, ℕ, suc, ◌+◌, false, List, [], ◌∷◌, ◌++◌, length, Option, refl, ap, ◌∙◌, arith}
use Rattle.std.specs.List.{AllByRecursion}
use Rattle.tj_lex.specs.declared.token.Tok.{Tok}
use Rattle.tj_syntax.specs.declared.read_expr.Level.{Level}
use Rattle.tj_syntax.specs.declared.expr.Op.{Op}
use Rattle.tj_syntax.specs.declared.expr.Op.TheVariants as op
use Rattle.tj_syntax.specs.declared.expr.Rel.{Rel}
use Rattle.tj_syntax.specs.declared.expr.Rel.TheVariants as rel
use Rattle.tj_syntax.specs.declared.expr.RefOf.{RefOf}
use Rattle.tj_syntax.specs.Trees.{Expression, Pairs, Argument, Ask, Given}
use Rattle.tj_syntax.specs.Marks.{Name, Noted, mark}
use Rattle.tj_syntax.specs.Faults.{tokens_of}
use Rattle.tj_syntax.specs.Grammar as g
use Rattle.tj_syntax.specs.Grammar.{op_mark, rel_mark, IsExpression, IsChain, IsPairs, IsOperand, IsUnary, IsArgument}
use Rattle.tj_syntax.specs.Grammar.{IsMoreArguments, IsArguments, IsReference, IsOr, IsAsk, IsGiven, IsMoreParams}
use Rattle.tj_syntax.specs.Grammar.{IsParams}
use Rattle.tj_syntax.specs.Inner.Scan.{is_behind, ends_part, begins_ask, statements_from}

-- nothing begins at the token, and no statement behind it
abbrev pub IsQuiet : Noted → Type 0
IsQuiet n = (is_behind n.0 ≡ false) × (ends_part n.0 ≡ false) × (begins_ask n.0 ≡ false)

-- they are all so
abbrev pub AreQuiet : List Noted → Type 0
AreQuiet = AllByRecursion IsQuiet

pub quiet-append : (a b : List Noted) → AreQuiet a → AreQuiet b → AreQuiet (a ++ b)
quiet-append [] b h k = k
quiet-append (n ∷ a) b h k = (h.0, quiet-append a b h.1 k)

quiet_op : (o : Op) → IsQuiet (mark (op_mark o))
quiet_op op.Plus = (refl, refl, refl)
quiet_op o = (refl, refl, refl)

quiet_rel : (r : Rel) → IsQuiet (mark (rel_mark r))
quiet_rel rel.Eq = (refl, refl, refl)
quiet_rel r = (refl, refl, refl)

mutual
  pub expression_quiet : {vars : List Name} {room : ℕ} {a : List Noted} {x : Expression}
      → IsExpression vars room a x → AreQuiet a
  expression_quiet (g.alone c) = chain_quiet c
  expression_quiet (g.compared {a = a} {b = b} r c d) =
      quiet-append a (mark (rel_mark r) ∷ b) (chain_quiet c) (quiet_rel r, chain_quiet d)

  chain_quiet : {vars : List Name} {level : Level} {room : ℕ} {a : List Noted} {x : Expression}
      → IsChain vars level room a x → AreQuiet a
  chain_quiet (g.operands {a = a} {b = b} p q) = quiet-append a b (operand_quiet p) (pairs_quiet q)

  pairs_quiet : {vars : List Name} {level : Level} {room : ℕ} {a : List Noted} {ps : Pairs}
      → IsPairs vars level room a ps → AreQuiet a
  pairs_quiet g.pairs_end = tt
  pairs_quiet (g.pairs_more {a = a} {b = b} o e p q) =
      (quiet_op o, quiet-append a b (operand_quiet p) (pairs_quiet q))

  operand_quiet : {vars : List Name} {level : Level} {room : ℕ} {a : List Noted} {x : Expression}
      → IsOperand vars level room a x → AreQuiet a
  operand_quiet (g.product c) = chain_quiet c
  operand_quiet (g.unary u) = unary_quiet u

  unary_quiet : {vars : List Name} {room : ℕ} {a : List Noted} {x : Expression} → IsUnary vars room a x → AreQuiet a
  unary_quiet (g.signed u) = ((refl, refl, refl), unary_quiet u)
  unary_quiet (g.grouped {a = a} e) =
      ((refl, refl, refl), quiet-append a (_ ∷ []) (expression_quiet e) ((refl, refl, refl), tt))
  unary_quiet p = ((refl, refl, refl), tt)

argument_quiet : {vars : List Name} {room : ℕ} {a : List Noted} {x : Argument} → IsArgument vars room a x → AreQuiet a
argument_quiet (g.own x) = ((refl, refl, refl), ((refl, refl, refl), tt))
argument_quiet (g.value e) = expression_quiet e

more_arguments_quiet : {vars : List Name} {room : ℕ} {a : List Noted} {xs : List Argument}
    → IsMoreArguments vars room a xs → AreQuiet a
more_arguments_quiet g.arguments_end = tt
more_arguments_quiet (g.arguments_more {a = a} {b = b} p q) =
    ((refl, refl, refl), quiet-append a b (argument_quiet p) (more_arguments_quiet q))

pub arguments_quiet : {vars : List Name} {room : ℕ} {a : List Noted} {xs : List Argument}
    → IsArguments vars room a xs → AreQuiet a
arguments_quiet g.no_arguments = tt
arguments_quiet (g.arguments {a = a} {b = b} p q) = quiet-append a b (argument_quiet p) (more_arguments_quiet q)

pub reference_quiet : {vars : List Name} {a : List Noted} {r : RefOf} → IsReference vars a r → AreQuiet a
reference_quiet (g.reference_name x) = ((refl, refl, refl), tt)
reference_quiet g.reference_me = ((refl, refl, refl), tt)

pub or_quiet : {vars : List Name} {room : ℕ} {a : List Noted} {o : Option Expression} → IsOr vars room a o
    → AreQuiet a
or_quiet g.no_or = tt
or_quiet (g.or_else e) = ((refl, refl, refl), expression_quiet e)

more_params_quiet : {earlier all : List Name} {a : List Noted} → IsMoreParams earlier a all → AreQuiet a
more_params_quiet g.params_end = tt
more_params_quiet (g.params_more x p) = ((refl, refl, refl), ((refl, refl, refl), more_params_quiet p))

pub params_quiet : {all : List Name} {a : List Noted} → IsParams a all → AreQuiet a
params_quiet g.no_params = tt
params_quiet (g.params x p) = ((refl, refl, refl), more_params_quiet p)

-- no statement begins at the token or behind it, where none may begin in front of it
abbrev pub IsSteady : Noted → Type 0
IsSteady n = (is_behind n.0 ≡ false) × (ends_part n.0 ≡ false)

-- they are all so
abbrev pub AreSteady : List Noted → Type 0
AreSteady = AllByRecursion IsSteady

pub steady-append : (a b : List Noted) → AreSteady a → AreSteady b → AreSteady (a ++ b)
steady-append [] b h k = k
steady-append (n ∷ a) b h k = (h.0, steady-append a b h.1 k)

pub steady : (a : List Noted) → AreQuiet a → AreSteady a
steady [] h = tt
steady (n ∷ a) h = ((h.0.0, h.0.1), steady a h.1)

pub ask_steady : {tasks vars : List Name} {room : ℕ} {a : List Noted} {q : Ask} → IsAsk tasks vars room a q
    → AreSteady a
ask_steady g.new = ((refl, refl), tt)
ask_steady (g.fork {a = a} f p) = (
  (refl, refl),
  (
    (refl, refl),
    (
      (refl, refl),
      steady-append a (_ ∷ []) (steady a (arguments_quiet p))
          ((refl, refl), tt),
    ),
  ),
)
ask_steady (g.get {a = a} {b = b} p q) =
    ((refl, refl), steady-append a b (steady a (reference_quiet p)) (steady b (or_quiet q)))
ask_steady (g.join {a = a} {b = b} p q) =
    ((refl, refl), steady-append a b (steady a (reference_quiet p)) (steady b (or_quiet q)))

pub given_steady : {tasks vars : List Name} {room : ℕ} {a : List Noted} {x : Given} → IsGiven tasks vars room a x
    → AreSteady a
given_steady (g.answer p) = ask_steady p
given_steady (g.result_of {a = a} e) = steady a (expression_quiet e)

-- over such tokens no statement begins, and none may begin behind them
pub over_steady : (a : List Noted) → AreSteady a → (k n : ℕ) → k + length a ≡ n → (more : List Tok)
    → statements_from false k (tokens_of a ++ more) ≡ statements_from false n more
over_steady [] h k n e more = let same : k ≡ n = omega arith in ap (λ i. statements_from false i more) same
over_steady (t ∷ a) h k n e more =
    let count : suc k + length a ≡ n = omega arith in
    step t.0 (tokens_of a ++ more) h.0.0 h.0.1 ∙ over_steady a h.1 (suc k) n count more
  where
    step : (t : Tok) (rest : List Tok) → is_behind t ≡ false → ends_part t ≡ false
        → statements_from false k (t ∷ rest) ≡ statements_from false (suc k) rest
    step t rest e f = rw (e, f)
