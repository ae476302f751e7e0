-- Each expression is read as the one that it is.
use Rattle.std.proofs.Common.{◌≡◌, ℕ, zero, suc, ◌-◌, ◌≤◌, List, [], ◌∷◌, ◌++◌, length, Option, Some, None, Ok, refl}
use Rattle.std.proofs.Common.{ap, subst, arith, append_assoc, length-append}
use Rattle.std.proofs.lemmas.List.{append-nil}
use Rattle.tj_lex.specs.declared.token.Tok.{Tok}
use Rattle.tj_lex.specs.declared.token.Tok.TheVariants as toks
use Rattle.tj_lex.specs.declared.token.Key.TheVariants as k
use Rattle.tj_lex.specs.declared.token.Mark.TheVariants as m
use Rattle.tj_syntax.specs.declared.read_expr.Level.{Level}
use Rattle.tj_syntax.specs.declared.read_expr.Level.TheVariants.{Sums as sums, Products as products}
use Rattle.tj_syntax.specs.declared.expr.Op.{Op}
use Rattle.tj_syntax.specs.declared.expr.Op.TheVariants as op
use Rattle.tj_syntax.specs.declared.expr.Rel.{Rel}
use Rattle.tj_syntax.specs.declared.expr.Rel.TheVariants as rel
use Rattle.tj_syntax.specs.declared.fault.Stop.{Stop}
use Rattle.tj_syntax.specs.Trees as tree
use Rattle.tj_syntax.specs.Trees.{Expression, Pairs}
use Rattle.tj_syntax.specs.Marks.{Name, Noted, mark, opening, within}
use Rattle.tj_syntax.specs.Faults.{tokens_of}
use Rattle.tj_syntax.specs.Grammar.{level_of, op_mark, rel_mark, chain_of, IsExpression, alone, compared, IsChain}
use Rattle.tj_syntax.specs.Grammar.{operands, IsPairs, pairs_end, pairs_more, IsOperand, product, unary as one_unary}
use Rattle.tj_syntax.specs.Grammar.{IsUnary, signed, number, name, me, grouped}
use Rattle.tj_syntax.specs.View.{pairs_of}
use Rattle.tj_syntax.specs.Inner.Input.{Head, Parser, and_then, first, skip, expect, open_level}
use Rattle.tj_syntax.specs.Inner.Reading.{operator, relation, PairList, pairs_from, pairs, chain, comparison_by}
use Rattle.tj_syntax.specs.Inner.Reading.{expression_over, sum_over, unary_by, unary, operand, expression}
use Rattle.tj_syntax.proofs.Unrolls.{unary-is}
use Rattle.tj_syntax.proofs.Complete.Steps.{at, Does, then_does, mapped, nothing_read, fine_read, expect_does}
use Rattle.tj_syntax.proofs.Complete.Steps.{open_does, known_does, length-ahead}

-- no pair of a level begins at the token, nor one of a level within
abbrev pub Ends : Level → Option Tok → Type 0
Ends sums t = (operator sums t ≡ None) × (operator products t ≡ None)
Ends products t = operator products t ≡ None

-- what an operand of a level ends before
abbrev pub OperandEnds : Level → Option Tok → Type 0
OperandEnds sums t = operator products t ≡ None
OperandEnds products t = Unit {0}

-- nothing of an expression goes on at the token
pub record IsBehind (t : Option Tok) : Type 0 where
  pub ends : Ends sums t
  pub no_relation : relation t ≡ None

operand_before : (level : Level) (t : Option Tok) → Ends level t → OperandEnds level t
operand_before sums t h = h.1
operand_before products t h = tt

operand_before_operator : (level : Level) (o : Op) → level_of o ≡ level
    → OperandEnds level (Some (toks.Mark (op_mark o)))
operand_before_operator sums op.Plus e = refl
operand_before_operator sums op.Minus e = refl
operand_before_operator sums op.Times e = absurd (cc)
operand_before_operator sums op.Over e = absurd (cc)
operand_before_operator sums op.Rest e = absurd (cc)
operand_before_operator products o e = tt

operator-is : (level : Level) (o : Op) → level_of o ≡ level → operator level (Some (toks.Mark (op_mark o))) ≡ Some o
operator-is sums op.Plus e = refl
operator-is sums op.Minus e = refl
operator-is sums op.Times e = absurd (cc)
operator-is sums op.Over e = absurd (cc)
operator-is sums op.Rest e = absurd (cc)
operator-is products op.Plus e = absurd (cc)
operator-is products op.Minus e = absurd (cc)
operator-is products op.Times e = refl
operator-is products op.Over e = refl
operator-is products op.Rest e = refl

relation-is : (r : Rel) → relation (Some (toks.Mark (rel_mark r))) ≡ Some r
relation-is rel.Eq = refl
relation-is r = refl

ends_before_relation : (r : Rel) → Ends sums (Some (toks.Mark (rel_mark r)))
ends_before_relation rel.Eq = (refl, refl)
ends_before_relation r = (refl, refl)

pairs_front : {vars : List Name} {level : Level} {room : ℕ} {b : List Noted} {ps : Pairs} → IsPairs vars level room b ps
    → (rest : List Tok) → Ends level (first rest) → OperandEnds level (first (tokens_of b ++ rest))
pairs_front {level = level} pairs_end rest h = operand_before level (first rest) h
pairs_front {level = level} (pairs_more o e p q) rest h = operand_before_operator level o e

ends_alone : (level : Level) (t : Option Tok) → Ends level t → operator level t ≡ None
ends_alone sums t h = h.0
ends_alone products t h = h

-- the pairs as a list
abbrev pub list_of : Pairs → PairList
list_of tree.no_pairs = []
list_of (tree.pair o y more) = (o, y) ∷ list_of more

pairs-list : (ps : Pairs) → pairs_of (list_of ps) ≡ ps
pairs-list tree.no_pairs = refl
pairs-list (tree.pair o y more) = ap (λ ps. tree.pair o y ps) (pairs-list more)

-- no more pairs
pairs_stop : (heads : List Head) (item : Parser Expression) (level : Level) (n : ℕ) (found : PairList)
    (rest : List Tok) (vars : List Name) (flaw : Option Stop)
    → operator level (first rest) ≡ None
    → Does heads (pairs_from item level n found (at heads rest vars flaw)) [] rest vars flaw (found ++ [])
unfolding pairs_from
pairs_stop heads item level zero found rest vars flaw e =
    rw (append-nil found) (nothing_read heads rest vars flaw found)
pairs_stop heads item level (suc n) found rest vars flaw e =
    rw (e, append-nil found) (nothing_read heads rest vars flaw found)

-- what is read of a unary in any case, at an opened level
unary_opens : (heads : List Head) (room : ℕ) (t : Tok) (ts : List Tok) (vars : List Name) (flaw : Option Stop)
    (a : List Noted) (rest : List Tok) (x : Expression)
    → Does heads (unary_by (unary (room - 1)) (expression (room - 1)) room (Some t) (at heads (t ∷ ts) vars flaw)) a
    rest vars flaw x
    → Does heads (unary room (at heads (t ∷ ts) vars flaw)) a rest vars flaw x
unary_opens heads room t ts vars flaw a rest x d = rw (unary-is room (at heads (t ∷ ts) vars flaw)) d

pub within-is : (room : ℕ) → within room ≡ room - 1
within-is zero = omega arith
within-is (suc room) = omega arith

mutual
  unfolding expression_over chain pairs pairs_from

  pub expression_does : (heads : List Head) {vars : List Name} {room : ℕ} {a : List Noted} {x : Expression}
      → IsExpression vars room a x
      → (rest : List Tok) (flaw : Option Stop) → IsBehind (first rest)
      → Does heads (expression room (at heads (tokens_of a ++ rest) vars flaw)) a rest vars flaw x
  expression_does heads {vars = vars} {room = room} {x = x} (alone {a = a} c) rest flaw behind =
      subst (λ b. Does heads (expression room (at heads (tokens_of b ++ rest) vars flaw)) b rest vars flaw x)
      (append-nil a)
      (then_does heads (sum_over (unary room))
      (λ y i. comparison_by (sum_over (unary room)) y (relation (first i.ahead)) i) a [] rest vars vars vars flaw
      flaw flaw x x
      (chain_does heads c rest flaw behind.ends)
      (rw behind.no_relation (nothing_read heads rest vars flaw x)))
  expression_does heads {vars = vars} {room = room} (compared {a = a} {b = b} {x = x} {y = y} r c d) rest flaw behind =
      then_does heads (sum_over (unary room))
      (λ z i. comparison_by (sum_over (unary room)) z (relation (first i.ahead)) i) a
      (mark (rel_mark r) ∷ b) rest vars vars vars
      flaw flaw flaw x (tree.comparison r x y)
      (chain_does heads c (toks.Mark (rel_mark r) ∷ (tokens_of b ++ rest)) flaw (ends_before_relation r))
      (rw (relation-is r)
      (then_does heads skip (λ _ i. and_then (sum_over (unary room) i) (λ z j. Ok (tree.comparison r x z, j)))
      (mark (rel_mark r) ∷ []) b rest vars vars vars flaw flaw flaw tt (tree.comparison r x y)
      (fine_read heads (toks.Mark (rel_mark r)) (tokens_of b ++ rest) vars flaw tt)
      (mapped (tree.comparison r x) (chain_does heads d rest flaw behind.ends))))

  pub chain_does : (heads : List Head) {vars : List Name} {level : Level} {room : ℕ} {a : List Noted}
      {x : Expression} → IsChain vars level room a x
      → (rest : List Tok) (flaw : Option Stop) → Ends level (first rest)
      → Does heads (chain (operand room level) level (at heads (tokens_of a ++ rest) vars flaw)) a rest vars flaw x
  chain_does heads {vars = vars} {level = level} {room = room}
      (operands {a = a} {b = b} {x = x} {pairs = ps} p q) rest flaw ends =
      then_does heads (operand room level)
      (λ y i. and_then (pairs_from (operand room level) level (length i.ahead) [] i)
      (λ found j. Ok (chain_of y (pairs_of found), j)))
      a b rest vars vars vars flaw flaw flaw x (chain_of x ps)
      (operand_does heads p (tokens_of b ++ rest) flaw (pairs_front q rest ends))
      (subst (λ l. Does heads (and_then (pairs_from (operand room level) level (length (tokens_of b ++ rest)) []
      (at heads (tokens_of b ++ rest) vars flaw)) (λ found j. Ok (chain_of x (pairs_of found), j)))
      b rest vars flaw (chain_of x l)) (pairs-list ps)
      (mapped (λ found. chain_of x (pairs_of found))
      (pairs_does heads q (length (tokens_of b ++ rest)) (omega (arith, length-ahead b rest)) [] rest flaw ends)))

  pub pairs_does : (heads : List Head) {vars : List Name} {level : Level} {room : ℕ} {a : List Noted} {ps : Pairs}
      → IsPairs vars level room a ps
      → (n : ℕ) → length a ≤ n → (found : PairList) (rest : List Tok) (flaw : Option Stop) → Ends level (first rest)
      → Does heads (pairs_from (operand room level) level n found (at heads (tokens_of a ++ rest) vars flaw)) a rest
      vars flaw (found ++ list_of ps)
  pairs_does heads {vars = vars} {level = level} {room = room} pairs_end n h found rest flaw ends =
      pairs_stop heads (operand room level) level n found rest vars flaw (ends_alone level (first rest) ends)
  pairs_does heads (pairs_more o e p q) zero h found rest flaw ends = absurd (omega arith)
  pairs_does heads {vars = vars} {level = level} {room = room}
      (pairs_more {a = a} {b = b} {y = y} {pairs = ps} o e p q) (suc n) h found rest flaw ends =
      rw (operator-is level o e)
      (then_does heads skip (λ _ i. and_then (operand room level i)
      (λ z j. pairs_from (operand room level) level n (found ++ (o, z) ∷ []) j))
      (mark (op_mark o) ∷ []) (a ++ b) rest vars vars vars flaw flaw flaw tt (found ++ list_of (tree.pair o y ps))
      (fine_read heads (toks.Mark (op_mark o)) (tokens_of (a ++ b) ++ rest) vars flaw tt)
      (then_does heads (operand room level) (λ z j. pairs_from (operand room level) level n (found ++ (o, z) ∷ []) j)
      a b rest vars vars vars flaw flaw flaw y (found ++ list_of (tree.pair o y ps))
      (operand_does heads p (tokens_of b ++ rest) flaw (pairs_front q rest ends))
      (subst (λ l. Does heads (pairs_from (operand room level) level n (found ++ (o, y) ∷ [])
      (at heads (tokens_of b ++ rest) vars flaw)) b rest vars flaw l)
      (append_assoc found ((o, y) ∷ []) (list_of ps))
      (pairs_does heads q n (omega (arith, length-append a b)) (found ++ (o, y) ∷ []) rest flaw ends))))

  pub operand_does : (heads : List Head) {vars : List Name} {level : Level} {room : ℕ} {a : List Noted}
      {x : Expression} → IsOperand vars level room a x
      → (rest : List Tok) (flaw : Option Stop) → OperandEnds level (first rest)
      → Does heads (operand room level (at heads (tokens_of a ++ rest) vars flaw)) a rest vars flaw x
  operand_does heads (product c) rest flaw ends = chain_does heads c rest flaw ends
  operand_does heads (one_unary u) rest flaw ends = unary_does heads u rest flaw

  pub unary_does : (heads : List Head) {vars : List Name} {room : ℕ} {a : List Noted} {x : Expression}
      → IsUnary vars room a x
      → (rest : List Tok) (flaw : Option Stop)
      → Does heads (unary room (at heads (tokens_of a ++ rest) vars flaw)) a rest vars flaw x
  unary_does heads {vars = vars} {room = room} (signed {a = a} {x = x} u) rest flaw =
      unary_opens heads room (toks.Mark m.Minus) (tokens_of a ++ rest) vars flaw _ rest _
      (then_does heads (open_level room) (λ _ i. and_then (unary (room - 1) i) (λ z j. Ok (tree.negation z, j)))
      ((toks.Mark m.Minus, opening room) ∷ []) a rest vars vars vars
      flaw flaw flaw tt (tree.negation x) (open_does heads room (toks.Mark m.Minus) (tokens_of a ++ rest) vars flaw)
      (mapped tree.negation
      (subst (λ r. Does heads (unary r (at heads (tokens_of a ++ rest) vars flaw)) a rest vars flaw x)
      (within-is room) (unary_does heads u rest flaw))))
  unary_does heads {vars = vars} {room = room} (number n) rest flaw =
      unary_opens heads room (toks.Num n) rest vars flaw _ rest _
      (fine_read heads (toks.Num n) rest vars flaw (tree.number n))
  unary_does heads {vars = vars} {room = room} (name x) rest flaw =
      unary_opens heads room (toks.Name x) rest vars flaw _ rest _
      (mapped tree.variable (known_does heads x rest vars flaw))
  unary_does heads {vars = vars} {room = room} me rest flaw =
      unary_opens heads room (toks.Key k.Me) rest vars flaw _ rest _
      (fine_read heads (toks.Key k.Me) rest vars flaw tree.me)
  unary_does heads {vars = vars} {room = room} (grouped {a = a} {x = x} e) rest flaw =
      unary_opens heads room (toks.Mark m.ParenOpen)
      (tokens_of (a ++ mark m.ParenClose ∷ []) ++ rest) vars flaw _ rest _
      (then_does heads (open_level room) (λ _ i. and_then (expression (room - 1) i)
      (λ z j. and_then (expect m.ParenClose j) (λ _ l. Ok (z, l))))
      ((toks.Mark m.ParenOpen, opening room) ∷ []) (a ++ mark m.ParenClose ∷ []) rest vars vars vars
      flaw flaw flaw tt x (open_does heads room (toks.Mark m.ParenOpen)
      (tokens_of (a ++ mark m.ParenClose ∷ []) ++ rest) vars flaw)
      (then_does heads (expression (room - 1)) (λ z j. and_then (expect m.ParenClose j) (λ _ l. Ok (z, l))) a
      (mark m.ParenClose ∷ []) rest vars vars vars flaw flaw flaw x x
      (subst (λ r. Does heads (expression r (at heads (tokens_of a ++ (toks.Mark m.ParenClose ∷ rest)) vars flaw)) a
      (toks.Mark m.ParenClose ∷ rest) vars flaw x) (within-is room)
      (expression_does heads e (toks.Mark m.ParenClose ∷ rest) flaw
      (record { ends = (refl, refl); no_relation = refl })))
      (mapped (λ _. x) (expect_does heads m.ParenClose rest vars flaw))))
