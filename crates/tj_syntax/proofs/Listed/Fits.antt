-- What was read as an expression has a listing that fits into the room in which it was read.
use Rattle.std.proofs.Common.{◌≡◌, ℕ, zero, suc, ◌+◌, ◌≤◌, List, [], ◌∷◌, ◌++◌, refl, subst, arith, get_or}
use Rattle.tj_lex.specs.declared.token.Tok.{Tok}
use Rattle.tj_lex.specs.declared.token.Tok.TheVariants as toks
use Rattle.tj_lex.specs.declared.token.Key.TheVariants as k
use Rattle.tj_lex.specs.declared.token.Mark.TheVariants as m
use Rattle.tj_syntax.specs.declared.read_expr.Level.{Level}
use Rattle.tj_syntax.specs.declared.read_expr.Level.TheVariants.{Sums as sums, Products as products}
use Rattle.tj_syntax.specs.declared.expr.Op.{Op}
use Rattle.tj_syntax.specs.declared.expr.Op.TheVariants as op
use Rattle.tj_syntax.specs.declared.fault.Breach.TheVariants.{Deep}
use Rattle.tj_syntax.specs.Trees as tree
use Rattle.tj_syntax.specs.Trees.{Expression, Pairs, Task}
use Rattle.tj_syntax.specs.Marks.{Name, Noted, fine, key, mark, opening, number_of, use_of}
use Rattle.tj_syntax.specs.Grammar.{level_of, op_mark, rel_mark, chain_of, IsExpression, alone, compared, IsChain}
use Rattle.tj_syntax.specs.Grammar.{operands, IsPairs, pairs_end, pairs_more, IsOperand, product, unary, IsUnary}
use Rattle.tj_syntax.specs.Grammar.{signed, number, name, me, grouped}
use Rattle.tj_syntax.specs.Listing as listing
use Rattle.tj_syntax.specs.Listing.{Part, token, blanks, level, op_level, pairs_level, at_level, operand, pairs_parts}
use Rattle.tj_syntax.proofs.Listed.Names.{number-name, known_by_use}
use Rattle.tj_syntax.proofs.Listed.Again.{IsFine, AreFine, Again, fine-split, fine_mark, both, front, only, also}
use Rattle.tj_syntax.proofs.Listed.Again.{spaced, none}
use Rattle.tj_syntax.proofs.Listed.Expr.{IsAt, parens, Fits, fits_less, at_need}

-- the names of a task, of which these are known
pub record IsFront (vars names : List Name) : Type 0 where
  pub rest : List Name
  pub whole : vars ++ rest ≡ names

pub known_name : {script : List Task} {vars names : List Name} (x : Name) → IsFront vars names
    → IsFine script (toks.Name x, use_of vars x)
    → get_or names (number_of vars x) [] ≡ x
known_name {script} {vars} {names} x f h =
    subst (λ all. get_or all (number_of vars x) [] ≡ x) f.whole
    (number-name vars f.rest x (known_by_use vars x h.unbroken))

-- the level of the operands of a chain is one more than the chain's
abbrev pub need_of : Level → ℕ
need_of sums = 1
need_of products = 2

op_need : (o : Op) (l : Level) → level_of o ≡ l → op_level o ≡ need_of l
op_need op.Plus sums e = refl
op_need op.Minus sums e = refl
op_need op.Times products e = refl
op_need op.Over products e = refl
op_need op.Rest products e = refl
op_need op.Plus products e = absurd (cc)
op_need op.Minus products e = absurd (cc)
op_need op.Times sums e = absurd (cc)
op_need op.Over sums e = absurd (cc)
op_need op.Rest sums e = absurd (cc)

as_operand : (vars : List Name) (l : Level) (room : ℕ) (a : List Noted) (x : Expression)
    → IsAt vars (need_of l + 1) room a x
    → IsOperand vars l room a x
as_operand vars sums room a x is = product is
as_operand vars products room a x is = unary is

as_chain : (vars : List Name) (l : Level) (room : ℕ) (a : List Noted) (x : Expression) → IsChain vars l room a x
    → IsAt vars (need_of l) room a x
as_chain vars sums room a x is = is
as_chain vars products room a x is = is

need_small : (l : Level) → need_of l + 1 ≤ 3
need_small sums = omega arith
need_small products = omega arith

-- parentheses open a level
parens-most : (need lvl : ℕ) → parens need lvl ≤ 1
parens-most need lvl = grind arith

no_parens : (need : ℕ) → parens need need ≡ 0
no_parens need = grind arith

-- a listing that takes no parentheses where this level is needed
bare : {script : List Task} {names vars : List Name} {x : Expression} {room : ℕ} (need : ℕ) → level x ≡ need
    → ((more : ℕ) → room ≤ more → Again script (λ a. IsAt vars need more a x) (listing.expression names x))
    → Fits script names vars need x room
bare {script} {names} {vars} {x} {room} need e lists = record {
  inner = room;
  below = rw e (omega (arith, no_parens need));
  lists = λ more h. rw e (lists more h);
}

-- a room above one that isn't empty
room_above : (more inner : ℕ) → suc inner ≤ more → (m : ℕ) × (more ≡ suc m) × (inner ≤ m)
room_above zero inner h = absurd (omega arith)
room_above (suc m) inner h = (m, refl, omega arith)

negated : {script : List Task} {names vars : List Name} {x : Expression} (room : ℕ) → Fits script names vars 3 x room
    → (more : ℕ) → suc room ≤ more
    → Again script (λ a. IsUnary vars more a (tree.negation x)) (listing.expression names (tree.negation x))
negated {script} {names} {vars} {x} room f more h =
    let above = room_above more room h in
    rw above.1 (front {R = λ a. IsUnary vars (suc above.0) a (tree.negation x)} (toks.Mark m.Minus, fine)
    (fine_mark script m.Minus)
    (λ a is. signed {room = suc above.0} is) (at_need 3 (omega arith) f above.0 above.2))

-- an operand of a chain with this operator
operand_again : {script : List Task} {names vars : List Name} {x : Expression} {room : ℕ} (l : Level) (o : Op)
    → level_of o ≡ l
    → Fits script names vars (need_of l + 1) x room → (more : ℕ) → room ≤ more
    → Again script (λ a. IsOperand vars l more a x) (operand names (op_level o + 1) x)
operand_again {script} {names} {vars} {x} {room} l o e f more h =
    rw (op_need o l e) (also (λ a is. as_operand vars l more a x is) (at_need (need_of l + 1) (need_small l) f more h))

chained : {script : List Task} {names vars : List Name} (l : Level) (o : Op) (x y : Expression) (pairs : Pairs)
    (room : ℕ) → level_of o ≡ l
    → Fits script names vars (need_of l + 1) x room
    → ((more : ℕ) → room ≤ more → Again script (λ a. IsPairs vars l more a (tree.pair o y pairs))
    (pairs_parts names (tree.pair o y pairs)))
    → Fits script names vars (need_of l) (tree.chain x (tree.pair o y pairs)) room
chained {script} {names} {vars} l o x y pairs room e f rest =
    bare (need_of l) (op_need o l e) (λ more h.
    both (λ a b is are. as_chain vars l more (a ++ b) _ (operands is are)) (operand_again l o e f more h) (rest more h))

-- one pair before others
next_pair : (script : List Task) (names vars : List Name) (l : Level) (o : Op) (y : Expression) (pairs : Pairs)
    (room : ℕ) → level_of o ≡ l
    → Fits script names vars (need_of l + 1) y room
    → ((more : ℕ) → room ≤ more → Again script (λ a. IsPairs vars l more a pairs) (pairs_parts names pairs))
    → (more : ℕ) → room ≤ more → Again script (λ a. IsPairs vars l more a (tree.pair o y pairs))
    (pairs_parts names (tree.pair o y pairs))
next_pair script names vars l o y pairs room e f rest more h =
    let one = operand_again l o e f more h in
    spaced (front {P = λ c. (a : List Noted) × (b : List Noted) × (c ≡ a ++ b) × IsOperand vars l more a y
    × IsPairs vars l more b pairs}
    (mark (op_mark o)) (fine_mark script (op_mark o))
    (λ c is. rw is.2 (pairs_more o e is.3 is.4))
    (spaced (both (λ a b is are. (a, b, refl, is, are)) one (rest more h))))

-- no level can be opened where there is no room
room_none : {script : List Task} {t : Tok} → IsFine script (t, opening zero) → ⊥
room_none h = h.unbroken Deep refl

-- what fits fits in a group too
in_group : {script : List Task} {names vars : List Name} {x : Expression} (room : ℕ) → Fits script names vars 0 x room
    → Fits script names vars 3 x (suc room)
in_group {script} {names} {vars} {x} room f = record {
  inner = f.inner;
  below = omega (arith, f.below, parens-most 3 (level x));
  lists = f.lists;
}

mutual
  pub expression_fits : (script : List Task) (names vars : List Name) (f : IsFront vars names) (room : ℕ)
      (a : List Noted) (x : Expression)
      → IsExpression vars room a x → AreFine script a → Fits script names vars 0 x room
  expression_fits script names vars f room a x (alone c) h =
      fits_less 1 0 (omega arith) (chain_fits script names vars f sums room a x c h)
  expression_fits script names vars f room _ _ (compared {a = a} {b = b} {x = x} {y = y} rel p q) h =
      let hs = fine-split script a (mark (rel_mark rel) ∷ b) h in
      let left = chain_fits script names vars f sums room a x p hs.0 in
      let right = chain_fits script names vars f sums room b y q hs.1.1 in
      bare 0 refl (λ more i.
      both (λ c d is are. rw are.1 (compared rel is are.2)) (at_need 1 (omega arith) left more i)
      (spaced (front {R = λ d. (e : List Noted) × (d ≡ mark (rel_mark rel) ∷ e) × IsChain vars sums more e y}
      (mark (rel_mark rel)) (fine_mark script (rel_mark rel)) (λ e is. (e, refl, is))
      (spaced (at_need 1 (omega arith) right more i)))))

  pub chain_fits : (script : List Task) (names vars : List Name) (f : IsFront vars names) (l : Level) (room : ℕ)
      (a : List Noted) (x : Expression)
      → IsChain vars l room a x → AreFine script a → Fits script names vars (need_of l) x room
  chain_fits script names vars f l room _ _ (operands {a = a} {b = b} {x = x} {pairs = pairs} o ps) h =
      let hs = fine-split script a b h in
      let first = operand_fits script names vars f l room a x o hs.0 in
      chain_of_fits script names vars f l room b x pairs first ps hs.1

  chain_of_fits : (script : List Task) (names vars : List Name) (f : IsFront vars names) (l : Level) (room : ℕ)
      (b : List Noted) (x : Expression) (pairs : Pairs)
      → Fits script names vars (need_of l + 1) x room → IsPairs vars l room b pairs → AreFine script b
      → Fits script names vars (need_of l) (chain_of x pairs) room
  chain_of_fits script names vars f l room _ x _ first pairs_end h =
      fits_less (need_of l + 1) (need_of l) (omega arith) first
  chain_of_fits script names vars f l room _ x _ first
      (pairs_more {a = a} {b = b} {y = y} {pairs = pairs} o e one more) h =
      let hs = fine-split script a b h.1 in
      let second = operand_fits script names vars f l room a y one hs.0 in
      let others = pairs_again script names vars f l room b pairs more hs.1 in
      chained l o x y pairs room e first (next_pair script names vars l o y pairs room e second others)

  pub operand_fits : (script : List Task) (names vars : List Name) (f : IsFront vars names) (l : Level) (room : ℕ)
      (a : List Noted) (x : Expression)
      → IsOperand vars l room a x → AreFine script a → Fits script names vars (need_of l + 1) x room
  operand_fits script names vars f _ room a x (product c) h = chain_fits script names vars f products room a x c h
  operand_fits script names vars f _ room a x (unary u) h = unary_fits script names vars f room a x u h

  pub pairs_again : (script : List Task) (names vars : List Name) (f : IsFront vars names) (l : Level) (room : ℕ)
      (a : List Noted) (pairs : Pairs)
      → IsPairs vars l room a pairs → AreFine script a
      → (more : ℕ) → room ≤ more → Again script (λ b. IsPairs vars l more b pairs) (pairs_parts names pairs)
  pairs_again script names vars f l room _ _ pairs_end h more i = none pairs_end
  pairs_again script names vars f l room _ _ (pairs_more {a = a} {b = b} {y = y} {pairs = pairs} o e one rest) h more
      i =
      let hs = fine-split script a b h.1 in
      let second = operand_fits script names vars f l room a y one hs.0 in
      let others = pairs_again script names vars f l room b pairs rest hs.1 in
      next_pair script names vars l o y pairs room e second others more i

  pub unary_fits : (script : List Task) (names vars : List Name) (f : IsFront vars names) (room : ℕ) (a : List Noted)
      (x : Expression)
      → IsUnary vars room a x → AreFine script a → Fits script names vars 3 x room
  unary_fits script names vars f zero _ _ (signed {a = a} {x = x} u) h = absurd (room_none h.0)
  unary_fits script names vars f (suc room) _ _ (signed {a = a} {x = x} u) h =
      bare 3 refl (negated room (unary_fits script names vars f room a x u h.1))
  unary_fits script names vars f room _ _ (number n) h = bare 3 refl (λ more i. only (toks.Num n, fine) h.0 (number n))
  unary_fits script names vars f room _ _ (name x) h =
      bare 3 refl (λ more i. rw (known_name x f h.0) (only (toks.Name x, use_of vars x) h.0 (name x)))
  unary_fits script names vars f room _ _ me h = bare 3 refl (λ more i. only (key k.Me) h.0 me)
  unary_fits script names vars f zero _ _ (grouped {a = a} {x = x} e) h = absurd (room_none h.0)
  unary_fits script names vars f (suc room) _ _ (grouped {a = a} {x = x} e) h =
      let hs = fine-split script a (mark m.ParenClose ∷ []) h.1 in
      in_group room (expression_fits script names vars f room a x e hs.0)
