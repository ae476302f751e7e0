-- A block is quiet where each of its statements is.
use Rattle.std.proofs.Common.{◌≡◌, ℕ, suc, ◌+◌, ◌<◌, true, false, List, ◌++◌, map, length, drop, get_or}
use Rattle.std.proofs.Common.{sym, ap, ◌∙◌, arith, drop-cons}
use Rattle.tj_syntax.specs.Trees as tree
use Rattle.tj_syntax.specs.Trees.{Expression, Statement, Statements}
use Rattle.tj_syntax.specs.View as view
use Rattle.tj_syntax.specs.Within.{inside, within}
use Rattle.tj_syntax.specs.declared.stmt.Stmt.{Stmt}
use Rattle.tj_trace.specs.Inner.Quiet.{are_quiet}
use Rattle.tj_trace.proofs.QuietLists.{loud_front, quiet_front}

-- the statements of a block from this one on
abbrev pub left : List Stmt → ℕ → List Statement
left xs i = within (view.statements_of (map view.statement (drop i xs)))

one : (i : ℕ) → suc i ≡ i + 1
one i = omega arith

module _ (xs : List Stmt) (i : ℕ) (x : Stmt) (inside_it : i < length xs) (is : x ≡ get_or xs i x) where
  next_left : left xs i ≡ inside (view.statement x) ++ left xs (i + 1)
  next_left = ap (λ ys. within (view.statements_of (map view.statement ys))) (drop-cons xs i x inside_it)
      ∙ ap (λ y. inside (view.statement y) ++ left xs (suc i)) (sym is)
      ∙ ap (λ n. inside (view.statement x) ++ left xs n) (one i)

  -- where the next statement is quiet, the others decide; where it isn't, the block isn't
  pub quiet_next : are_quiet (inside (view.statement x)) ≡ true → are_quiet (left xs i) ≡ are_quiet (left xs (i + 1))
  quiet_next e = ap are_quiet next_left ∙ quiet_front (inside (view.statement x)) (left xs (i + 1)) e

  pub loud_next : are_quiet (inside (view.statement x)) ≡ false → are_quiet (left xs i) ≡ false
  loud_next e = ap are_quiet next_left ∙ loud_front (inside (view.statement x)) (left xs (i + 1)) e

module _ (s : Statement) (e : Expression) (body other : Statements) (is : s ≡ tree.choose e body (tree.block other))
  where
    whole : are_quiet (inside s) ≡ are_quiet (within body ++ within other)
    whole = ap (λ z. are_quiet (inside z)) is

    -- where the first block of a conditional is quiet, the other one decides; where it isn't, the conditional isn't
    pub quiet_body : are_quiet (within body) ≡ true → are_quiet (inside s) ≡ are_quiet (within other)
    quiet_body f = whole ∙ quiet_front (within body) (within other) f

    pub loud_body : are_quiet (within body) ≡ false → are_quiet (inside s) ≡ false
    loud_body f = whole ∙ loud_front (within body) (within other) f
