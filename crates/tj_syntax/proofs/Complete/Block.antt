-- Statements and blocks, which hold each other.
use Rattle.std.proofs.Common.{◌≡◌, ℕ, zero, suc, ◌+◌, ◌-◌, ◌<◌, false, cond, List, [], ◌∷◌, ◌++◌, length, Option, Some}
use Rattle.std.proofs.Common.{Ok, ap, sym, ◌∙◌, subst, arith, append_assoc, length-append}
use Rattle.std.proofs.lemmas.List.{append-nil}
use Rattle.tj_lex.specs.declared.token.Tok.{Tok}
use Rattle.tj_lex.specs.declared.token.Tok.TheVariants as toks
use Rattle.tj_lex.specs.declared.token.Key.TheVariants as k
use Rattle.tj_lex.specs.declared.token.Mark.TheVariants as m
use Rattle.tj_syntax.specs.declared.fault.Stop.{Stop}
use Rattle.tj_syntax.specs.Trees as tree
use Rattle.tj_syntax.specs.Trees.{Expression, Statement, Statements, Otherwise}
use Rattle.tj_syntax.specs.Marks.{Name, Noted, fine, key, mark, opening}
use Rattle.tj_syntax.specs.Faults.{tokens_of}
use Rattle.tj_syntax.specs.Grammar as g
use Rattle.tj_syntax.specs.Grammar.{IsExpression, IsAsk, IsGiven, IsStatement, IsBlock, IsStatements, IsElse}
use Rattle.tj_syntax.specs.View.{statements_of}
use Rattle.tj_syntax.specs.Inner.Input.{Head, and_then, first, next, skip, is_mark, open_level, names_of}
use Rattle.tj_syntax.specs.Inner.Reading.{expression, let_new, set_cell, ended, otherwise, choose, repeat, statement_over}
use Rattle.tj_syntax.specs.Inner.Reading.{statement, statements_from, statements, block_by, block}
use Rattle.tj_syntax.proofs.Unrolls.{block-is}
use Rattle.tj_syntax.proofs.Complete.Steps.{at, fine_read, open_does, length-ahead, ahead-append}
use Rattle.tj_syntax.proofs.Complete.Expr.{IsBehind, expression_does, within-is}
use Rattle.tj_syntax.proofs.Complete.Forks.{quiet_mark, quiet_expression}
use Rattle.tj_syntax.proofs.Complete.Ask.{Reads}
use Rattle.tj_syntax.proofs.Complete.Stmt.{quiet_reads, mapped_reads, then_reads, nothing_more, key_reads, let_reads}
use Rattle.tj_syntax.proofs.Complete.Stmt.{assigned_reads, set_reads, ended_reads, ask_statement_reads, as_ask_statement, is_else}
use Rattle.tj_syntax.proofs.Complete.Stmt.{no_else_by, statement_opens, statement_longer, statements_open, block_front}
use Rattle.tj_syntax.proofs.Complete.Stmt.{behind_all, behind_all-end, behind_all-push}

block_opens : (heads : List Head) (room : ℕ) (ts : List Tok) (vars last : List Name) (flaw : Option Stop)
    (a : List Noted) (rest : List Tok) (x : Statements)
    → Reads heads (block_by room (statement_over (room - 1) (block (room - 1))) (Some (toks.Mark m.BraceOpen))
    (at heads (toks.Mark m.BraceOpen ∷ ts) vars flaw)) a rest last flaw x
    → Reads heads (block room (at heads (toks.Mark m.BraceOpen ∷ ts) vars flaw)) a rest last flaw x
block_opens heads room ts vars last flaw a rest x d =
    rw (block-is room (at heads (toks.Mark m.BraceOpen ∷ ts) vars flaw)) d

-- the expression before a block
before_block : (heads : List Head) {vars : List Name} {room : ℕ} {a : List Noted} {x : Expression}
    → IsExpression vars room a x
    → (rest : List Tok) (flaw : Option Stop) → IsBehind (first rest)
    → Reads heads (expression room (at heads (tokens_of a ++ rest) vars flaw)) a rest vars flaw x
before_block heads e rest flaw h = quiet_reads (quiet_expression e) (expression_does heads e rest flaw h)

mutual
  unfolding statement_over choose repeat otherwise statements statements_from

  pub statement_reads : (heads : List Head) (tasks : List Name) → tasks ≡ names_of heads
      → {vars last : List Name} {room : ℕ} {a : List Noted} {s : Statement} → IsStatement tasks room vars a s last
      → (rest : List Tok) (flaw : Option Stop) → is_else (first rest) ≡ false
      → Reads heads (statement room (at heads (tokens_of a ++ rest) vars flaw)) a rest last flaw s
  statement_reads heads tasks same {vars = vars} {last = last} {room = room}
      (g.let_new {a = a} {given = side} x p) rest flaw h =
      then_reads heads skip (λ _ i. let_new room i) (key k.Let ∷ []) _ rest vars vars _ flaw tt _
      (key_reads heads k.Let _ vars flaw tt) (λ f. let_reads heads x
      (subst (λ n. IsGiven n vars room a side) same p) rest f)
  statement_reads heads tasks same {vars = vars} {room = room} (g.assign {a = a} {given = side} x p) rest flaw h =
      assigned_reads heads x (subst (λ n. IsGiven n vars room a side) same p) rest flaw
  statement_reads heads tasks same {vars = vars} {room = room} (g.ask {a = a} {ask = x} p) rest flaw h =
      subst (λ r. Reads heads r (a ++ mark m.Semi ∷ []) rest vars flaw (tree.ask x))
      (sym (as_ask_statement heads (subst (λ n. IsAsk n vars room a x) same p) (block room) rest
      (at heads (tokens_of (a ++ mark m.Semi ∷ []) ++ rest) vars flaw)))
      (ask_statement_reads heads (subst (λ n. IsAsk n vars room a x) same p) rest flaw)
  statement_reads heads tasks same {vars = vars} {room = room} (g.print {a = a} {x = x} p) rest flaw h =
      then_reads heads skip (λ _ i. and_then (ended room i) (λ y j. Ok (tree.print y, j))) (key k.Print ∷ [])
      (a ++ mark m.Semi ∷ []) rest vars vars vars flaw tt (tree.print x)
      (key_reads heads k.Print (tokens_of (a ++ mark m.Semi ∷ []) ++ rest) vars flaw tt)
      (λ f. mapped_reads tree.print (ended_reads heads p rest f))
  statement_reads heads tasks same {vars = vars} {room = room} (g.set_cell {a = a} {e = e} x p) rest flaw h =
      then_reads heads skip (λ _ i. set_cell room i) (key k.Set ∷ []) _ rest vars vars vars flaw tt _
      (key_reads heads k.Set _ vars flaw tt) (λ f. set_reads heads x p rest f)
  statement_reads heads tasks same {vars = vars} {room = room} (g.return {a = a} {x = x} p) rest flaw h =
      then_reads heads skip (λ _ i. and_then (ended room i) (λ y j. Ok (tree.return y, j))) (key k.Return ∷ [])
      (a ++ mark m.Semi ∷ []) rest vars vars vars flaw tt (tree.return x)
      (key_reads heads k.Return (tokens_of (a ++ mark m.Semi ∷ []) ++ rest) vars flaw tt)
      (λ f. mapped_reads tree.return (ended_reads heads p rest f))
  statement_reads heads tasks same {vars = vars} {last = last} {room = room}
      (g.choose {after = after} {a = a} {b = b} {c = c} {x = x} {then_ = body} {else_ = other} p q r) rest flaw h =
      then_reads heads skip (λ _ i. and_then (expression room i)
      (λ y j. and_then (block room j) (λ d l. and_then (otherwise (block room) l) (λ e o. Ok (tree.choose y d e, o)))))
      (key k.If ∷ []) (a ++ (b ++ c)) rest vars vars last flaw tt (tree.choose x body other)
      (key_reads heads k.If (tokens_of (a ++ (b ++ c)) ++ rest) vars flaw tt)
      (λ f. then_reads heads (expression room)
      (λ y j. and_then (block room j) (λ d l. and_then (otherwise (block room) l) (λ e o. Ok (tree.choose y d e, o))))
      a (b ++ c) rest vars vars last f x (tree.choose x body other)
      (before_block heads p (tokens_of (b ++ c) ++ rest) f (block_front q c rest))
      (λ f2. then_reads heads (block room) (λ d l. and_then (otherwise (block room) l)
      (λ e o. Ok (tree.choose x d e, o)))
      b c rest vars after last f2 body (tree.choose x body other)
      (block_reads heads tasks same q (tokens_of c ++ rest) f2)
      (λ f3. mapped_reads (λ e. tree.choose x body e) (else_reads heads tasks same r rest f3 h))))
  statement_reads heads tasks same {vars = vars} {last = last} {room = room}
      (g.repeat {a = a} {b = b} {x = x} {body = body} p q) rest flaw h =
      then_reads heads skip (λ _ i. and_then (expression room i)
      (λ y j. and_then (block room j) (λ d l. Ok (tree.repeat y d, l))))
      (key k.While ∷ []) (a ++ b) rest vars vars last flaw tt (tree.repeat x body)
      (key_reads heads k.While (tokens_of (a ++ b) ++ rest) vars flaw tt)
      (λ f. then_reads heads (expression room) (λ y j. and_then (block room j) (λ d l. Ok (tree.repeat y d, l)))
      a b rest vars vars last f x (tree.repeat x body)
      (before_block heads p (tokens_of b ++ rest) f
      (subst (λ ns. IsBehind (first (tokens_of ns ++ rest))) (append-nil b) (block_front q [] rest)))
      (λ f2. mapped_reads (λ d. tree.repeat x d) (block_reads heads tasks same q rest f2)))

  pub else_reads : (heads : List Head) (tasks : List Name) → tasks ≡ names_of heads
      → {vars last : List Name} {room : ℕ} {a : List Noted} {other : Otherwise} → IsElse tasks room vars a other last
      → (rest : List Tok) (flaw : Option Stop) → is_else (first rest) ≡ false
      → Reads heads (otherwise (block room) (at heads (tokens_of a ++ rest) vars flaw)) a rest last flaw other
  else_reads heads tasks same {vars = vars} {room = room} g.no_else rest flaw h =
      subst (λ r. Reads heads r [] rest vars flaw tree.nothing)
      (sym (no_else_by (block room) (first rest) (at heads rest vars flaw) h))
      (nothing_more heads rest vars flaw tree.nothing)
  else_reads heads tasks same {vars = vars} {last = last} {room = room}
      (g.else_block {a = a} {body = body} p) rest flaw h =
      then_reads heads skip (λ _ i. and_then (block room i) (λ d j. Ok (tree.block d, j)))
      (key k.Else ∷ []) a rest vars vars last flaw tt (tree.block body)
      (key_reads heads k.Else (tokens_of a ++ rest) vars flaw tt)
      (λ f. mapped_reads tree.block (block_reads heads tasks same p rest f))

  pub block_reads : (heads : List Head) (tasks : List Name) → tasks ≡ names_of heads
      → {vars last : List Name} {room : ℕ} {a : List Noted} {body : Statements} → IsBlock tasks room vars a body last
      → (rest : List Tok) (flaw : Option Stop)
      → Reads heads (block room (at heads (tokens_of a ++ rest) vars flaw)) a rest last flaw body
  block_reads heads tasks same {vars = vars} {last = last} {room = room} (g.braces {a = a} {body = body} p) rest flaw =
      block_opens heads room (tokens_of (a ++ mark m.BraceClose ∷ []) ++ rest) vars last flaw
      ((toks.Mark m.BraceOpen, opening room) ∷ (a ++ mark m.BraceClose ∷ [])) rest body
      (then_reads heads (open_level room) (λ _ i. statements (statement (room - 1)) i)
      ((toks.Mark m.BraceOpen, opening room) ∷ []) (a ++ mark m.BraceClose ∷ []) rest vars vars last flaw tt body
      (quiet_reads (quiet_mark m.BraceOpen (opening room))
      (open_does heads room (toks.Mark m.BraceOpen) (tokens_of (a ++ mark m.BraceClose ∷ []) ++ rest) vars flaw))
      (λ f. subst (λ r. Reads heads (statements (statement r)
      (at heads (tokens_of (a ++ mark m.BraceClose ∷ []) ++ rest) vars f))
      (a ++ mark m.BraceClose ∷ []) rest last f body) (within-is room)
      (statements_reads heads tasks same p (length (tokens_of (a ++ mark m.BraceClose ∷ []) ++ rest))
      (omega (arith, length-ahead (a ++ mark m.BraceClose ∷ []) rest, length-append a (mark m.BraceClose ∷ []))) []
      rest f)))

  pub statements_reads : (heads : List Head) (tasks : List Name) → tasks ≡ names_of heads
      → {vars last : List Name} {room : ℕ} {a : List Noted} {body : Statements}
      → IsStatements tasks room vars a body last
      → (n : ℕ) → length a < n → (found : List Statement) (rest : List Tok) (flaw : Option Stop)
      → Reads heads (statements_from (statement room) n found
      (at heads (tokens_of (a ++ mark m.BraceClose ∷ []) ++ rest) vars flaw))
      (a ++ mark m.BraceClose ∷ []) rest last flaw (behind_all found body)
  statements_reads heads tasks same p zero h found rest flaw = absurd (omega arith)
  statements_reads heads tasks same {vars = vars} g.statements_end (suc n) h found rest flaw =
      subst (λ b. Reads heads (Ok (statements_of found, at heads rest vars flaw))
      (mark m.BraceClose ∷ []) rest vars flaw b) (sym (behind_all-end found))
      (quiet_reads (quiet_mark m.BraceClose fine)
      (fine_read heads (toks.Mark m.BraceClose) rest vars flaw (statements_of found)))
  statements_reads heads tasks same {vars = vars} {last = last} {room = room}
      (g.statements_more {after = after} {a = a} {b = b} {s = s} {rest = more} p q) (suc n) h found rest flaw =
      let close = mark m.BraceClose ∷ [] in
      let ts = tokens_of (a ++ (b ++ close)) ++ rest in
      let open_ : is_mark m.BraceClose (first ts) ≡ false =
      ap (λ l. is_mark m.BraceClose (first l)) (ahead-append a (b ++ close) rest)
      ∙ (statement_opens p (tokens_of (b ++ close) ++ rest)).no_close in
      let longer : 0 < length a = statement_longer p in
      let size : length (a ++ b) ≡ length a + length b = length-append a b in
      subst (λ ns. Reads heads (statements_from (statement room) (suc n) found
      (at heads (tokens_of ns ++ rest) vars flaw)) ns rest last flaw (behind_all found (tree.then_do s more)))
      (sym (append_assoc a b close))
      (subst (λ t. Reads heads (cond t (Ok (statements_of found, next (at heads ts vars flaw)))
      (and_then (statement room (at heads ts vars flaw))
      (λ z i. statements_from (statement room) n (found ++ z ∷ []) i)))
      (a ++ (b ++ close)) rest last flaw (behind_all found (tree.then_do s more))) (sym open_)
      (then_reads heads (statement room) (λ z i. statements_from (statement room) n (found ++ z ∷ []) i) a
      (b ++ close) rest vars after last flaw s (behind_all found (tree.then_do s more))
      (statement_reads heads tasks same p (tokens_of (b ++ close) ++ rest) flaw (statements_open q rest))
      (λ f. subst (λ b'. Reads heads (statements_from (statement room) n (found ++ s ∷ [])
      (at heads (tokens_of (b ++ close) ++ rest) after f)) (b ++ close) rest last f b')
      (behind_all-push found s more)
      (statements_reads heads tasks same q n (omega arith) (found ++ s ∷ []) rest f))))
