use Rattle.std.proofs.Common.{◌≡◌, ◌+◌, ap, sym, ◌∙◌, rules}
use Rattle.tj_syntax.specs.Trees as tree
use Rattle.tj_syntax.specs.View as view
use Rattle.tj_syntax.specs.declared.stmt.Stmt.{the_lemmas}
use Rattle.tj_trace.specs.Inner.Quiet.{are_quiet}
use Rattle.tj_trace.proofs.QuietBlocks.{left, loud_body, loud_next, quiet_body, quiet_next}
use Rattle.tj_trace.proofs.quiet.+quiet.Goals as goal

pub is_quiet-returns-then-is_quiet_block : goal.is_quiet-returns-then-is_quiet_block
is_quiet-returns-then-is_quiet_block t c =
    let w = c.in-If in
    let s = view.statement c.args.stmt.now in let o = view.block c.in-Some.other in
    let is : s ≡ tree.choose (view.expression w.field-0) (view.block w.body) (tree.block o) =
    search (rules, the_lemmas) in
    c.is_quiet_block-then-is_quiet_block.ensures
    ∙ sym (quiet_body s (view.expression w.field-0) (view.block w.body) o is
    (sym c.is_quiet_block.ensures ∙ c.if-is_quiet_block.true))

pub is_quiet-returns-else-is_quiet_block : goal.is_quiet-returns-else-is_quiet_block
is_quiet-returns-else-is_quiet_block t c =
    let w = c.in-If in
    let s = view.statement c.args.stmt.now in let o = view.block c.in-Some.other in
    let is : s ≡ tree.choose (view.expression w.field-0) (view.block w.body) (tree.block o) =
    search (rules, the_lemmas) in
    c.if-is_quiet_block.false
    ∙ sym (loud_body s (view.expression w.field-0) (view.block w.body) o is
    (sym c.is_quiet_block.ensures ∙ c.if-is_quiet_block.false))

pub is_quiet_block-returns-then-not-is_quiet : goal.is_quiet_block-returns-then-not-is_quiet
is_quiet_block-returns-then-not-is_quiet t c =
    let i = c.loop-statement.statement-index in
    sym (sym c.loop-statement.invariant
    ∙ ap (λ xs. are_quiet (left xs i)) (sym c.deref-statement-items.ensures.value)
    ∙ loud_next c.deref-statement-items.result.now i c.statement-item.result c.loop-statement-test.true
    c.statement-item.is (sym c.is_quiet.ensures ∙ c.if-not-is_quiet.true))

pub is_quiet_block-loop-statement-preserved : goal.is_quiet_block-loop-statement-preserved
is_quiet_block-loop-statement-preserved t c =
    let i = c.loop-statement.statement-index in
    ap (λ xs. are_quiet (left xs (i + 1))) (sym c.deref-statement-items.ensures.value)
    ∙ sym (quiet_next c.deref-statement-items.result.now i c.statement-item.result c.loop-statement-test.true
    c.statement-item.is (sym c.is_quiet.ensures ∙ c.if-not-is_quiet.false))
    ∙ ap (λ xs. are_quiet (left xs i)) c.deref-statement-items.ensures.value ∙ c.loop-statement.invariant
