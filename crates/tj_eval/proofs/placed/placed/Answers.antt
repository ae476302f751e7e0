-- A task that begins stands right, at the beginning of its declaration.
use Rattle.std.proofs.Common.{◌≡◌, ◌∙◌, ap, sym}
use Rattle.tj_syntax.specs.View as view
use Rattle.tj_eval.specs.Stands as stand
use Rattle.tj_eval.specs.Inner.Standing.{IsReady, shown}
use Rattle.tj_eval.specs.declared.placed.Standing.{Standing}
use Rattle.tj_eval.proofs.Ready.{count_is, starts}
use Rattle.tj_eval.proofs.placed.placed.Goals as goal
use Rattle.tj_eval.proofs.placed.placed.Goals.{After-of_block}

-- what is made
abbrev new : After-of_block → Standing
new c = record { home = c.home_of-home.result; body = c.into_inner.result; numbers = c.of_block.result }

-- its body is the one that is given
same : (c : After-of_block) → c.into_inner.result ≡ c.args.body
same c = c.into_inner.ensures ∙ c.body.view_is

begins : (c : After-of_block) → IsReady (new c) × (shown (new c) ≡ stand.placed (new c).home.decl (new c).body)
begins c = let child = c.requires.child in
    starts (new c) child.0 (c.home_of-home.ensures.home child.0 child.1)
    (ap (λ z. z.script) (same c) ∙ child.2 ∙ ap (λ z. view.script z.now) (sym c.home_of-home.ensures.script))
    c.len-count.result (c.len-count.ensures ∙ c.task_at.result.now.body.stmts.ok.0
    ∙ count_is c.task_at.result.now child.0 _ child.1 c.task_at.ensures)
    (ap (λ z. z.rest) (same c) ∙ child.3) c.of_block.ensures

pub invariant_of-result : goal.invariant_of-result
invariant_of-result c = (begins c).0

pub returns : goal.returns
returns c = (begins c).1 ∙ ap (λ f. stand.placed f c.into_inner.result) c.home_of-home.ensures.decl
    ∙ ap (stand.placed c.args.f) (same c)
