-- Each repeat looks for the head at one token more.
use Rattle.std.proofs.Common.{rules, arith}
use Rattle.std.proofs.lemmas.Grind.{common_steps}
use Rattle.tj_lex.specs.Shorts.{what_of}
use Rattle.tj_syntax.specs.Inner.Heads.{heads_of}
use Rattle.tj_syntax.proofs.Naming.HeadSteps.{heads_step, heads_end}
use Rattle.tj_syntax.proofs.heads.Heads.of.Goals as goal

pub loop-at-preserved : goal.loop-at-preserved
loop-at-preserved c =
    let step = heads_step (what_of c.args.text.now) (heads_of c.loop-at.heads) c.args.tokens.now c.loop-at.at
    (omega arith) in
    first_of (cc, search rules, grind (arith, common_steps))

pub returns : goal.returns
returns c =
    let last = heads_end (what_of c.args.text.now) (heads_of c.loop-at.heads) c.args.tokens.now c.loop-at.at
    (omega arith) in
    first_of (cc, search rules, grind (arith, common_steps))
