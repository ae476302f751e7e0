-- What was found, with what is read off the tokens that are left, is the same at each token.
use Rattle.std.proofs.Common.{ap, ◌∙◌, refl}
use Rattle.tj_lex.specs.declared.token.Token.{Token}
use Rattle.tj_syntax.specs.Inner.Scan.{ends_part}
use Rattle.tj_syntax.proofs.Starting.Read.{statements_step, brace_step, task_found}
use Rattle.tj_syntax.proofs.positions.task_places.Goals as goal

pub scan-preserved : goal.scan-preserved
scan-preserved c =
    let ts = c.args.tokens.now in
    let here = c.scan-test.ensures.within refl in
    let goes = c.scan-test.ensures.value in
    let token = c.index-tokens-i in
    record {
      within = c.brace_at-brace.ensures.within;
      statements = statements_step ts c.scan.i token.result c.scan.fresh c.ends_part-fresh.result
          c.scan.statements.items c.add_statement.new.statements.items _ here goes
          (c.ends_part-fresh.ensures ∙ ap (λ (t : Token). ends_part t.what) token.is)
          c.in_ok-add_statement.ensures c.scan.invariant.statements;
      braces = brace_step ts c.scan.i token.result c.scan.brace c.brace_at-brace.result _ here goes
          c.brace_at-brace.ensures.value c.scan.invariant.braces;
    }

pub returns : goal.returns
returns c =
    task_found c.args.tokens.now c.args.at c.scan.i c.index-tokens-at.result c.index-tokens-brace.result c.scan.fresh
    c.scan.brace c.scan.statements.items c.requires c.scan.invariant.within c.scan-test.ensures.value
    c.scan.invariant.statements c.scan.invariant.braces
