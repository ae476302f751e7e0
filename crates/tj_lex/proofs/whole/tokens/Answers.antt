use Rattle.tj_lex.proofs.Determined as determined
use Rattle.tj_lex.proofs.whole.tokens.Goals as goal

pub returns-clause-only_tokens : goal.returns-clause-only_tokens
returns-clause-only_tokens c =
    determined.only_tokens (λ v. v.items) c.args.text.now c.read.result c.read.ensures.ok c.read.ensures.fault

pub returns-clause-only_fault : goal.returns-clause-only_fault
returns-clause-only_fault c =
    determined.only_fault (λ v. v.items) c.args.text.now c.read.result c.read.ensures.ok c.read.ensures.fault
