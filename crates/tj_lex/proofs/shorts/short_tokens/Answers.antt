use Rattle.tj_lex.specs.Shorts.{whole_tokens}
use Rattle.tj_lex.proofs.Determined as determined
use Rattle.tj_lex.proofs.Shortened.{are_in}
use Rattle.tj_lex.proofs.shorts.short_tokens.Goals as goal

pub returns-clause-within : goal.returns-clause-within
returns-clause-within c = are_in (λ v. v.items) c.args.text.now c.read_shorts.result c.read_shorts.ensures.ok

pub returns-clause-only_tokens : goal.returns-clause-only_tokens
returns-clause-only_tokens c = determined.only_tokens (λ v. whole_tokens c.args.text.now v.items) c.args.text.now
    c.read_shorts.result c.read_shorts.ensures.ok c.read_shorts.ensures.fault

pub returns-clause-only_fault : goal.returns-clause-only_fault
returns-clause-only_fault c = determined.only_fault (λ v. whole_tokens c.args.text.now v.items) c.args.text.now
    c.read_shorts.result c.read_shorts.ensures.ok c.read_shorts.ensures.fault
