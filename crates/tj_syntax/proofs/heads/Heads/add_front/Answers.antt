-- The head at the front is added, whatever the names behind it are.
use Rattle.std.proofs.Common.{◌≡◌, get_or, rules, arith, ap, sym, ◌∙◌}
use Rattle.std.proofs.lemmas.Grind.{common_steps}
use Rattle.tj_lex.specs.declared.shorts.Kind.TheVariants as kinds
use Rattle.tj_lex.specs.declared.token.Key.TheVariants as k
use Rattle.tj_lex.specs.Shorts.{tok_seen}
use Rattle.tj_syntax.specs.Inner.Heads.{heads_of}
use Rattle.tj_syntax.proofs.Bare.{bare_front}
use Rattle.tj_syntax.proofs.heads.Heads.add_front.Goals as goal

pub returns-in_ok-add : goal.returns-in_ok-add
returns-in_ok-add c =
    let tokens = c.args.tokens.now in
    let task : (get_or tokens 0 (record { what = kinds.Name; from = 0; to = 0 })).what ≡ kinds.Key k.Task = first_of
    (search rules, grind (arith, common_steps), cc) in
    c.in_ok-add.ensures
    ∙ bare_front c.args.text.now (heads_of c.args.self.now) tokens _ _ c.in-Name.name.now
    c.in-len2-up.len_at_least task (sym c.seen.ensures ∙ ap tok_seen c.in-Name.is)
