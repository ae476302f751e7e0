use Rattle.std.proofs.Common.{◌≡◌, map, drop, []}
use Rattle.tj_lex.specs.Shorts.{what_of}
use Rattle.tj_syntax.specs.Inner.Heads.{heads_of}
use Rattle.tj_syntax.specs.Inner.Input.{heads_from}
use Rattle.tj_syntax.proofs.heads.Heads.of.Given as goal

abbrev pub invariant-loop-at : goal.invariant-loop-at
invariant-loop-at l =
    heads_from (heads_of l.heads) (map (what_of l.text) (drop l.at l.tokens))
    ≡ heads_from [] (map (what_of l.text) l.tokens)
