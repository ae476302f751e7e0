-- What a parser's state stands for.
use Rattle.std.specs.Prelude.{map, []}
use Rattle.tj_lex.specs.declared.shorts.Short.{Short}
use Rattle.tj_lex.specs.declared.token.Tok.{Tok}
use Rattle.tj_lex.specs.Shorts.{tok_of, what_of}
use Rattle.tj_syntax.specs.declared.parser.Parser.{Parser}
use Rattle.tj_syntax.specs.Inner.Heads.{heads_of}
use Rattle.tj_syntax.specs.Inner.Input.{Input}

-- what is left to read in a state
abbrev pub input_of : Parser → Input
input_of p = record {
  ahead = map (what_of p.ahead.text.now) p.ahead.rest.now;
  vars = p.vars;
  tasks = heads_of p.heads;
  flaw = p.flaw;
}

-- what a short token is, without its name or number
abbrev pub bare : Short → Tok
bare short = tok_of short.what []
