-- How each token is spelled.
use Rattle.std.specs.Prelude.{ℕ, ◌-◌, ◌*◌, ◌+◌, List, codes}
use Rattle.std.specs.List.{fold}
use Rattle.tj_lex.specs.declared.token.Key.{Key}
use Rattle.tj_lex.specs.declared.token.Key.TheVariants as keys
use Rattle.tj_lex.specs.declared.token.Mark.{Mark}
use Rattle.tj_lex.specs.declared.token.Mark.TheVariants as marks

-- the bytes of a keyword
abbrev pub key_text : Key → List ℕ
key_text keys.Task = codes "task"
key_text keys.Let = codes "let"
key_text keys.If = codes "if"
key_text keys.Else = codes "else"
key_text keys.While = codes "while"
key_text keys.Print = codes "print"
key_text keys.Set = codes "set"
key_text keys.Return = codes "return"
key_text keys.New = codes "new"
key_text keys.Fork = codes "fork"
key_text keys.Own = codes "own"
key_text keys.Get = codes "get"
key_text keys.Join = codes "join"
key_text keys.Me = codes "me"
key_text keys.Or = codes "or"

-- the bytes of a mark
abbrev pub mark_text : Mark → List ℕ
mark_text marks.ParenOpen = codes "("
mark_text marks.ParenClose = codes ")"
mark_text marks.BraceOpen = codes "{"
mark_text marks.BraceClose = codes "}"
mark_text marks.Comma = codes ","
mark_text marks.Semi = codes ";"
mark_text marks.Assign = codes "="
mark_text marks.Eq = codes "=="
mark_text marks.Ne = codes "!="
mark_text marks.Lt = codes "<"
mark_text marks.Le = codes "<="
mark_text marks.Gt = codes ">"
mark_text marks.Ge = codes ">="
mark_text marks.Plus = codes "+"
mark_text marks.Minus = codes "-"
mark_text marks.Times = codes "*"
mark_text marks.Over = codes "/"
mark_text marks.Rest = codes "%"

-- the value of decimal digits
abbrev pub decimal : List ℕ → ℕ
decimal digits = fold (λ value digit. 10 * value + (digit - 48)) 0 digits
