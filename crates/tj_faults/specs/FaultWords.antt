-- What is wrong with a text that is no script, in words: what stands at the fault, and what was wanted there.
use Rattle.std.specs.Prelude.{ℕ, ◌+◌, ◌-◌, ◌&&◌, Bool, false, true, nat_eq, nat_le, cond, List, [], ◌∷◌, ◌++◌}
use Rattle.std.specs.Prelude.{codes, decimal, drop, slice_get, take, Option, Some, None}
use Rattle.tj_lex.specs.declared.place.Place.{Place}
use Rattle.tj_lex.specs.declared.token.LexFault.{LexFault}
use Rattle.tj_lex.specs.declared.token.LexFault.TheVariants as lex
use Rattle.tj_lex.specs.declared.token.Key.TheVariants as k
use Rattle.tj_lex.specs.declared.token.Token.{Token}
use Rattle.tj_lex.specs.declared.token.Tok.{Tok}
use Rattle.tj_lex.specs.declared.token.Tok.TheVariants as toks
use Rattle.tj_syntax.specs.declared.fault.ParseFault.{ParseFault}
use Rattle.tj_syntax.specs.declared.fault.ParseFault.TheVariants as parse
use Rattle.tj_syntax.specs.declared.script_text.NoScript.{NoScript}
use Rattle.tj_syntax.specs.declared.script_text.NoScript.TheVariants.{Long, Tokens, Grammar}
use Rattle.tj_faults.specs.Carets.{fault_text, line_at}
use Rattle.tj_faults.specs.Fronts.{from_place, front_of, last_of}
use Rattle.tj_faults.specs.Spots.{place_text}
use Rattle.tj_faults.specs.Wanted.{is_task, wanted_at}
use Rattle.tj_faults.specs.declared.wanted.Ending.{Ending}
use Rattle.tj_faults.specs.declared.wanted.Ending.TheVariants as ending
use Rattle.tj_faults.specs.declared.wanted.Lacking.{Lacking}
use Rattle.tj_faults.specs.declared.wanted.Lacking.TheVariants as lacking
use Rattle.tj_faults.specs.declared.wanted.Wanted.{Wanted}
use Rattle.tj_faults.specs.declared.wanted.Wanted.TheVariants as wanted

-- the bytes of a token
abbrev pub token_bytes : List ℕ → Token → List ℕ
token_bytes text t = take (t.to - t.from) (drop t.from text)

-- what stands there
abbrev pub stands_text : List ℕ → Token → Tok → List ℕ
stands_text text t toks.End = codes "the text ends here"
stands_text text t what = token_bytes text t ++ codes " stands here"

-- a mark
abbrev pub mark_word : Lacking → List ℕ
mark_word lacking.Assign = codes "="
mark_word lacking.ParenOpen = codes "("
mark_word lacking.ParenClose = codes ")"
mark_word lacking.BraceOpen = codes "{"
mark_word lacking.Semi = codes ";"

-- the last byte of a token
abbrev pub last_byte : Token → List ℕ
last_byte t = decimal t.at.line ++ codes ":" ++ decimal (t.at.column + (t.to - t.from) - 1)

-- behind which byte something is missing
abbrev pub after_text : Option Token → List ℕ
after_text None = []
after_text (Some t) = codes " after " ++ last_byte t

-- an operator was wanted, or what ends what is open
abbrev pub operator_words : Ending → List ℕ
operator_words ending.Paren = codes ": an operator or ) is wanted"
operator_words ending.Comma = codes ": an operator, a comma or ) is wanted"
operator_words ending.Brace = codes ": an operator or { is wanted"
operator_words ending.Semi = codes ": an operator or ; is wanted"

-- an operator that compares nothing was wanted, or what ends what is open
abbrev pub arithmetic_words : Ending → List ℕ
arithmetic_words ending.Paren = codes ": an arithmetic operator or ) is wanted"
arithmetic_words ending.Comma = codes ": an arithmetic operator, a comma or ) is wanted"
arithmetic_words ending.Brace = codes ": an arithmetic operator or { is wanted"
arithmetic_words ending.Semi = codes ": an arithmetic operator or ; is wanted"

-- what ends what is open was wanted
abbrev pub only_words : Ending → List ℕ
only_words ending.Paren = codes ": ) is wanted"
only_words ending.Comma = codes ": a comma or ) is wanted"
only_words ending.Brace = codes ": { is wanted"
only_words ending.Semi = codes ": ; is wanted"

-- what was wanted, if it is no mark that is missing
abbrev pub plain_words : Wanted → List ℕ
plain_words wanted.Name = codes ": a name is wanted"
plain_words wanted.Reference = codes ": a name or me is wanted"
plain_words wanted.Expression = codes ": an expression is wanted"
plain_words wanted.Value = codes ": an expression or an ask is wanted"
plain_words wanted.Argument = codes ": an argument is wanted"
plain_words wanted.NameOrParen = codes ": a name or ) is wanted"
plain_words wanted.ArgumentOrParen = codes ": an argument or ) is wanted"
plain_words wanted.Or = codes ": ; or the keyword or is wanted"
plain_words (wanted.Operator ends) = operator_words ends
plain_words (wanted.Arithmetic ends) = arithmetic_words ends
plain_words (wanted.Only ends) = only_words ends
plain_words wanted.Statement = codes ": a statement or } is wanted"
plain_words wanted.StatementOrElse = codes ": else, a statement or } is wanted"
plain_words wanted.Task = codes ": a task or the end is wanted"
plain_words (wanted.Missing mark) = []
plain_words (wanted.Closed p) = []

-- what was wanted, behind the token in front
abbrev pub wanted_text : Option Token → Wanted → List ℕ
wanted_text last (wanted.Missing mark) = codes ": " ++ mark_word mark ++ codes " is missing" ++ after_text last
wanted_text last (wanted.Closed p) = codes ": } is missing, for the block that begins at " ++ place_text p
wanted_text last other = plain_words other

-- a token that can't follow these
abbrev pub cant_follow : List ℕ → List Token → Token → Option Token → List ℕ
cant_follow text front t next =
    stands_text text t t.what ++ wanted_text (last_of front) (wanted_at front t next)

-- the first of these tokens can't follow those in front
abbrev pub expected_text : List ℕ → List Token → List Token → List ℕ
expected_text text front [] = []
expected_text text front (t ∷ ts) = cant_follow text front t (slice_get ts 0)

-- the token is `fork`
abbrev pub is_fork : Tok → Bool
is_fork (toks.Key k.Fork) = true
is_fork t = false

-- the last of these tokens passes
abbrev pub last_is : (Tok → Bool) → Option Token → Bool
last_is test None = false
last_is test (Some t) = test t.what

-- the bytes of the first of these tokens
abbrev pub name_there : List ℕ → List Token → List ℕ
name_there text [] = []
name_there text (t ∷ ts) = token_bytes text t

-- a name that isn't known: of a task behind `fork`, and else of a variable
abbrev pub unknown_text : Bool → List ℕ → List ℕ
unknown_text of_task name = cond of_task (codes "no task " ++ name ++ codes " is declared")
    (codes "no variable " ++ name ++ codes " is declared above")

-- a name that is declared already: of a task behind `task`, and else of a variable
abbrev pub twice_text : Bool → List ℕ → List ℕ
twice_text of_task name = cond of_task (codes "a task " ++ name ++ codes " is declared above")
    (codes "a variable " ++ name ++ codes " is declared above in this task")

-- one task or one variable too many
abbrev pub many_text : Bool → List ℕ
many_text of_task = cond of_task (codes "a script has at most 1024 tasks")
    (codes "a task has at most 256 variables")

-- the bytes of a text from a position on, on its line
abbrev pub bytes_at : List ℕ → Place → List ℕ
bytes_at text p = drop (p.column - 1) (line_at p.line text)

-- the bytes begin with a byte order mark
abbrev pub has_order_mark : List ℕ → Bool
has_order_mark (a ∷ b ∷ c ∷ more) = nat_eq a 239 && nat_eq b 187 && nat_eq c 191
has_order_mark bytes = false

-- a byte: itself, if it has a sign of its own, and else its number
abbrev pub byte_word : ℕ → List ℕ
byte_word b = cond (nat_le 33 b && nat_le b 126) (b ∷ []) (codes "the byte " ++ decimal b)

-- a byte that begins no token
abbrev pub one_byte_text : List ℕ → List ℕ
one_byte_text [] = []
one_byte_text (b ∷ more) = byte_word b ++ codes " stands here: no token begins with it"

-- what stands where no token begins
abbrev pub byte_text : List ℕ → List ℕ
byte_text bytes = cond (has_order_mark bytes) (codes "a byte order mark stands here: a script has none")
    (one_byte_text bytes)

-- a fault of the tokens
abbrev pub token_words : List ℕ → LexFault → List ℕ
token_words text (lex.Byte at) = byte_text (bytes_at text at)
token_words text (lex.Number at) = codes "a number is at most 9223372036854775807"
token_words text (lex.Long at) = codes "a name has at most 64 bytes"
token_words text lex.Oom = []

-- a fork with another number of arguments than its task has parameters
abbrev pub count_text : List ℕ → List ℕ
count_text name = codes "task " ++ name ++ codes " has another number of parameters"

-- a fault of the grammar that names nothing
abbrev pub rule_words : ParseFault → List ℕ
rule_words (parse.NoMain at) = codes "no task main is declared"
rule_words (parse.MainParams at) = codes "main may have no parameters"
rule_words (parse.Deep at) = codes "at most 64 constructs may be open at once"
rule_words other = []

-- a fault of the grammar, in a text with these tokens
abbrev pub grammar_words : List ℕ → List Token → ParseFault → List ℕ
grammar_words text tokens (parse.Expected at) = expected_text text (front_of at tokens) (from_place at tokens)
grammar_words text tokens (parse.Unknown at) =
    unknown_text (last_is is_fork (last_of (front_of at tokens))) (name_there text (from_place at tokens))
grammar_words text tokens (parse.Twice at) =
    twice_text (last_is is_task (last_of (front_of at tokens))) (name_there text (from_place at tokens))
grammar_words text tokens (parse.Count at) = count_text (name_there text (from_place at tokens))
grammar_words text tokens (parse.Many at) = many_text (last_is is_task (last_of (front_of at tokens)))
grammar_words text tokens other = rule_words other

-- the fault of a text with these tokens
abbrev pub fault_words : List ℕ → List Token → NoScript → List ℕ
fault_words text tokens (Long at) = codes "a script has at most 1048576 bytes"
fault_words text tokens (Tokens fault) = token_words text fault
fault_words text tokens (Grammar fault) = grammar_words text tokens fault

-- what is told of a text with this fault and these tokens: its line, the source line with a caret, and the words
abbrev pub told_fault_text : List ℕ → List Token → NoScript → List ℕ
told_fault_text text tokens fault = fault_text text fault ++ fault_words text tokens fault ++ codes "\n"
