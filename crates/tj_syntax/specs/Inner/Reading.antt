-- How the tokens are read, rule by rule. `proofs/` show that what is read is the grammar's.
use Rattle.std.specs.Prelude.{ℕ, zero, suc, if◌then◌else◌, List, [], ◌∷◌, ◌++◌, length, map, Option, Some, None, Ok}
use Rattle.std.specs.Prelude.{Bool, true, false, ◌&&◌, nat_eq}
use Rattle.tj_lex.specs.declared.token.Tok.{Tok}
use Rattle.tj_lex.specs.declared.token.Tok.TheVariants as toks
use Rattle.tj_lex.specs.declared.token.Key.TheVariants as k
use Rattle.tj_lex.specs.declared.token.Mark.TheVariants as m
use Rattle.tj_syntax.specs.declared.expr.Op.{Op}
use Rattle.tj_syntax.specs.declared.expr.Op.TheVariants as op
use Rattle.tj_syntax.specs.declared.expr.Rel.{Rel}
use Rattle.tj_syntax.specs.declared.expr.Rel.TheVariants as rel
use Rattle.tj_syntax.specs.declared.expr.RefOf.{RefOf}
use Rattle.tj_syntax.specs.declared.expr.RefOf.TheVariants as ref
use Rattle.tj_syntax.specs.Trees as tree
use Rattle.tj_syntax.specs.Trees.{Expression, Pairs, Argument, Ask, Given, Statement, Statements, Otherwise, Task}
use Rattle.tj_syntax.specs.Marks.{Name, most_tasks, most_levels}
use Rattle.tj_syntax.specs.declared.read_expr.Level.{Level}
use Rattle.tj_syntax.specs.declared.read_expr.Level.TheVariants.{Sums as sums, Products as products}
use Rattle.tj_syntax.specs.Grammar.{chain_of}
use Rattle.tj_syntax.specs.View.{pairs_of, statements_of}
use Rattle.tj_syntax.specs.Inner.Input.{next, Parser, ◌>>=◌, ◌>>◌, ◌<$>◌, pure, peek, skip, refuse, sees, eat, expect}
use Rattle.tj_syntax.specs.Inner.Input.{open_level, known, variable, fresh, fresh_variable, add_variable, forget_variables}
use Rattle.tj_syntax.specs.Inner.Input.{variables, count_variables, note_fork}

-- ---- expressions

-- the operator of a level that a token is, if it is one
abbrev pub operator : Level → Option Tok → Option Op
operator sums (Some (toks.Mark m.Plus)) = Some op.Plus
operator sums (Some (toks.Mark m.Minus)) = Some op.Minus
operator products (Some (toks.Mark m.Times)) = Some op.Times
operator products (Some (toks.Mark m.Over)) = Some op.Over
operator products (Some (toks.Mark m.Rest)) = Some op.Rest
operator level _ = None

-- the comparison that a token is, if it is one
abbrev pub relation : Option Tok → Option Rel
relation (Some (toks.Mark m.Eq)) = Some rel.Eq
relation (Some (toks.Mark m.Ne)) = Some rel.Ne
relation (Some (toks.Mark m.Lt)) = Some rel.Lt
relation (Some (toks.Mark m.Le)) = Some rel.Le
relation (Some (toks.Mark m.Gt)) = Some rel.Gt
relation (Some (toks.Mark m.Ge)) = Some rel.Ge
relation _ = None

-- operators, each with the operand behind it
abbrev pub PairList : Type 0
PairList = List (Op × Expression)

-- a pair and more, if an operator comes next
abbrev pub pair_by : Parser Expression → PairList → (PairList → Parser PairList) → Option Op → Parser PairList
pair_by item found more None = pure found
pair_by item found more (Some op) = skip >> (item >>= (λ y. more (found ++ (op, y) ∷ [])))

-- pairs of operators of a level and operands, behind those that were found
unfoldable pub pairs_from : Parser Expression → Level → ℕ → PairList → Parser PairList
pairs_from item level zero found = pure found
pairs_from item level (suc n) found = peek >>= (λ t. pair_by item found (pairs_from item level n) (operator level t))

-- each pair takes a token, so that the count of tokens is enough repeats
unfoldable pub pairs : Parser Expression → Level → Parser PairList
pairs item level = λ i. pairs_from item level (length i.ahead) [] i

unfoldable pub chain : Parser Expression → Level → Parser Expression
chain item level = item >>= (λ x. (λ found. chain_of x (pairs_of found)) <$> pairs item level)

-- a comparison with this left side, if one comes next
abbrev pub comparison_by : Parser Expression → Expression → Option Rel → Parser Expression
comparison_by sum x None = pure x
comparison_by sum x (Some rel) = skip >> tree.comparison rel x <$> sum

-- an operand of a level over this reading of a unary
abbrev pub operand_over : Parser Expression → Level → Parser Expression
operand_over unary sums = chain unary products
operand_over unary products = unary

-- a sum over this reading of a unary
abbrev pub sum_over : Parser Expression → Parser Expression
sum_over unary = chain (operand_over unary sums) sums

unfoldable pub expression_over : Parser Expression → Parser Expression
expression_over unary = sum_over unary >>= (λ x. peek >>= (λ t. comparison_by (sum_over unary) x (relation t)))

-- a unary by its first token, over the readings of what stands behind a sign and between parentheses
abbrev pub unary_by : Parser Expression → Parser Expression → ℕ → Option Tok → Parser Expression
unary_by inner grouped room (Some (toks.Num n)) = skip >> pure (tree.number n)
unary_by inner grouped room (Some (toks.Name x)) = tree.variable <$> known x
unary_by inner grouped room (Some (toks.Key k.Me)) = skip >> pure tree.me
unary_by inner grouped room (Some (toks.Mark m.Minus)) = open_level room >> tree.negation <$> inner
unary_by inner grouped room (Some (toks.Mark m.ParenOpen)) =
    open_level room >> (grouped >>= (λ x. expect m.ParenClose >> pure x))
unary_by inner grouped room _ = refuse

-- a unary, where so many levels may be opened
unfoldable pub unary : ℕ → Parser Expression
unary zero = peek >>= unary_by refuse refuse zero
unary (suc room) = peek >>= unary_by (unary room) (expression_over (unary room)) (suc room)

-- whether a token is an operand by itself
abbrev pub is_leaf : Tok → Bool
is_leaf (toks.Num n) = true
is_leaf (toks.Name x) = true
is_leaf (toks.Key k.Me) = true
is_leaf _ = false

-- whether an expression ends in front of this token
abbrev pub ends_expression : Tok → Bool
ends_expression (toks.Mark m.Semi) = true
ends_expression (toks.Mark m.Comma) = true
ends_expression (toks.Mark m.ParenClose) = true
ends_expression (toks.Mark m.BraceOpen) = true
ends_expression _ = false

-- whether the first of these tokens is an expression by itself
abbrev pub stands_alone : List Tok → Bool
stands_alone (operand ∷ behind ∷ rest) = is_leaf operand && ends_expression behind
stands_alone _ = false

-- an operand of a level, where so many levels may be opened
abbrev pub operand : ℕ → Level → Parser Expression
operand room level = operand_over (unary room) level

-- an expression, where so many levels may be opened
abbrev pub expression : ℕ → Parser Expression
expression room = expression_over (unary room)

-- ---- asks

-- items with commas between them, behind those that were found
unfoldable pub separated_from : {A : Type 0} → Parser A → ℕ → List A → Parser (List A)
separated_from item zero found = refuse
separated_from item (suc n) found =
    item >>= (λ x. eat m.Comma >>= (λ more. if more then separated_from item n (found ++ x ∷ []) else pure (found ++ x
    ∷ [])))

-- items with commas between them, up to the closing parenthesis
unfoldable pub separated : {A : Type 0} → Parser A → Parser (List A)
separated item = λ i. if sees m.ParenClose i then Ok ([], i) else separated_from item (length i.ahead) [] i

-- an argument by its first token
abbrev pub argument_by : ℕ → Option Tok → Parser Argument
argument_by room (Some (toks.Key k.Own)) = skip >> tree.own <$> variable
argument_by room _ = tree.value <$> expression room

unfoldable pub argument : ℕ → Parser Argument
argument room = peek >>= argument_by room

-- a reference by its first token
abbrev pub reference_by : Option Tok → Parser RefOf
reference_by (Some (toks.Name x)) = ref.Var <$> known x
reference_by (Some (toks.Key k.Me)) = skip >> pure ref.Me
reference_by _ = refuse

unfoldable pub reference : Parser RefOf
reference = peek >>= reference_by

-- what stands behind `or`, by the next token
abbrev pub or_else_by : ℕ → Option Tok → Parser (Option Expression)
or_else_by room (Some (toks.Key k.Or)) = skip >> Some <$> expression room
or_else_by room _ = pure None

-- what is computed where the cell is broken, if anything is
unfoldable pub or_else : ℕ → Parser (Option Expression)
or_else room = peek >>= or_else_by room

-- the name of a forked task, by the next token
abbrev pub forked_by : Option Tok → Parser (Name × ℕ)
forked_by (Some (toks.Name f)) = λ i. (skip >> pure (f, length i.ahead)) i
forked_by _ = refuse

-- the name of a forked task, and how many tokens are left from it on
unfoldable pub forked : Parser (Name × ℕ)
forked = peek >>= forked_by

-- a fork, behind its keyword
unfoldable pub fork : ℕ → Parser Ask
fork room = do
  f ← forked
  expect m.ParenOpen
  args ← separated (argument room)
  expect m.ParenClose
  n ← note_fork f.0 f.1 (length args)
  pure (tree.fork n args)

-- the reference of a get or a join, with what is computed where the cell is broken
unfoldable pub asked : ℕ → Parser (RefOf × Option Expression)
asked room = do
  r ← reference
  other ← or_else room
  pure (r, other)

-- an ask by its first token
abbrev pub ask_by : ℕ → Option Tok → Parser Ask
ask_by room (Some (toks.Key k.New)) = skip >> pure tree.new
ask_by room (Some (toks.Key k.Fork)) = skip >> fork room
ask_by room (Some (toks.Key k.Get)) = skip >> (λ a. tree.get a.0 a.1) <$> asked room
ask_by room (Some (toks.Key k.Join)) = skip >> (λ a. tree.join a.0 a.1) <$> asked room
ask_by room _ = refuse

unfoldable pub ask : ℕ → Parser Ask
ask room = peek >>= ask_by room

-- what a variable is given, by its first token
abbrev pub given_by : ℕ → Option Tok → Parser Given
given_by room (Some (toks.Key k.New)) = tree.answer <$> ask room
given_by room (Some (toks.Key k.Fork)) = tree.answer <$> ask room
given_by room (Some (toks.Key k.Get)) = tree.answer <$> ask room
given_by room (Some (toks.Key k.Join)) = tree.answer <$> ask room
given_by room _ = tree.result_of <$> expression room

unfoldable pub given : ℕ → Parser Given
given room = peek >>= given_by room

-- ---- statements

-- behind `let`
unfoldable pub let_new : ℕ → Parser Statement
let_new room = do
  x ← fresh_variable
  expect m.Assign
  side ← given room
  expect m.Semi
  n ← count_variables
  add_variable x
  pure (tree.let_new n side)

-- a variable, the mark, what this reads, and a semicolon
abbrev pub assigned : {A : Type 0} → Parser A → (ℕ → A → Statement) → Parser Statement
assigned side wrap = do
  n ← variable
  expect m.Assign
  x ← side
  expect m.Semi
  pure (wrap n x)

unfoldable pub assign : ℕ → Parser Statement
assign room = assigned (given room) tree.assign

-- behind `set`
unfoldable pub set_cell : ℕ → Parser Statement
set_cell room = assigned (expression room) tree.set_cell

-- what this reads, and a semicolon
abbrev pub closed : {A B : Type 0} → Parser A → (A → B) → Parser B
closed part wrap = do
  x ← part
  expect m.Semi
  pure (wrap x)

-- an expression and its semicolon
unfoldable pub ended : ℕ → Parser Expression
ended room = closed (expression room) (λ x. x)

-- an ask that is a statement
unfoldable pub ask_statement : ℕ → Parser Statement
ask_statement room = closed (ask room) tree.ask

-- what a conditional does otherwise, by the next token
abbrev pub otherwise_by : Parser Statements → Option Tok → Parser Otherwise
otherwise_by block (Some (toks.Key k.Else)) = skip >> tree.block <$> block
otherwise_by block _ = pure tree.nothing

unfoldable pub otherwise : Parser Statements → Parser Otherwise
otherwise block = peek >>= otherwise_by block

-- behind `if`
unfoldable pub choose : ℕ → Parser Statements → Parser Statement
choose room block = do
  x ← expression room
  body ← block
  other ← otherwise block
  pure (tree.choose x body other)

-- behind `while`
unfoldable pub repeat : ℕ → Parser Statements → Parser Statement
repeat room block = do
  x ← expression room
  body ← block
  pure (tree.repeat x body)

-- a statement by its first token
abbrev pub statement_by : ℕ → Parser Statements → Option Tok → Parser Statement
statement_by room block (Some (toks.Key k.Let)) = skip >> let_new room
statement_by room block (Some (toks.Name x)) = assign room
statement_by room block (Some (toks.Key k.Print)) = skip >> tree.print <$> ended room
statement_by room block (Some (toks.Key k.Set)) = skip >> set_cell room
statement_by room block (Some (toks.Key k.Return)) = skip >> tree.return <$> ended room
statement_by room block (Some (toks.Key k.If)) = skip >> choose room block
statement_by room block (Some (toks.Key k.While)) = skip >> repeat room block
statement_by room block _ = ask_statement room

unfoldable pub statement_over : ℕ → Parser Statements → Parser Statement
statement_over room block = peek >>= statement_by room block

-- statements up to the closing brace, behind those that were found
unfoldable pub statements_from : Parser Statement → ℕ → List Statement → Parser Statements
statements_from item zero found = refuse
statements_from item (suc n) found = λ i.
    if sees m.BraceClose i then Ok (statements_of found, next i) else (item >>= (λ s. statements_from item n (found ++
    s ∷ []))) i

unfoldable pub statements : Parser Statement → Parser Statements
statements item = λ i. statements_from item (length i.ahead) [] i

-- a block by its first token
abbrev pub block_by : ℕ → Parser Statement → Option Tok → Parser Statements
block_by room item (Some (toks.Mark m.BraceOpen)) = open_level room >> statements item
block_by room item _ = refuse

-- a block, where so many levels may be opened
unfoldable pub block : ℕ → Parser Statements
block zero = peek >>= block_by zero refuse
block (suc room) = peek >>= block_by (suc room) (statement_over room (block room))

-- a statement, where so many levels may be opened
abbrev pub statement : ℕ → Parser Statement
statement room = statement_over room (block room)

-- ---- tasks

-- parameters with commas between them, each known from then on
unfoldable pub params_from : ℕ → Parser (Unit {0})
params_from zero = refuse
params_from (suc n) =
    fresh_variable >>= (λ x. add_variable x >> (eat m.Comma >>= (λ more. if more then params_from n else pure tt)))

-- parameters, up to the closing parenthesis
unfoldable pub params : Parser (Unit {0})
params = λ i. if sees m.ParenClose i then Ok (tt, i) else params_from (length i.ahead) i

-- the keyword of a task, by the next token
abbrev pub task_keyword_by : Option Tok → Parser (Unit {0})
task_keyword_by (Some (toks.Key k.Task)) = skip
task_keyword_by _ = refuse

unfoldable pub task_keyword : Parser (Unit {0})
task_keyword = peek >>= task_keyword_by

-- a task, behind its name
unfoldable pub task_behind : Name → Parser Task
task_behind f = do
  expect m.ParenOpen
  params
  expect m.ParenClose
  count ← count_variables
  body ← block most_levels
  vars ← variables
  forget_variables
  pure (record { name = f; params = count; vars = vars; body = body })

-- a task, behind those of these names
unfoldable pub task : List Name → Parser Task
task earlier = do
  task_keyword
  f ← fresh most_tasks earlier
  task_behind f

-- the tasks up to the end, behind those that were found
unfoldable pub tasks_from : ℕ → List Task → Parser (List Task)
tasks_from zero found = λ i. if nat_eq (length i.ahead) 0 then Ok (found, i) else refuse i
tasks_from (suc n) found = λ i.
    if nat_eq (length i.ahead) 0 then Ok (found, i) else (task (map (λ t. t.name) found) >>= (λ t. tasks_from n (found
    ++ t ∷ []))) i

unfoldable pub tasks : Parser (List Task)
tasks = λ i. tasks_from (length i.ahead) [] i
