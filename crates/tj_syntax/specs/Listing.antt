-- The canonical listing of a script: its tokens with the blanks between them. A level says how tightly an expression
-- binds: 0 a comparison, 1 a chain of `+ -`, 2 a chain of `* / %`, 3 anything else.
use Rattle.std.specs.Prelude.{ℕ, ◌≡◌, ◌≤◌, ◌+◌, pos, List, [], ◌∷◌, ◌++◌, codes, map, take, flat_map, get_or, Option}
use Rattle.std.specs.Prelude.{Some, None, nat_lt, if◌then◌else◌}
use Rattle.std.specs.Fmt.{signed_decimal}
use Rattle.tj_lex.specs.declared.token.Tok.{Tok}
use Rattle.tj_lex.specs.declared.token.Tok.TheVariants as toks
use Rattle.tj_lex.specs.declared.token.Key.{Key}
use Rattle.tj_lex.specs.declared.token.Key.TheVariants as k
use Rattle.tj_lex.specs.declared.token.Mark.{Mark}
use Rattle.tj_lex.specs.declared.token.Mark.TheVariants as m
use Rattle.tj_lex.specs.Spelling.{key_text, mark_text}
use Rattle.tj_lex.specs.Tokens.{Spells, greatest_number}
use Rattle.tj_syntax.specs.declared.expr.Op.{Op}
use Rattle.tj_syntax.specs.declared.expr.Op.TheVariants as op
use Rattle.tj_syntax.specs.declared.expr.RefOf.{RefOf}
use Rattle.tj_syntax.specs.declared.expr.RefOf.TheVariants as ref
use Rattle.tj_syntax.specs.Trees as tree
use Rattle.tj_syntax.specs.Trees.{Expression, Pairs, Argument, Ask, Given, Statement, Statements, Otherwise, Task}
use Rattle.tj_syntax.specs.Marks.{Name}
use Rattle.tj_syntax.specs.Grammar.{op_mark, rel_mark}

-- a token, or blanks
pub data Part : Type 0 where
  token : Tok → Part
  blanks : List ℕ → Part

-- the bytes of a token
abbrev pub spelling : Tok → List ℕ
spelling (toks.Name word) = word
spelling (toks.Num n) = signed_decimal n
spelling (toks.Key key) = key_text key
spelling (toks.Mark mark) = mark_text mark
spelling toks.End = []

-- the bytes of a part
abbrev pub part_text : Part → List ℕ
part_text (token t) = spelling t
part_text (blanks bytes) = bytes

-- the bytes of the parts, one behind the other
abbrev pub text_of : List Part → List ℕ
text_of = flat_map part_text

-- a keyword
abbrev pub key : Key → Part
key k = token (toks.Key k)

-- a mark
abbrev pub mark : Mark → Part
mark m = token (toks.Mark m)

-- a space
abbrev pub space : Part
space = blanks (codes " ")

-- the end of a line
abbrev pub line_end : Part
line_end = blanks (codes "\n")

-- the name of a number
abbrev pub name : List Name → ℕ → Part
name names n = token (toks.Name (get_or names n []))

-- how tightly an operator binds
abbrev pub op_level : Op → ℕ
op_level op.Plus = 1
op_level op.Minus = 1
op_level o = 2

-- how tightly the operators of pairs bind
abbrev pub pairs_level : Pairs → ℕ
pairs_level tree.no_pairs = 2
pairs_level (tree.pair op x more) = op_level op

-- how tightly an expression binds
abbrev pub level : Expression → ℕ
level (tree.comparison rel x y) = 0
level (tree.chain x pairs) = pairs_level pairs
level x = 3

-- the parts of an operand of this level, in parentheses where more is needed
abbrev pub at_level : (need level : ℕ) → List Part → List Part
at_level need level parts =
    if nat_lt level need then mark m.ParenOpen ∷ (parts ++ mark m.ParenClose ∷ []) else parts

abbrev mutual
  -- an expression of a task with these variables
  pub expression : (vars : List Name) → Expression → List Part
  expression vars (tree.number n) = token (toks.Num n) ∷ []
  expression vars (tree.variable x) = name vars x ∷ []
  expression vars tree.me = key k.Me ∷ []
  expression vars (tree.negation x) = mark m.Minus ∷ at_level 3 (level x) (expression vars x)
  -- a chain as the first operand of one of its level keeps its parentheses: its tree is another one
  expression vars (tree.chain x pairs) =
      at_level (pairs_level pairs + 1) (level x) (expression vars x) ++ pairs_parts vars pairs
  expression vars (tree.comparison rel x y) =
      at_level 1 (level x) (expression vars x)
      ++ space ∷ mark (rel_mark rel) ∷ space ∷ at_level 1 (level y) (expression vars y)

  -- the operators of a chain with the operands behind them
  pub pairs_parts : (vars : List Name) → Pairs → List Part
  pairs_parts vars tree.no_pairs = []
  pairs_parts vars (tree.pair op y more) =
      space ∷ mark (op_mark op) ∷ space
      ∷ (at_level (op_level op + 1) (level y) (expression vars y) ++ pairs_parts vars more)

-- an expression where this level is needed
abbrev pub operand : (vars : List Name) → (need : ℕ) → Expression → List Part
operand vars need x = at_level need (level x) (expression vars x)

-- an argument
abbrev pub argument : (vars : List Name) → Argument → List Part
argument vars (tree.own x) = key k.Own ∷ space ∷ name vars x ∷ []
argument vars (tree.value x) = expression vars x

-- arguments behind others, with a comma before each
abbrev pub more_arguments : (vars : List Name) → List Argument → List Part
more_arguments vars = flat_map (λ x. mark m.Comma ∷ space ∷ argument vars x)

-- arguments with commas between them
abbrev pub arguments : (vars : List Name) → List Argument → List Part
arguments vars [] = []
arguments vars (x ∷ xs) = argument vars x ++ more_arguments vars xs

-- a variable or `me`
abbrev pub reference : (vars : List Name) → RefOf → Part
reference vars (ref.Var x) = name vars x
reference vars ref.Me = key k.Me

-- what is computed where the cell is broken, if anything is
abbrev pub or_else_parts : (vars : List Name) → Option Expression → List Part
or_else_parts vars None = []
or_else_parts vars (Some x) = space ∷ key k.Or ∷ space ∷ expression vars x

-- an ask of a task with these variables, in a script with these tasks
abbrev pub ask : (tasks vars : List Name) → Ask → List Part
ask tasks vars tree.new = key k.New ∷ []
ask tasks vars (tree.fork f args) =
    key k.Fork ∷ space ∷ name tasks f ∷ mark m.ParenOpen ∷ (arguments vars args ++ mark m.ParenClose ∷ [])
ask tasks vars (tree.get r other) = key k.Get ∷ space ∷ reference vars r ∷ or_else_parts vars other
ask tasks vars (tree.join r other) = key k.Join ∷ space ∷ reference vars r ∷ or_else_parts vars other

-- what a variable is given
abbrev pub given : (tasks vars : List Name) → Given → List Part
given tasks vars (tree.answer q) = ask tasks vars q
given tasks vars (tree.result_of x) = expression vars x

-- an assignment behind what stands before its `=`
abbrev pub assigned : List Part → List Part
assigned value = space ∷ mark m.Assign ∷ space ∷ (value ++ mark m.Semi ∷ [])

-- the lines of a block between its braces, in a statement whose lines begin with this indent
abbrev pub braces : (indent : List ℕ) → List Part → List Part
braces indent inner = mark m.BraceOpen ∷ line_end ∷ (inner ++ blanks indent ∷ mark m.BraceClose ∷ [])

-- the indent of the lines in a block: two spaces more
abbrev pub deeper : List ℕ → List ℕ
deeper indent = indent ++ codes "  "

abbrev mutual
  -- a statement whose lines begin with this indent; the first line's indent and the last line's end are not with it
  pub statement : (tasks vars : List Name) → (indent : List ℕ) → Statement → List Part
  statement tasks vars indent (tree.let_new x side) = key k.Let ∷ space ∷ name vars x ∷ assigned (given tasks vars side)
  statement tasks vars indent (tree.assign x side) = name vars x ∷ assigned (given tasks vars side)
  statement tasks vars indent (tree.ask q) = ask tasks vars q ++ mark m.Semi ∷ []
  statement tasks vars indent (tree.print x) = key k.Print ∷ space ∷ (expression vars x ++ mark m.Semi ∷ [])
  statement tasks vars indent (tree.set_cell x e) = key k.Set ∷ space ∷ name vars x ∷ assigned (expression vars e)
  statement tasks vars indent (tree.return x) = key k.Return ∷ space ∷ (expression vars x ++ mark m.Semi ∷ [])
  statement tasks vars indent (tree.choose x body other) =
      key k.If ∷ space
      ∷ (expression vars x ++ space
      ∷ (braces indent (lines tasks vars (deeper indent) body) ++ else_parts tasks vars indent other))
  statement tasks vars indent (tree.repeat x body) =
      key k.While ∷ space ∷ (expression vars x ++ space ∷ braces indent (lines tasks vars (deeper indent) body))

  -- statements, each with its indent and the end of its line
  pub lines : (tasks vars : List Name) → (indent : List ℕ) → Statements → List Part
  lines tasks vars indent tree.no_more = []
  lines tasks vars indent (tree.then_do s rest) =
      blanks indent ∷ (statement tasks vars indent s ++ line_end ∷ lines tasks vars indent rest)

  pub else_parts : (tasks vars : List Name) → (indent : List ℕ) → Otherwise → List Part
  else_parts tasks vars indent tree.nothing = []
  else_parts tasks vars indent (tree.block body) =
      space ∷ key k.Else ∷ space ∷ braces indent (lines tasks vars (deeper indent) body)

-- a block: its statements on lines of their own, with two spaces more
abbrev pub block : (tasks vars : List Name) → (indent : List ℕ) → Statements → List Part
block tasks vars indent body = braces indent (lines tasks vars (deeper indent) body)

-- parameters behind others, with a comma before each
abbrev pub more_params : List Name → List Part
more_params = flat_map (λ x. mark m.Comma ∷ space ∷ token (toks.Name x) ∷ [])

-- parameters with commas between them
abbrev pub params : List Name → List Part
params [] = []
params (x ∷ xs) = token (toks.Name x) ∷ more_params xs

-- a task of a script with these tasks
abbrev pub task : (tasks : List Name) → Task → List Part
task tasks t =
    key k.Task ∷ space ∷ token (toks.Name t.name) ∷ mark m.ParenOpen
    ∷ (params (take t.params t.vars) ++ mark m.ParenClose ∷ space
    ∷ (block tasks t.vars [] t.body ++ line_end ∷ []))

-- the names of tasks
abbrev pub names_of : List Task → List Name
names_of = map (λ t. t.name)

-- a script
abbrev pub script : List Task → List Part
script tasks = flat_map (task (names_of tasks)) tasks

-- the bytes of the listing of a script
abbrev pub listing : List Task → List ℕ
listing tasks = text_of (script tasks)

-- a token that a text can have: a name that is no keyword, a number from 0 on that isn't too great, or any other
abbrev pub CanStand : Tok → Type 0
CanStand (toks.Name word) = Spells word word (toks.Name word)
CanStand (toks.Num n) = (k : ℕ) × (n ≡ pos k) × (k ≤ greatest_number)
CanStand t = Unit {0}
