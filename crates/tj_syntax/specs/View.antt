-- The trees that parsed values stand for.
use Rattle.std.specs.Prelude.{List, [], ◌∷◌, map, Option, Some, None}
use Rattle.std.specs.Option.{option_map}
use Rattle.tj_syntax.specs.declared.expr.Op.{Op}
use Rattle.tj_syntax.specs.declared.expr.Expr.{Expr, fold-Expr}
use Rattle.tj_syntax.specs.declared.expr.Expr.TheOpen.{Expr-F}
use Rattle.tj_syntax.specs.declared.stmt.Arg.{Arg}
use Rattle.tj_syntax.specs.declared.stmt.Arg.TheVariants as args
use Rattle.tj_syntax.specs.declared.stmt.Call.{Call}
use Rattle.tj_syntax.specs.declared.stmt.Call.TheVariants as calls
use Rattle.tj_syntax.specs.declared.stmt.Rhs.{Rhs}
use Rattle.tj_syntax.specs.declared.stmt.Rhs.TheVariants as sides
use Rattle.tj_syntax.specs.declared.stmt.Stmt.{Stmt, fold-Stmt}
use Rattle.tj_syntax.specs.declared.stmt.Stmt.TheOpen.{Stmt-F, Block-F}
use Rattle.tj_syntax.specs.declared.stmt.Block.{Block, fold-Block}
use Rattle.tj_syntax.specs.declared.script.Decl.{Decl}
use Rattle.tj_syntax.specs.declared.script.Script.{Script}
use Rattle.tj_syntax.specs.Trees

-- a list of operators and operands as pairs
abbrev pub pairs_of : List (Op × Trees.Expression) → Trees.Pairs
pairs_of [] = Trees.no_pairs
pairs_of (p ∷ ps) = Trees.pair p.0 p.1 (pairs_of ps)

-- one level of an expression, whose operands are seen as trees already
abbrev pub expression_step : Expr-F Trees.Expression → Trees.Expression
expression_step (Expr-F.Num n) = Trees.number n
expression_step (Expr-F.Var x) = Trees.variable x
expression_step Expr-F.Me = Trees.me
expression_step (Expr-F.Neg x) = Trees.negation x.value
expression_step (Expr-F.Chain x pairs) = Trees.chain x.value (pairs_of pairs.items)
expression_step (Expr-F.Cmp rel x y) = Trees.comparison rel x.value y.value

-- an expression as a tree
abbrev pub expression : Expr → Trees.Expression
expression = fold-Expr Trees.Expression expression_step

-- an operator with its operand
abbrev pub pair : Op × Expr → Op × Trees.Expression
pair p = (p.0, expression p.1)

-- an argument as a tree
abbrev pub argument : Arg → Trees.Argument
argument (args.Own x) = Trees.own x
argument (args.Expr x) = Trees.value (expression x)

-- an ask as a tree
abbrev pub ask : Call → Trees.Ask
ask calls.New = Trees.new
ask (calls.Fork f list) = Trees.fork f (map argument list.items)
ask (calls.Get r other) = Trees.get r (option_map expression other)
ask (calls.Join r other) = Trees.join r (option_map expression other)

-- what a variable is given, as a tree
abbrev pub given : Rhs → Trees.Given
given (sides.Call call) = Trees.answer (ask call)
given (sides.Expr x) = Trees.result_of (expression x)

-- a list of statements as a tree
abbrev pub statements_of : List Trees.Statement → Trees.Statements
statements_of [] = Trees.no_more
statements_of (s ∷ rest) = Trees.then_do s (statements_of rest)

-- what a conditional does otherwise, as a tree
abbrev pub otherwise_of : Option Trees.Statements → Trees.Otherwise
otherwise_of None = Trees.nothing
otherwise_of (Some body) = Trees.block body

-- one level of a statement, and of a block
abbrev pub statement_step : Stmt-F Trees.Statement Trees.Statements → Trees.Statement
statement_step (Stmt-F.Let x side) = Trees.let_new x (given side)
statement_step (Stmt-F.Assign x side) = Trees.assign x (given side)
statement_step (Stmt-F.Do call) = Trees.ask (ask call)
statement_step (Stmt-F.Print x) = Trees.print (expression x)
statement_step (Stmt-F.Set x e) = Trees.set_cell x (expression e)
statement_step (Stmt-F.Return x) = Trees.return (expression x)
statement_step (Stmt-F.If x body other) = Trees.choose (expression x) body (otherwise_of other)
statement_step (Stmt-F.While x body) = Trees.repeat (expression x) body

-- one level of a block, whose statements are seen as trees already
abbrev pub block_step : Block-F Trees.Statement Trees.Statements → Trees.Statements
block_step b = statements_of b.stmts.items

-- a statement as a tree
abbrev pub statement : Stmt → Trees.Statement
statement = fold-Stmt Trees.Statement Trees.Statements statement_step block_step

-- a block as a tree
abbrev pub block : Block → Trees.Statements
block = fold-Block Trees.Statement Trees.Statements statement_step block_step

-- a task as a tree
abbrev pub task : Decl → Trees.Task
task d = record { name = d.name; params = d.params; vars = d.vars.items; body = block d.body }

-- a script as trees
abbrev pub script : Script → List Trees.Task
script s = map task s.tasks.items
