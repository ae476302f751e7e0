-- What is parsed, without where it lies in memory. Variables and tasks are numbers.
use Rattle.std.specs.Prelude.{ℕ, ℤ, List, Option}
use Rattle.tj_syntax.specs.declared.expr.Op.{Op}
use Rattle.tj_syntax.specs.declared.expr.Rel.{Rel}
use Rattle.tj_syntax.specs.declared.expr.RefOf.{RefOf}

mutual
  -- an expression
  pub data Expression : Type 0 where
    number : ℤ → Expression
    variable : ℕ → Expression
    me : Expression
    negation : Expression → Expression
    chain : Expression → Pairs → Expression
    comparison : Rel → Expression → Expression → Expression

  -- the operators of a chain, each with the operand behind it
  pub data Pairs : Type 0 where
    no_pairs : Pairs
    pair : Op → Expression → Pairs → Pairs

-- an argument: a variable that is handed on, or a value
pub data Argument : Type 0 where
  own : ℕ → Argument
  value : Expression → Argument

-- an ask; a get or a join may have what to compute where the cell is broken
pub data Ask : Type 0 where
  new : Ask
  fork : ℕ → List Argument → Ask
  get : RefOf → Option Expression → Ask
  join : RefOf → Option Expression → Ask

-- what a variable is given
pub data Given : Type 0 where
  answer : Ask → Given
  result_of : Expression → Given

mutual
  -- a statement
  pub data Statement : Type 0 where
    let_new : ℕ → Given → Statement
    assign : ℕ → Given → Statement
    ask : Ask → Statement
    print : Expression → Statement
    set_cell : ℕ → Expression → Statement
    return : Expression → Statement
    choose : Expression → Statements → Otherwise → Statement
    repeat : Expression → Statements → Statement

  -- statements in their order
  pub data Statements : Type 0 where
    no_more : Statements
    then_do : Statement → Statements → Statements

  -- what a conditional does where its condition is 0
  pub data Otherwise : Type 0 where
    nothing : Otherwise
    block : Statements → Otherwise

-- a task: its name, the number of its parameters, its variables and its statements
pub record Task : Type 0 where
  pub name : List ℕ
  pub params : ℕ
  pub vars : List (List ℕ)
  pub body : Statements
