-- The grammar, a constructor for each rule, in the order of its parts: expressions, statements, tasks. A relation says
-- that tokens, each with what is noted at it, are that part of a script and stand for this value. `room` is the number
-- of levels that may still be opened, `vars` are the variables that are known, `tasks` all tasks of the script.
use Rattle.std.specs.Prelude.{◌≡◌, ℕ, ℤ, List, [], ◌∷◌, ◌++◌, length, map, Option, Some, None}
use Rattle.tj_lex.specs.declared.token.Tok.TheVariants as toks
use Rattle.tj_lex.specs.declared.token.Key.TheVariants as k
use Rattle.tj_lex.specs.declared.token.Mark.{Mark}
use Rattle.tj_lex.specs.declared.token.Mark.TheVariants as m
use Rattle.tj_syntax.specs.declared.read_expr.Level.{Level}
use Rattle.tj_syntax.specs.declared.read_expr.Level.TheVariants.{Sums as sums, Products as products}
use Rattle.tj_syntax.specs.declared.expr.Op.{Op}
use Rattle.tj_syntax.specs.declared.expr.Op.TheVariants as op
use Rattle.tj_syntax.specs.declared.expr.Rel.{Rel}
use Rattle.tj_syntax.specs.declared.expr.Rel.TheVariants as rel
use Rattle.tj_syntax.specs.declared.expr.RefOf.{RefOf}
use Rattle.tj_syntax.specs.declared.expr.RefOf.TheVariants as ref
use Rattle.tj_syntax.specs.Trees as tree
use Rattle.tj_syntax.specs.Trees.{Expression, Pairs, Argument, Ask, Given, Statement, Statements, Otherwise, Task}
use Rattle.tj_syntax.specs.Marks.{Name, Noted, fine, forks, declares, key, mark, most_levels, most_vars, most_tasks}
use Rattle.tj_syntax.specs.Marks.{number_of, use_of, declaration, opening, within}

-- The levels of chains: sums are chains of `+ -` and have products as operands; products are chains of `* / %`.
abbrev pub level_of : Op → Level
level_of op.Plus = sums
level_of op.Minus = sums
level_of op.Times = products
level_of op.Over = products
level_of op.Rest = products

-- the mark of an operator
abbrev pub op_mark : Op → Mark
op_mark op.Plus = m.Plus
op_mark op.Minus = m.Minus
op_mark op.Times = m.Times
op_mark op.Over = m.Over
op_mark op.Rest = m.Rest

-- the mark of a comparison
abbrev pub rel_mark : Rel → Mark
rel_mark rel.Eq = m.Eq
rel_mark rel.Ne = m.Ne
rel_mark rel.Lt = m.Lt
rel_mark rel.Le = m.Le
rel_mark rel.Gt = m.Gt
rel_mark rel.Ge = m.Ge

-- an operand with the pairs behind it; with none it stands for itself
abbrev pub chain_of : Expression → Pairs → Expression
chain_of x tree.no_pairs = x
chain_of x (tree.pair op y more) = tree.chain x (tree.pair op y more)

mutual
  -- an expression: a sum, or two sums with a comparison between them
  pub data IsExpression (vars : List Name) : (room : ℕ) → List Noted → Expression → Type 0 where
    alone : {room : ℕ} {a : List Noted} {x : Expression} → IsChain vars sums room a x → IsExpression vars room a x
    compared : {room : ℕ} {a b : List Noted} {x y : Expression} (rel : Rel) → IsChain vars sums room a x
        → IsChain vars sums room b y → IsExpression vars room (a ++ mark (rel_mark rel) ∷ b) (tree.comparison rel x y)

  -- a sum or a product: operands with operators of its level between them
  pub data IsChain (vars : List Name) : Level → (room : ℕ) → List Noted → Expression → Type 0 where
    operands : {level : Level} {room : ℕ} {a b : List Noted} {x : Expression} {pairs : Pairs}
        → IsOperand vars level room a x → IsPairs vars level room b pairs
        → IsChain vars level room (a ++ b) (chain_of x pairs)

  -- operators of a level, each with the operand behind it
  pub data IsPairs (vars : List Name) : Level → (room : ℕ) → List Noted → Pairs → Type 0 where
    pairs_end : {level : Level} {room : ℕ} → IsPairs vars level room [] tree.no_pairs
    pairs_more : {level : Level} {room : ℕ} {a b : List Noted} {y : Expression} {pairs : Pairs} (op : Op) → level_of
        op ≡ level
        → IsOperand vars level room a y → IsPairs vars level room b pairs
        → IsPairs vars level room (mark (op_mark op) ∷ (a ++ b)) (tree.pair op y pairs)

  -- an operand of a sum is a product, and one of a product is a unary
  pub data IsOperand (vars : List Name) : Level → (room : ℕ) → List Noted → Expression → Type 0 where
    product : {room : ℕ} {a : List Noted} {x : Expression} → IsChain vars products room a x → IsOperand vars sums room
        a x
    unary : {room : ℕ} {a : List Noted} {x : Expression} → IsUnary vars room a x → IsOperand vars products room a x

  -- a unary: a sign before a unary, a number, a name, `me`, or an expression in parentheses
  pub data IsUnary (vars : List Name) : (room : ℕ) → List Noted → Expression → Type 0 where
    signed : {room : ℕ} {a : List Noted} {x : Expression} → IsUnary vars (within room) a x
        → IsUnary vars room ((toks.Mark m.Minus, opening room) ∷ a) (tree.negation x)
    number : {room : ℕ} (n : ℤ) → IsUnary vars room ((toks.Num n, fine) ∷ []) (tree.number n)
    name : {room : ℕ} (x : Name) → IsUnary vars room ((toks.Name x, use_of vars x) ∷ []) (tree.variable (number_of
        vars x))
    me : {room : ℕ} → IsUnary vars room (key k.Me ∷ []) tree.me
    grouped : {room : ℕ} {a : List Noted} {x : Expression} → IsExpression vars (within room) a x
        → IsUnary vars room ((toks.Mark m.ParenOpen, opening room) ∷ (a ++ mark m.ParenClose ∷ [])) x

-- an argument: a variable that is handed on, or an expression
pub data IsArgument (vars : List Name) (room : ℕ) : List Noted → Argument → Type 0 where
  own : (x : Name) → IsArgument vars room (key k.Own ∷ (toks.Name x, use_of vars x) ∷ []) (tree.own (number_of vars x))
  value : {a : List Noted} {x : Expression} → IsExpression vars room a x → IsArgument vars room a (tree.value x)

-- arguments with a comma before each
pub data IsMoreArguments (vars : List Name) (room : ℕ) : List Noted → List Argument → Type 0 where
  arguments_end : IsMoreArguments vars room [] []
  arguments_more : {a b : List Noted} {x : Argument} {xs : List Argument} → IsArgument vars room a x
      → IsMoreArguments vars room b xs → IsMoreArguments vars room (mark m.Comma ∷ (a ++ b)) (x ∷ xs)

-- arguments with commas between them
pub data IsArguments (vars : List Name) (room : ℕ) : List Noted → List Argument → Type 0 where
  no_arguments : IsArguments vars room [] []
  arguments : {a b : List Noted} {x : Argument} {xs : List Argument} → IsArgument vars room a x
      → IsMoreArguments vars room b xs → IsArguments vars room (a ++ b) (x ∷ xs)

-- what holds a reference: a variable or `me`
pub data IsReference (vars : List Name) : List Noted → RefOf → Type 0 where
  reference_name : (x : Name) → IsReference vars ((toks.Name x, use_of vars x) ∷ []) (ref.Var (number_of vars x))
  reference_me : IsReference vars (key k.Me ∷ []) ref.Me

-- what is computed where the cell is broken, if anything is
pub data IsOr (vars : List Name) (room : ℕ) : List Noted → Option Expression → Type 0 where
  no_or : IsOr vars room [] None
  or_else : {a : List Noted} {x : Expression} → IsExpression vars room a x → IsOr vars room (key k.Or ∷ a) (Some x)

-- an ask
pub data IsAsk (tasks vars : List Name) (room : ℕ) : List Noted → Ask → Type 0 where
  new : IsAsk tasks vars room (key k.New ∷ []) tree.new
  fork : {a : List Noted} {args : List Argument} (f : Name) → IsArguments vars room a args
      → IsAsk tasks vars room
      (key k.Fork ∷ (toks.Name f, forks (length args)) ∷ mark m.ParenOpen ∷ (a ++ mark m.ParenClose ∷ []))
      (tree.fork (number_of tasks f) args)
  get : {a b : List Noted} {r : RefOf} {other : Option Expression} → IsReference vars a r → IsOr vars room b other
      → IsAsk tasks vars room (key k.Get ∷ (a ++ b)) (tree.get r other)
  join : {a b : List Noted} {r : RefOf} {other : Option Expression} → IsReference vars a r → IsOr vars room b other
      → IsAsk tasks vars room (key k.Join ∷ (a ++ b)) (tree.join r other)

-- what a variable is given: an ask or an expression
pub data IsGiven (tasks vars : List Name) (room : ℕ) : List Noted → Given → Type 0 where
  answer : {a : List Noted} {ask : Ask} → IsAsk tasks vars room a ask → IsGiven tasks vars room a (tree.answer
      ask)
  result_of : {a : List Noted} {x : Expression} → IsExpression vars room a x → IsGiven tasks vars room a
      (tree.result_of x)

mutual
  -- a statement; the second names are those that are known behind it
  pub data IsStatement (tasks : List Name) : (room : ℕ) (vars : List Name) → List Noted → Statement → List Name → Type
      0 where
    let_new : {room : ℕ} {vars : List Name} {a : List Noted} {given : Given} (x : Name) → IsGiven tasks vars room a
        given
        → IsStatement tasks room vars
        (key k.Let ∷ (toks.Name x, declaration most_vars vars x fine) ∷ mark m.Assign ∷ (a ++ mark m.Semi ∷ []))
        (tree.let_new (length vars) given) (vars ++ x ∷ [])
    assign : {room : ℕ} {vars : List Name} {a : List Noted} {given : Given} (x : Name) → IsGiven tasks vars room a given
        → IsStatement tasks room vars ((toks.Name x, use_of vars x) ∷ mark m.Assign ∷ (a ++ mark m.Semi ∷ []))
        (tree.assign (number_of vars x) given) vars
    ask : {room : ℕ} {vars : List Name} {a : List Noted} {ask : Ask} → IsAsk tasks vars room a ask
        → IsStatement tasks room vars (a ++ mark m.Semi ∷ []) (tree.ask ask) vars
    print : {room : ℕ} {vars : List Name} {a : List Noted} {x : Expression} → IsExpression vars room a x
        → IsStatement tasks room vars (key k.Print ∷ (a ++ mark m.Semi ∷ [])) (tree.print x) vars
    set_cell : {room : ℕ} {vars : List Name} {a : List Noted} {e : Expression} (x : Name) → IsExpression vars room a e
        → IsStatement tasks room vars
        (key k.Set ∷ (toks.Name x, use_of vars x) ∷ mark m.Assign ∷ (a ++ mark m.Semi ∷ []))
        (tree.set_cell (number_of vars x) e) vars
    return : {room : ℕ} {vars : List Name} {a : List Noted} {x : Expression} → IsExpression vars room a x
        → IsStatement tasks room vars (key k.Return ∷ (a ++ mark m.Semi ∷ [])) (tree.return x) vars
    choose : {room : ℕ} {vars after last : List Name} {a b c : List Noted} {x : Expression} {then_ : Statements}
        {else_ : Otherwise} → IsExpression vars room a x → IsBlock tasks room vars b then_ after
        → IsElse tasks room after c else_ last
        → IsStatement tasks room vars (key k.If ∷ (a ++ (b ++ c))) (tree.choose x then_ else_) last
    repeat : {room : ℕ} {vars last : List Name} {a b : List Noted} {x : Expression} {body : Statements}
        → IsExpression vars room a x → IsBlock tasks room vars b body last
        → IsStatement tasks room vars (key k.While ∷ (a ++ b)) (tree.repeat x body) last

  -- statements between braces
  pub data IsBlock (tasks : List Name) : (room : ℕ) (vars : List Name) → List Noted → Statements → List Name → Type 0
    where
      braces : {room : ℕ} {vars last : List Name} {a : List Noted} {body : Statements}
          → IsStatements tasks (within room) vars a body last
          → IsBlock tasks room vars ((toks.Mark m.BraceOpen, opening room) ∷ (a ++ mark m.BraceClose ∷ [])) body last

  -- statements, one behind the other
  pub data IsStatements (tasks : List Name) : (room : ℕ) (vars : List Name) → List Noted → Statements → List Name →
      Type 0 where
    statements_end : {room : ℕ} {vars : List Name} → IsStatements tasks room vars [] tree.no_more vars
    statements_more : {room : ℕ} {vars after last : List Name} {a b : List Noted} {s : Statement} {rest : Statements}
        → IsStatement tasks room vars a s after → IsStatements tasks room after b rest last
        → IsStatements tasks room vars (a ++ b) (tree.then_do s rest) last

  -- the block for a condition that is 0, if there is one
  pub data IsElse (tasks : List Name) : (room : ℕ) (vars : List Name) → List Noted → Otherwise → List Name → Type 0
    where
      no_else : {room : ℕ} {vars : List Name} → IsElse tasks room vars [] tree.nothing vars
      else_block : {room : ℕ} {vars last : List Name} {a : List Noted} {body : Statements} → IsBlock tasks room vars a
          body last
          → IsElse tasks room vars (key k.Else ∷ a) (tree.block body) last

-- parameters with a comma before each, behind those that stand before them
pub data IsMoreParams : (earlier : List Name) → List Noted → List Name → Type 0 where
  params_end : {earlier : List Name} → IsMoreParams earlier [] earlier
  params_more : {earlier all : List Name} {a : List Noted} (x : Name) → IsMoreParams (earlier ++ x ∷ []) a all
      → IsMoreParams earlier (mark m.Comma ∷ (toks.Name x, declaration most_vars earlier x fine) ∷ a) all

-- parameters with commas between them
pub data IsParams : List Noted → List Name → Type 0 where
  no_params : IsParams [] []
  params : {all : List Name} {a : List Noted} (x : Name) → IsMoreParams (x ∷ []) a all
      → IsParams ((toks.Name x, declaration most_vars [] x fine) ∷ a) all

-- a task, behind the earlier ones
pub data IsTask (tasks : List Name) (earlier : List Name) : List Noted → Task → Type 0 where
  task : {a b : List Noted} {params vars : List Name} {body : Statements} (f : Name) → IsParams a params
      → IsBlock tasks most_levels params b body vars
      → IsTask tasks earlier
      (key k.Task ∷ (toks.Name f, declaration most_tasks earlier f (declares (length params)))
      ∷ mark m.ParenOpen ∷ (a ++ mark m.ParenClose ∷ b))
      (record { name = f; params = length params; vars = vars; body = body })

-- tasks, behind the earlier ones
pub data IsTasks (tasks : List Name) : (earlier : List Name) → List Noted → List Task → Type 0 where
  tasks_end : {earlier : List Name} → IsTasks tasks earlier [] []
  tasks_more : {earlier : List Name} {a b : List Noted} {t : Task} {rest : List Task} → IsTask tasks earlier a t
      → IsTasks tasks (earlier ++ t.name ∷ []) b rest → IsTasks tasks earlier (a ++ b) (t ∷ rest)

-- the notes of a whole script, which knows its own tasks
abbrev pub IsProgram : List Noted → List Task → Type 0
IsProgram notes script = IsTasks (map (λ t. t.name) script) [] notes script
