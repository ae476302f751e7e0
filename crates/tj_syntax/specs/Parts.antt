-- What stands at the starts of a script: the n-th start of a task is that of its n-th statement.
use Rattle.std.specs.Prelude.{◌≡◌, ℕ, suc, ◌+◌, List, [], ◌∷◌, ◌++◌, length, Option, Some, None}
use Rattle.tj_lex.specs.declared.token.Mark.TheVariants as m
use Rattle.tj_syntax.specs.Trees as tree
use Rattle.tj_syntax.specs.Trees.{Ask, Given, Statement, Task}
use Rattle.tj_syntax.specs.Marks.{Name, Noted, mark}
use Rattle.tj_syntax.specs.Grammar.{IsAsk, IsStatement, IsTask}
use Rattle.tj_syntax.specs.Within.{within}
use Rattle.tj_syntax.specs.Starts.{Start, TaskStart}

-- this part stands among the notes, and so many of them in front of it
pub record StandsAt (notes part : List Noted) (k : ℕ) : Type 0 where
  pub front : List Noted
  pub back : List Noted
  pub whole : notes ≡ front ++ (part ++ back)
  pub count : length front ≡ k

-- the ask of what a variable is given
abbrev pub given_ask : Given → Option Ask
given_ask (tree.answer q) = Some q
given_ask (tree.result_of e) = None

-- the ask of a statement itself, if it has one
abbrev pub own_ask : Statement → Option Ask
own_ask (tree.let_new x side) = given_ask side
own_ask (tree.assign x side) = given_ask side
own_ask (tree.ask q) = Some q
own_ask s = None

-- the ask stands there
pub record AskStandsAt (tasks : List Name) (notes : List Noted) (q : Ask) (k : ℕ) : Type 0 where
  pub room : ℕ
  pub vars : List Name
  pub part : List Noted
  pub is : IsAsk tasks vars room part q
  pub stands : StandsAt notes part k

-- there is no ask, and no place of one, or the ask stands there
abbrev pub IsAskAt : List Name → List Noted → Option Ask → Option ℕ → Type 0
IsAskAt tasks notes None None = Unit {0}
IsAskAt tasks notes None (Some k) = ⊥
IsAskAt tasks notes (Some q) None = ⊥
IsAskAt tasks notes (Some q) (Some k) = AskStandsAt tasks notes q k

-- the statement stands there, and its ask
pub record StatementStandsAt (tasks : List Name) (notes : List Noted) (s : Statement) (p : Start) : Type 0 where
  pub room : ℕ
  pub vars : List Name
  pub last : List Name
  pub part : List Noted
  pub is : IsStatement tasks room vars part s last
  pub stands : StandsAt notes part p.at
  pub ask : IsAskAt tasks notes (own_ask s) p.ask

-- there are as many starts as statements, and each statement stands at its own
abbrev pub StandAt : List Name → List Noted → List Statement → List Start → Type 0
StandAt tasks notes [] [] = Unit {0}
StandAt tasks notes [] (p ∷ ps) = ⊥
StandAt tasks notes (s ∷ ss) [] = ⊥
StandAt tasks notes (s ∷ ss) (p ∷ ps) = StatementStandsAt tasks notes s p × StandAt tasks notes ss ps

-- the task stands there, its statements at their starts, and a closing brace as the last of its tokens
pub record TaskStandsAt (tasks : List Name) (notes : List Noted) (t : Task) (u : TaskStart) : Type 0 where
  pub earlier : List Name
  pub part : List Noted
  pub is : IsTask tasks earlier part t
  pub stands : StandsAt notes part u.at
  pub statements : StandAt tasks notes (within t.body) u.statements
  pub brace : StandsAt notes (mark m.BraceClose ∷ []) u.brace
  pub brace_last : suc u.brace ≡ u.at + length part

-- there are as many starts as tasks, and each task stands at its own
abbrev pub TasksStandAt : List Name → List Noted → List Task → List TaskStart → Type 0
TasksStandAt tasks notes [] [] = Unit {0}
TasksStandAt tasks notes [] (u ∷ us) = ⊥
TasksStandAt tasks notes (t ∷ ts) [] = ⊥
TasksStandAt tasks notes (t ∷ ts) (u ∷ us) = TaskStandsAt tasks notes t u × TasksStandAt tasks notes ts us
