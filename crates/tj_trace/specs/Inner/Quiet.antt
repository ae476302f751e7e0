-- Declarations whose tasks make no promise: none of their statements has the ask `new`.
use Rattle.std.specs.Prelude.{◌≡◌, ℕ, Bool, true, false, List, [], ◌∷◌, ◌&&◌, Option, Some, None, slice_get, map}
use Rattle.tj_base.specs.declared.cell.Sort.TheVariants as sort
use Rattle.tj_body.specs.History.{Assignment}
use Rattle.tj_body.specs.Points.{IsIn}
use Rattle.tj_body.specs.Programs.{Program}
use Rattle.tj_body.specs.Rounds.{tasks}
use Rattle.tj_body.specs.declared.point.Task.{Task}
use Rattle.tj_syntax.specs.Parts.{own_ask}
use Rattle.tj_syntax.specs.Trees as tree
use Rattle.tj_syntax.specs.Trees.{Ask, Statement}
use Rattle.tj_syntax.specs.Within.{within}
use Rattle.tj_trace.specs.Inner.RoundMakers.{made_by}
use Rattle.tj_trace.specs.Logs.{Logged}

-- the ask isn't `new`
abbrev pub is_other : Option Ask → Bool
is_other None = true
is_other (Some tree.new) = false
is_other (Some (tree.fork f list)) = true
is_other (Some (tree.get r other)) = true
is_other (Some (tree.join r other)) = true

-- none of the statements has the ask `new`
abbrev pub are_quiet : List Statement → Bool
are_quiet [] = true
are_quiet (s ∷ rest) = is_other (own_ask s) && are_quiet rest

-- of each declaration whether none of its statements has that ask
abbrev pub quiet_of : List tree.Task → List Bool
quiet_of = map (λ d. are_quiet (within d.body))

-- a task of a round whose declaration is told quiet makes no promise
abbrev pub AreQuiet : Program Logged → List Bool → Type 0
AreQuiet program quiet = (V : Assignment) (n : ℕ) (t : Task Logged) → IsIn t (tasks program n)
    → slice_get quiet t.body.placed.stand.decl ≡ Some true → made_by program.rules V sort.Promise t ≡ []
