-- What a task keeps that knows where it stands: for each open block a run of numbers, read by a table of sizes.
use Rattle.std.specs.Prelude.{◌≡◌, ℕ, zero, suc, ◌+◌, ◌<◌, ◌≤◌, List, [], ◌∷◌, ◌++◌, length, map, Option, Some, None}
use Rattle.std.specs.Prelude.{slice_get}
use Rattle.tj_body.specs.declared.ask.Ask.{Ask}
use Rattle.tj_body.specs.declared.ask.Ask.TheVariants as ask
use Rattle.tj_syntax.specs.Trees.{Statement, Statements, Task}
use Rattle.tj_syntax.specs.View as view
use Rattle.tj_eval.specs.Bodies.{rest_of}
use Rattle.tj_eval.specs.Sizes.{size_of, sizes_of, task_sizes}
use Rattle.tj_eval.specs.Stands.{AreNamed, IsAt, PlacedState, Stand, within}
use Rattle.tj_eval.specs.Statements.{TaskState, listed}
use Rattle.tj_eval.specs.declared.numbers.Numbers.{Numbers}
use Rattle.tj_eval.specs.declared.numbers.Run.{Run}
use Rattle.tj_eval.specs.declared.placed.Home.{Home}
use Rattle.tj_eval.specs.declared.placed.Standing.{Standing}
use Rattle.tj_eval.specs.declared.sizes.Size.{Size}

-- how many a statement is with those within it, if there is one
abbrev pub whole_of : Option Size → ℕ
whole_of None = 0
whole_of (Some size) = size.whole

-- the same of the statement with this number
abbrev pub whole_at : List Size → ℕ → ℕ
whole_at own n = whole_of (slice_get own n)

-- the numbers of a block's statements from n on, behind which so many come
abbrev pub run_numbers : List Size → ℕ → ℕ → List ℕ
run_numbers own n zero = n ∷ []
run_numbers own n (suc more) = n ∷ run_numbers own (n + whole_at own n) more

-- the numbers of so many statements of a block from n on
abbrev pub first_numbers : List Size → ℕ → ℕ → List ℕ
first_numbers own n zero = []
first_numbers own n (suc more) = run_numbers own n more

-- the numbers of what remains of a block, if something does
abbrev pub block_numbers : List Size → Option Run → List ℕ
block_numbers own None = []
block_numbers own (Some run) = run_numbers own run.next run.more

-- the numbers of what remains of the blocks around it, and that of the closing brace
abbrev pub around_numbers : List Size → List Run → List ℕ
around_numbers own around = rest_of (map (λ run. run_numbers own run.next run.more) around) ++ length own ∷ []

-- all numbers ahead
abbrev pub ahead_of : List Size → Numbers → List ℕ
ahead_of own w = block_numbers own w.block ++ around_numbers own w.around.items

-- where the task stands
abbrev pub stands : List Size → ℕ → Numbers → Stand
stands own decl w = record { decl = decl; ahead = ahead_of own w; at = w.at; called = w.called }

-- the statement has this number where these are the sizes
abbrev pub IsNumbered : List Size → ℕ → Statement → Type 0
IsNumbered own n s = (all : List Statement) × (own ≡ map size_of all) × IsAt all n s

-- the block's first statement has this number where these are the sizes
abbrev pub IsBlockAt : List Size → ℕ → Statements → Type 0
IsBlockAt own n b = (all front behind : List Statement) × (own ≡ map size_of all)
    × (all ≡ front ++ (within b ++ behind)) × (length front ≡ n)

-- a statement comes next, with all that is within it
abbrev pub HasNext : List Size → List ℕ → Type 0
HasNext own ahead = (n : ℕ) × (more : List ℕ) × (ahead ≡ n ∷ more) × (n < length own)
    × (n + whole_at own n ≤ length own)

-- the declaration is one of the script, and the sizes are theirs
pub record IsHome (h : Home) (task : Task) : Type 0 where
  pub is_declared : slice_get (view.script h.script.now) h.decl ≡ Some task
  pub own : h.own.now ≡ task_sizes task
  pub sizes : h.sizes.now ≡ sizes_of (view.script h.script.now)

-- the task and where it stands
abbrev pub shown : Standing → PlacedState
shown b = record { task = b.body; stand = stands b.home.own.now b.home.decl b.numbers }

-- it runs a declaration of its script, and what is ahead are the numbers of the statements that remain
pub record IsReady (b : Standing) : Type 0 where
  pub task : Task
  pub is_home : IsHome b.home task
  pub script : b.body.script ≡ view.script b.home.script.now
  pub named : AreNamed (within task.body) (ahead_of b.home.own.now b.numbers) b.body.rest

-- a task of the script at its beginning
abbrev pub IsChildIn : Home → ℕ → TaskState → Type 0
IsChildIn h f b = (d : Task) × (slice_get (view.script h.script.now) f ≡ Some d)
    × (b.script ≡ view.script h.script.now) × (b.rest ≡ listed d.body)

-- what an ask forks is a task of the script, the declaration f
abbrev pub ForksIn : Home → ℕ → Ask TaskState → Type 0
ForksIn h f ask.New = Unit {0}
ForksIn h f (ask.Fork b pass hand) = IsChildIn h f b
ForksIn h f (ask.Set k v) = Unit {0}
ForksIn h f (ask.Get k) = Unit {0}
ForksIn h f (ask.Join k) = Unit {0}
ForksIn h f (ask.GetOr k) = Unit {0}
ForksIn h f (ask.JoinOr k) = Unit {0}
ForksIn h f (ask.Emit i) = Unit {0}
ForksIn h f (ask.End v) = Unit {0}
ForksIn h f (ask.Fail c) = Unit {0}
