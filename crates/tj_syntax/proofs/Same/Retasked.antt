-- The same notes are a script whatever tasks are declared; only the numbers of the forked tasks are others.
use Rattle.std.proofs.Common.{◌≡◌, ℕ, List, [], ◌∷◌, ◌++◌, map, refl, ap, sym, ◌∙◌, subst}
use Rattle.tj_syntax.specs.Trees.{Ask, Given, Statement, Statements, Otherwise, Task}
use Rattle.tj_syntax.specs.Marks.{Name, Noted}
use Rattle.tj_syntax.specs.Grammar as g
use Rattle.tj_syntax.specs.Grammar.{IsAsk, IsGiven, IsStatement, IsBlock, IsStatements, IsElse, IsTask, IsTasks}

ask : {tasks vars : List Name} {room : ℕ} {a : List Noted} {r : Ask} (others : List Name)
    → IsAsk tasks vars room a r → (r' : Ask) × IsAsk others vars room a r'
ask others g.new = (_, g.new)
ask others (g.fork f args) = (_, g.fork f args)
ask others (g.get r o) = (_, g.get r o)
ask others (g.join r o) = (_, g.join r o)

given : {tasks vars : List Name} {room : ℕ} {a : List Noted} {r : Given} (others : List Name)
    → IsGiven tasks vars room a r → (r' : Given) × IsGiven others vars room a r'
given others (g.answer r) = let p = ask others r in (_, g.answer p.1)
given others (g.result_of x) = (_, g.result_of x)

mutual
  statement : {tasks vars last : List Name} {room : ℕ} {a : List Noted} {s : Statement} (others : List Name)
      → IsStatement tasks room vars a s last
      → (s' : Statement) × IsStatement others room vars a s' last
  statement others (g.let_new x a) = let p = given others a in (_, g.let_new x p.1)
  statement others (g.assign x a) = let p = given others a in (_, g.assign x p.1)
  statement others (g.ask r) = let p = ask others r in (_, g.ask p.1)
  statement others (g.print x) = (_, g.print x)
  statement others (g.set_cell x e) = (_, g.set_cell x e)
  statement others (g.return x) = (_, g.return x)
  statement others (g.choose x b c) = let p = block others b in let q = otherwise others c in (_, g.choose x p.1 q.1)
  statement others (g.repeat x b) = let p = block others b in (_, g.repeat x p.1)

  block : {tasks vars last : List Name} {room : ℕ} {a : List Noted} {b : Statements} (others : List Name)
      → IsBlock tasks room vars a b last
      → (b' : Statements) × IsBlock others room vars a b' last
  block others (g.braces body) = let p = statements others body in (_, g.braces p.1)

  statements : {tasks vars last : List Name} {room : ℕ} {a : List Noted} {b : Statements} (others : List Name)
      → IsStatements tasks room vars a b last
      → (b' : Statements) × IsStatements others room vars a b' last
  statements others g.statements_end = (_, g.statements_end)
  statements others (g.statements_more s rest) = let p = statement others s in let q = statements others rest
      in (_, g.statements_more p.1 q.1)

  otherwise : {tasks vars last : List Name} {room : ℕ} {a : List Noted} {o : Otherwise} (others : List Name)
      → IsElse tasks room vars a o last
      → (o' : Otherwise) × IsElse others room vars a o' last
  otherwise others g.no_else = (_, g.no_else)
  otherwise others (g.else_block b) = let p = block others b in (_, g.else_block p.1)

task : {tasks earlier : List Name} {a : List Noted} {t : Task} (others : List Name) → IsTask tasks earlier a t
    → (t' : Task) × IsTask others earlier a t' × (t'.name ≡ t.name)
task others (g.task f ps b) = let p = block others b in (_, g.task f ps p.1, refl)

-- the tasks keep their names
pub tasks : {tasks earlier : List Name} {a : List Noted} {script : List Task} (others : List Name)
    → IsTasks tasks earlier a script
    → (script' : List Task) × IsTasks others earlier a script'
    × (map (λ (t : Task). t.name) script' ≡ map (λ (t : Task). t.name) script)
tasks others g.tasks_end = (_, g.tasks_end, refl)
tasks others (g.tasks_more {earlier = earlier} {a = a} {b = b} {t = t} {rest = rest} one more) =
    let p = task others one in
    let q = tasks others more in (
      p.0 ∷ q.0,
      g.tasks_more p.1 (subst (λ n. IsTasks others (earlier ++ n ∷ []) b q.0) (sym p.2) q.1),
      ap
          (λ n. n ∷ map (λ (t : Task). t.name) q.0) p.2 ∙ ap (λ ns. t.name ∷ ns) q.2,
    )
