-- A promise is told with the variable of the `let` that made it, which has a name in its declaration.
use Rattle.std.proofs.Common.{◌≡◌, ℕ, zero, suc, ◌<◌, ◌≤◌, List, [], ◌∷◌, length, refl, ap, sym, ◌∙◌}
use Rattle.std.proofs.Common.{subst, inl, inr, ◌⊎◌, ⊎_elim, arith, length-append}
use Rattle.std.specs.Prelude.{Option, Some, None, slice_get, option_map}
use Rattle.std.proofs.lemmas.Option.{slice_get-map}
use Rattle.tj_body.specs.Points.{IsIn}
use Rattle.tj_body.proofs.Lists.{in_either}
use Rattle.tj_mean.proofs.Lists.Elements.{in_get, some_is}
use Rattle.tj_syntax.specs.Grammar as g
use Rattle.tj_syntax.specs.Grammar.{IsBlock, IsElse, IsProgram, IsStatement, IsStatements, IsTask, IsTasks}
use Rattle.tj_syntax.specs.Marks.{Name, Noted}
use Rattle.tj_syntax.specs.Trees as trees
use Rattle.tj_syntax.specs.Trees.{Given, Otherwise, Statement, Statements, Task}
use Rattle.tj_syntax.specs.Within.{inside, within, within_other}
use Rattle.tj_trace.specs.declared.line.Maker.{Maker}
use Rattle.tj_findings.specs.LetNames.{let_name, named_in}
use Rattle.tj_findings.specs.Scenes.{Told, statement_in, statements_of}
use Rattle.tj_forest.specs.LetLaws.{IsLet, IsLetOf, LetsAreTold}

mutual
  -- the names that are known in front of a part of a script are known behind it
  statement_grows : {tasks : List Name} {room : ℕ} {vars last : List Name} {a : List Noted} {s : Statement}
      → IsStatement tasks room vars a s last → length vars ≤ length last
  statement_grows (g.let_new {vars = vars} x p) = omega (arith, length-append vars (x ∷ []))
  statement_grows (g.assign x p) = omega arith
  statement_grows (g.ask p) = omega arith
  statement_grows (g.print p) = omega arith
  statement_grows (g.set_cell x p) = omega arith
  statement_grows (g.return p) = omega arith
  statement_grows (g.choose p q r) = let h = block_grows q in let k = else_grows r in omega (arith, h, k)
  statement_grows (g.repeat p q) = block_grows q

  block_grows : {tasks : List Name} {room : ℕ} {vars last : List Name} {a : List Noted} {body : Statements}
      → IsBlock tasks room vars a body last → length vars ≤ length last
  block_grows (g.braces p) = statements_grow p

  statements_grow : {tasks : List Name} {room : ℕ} {vars last : List Name} {a : List Noted} {body : Statements}
      → IsStatements tasks room vars a body last → length vars ≤ length last
  statements_grow g.statements_end = omega arith
  statements_grow (g.statements_more p q) =
      let h = statement_grows p in let k = statements_grow q in omega (arith, h, k)

  else_grows : {tasks : List Name} {room : ℕ} {vars last : List Name} {a : List Noted} {other : Otherwise}
      → IsElse tasks room vars a other last → length vars ≤ length last
  else_grows g.no_else = omega arith
  else_grows (g.else_block p) = block_grows p

less_on : {k n m : ℕ} → k < n → n ≤ m → k < m
less_on h grows = omega (arith, h, grows)

-- a `let` of a variable and what it is given
abbrev let_of : ℕ → Given → Statement
let_of k side = trees.let_new k side

same_number : (k n : ℕ) (a b : Given) → trees.let_new k a ≡ trees.let_new n b → k ≡ n
same_number k n a b e = cc

mutual
  -- the variable of each `let` within a part of a script is known behind it
  statement_fits : {tasks : List Name} {room : ℕ} {vars last : List Name} {a : List Noted} {s : Statement}
      → IsStatement tasks room vars a s last → (k : ℕ) (side : Given) → IsIn (let_of k side) (inside s)
      → k < length last
  statement_fits (g.let_new {vars = vars} {given = given} x p) k side (inl e) =
      let same : k ≡ length vars = same_number k (length vars) side given e in omega (arith, same, length-append vars (x ∷ []))
  statement_fits (g.let_new x p) k side (inr i) = absurd i
  statement_fits (g.assign x p) k side (inl e) = absurd (cc)
  statement_fits (g.assign x p) k side (inr i) = absurd i
  statement_fits (g.ask p) k side (inl e) = absurd (cc)
  statement_fits (g.ask p) k side (inr i) = absurd i
  statement_fits (g.print p) k side (inl e) = absurd (cc)
  statement_fits (g.print p) k side (inr i) = absurd i
  statement_fits (g.set_cell x p) k side (inl e) = absurd (cc)
  statement_fits (g.set_cell x p) k side (inr i) = absurd i
  statement_fits (g.return p) k side (inl e) = absurd (cc)
  statement_fits (g.return p) k side (inr i) = absurd i
  statement_fits (g.choose p q r) k side (inl e) = absurd (cc)
  statement_fits (g.choose {then_ = body} {else_ = other} p q r) k side (inr i) =
      ⊎_elim (λ j. let h = block_fits q k side j in let grows = else_grows r in less_on h grows)
      (λ j. else_fits r k side j) (in_either (let_of k side) (within body) (within_other other) i)
  statement_fits (g.repeat p q) k side (inl e) = absurd (cc)
  statement_fits (g.repeat p q) k side (inr i) = block_fits q k side i

  block_fits : {tasks : List Name} {room : ℕ} {vars last : List Name} {a : List Noted} {body : Statements}
      → IsBlock tasks room vars a body last → (k : ℕ) (side : Given) → IsIn (let_of k side) (within body)
      → k < length last
  block_fits (g.braces p) k side i = statements_fit p k side i

  statements_fit : {tasks : List Name} {room : ℕ} {vars last : List Name} {a : List Noted} {body : Statements}
      → IsStatements tasks room vars a body last → (k : ℕ) (side : Given) → IsIn (let_of k side) (within body)
      → k < length last
  statements_fit g.statements_end k side i = absurd i
  statements_fit (g.statements_more {s = s} {rest = rest} p q) k side i =
      ⊎_elim (λ j. let h = statement_fits p k side j in let grows = statements_grow q in less_on h grows)
      (λ j. statements_fit q k side j) (in_either (let_of k side) (inside s) (within rest) i)

  else_fits : {tasks : List Name} {room : ℕ} {vars last : List Name} {a : List Noted} {other : Otherwise}
      → IsElse tasks room vars a other last → (k : ℕ) (side : Given) → IsIn (let_of k side) (within_other other)
      → k < length last
  else_fits g.no_else k side i = absurd i
  else_fits (g.else_block p) k side i = block_fits p k side i

-- so is the variable of each `let` of a task
task_fits : {tasks earlier : List Name} {a : List Noted} {t : Task} → IsTask tasks earlier a t
    → (k : ℕ) (side : Given) → IsIn (let_of k side) (within t.body) → k < length t.vars
task_fits (g.task f p block) k side i = block_fits block k side i

tasks_fit : {tasks earlier : List Name} {a : List Noted} {ts : List Task} → IsTasks tasks earlier a ts
    → (n : ℕ) (d : Task) → slice_get ts n ≡ Some d → (k : ℕ) (side : Given)
    → IsIn (let_of k side) (within d.body) → k < length d.vars
tasks_fit g.tasks_end n d e k side i = absurd (cc)
tasks_fit (g.tasks_more {t = t} p q) zero d e k side i =
    subst (λ z. IsIn (let_of k side) (within z.body) → k < length z.vars) (some_is t d e) (task_fits p k side) i
tasks_fit (g.tasks_more p q) (suc n) d e k side i = tasks_fit q n d e k side i

-- there is an element at each index of a list
element : {A : Type 0} (xs : List A) (k : ℕ) → k < length xs → (x : A) × (slice_get xs k ≡ Some x)
element [] k small = absurd (omega arith)
element (x ∷ xs) zero small = (x, refl)
element (x ∷ xs) (suc k) small = element xs k (omega arith)

-- the statement with this number of a declaration, if there are such ones
abbrev statement_of : Option Task → ℕ → Option Statement
statement_of o at = statement_in (option_map (λ (d : Task). within d.body) o) at

-- what is told with a name is a `let` of a new promise
only_let : (o : Option Task) (at : ℕ) (name : List ℕ) → named_in o (statement_of o at) ≡ Some name
    → (d : Task) × (o ≡ Some d) × (k : ℕ)
    × (slice_get (within d.body) at ≡ Some (trees.let_new k (trees.answer trees.new)))
    × (slice_get d.vars k ≡ Some name)
only_let None at name e = absurd (cc)
only_let (Some d) at name e = by (slice_get (within d.body) at) refl e where
  by : (q : Option Statement) → slice_get (within d.body) at ≡ q → named_in (Some d) q ≡ Some name
      → (c : Task) × (Some d ≡ Some c) × (k : ℕ)
      × (slice_get (within c.body) at ≡ Some (trees.let_new k (trees.answer trees.new)))
      × (slice_get c.vars k ≡ Some name)
  by None is e = absurd (cc)
  by (Some (trees.let_new k (trees.answer trees.new))) is e = (d, refl, k, is, e)
  by (Some (trees.let_new k (trees.answer (trees.fork f l)))) is e = absurd (cc)
  by (Some (trees.let_new k (trees.answer (trees.get r other)))) is e = absurd (cc)
  by (Some (trees.let_new k (trees.answer (trees.join r other)))) is e = absurd (cc)
  by (Some (trees.let_new k (trees.result_of x))) is e = absurd (cc)
  by (Some (trees.assign x side)) is e = absurd (cc)
  by (Some (trees.ask q)) is e = absurd (cc)
  by (Some (trees.print x)) is e = absurd (cc)
  by (Some (trees.set_cell x y)) is e = absurd (cc)
  by (Some (trees.return x)) is e = absurd (cc)
  by (Some (trees.choose x body other)) is e = absurd (cc)
  by (Some (trees.repeat x body)) is e = absurd (cc)

module _ (notes : List Noted) (s : Told) (derived : IsProgram notes s.script)
    (own : s.statements ≡ statements_of s.script) (m : Maker) where
  -- what is told, by the statements of the script
  told_as : let_name s m ≡ named_in (slice_get s.script m.decl) (statement_of (slice_get s.script m.decl) m.at)
  told_as = ap (λ z. named_in (slice_get s.script m.decl) (statement_in (slice_get z m.decl) m.at)) own
      ∙ ap (λ z. named_in (slice_get s.script m.decl) (statement_in z m.at))
      (slice_get-map (λ (d : Task). within d.body) s.script m.decl)

  -- of a `let` of a new promise the name of its variable is told
  of_let : (k : ℕ) (is : IsLet s.script m.decl m.at k) → let_name s m ≡ slice_get is.task.vars k
  of_let k is = told_as ∙ ap (λ o. named_in o (statement_of o m.at)) is.is_declared
      ∙ ap (λ q. named_in (Some is.task) q) is.is_there

  to_let : (name : List ℕ) → let_name s m ≡ Some name → IsLetOf s.script m.decl m.at name
  to_let name e =
      let h = only_let (slice_get s.script m.decl) m.at name (sym told_as ∙ e) in
      (h.2, record { task = h.0; is_declared = h.1; is_there = h.3 }, h.4)

  each_let : (k : ℕ) → IsLet s.script m.decl m.at k → (name : List ℕ) × (let_name s m ≡ Some name)
  each_let k is =
      let side = trees.answer trees.new in
      let there = in_get (within is.task.body) m.at (let_of k side) is.is_there in
      let x = element is.task.vars k (tasks_fit derived m.decl is.task is.is_declared k side there) in
      (x.0, of_let k is ∙ x.1)

-- the law
pub lets_are_told : LetsAreTold
lets_are_told notes s derived own m = (
  (λ name. ((λ e. to_let notes s derived own m name e), (λ h. of_let notes s derived own m h.0 h.1 ∙ h.2))),
  (λ k is. each_let notes s derived own m k is),
)
