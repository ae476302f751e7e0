-- What stands within a task: no end of a script, and no beginning of a task.
use Rattle.std.proofs.Common.{◌≡◌, ℕ, zero, suc, Bool, true, false, cond, List, [], ◌∷◌, ◌++◌, length, Option, refl}
use Rattle.std.proofs.Common.{ap, sym, ◌∙◌}
use Rattle.std.specs.List.{AllByRecursion}
use Rattle.std.specs.Prelude.{is_some, nat_le}
use Rattle.tj_lex.specs.declared.token.Tok.{Tok}
use Rattle.tj_lex.specs.declared.token.Tok.TheVariants as toks
use Rattle.tj_syntax.specs.declared.read_expr.Level.{Level}
use Rattle.tj_syntax.specs.declared.expr.RefOf.{RefOf}
use Rattle.tj_syntax.specs.declared.fault.Breach.TheVariants.{Unknown, Twice, Many}
use Rattle.tj_syntax.specs.Trees.{Expression, Pairs, Argument, Ask, Given, Statement, Statements, Otherwise, Task}
use Rattle.tj_syntax.specs.Marks.{Name, Note, Noted, fine, broken, declares, index_of, most_vars, use_of, declaration}
use Rattle.tj_syntax.specs.Marks.{opening}
use Rattle.tj_syntax.specs.Grammar as g
use Rattle.tj_syntax.specs.Grammar.{IsExpression, IsChain, IsPairs, IsOperand, IsUnary, IsArgument, IsMoreArguments}
use Rattle.tj_syntax.specs.Grammar.{IsArguments, IsReference, IsOr, IsAsk, IsGiven, IsStatement, IsBlock}
use Rattle.tj_syntax.specs.Grammar.{IsStatements, IsElse, IsMoreParams, IsParams, IsTask, IsTasks}
use Rattle.tj_syntax.proofs.Taken.{is_task, AreCalm}

-- whether a token is the end
abbrev pub is_end : Tok → Bool
is_end toks.End = true
is_end t = false

-- whether a note is that of a task's name
abbrev pub declares_task : Note → Bool
declares_task (declares count) = true
declares_task note = false

-- no end, no keyword of a task, and no name of one
abbrev pub IsInner : Noted → Type 0
IsInner n = (is_end n.0 ≡ false) × (is_task n.0 ≡ false) × (declares_task n.1 ≡ false)

-- none of them is among the notes
abbrev pub AreInner : List Noted → Type 0
AreInner = AllByRecursion IsInner

pub both : (a b : List Noted) → AreInner a → AreInner b → AreInner (a ++ b)
both [] b h k = k
both (n ∷ a) b h k = (h.0, both a b h.1 k)

used : (vars : List Name) (x : Name) → declares_task (use_of vars x) ≡ false
used vars x = by (is_some (index_of vars x))
  where
    by : (b : Bool) → declares_task (cond b fine (broken Unknown)) ≡ false
    by true = refl
    by false = refl

declared : (vars : List Name) (x : Name) → declares_task (declaration most_vars vars x fine) ≡ false
declared vars x = by (is_some (index_of vars x)) (nat_le most_vars (length vars))
  where
    by : (b c : Bool) → declares_task (cond b (broken Twice) (cond c (broken Many) fine)) ≡ false
    by true c = refl
    by false true = refl
    by false false = refl

opened : (room : ℕ) → declares_task (opening room) ≡ false
opened zero = refl
opened (suc room) = refl

mutual
  expression_inner : {vars : List Name} {room : ℕ} {a : List Noted} {x : Expression} → IsExpression vars room a x
      → AreInner a
  expression_inner (g.alone c) = chain_inner c
  expression_inner (g.compared {a = a} {b = b} r c d) = both a (_ ∷ b) (chain_inner c)
      ((refl, refl, refl), chain_inner d)

  chain_inner : {vars : List Name} {level : Level} {room : ℕ} {a : List Noted} {x : Expression}
      → IsChain vars level room a x → AreInner a
  chain_inner (g.operands {a = a} {b = b} p q) = both a b (operand_inner p) (pairs_inner q)

  pairs_inner : {vars : List Name} {level : Level} {room : ℕ} {a : List Noted} {ps : Pairs}
      → IsPairs vars level room a ps → AreInner a
  pairs_inner g.pairs_end = tt
  pairs_inner (g.pairs_more {a = a} {b = b} o e p q) = ((refl, refl, refl), both a b (operand_inner p) (pairs_inner q))

  operand_inner : {vars : List Name} {level : Level} {room : ℕ} {a : List Noted} {x : Expression}
      → IsOperand vars level room a x → AreInner a
  operand_inner (g.product c) = chain_inner c
  operand_inner (g.unary u) = unary_inner u

  unary_inner : {vars : List Name} {room : ℕ} {a : List Noted} {x : Expression} → IsUnary vars room a x → AreInner a
  unary_inner (g.signed {room = room} u) = ((refl, refl, opened room), unary_inner u)
  unary_inner (g.number n) = ((refl, refl, refl), tt)
  unary_inner {vars = vars} (g.name x) = ((refl, refl, used vars x), tt)
  unary_inner g.me = ((refl, refl, refl), tt)
  unary_inner (g.grouped {room = room} {a = a} e) =
      ((refl, refl, opened room), both a (_ ∷ []) (expression_inner e) ((refl, refl, refl), tt))

argument_inner : {vars : List Name} {room : ℕ} {a : List Noted} {x : Argument} → IsArgument vars room a x → AreInner a
argument_inner {vars = vars} (g.own x) = ((refl, refl, refl), ((refl, refl, used vars x), tt))
argument_inner (g.value e) = expression_inner e

more_arguments_inner : {vars : List Name} {room : ℕ} {a : List Noted} {xs : List Argument}
    → IsMoreArguments vars room a xs → AreInner a
more_arguments_inner g.arguments_end = tt
more_arguments_inner (g.arguments_more {a = a} {b = b} p q) =
    ((refl, refl, refl), both a b (argument_inner p) (more_arguments_inner q))

arguments_inner : {vars : List Name} {room : ℕ} {a : List Noted} {xs : List Argument} → IsArguments vars room a xs
    → AreInner a
arguments_inner g.no_arguments = tt
arguments_inner (g.arguments {a = a} {b = b} p q) = both a b (argument_inner p) (more_arguments_inner q)

reference_inner : {vars : List Name} {a : List Noted} {r : RefOf} → IsReference vars a r → AreInner a
reference_inner {vars = vars} (g.reference_name x) = ((refl, refl, used vars x), tt)
reference_inner g.reference_me = ((refl, refl, refl), tt)

or_inner : {vars : List Name} {room : ℕ} {a : List Noted} {o : Option Expression} → IsOr vars room a o → AreInner a
or_inner g.no_or = tt
or_inner (g.or_else e) = ((refl, refl, refl), expression_inner e)

ask_inner : {tasks vars : List Name} {room : ℕ} {a : List Noted} {r : Ask} → IsAsk tasks vars room a r
    → AreInner a
ask_inner g.new = ((refl, refl, refl), tt)
ask_inner (g.fork {a = a} f p) = (
  (refl, refl, refl),
  ((refl, refl, refl), ((refl, refl, refl), both a (_ ∷ []) (arguments_inner p) ((refl, refl, refl), tt))),
)
ask_inner (g.get {a = a} {b = b} p q) = ((refl, refl, refl), both a b (reference_inner p) (or_inner q))
ask_inner (g.join {a = a} {b = b} p q) = ((refl, refl, refl), both a b (reference_inner p) (or_inner q))

given_inner : {tasks vars : List Name} {room : ℕ} {a : List Noted} {x : Given} → IsGiven tasks vars room a x
    → AreInner a
given_inner (g.answer p) = ask_inner p
given_inner (g.result_of p) = expression_inner p

mutual
  statement_inner : {tasks : List Name} {room : ℕ} {vars last : List Name} {a : List Noted} {s : Statement}
      → IsStatement tasks room vars a s last → AreInner a
  statement_inner {vars = vars} (g.let_new {a = a} x p) = (
    (refl, refl, refl),
    (
      (refl, refl, declared vars x),
      ((refl, refl, refl), both a (_ ∷ []) (given_inner p) ((refl, refl, refl), tt)),
    ),
  )
  statement_inner {vars = vars} (g.assign {a = a} x p) =
      ((refl, refl, used vars x), ((refl, refl, refl), both a (_ ∷ []) (given_inner p) ((refl, refl, refl), tt)))
  statement_inner (g.ask {a = a} p) = both a (_ ∷ []) (ask_inner p) ((refl, refl, refl), tt)
  statement_inner (g.print {a = a} p) = (
    (refl, refl, refl),
    both a (_ ∷ []) (expression_inner p)
        ((refl, refl, refl), tt),
  )
  statement_inner {vars = vars} (g.set_cell {a = a} x p) = (
    (refl, refl, refl),
    (
      (refl, refl, used vars x),
      ((refl, refl, refl), both a (_ ∷ []) (expression_inner p) ((refl, refl, refl), tt)),
    ),
  )
  statement_inner (g.return {a = a} p) = (
    (refl, refl, refl),
    both a (_ ∷ []) (expression_inner p)
        ((refl, refl, refl), tt),
  )
  statement_inner (g.choose {a = a} {b = b} {c = c} p q r) =
      ((refl, refl, refl), both a (b ++ c) (expression_inner p) (both b c (block_inner q) (else_inner r)))
  statement_inner (g.repeat {a = a} {b = b} p q) = ((refl, refl, refl), both a b (expression_inner p) (block_inner q))

  pub block_inner : {tasks : List Name} {room : ℕ} {vars last : List Name} {a : List Noted} {body : Statements}
      → IsBlock tasks room vars a body last → AreInner a
  block_inner (g.braces {room = room} {a = a} p) =
      ((refl, refl, opened room), both a (_ ∷ []) (statements_inner p) ((refl, refl, refl), tt))

  statements_inner : {tasks : List Name} {room : ℕ} {vars last : List Name} {a : List Noted} {body : Statements}
      → IsStatements tasks room vars a body last → AreInner a
  statements_inner g.statements_end = tt
  statements_inner (g.statements_more {a = a} {b = b} p q) = both a b (statement_inner p) (statements_inner q)

  else_inner : {tasks : List Name} {room : ℕ} {vars last : List Name} {a : List Noted} {other : Otherwise}
      → IsElse tasks room vars a other last → AreInner a
  else_inner g.no_else = tt
  else_inner (g.else_block p) = ((refl, refl, refl), block_inner p)

more_params_inner : {earlier all : List Name} {a : List Noted} → IsMoreParams earlier a all → AreInner a
more_params_inner g.params_end = tt
more_params_inner (g.params_more {earlier = earlier} x p) =
    ((refl, refl, refl), ((refl, refl, declared earlier x), more_params_inner p))

pub params_inner : {all : List Name} {a : List Noted} → IsParams a all → AreInner a
params_inner g.no_params = tt
params_inner (g.params x p) = ((refl, refl, declared [] x), more_params_inner p)

-- no end is among the notes
abbrev pub AreEndless : List Noted → Type 0
AreEndless = AllByRecursion (λ n. is_end n.0 ≡ false)

pub endless : (a : List Noted) → AreInner a → AreEndless a
endless [] h = tt
endless (n ∷ a) h = (h.0.0, endless a h.1)

endless_both : (a b : List Noted) → AreEndless a → AreEndless b → AreEndless (a ++ b)
endless_both [] b h k = k
endless_both (n ∷ a) b h k = (h.0, endless_both a b h.1 k)

-- no end is within a script
pub tasks_endless : {tasks earlier : List Name} {a : List Noted} {ts : List Task} → IsTasks tasks earlier a ts
    → AreEndless a
tasks_endless g.tasks_end = tt
tasks_endless (g.tasks_more {a = a} {b = b} p q) = endless_both a b (task_endless p) (tasks_endless q)
  where
    task_endless : {tasks earlier : List Name} {a : List Noted} {t : Task} → IsTask tasks earlier a t → AreEndless a
    task_endless (g.task {a = a} {b = b} f p q) = (
      refl,
      (
        refl,
        (
          refl,
          endless (a ++ _ ∷ b)
              (both a (_ ∷ b) (params_inner p) ((refl, refl, refl), block_inner q)),
        ),
      ),
    )

-- no task begins within one
pub calm : (a : List Noted) → AreInner a → AreCalm a
calm [] h = tt
calm (n ∷ a) h = (h.0.1, calm a h.1)

-- a task's name that stands behind what is within a task stands in what is behind that
pub behind_inner : (inner b before after : List Noted) (t : Tok) (count : ℕ) → AreInner inner
    → inner ++ b ≡ before ++ (t, declares count) ∷ after
    → (more : List Noted) × (b ≡ more ++ (t, declares count) ∷ after)
behind_inner [] b before after t count h e = (before, e)
behind_inner (n ∷ inner) b [] after t count h e =
    let same : n ≡ (t, declares count) = cc in
    let both : ◌≡◌ true false = sym (ap (λ x. declares_task x.1) same) ∙ h.0.2 in
    absurd (cc)
behind_inner (n ∷ inner) b (x ∷ before) after t count h e =
    behind_inner inner b before after t count h.1
    (let rest : inner ++ b ≡ before ++ (t, declares count) ∷ after = cc in rest)
