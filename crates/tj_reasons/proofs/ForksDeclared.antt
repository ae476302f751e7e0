-- Each fork of a script is of a declaration with as many parameters as it has arguments.
use Rattle.std.proofs.Common.{◌≡◌, ℕ, zero, suc, Bool, true, false, List, [], ◌∷◌, ◌++◌, map, refl, ap, sym}
use Rattle.std.proofs.Common.{◌∙◌, eqb-true, if◌then◌else◌, nat_eq, subst}
use Rattle.std.specs.Prelude.{Option, Some, None, slice_get, unwrap_or}
use Rattle.std.specs.List.{AllByRecursion}
use Rattle.tj_lex.specs.declared.token.Tok.{Tok}
use Rattle.tj_syntax.specs.Faults.{AreForksRight, IsScript, fork_breach, fork_of, task_at}
use Rattle.tj_syntax.specs.Grammar.{IsAsk, fork, get, join, new}
use Rattle.tj_syntax.specs.Marks.{Name, Noted, index_of}
use Rattle.tj_syntax.specs.Parts.{IsAskAt, StandAt, StatementStandsAt, TaskStandsAt, TasksStandAt, own_ask}
use Rattle.tj_syntax.specs.Starts.{Start, TaskStart, in_tasks}
use Rattle.tj_syntax.specs.Trees.{Ask, Statement, Task}
use Rattle.tj_syntax.proofs.Starting.Parts.{script_stands}
use Rattle.tj_eval.proofs.Tables.{inside_more}
use Rattle.tj_reasons.specs.FailureLaws.{ForksAreDeclared}
use Rattle.tj_reasons.specs.ReasonLaws.{IsDeclared}

-- what holds of each of a list holds of the second behind a front
second : {A : Type 0} (P : A → Type 0) (front : List A) (y x : A) (rest : List A)
    → AllByRecursion P (front ++ (y ∷ (x ∷ rest))) → P x
second P [] y x rest h = h.1.0
second P (z ∷ front) y x rest h = second P front y x rest h.1

-- so many parameters
counted : {X : Type 0} (x : X) (b : Bool) (n m : ℕ) → nat_eq n m ≡ b → (if b then None else Some x) ≡ None → m ≡ n
counted x true n m e h = sym (eqb-true n m e)
counted x false n m e h = absurd (cc)

module _ (script : List Task) where
  -- what is declared of a name that isn't faulty
  by_number : (number : Option ℕ) (count : ℕ) → fork_of (task_at script number) count ≡ None
      → (d : Task) × (slice_get script (unwrap_or number 0) ≡ Some d) × (count ≡ d.params)
  by_number None count h = absurd (cc)
  by_number (Some n) count h = by (slice_get script n) refl h where
    by : (o : Option Task) → slice_get script n ≡ o → fork_of o count ≡ None
        → (d : Task) × (slice_get script n ≡ Some d) × (count ≡ d.params)
    by None e h = absurd (cc)
    by (Some t) e h = (t, e, counted _ (nat_eq t.params count) t.params count refl h)

  module _ (notes : List Noted) (right : AreForksRight script notes) where
    abbrev names : List Name
    names = map (λ (t : Task). t.name) script

    -- an ask that stands among the notes
    by_ask : (room : ℕ) (vars : List Name) (part : List Noted) (q : Ask) → IsAsk names vars room part q
        → (front back : List Noted) → notes ≡ front ++ (part ++ back) → IsDeclared script (Some q)
    by_ask room vars _ _ new front back whole = tt
    by_ask room vars _ _ (fork f args) front back whole =
        by_number (index_of names f) _
        (second (λ noted. fork_breach script noted ≡ None) front _ _ _
        (subst (AllByRecursion (λ noted. fork_breach script noted ≡ None)) whole right))
    by_ask room vars _ _ (get r other) front back whole = tt
    by_ask room vars _ _ (join r other) front back whole = tt

    of_ask : (q : Option Ask) (k : Option ℕ) → IsAskAt names notes q k → IsDeclared script q
    of_ask None k h = tt
    of_ask (Some q) None h = absurd h
    of_ask (Some q) (Some k) h = by_ask h.room h.vars h.part q h.is h.stands.front h.stands.back h.stands.whole

    statement_in : (front : List Statement) (s : Statement) (behind : List Statement) (ps : List Start)
        → StandAt names notes (front ++ s ∷ behind) ps → (p : Start) × StatementStandsAt names notes s p
    statement_in [] s behind [] h = absurd h
    statement_in [] s behind (p ∷ ps) h = (p, h.0)
    statement_in (x ∷ front) s behind [] h = absurd h
    statement_in (x ∷ front) s behind (p ∷ ps) h = statement_in front s behind ps h.1

    task_in : (ts : List Task) (us : List TaskStart) (n : ℕ) (t : Task) → TasksStandAt names notes ts us
        → slice_get ts n ≡ Some t → (u : TaskStart) × TaskStandsAt names notes t u
    task_in [] us n t h e = absurd (cc)
    task_in (x ∷ ts) [] n t h e = absurd h
    task_in (x ∷ ts) (u ∷ us) zero t h e = let same : x ≡ t = cc in
        (u, subst (λ z. TaskStandsAt names notes z u) same h.0)
    task_in (x ∷ ts) (u ∷ us) (suc n) t h e = task_in ts us n t h.1 e

-- each fork of a script is declared
pub forks_declared : (tokens : List Tok) (script : List Task) → IsScript tokens script → ForksAreDeclared script
forks_declared tokens script is decl at d s declared there =
    let u = task_in script is.notes is.forks_right script (in_tasks is.derived 0) decl d
    (script_stands is.notes script is.derived) declared in
    let more = inside_more s in
    let split = there.split ∙ ap (λ z. there.front ++ (z ++ there.behind)) more.1 in
    let p = statement_in script is.notes is.forks_right there.front s (more.0 ++ there.behind) u.0.statements
    (subst (λ z. StandAt (map (λ (t : Task). t.name) script) is.notes z u.0.statements) split u.1.statements) in
    of_ask script is.notes is.forks_right (own_ask s) p.0.ask p.1.ask
