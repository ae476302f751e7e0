-- The law of the reasons that are told: of each task that is told to have failed by `arith` or `kind` a reason is told,
-- it tells of this fault, and it is that of what failed first.
use Rattle.std.specs.Prelude.{◌≡◌, ℕ, Bool, List, map, Option, Some}
use Rattle.tj_base.specs.ForkOrder.{Name}
use Rattle.tj_base.specs.declared.cause.Cause.{Cause}
use Rattle.tj_base.specs.declared.cause.Cause.TheVariants as cause
use Rattle.tj_base.specs.declared.cause.Trouble.TheVariants as trouble
use Rattle.tj_base.specs.declared.value.Pay.{Pay}
use Rattle.tj_body.specs.History.{value_at}
use Rattle.tj_body.specs.Points.{IsIn}
use Rattle.tj_body.specs.declared.point.Reference.{Reference}
use Rattle.tj_eval.specs.Stands.{IsPlacedMain, PlacedState}
use Rattle.tj_lex.specs.declared.token.Tok.{Tok}
use Rattle.tj_mean.specs.declared.outcome.Link.{Link}
use Rattle.tj_syntax.specs.Faults.{IsScript}
use Rattle.tj_syntax.specs.Trees.{Statement, Task}
use Rattle.tj_trace.specs.Logs.{logged_program}
use Rattle.tj_trace.specs.Traces.{AreTraced}
use Rattle.tj_trace.specs.declared.line.Maker.{Maker}
use Rattle.tj_trace.specs.declared.line.TraceLine.{TraceLine}
use Rattle.tj_reasons.specs.FirstFaults.{StatementFails}
use Rattle.tj_reasons.specs.ReasonLaws.{TellsOf}
use Rattle.tj_reasons.specs.declared.reason.Reason.{Reason}
use Rattle.tj_findings.specs.Findings.{findings_of}
use Rattle.tj_findings.specs.ReasonTexts.{reason_for}
use Rattle.tj_findings.specs.Scenes.{Told, statement_at, statements_of}
use Rattle.tj_findings.specs.declared.finding.Finding.TheVariants as finding
use Rattle.tj_findings.specs.declared.finding.ToldTask.{ToldTask}

-- there is a reason, which tells of the cause, if this is one for which there are reasons
abbrev pub TellsOfCause : Cause → Option Reason → Type 0
TellsOfCause cause.Arith r = TellsOf trouble.Arith r
TellsOfCause cause.Kind r = TellsOf trouble.Kind r
TellsOfCause cause.Steps r = Unit {0}
TellsOfCause (cause.Owner q) r = Unit {0}
TellsOfCause (cause.Broken q) r = Unit {0}
TellsOfCause (cause.Order q) r = Unit {0}

-- for this reason the statement fails at which the task stopped: it is that of the statement's first part that fails or
-- isn't what is wanted there, by what the task's variables held
abbrev pub FailsFirst : Told → ToldTask → Reason → Type 0
FailsFirst s t r = (q : Statement) × (x : Name) × (references : List Reference) × (vars : List Pay)
    × (statement_at s t.decl t.at ≡ Some q) × (t.held ≡ map (value_at x references) vars)
    × StatementFails x references vars q r

-- so it is of the reason that is told of a task that failed for this cause, whatever else a text looks things up in
abbrev pub IsToldWhy : List Task → ToldTask → Cause → Type 0
IsToldWhy script t c = (s : Told) → s.statements ≡ statements_of script → TellsOfCause c (reason_for s t c)
    × ((r : Reason) → reason_for s t c ≡ Some r → FailsFirst s t r)

-- and of each failure that is told of a run from the body of `main` on
abbrev pub ReasonsAreTold : Type 0
ReasonsAreTold = (script : List Task) (steps : ℕ) (root : PlacedState) → IsPlacedMain script steps root
    → (tokens : List Tok) → IsScript tokens script
    → (strict : Bool) (N : ℕ) (lines : List TraceLine) (cycles : List (List Link))
    → AreTraced (logged_program strict root) N lines
    → (t : ToldTask) (c : Cause) (m : Option Maker)
    → IsIn (finding.Failed t c m) (findings_of lines cycles) → IsToldWhy script t c
