-- The reason that is told of a failure is that of the statement at which the history stands.
use Rattle.std.proofs.Common.{◌≡◌, ℕ, Bool, List, refl, ap, sym, ◌∙◌, subst}
use Rattle.std.specs.Prelude.{Option, Some, None, slice_get, option_map}
use Rattle.std.proofs.lemmas.Option.{slice_get-map}
use Rattle.tj_base.specs.declared.cause.Cause.{Cause}
use Rattle.tj_base.specs.declared.cause.Cause.TheVariants as cause
use Rattle.tj_base.specs.declared.cause.Trouble.{Trouble}
use Rattle.tj_base.specs.declared.cause.Trouble.TheVariants as trouble
use Rattle.tj_body.specs.History.{history}
use Rattle.tj_body.specs.Points.{IsIn}
use Rattle.tj_body.specs.Rounds.{given, last_round, tasks}
use Rattle.tj_body.specs.SeenAs.{task_as}
use Rattle.tj_body.specs.declared.point.Close.TheVariants as close
use Rattle.tj_body.specs.declared.point.Point.{Point}
use Rattle.tj_body.specs.declared.point.PointStage.{PointStage}
use Rattle.tj_body.specs.declared.point.PointStage.TheVariants as stage
use Rattle.tj_body.specs.declared.point.Task.{Task}
use Rattle.tj_body.proofs.Lists.{to_map}
use Rattle.tj_body.proofs.SeenAs.{histories_seen, rounds_seen}
use Rattle.tj_eval.specs.Stands.{PlacedState, StandsRight}
use Rattle.tj_mean.specs.Outcomes.{ending_of}
use Rattle.tj_mean.specs.declared.outcome.Ending.TheVariants as ending
use Rattle.tj_mean.specs.declared.outcome.Link.{Link}
use Rattle.tj_mean.proofs.Lists.Elements.{some_is}
use Rattle.tj_syntax.specs.Trees as trees
use Rattle.tj_syntax.specs.Trees.{Statement}
use Rattle.tj_syntax.specs.Within.{within}
use Rattle.tj_trace.specs.Logs.{Logged, logged_program}
use Rattle.tj_trace.specs.MadeAt.{placed_program}
use Rattle.tj_trace.specs.Traces.{AreTraced, held_at}
use Rattle.tj_trace.specs.declared.line.Maker.{Maker}
use Rattle.tj_trace.specs.declared.line.TraceLine.{TraceLine}
use Rattle.tj_trace.proofs.Asked.{is_numbered}
use Rattle.tj_trace.proofs.HasLines.{HasLine, line_is, line_name, of_line}
use Rattle.tj_trace.proofs.MadeThere.{lines_are_of_stands}
use Rattle.tj_trace.proofs.SetsThere.{place}
use Rattle.tj_reasons.specs.FailureLaws.{ForksAreDeclared, HasReason, HasReasonFor, HasReasonIn}
use Rattle.tj_reasons.specs.FailureLaws.{held_at as held_of}
use Rattle.tj_reasons.specs.ReasonLaws.{TellsOf}
use Rattle.tj_reasons.specs.Reasons.{failed_at}
use Rattle.tj_reasons.proofs.FailuresTold.{failures_have_reasons}
use Rattle.tj_reasons.proofs.ForksDeclared.{forks_declared}
use Rattle.tj_reasons.proofs.StatementsFirst.{statement_first}
use Rattle.tj_reasons.specs.declared.reason.Reason.{Reason}
use Rattle.tj_forest.proofs.Found.{IsOf, a_cycle, a_debt, a_failure, a_wait, an_echo, is_of}
use Rattle.tj_forest.proofs.Placed.{main_right}
use Rattle.tj_forest.proofs.PlacedTasks.{placed_seen}
use Rattle.tj_findings.specs.Findings.{told_task}
use Rattle.tj_findings.specs.ReasonTexts.{reason_in}
use Rattle.tj_forest.specs.ReasonsTold.{FailsFirst, IsToldWhy, ReasonsAreTold}
use Rattle.tj_findings.specs.Scenes.{Told, statement_at, statement_in, statements_of}
use Rattle.tj_findings.specs.declared.finding.Finding.{Finding}
use Rattle.tj_findings.specs.declared.finding.Finding.TheVariants as finding
use Rattle.tj_findings.specs.declared.finding.ToldTask.{ToldTask}

-- the task that failed, and its cause
abbrev failed_so : Finding → Option (ToldTask × Cause)
failed_so (finding.Failed t c m) = Some (t, c)
failed_so f = None

pair_is : (t u : ToldTask) (c d : Cause) → ◌≡◌ {A = Option (ToldTask × Cause)} (Some (t, c)) (Some (u, d))
    → (t ≡ u) × (c ≡ d)
pair_is t u c d e = (
  ap (λ (p : ToldTask × Cause). p.0) (some_is (t, c) (u, d) e),
  ap (λ (p : ToldTask × Cause). p.1) (some_is (t, c) (u, d) e),
)

-- a history that has ended so has failed
failed_stage : (st : PointStage) (c : Cause) → ending_of st ≡ Some (ending.Failed c)
    → st ≡ stage.Closed (close.Failed c)
failed_stage (stage.Answered a) c e = absurd (cc)
failed_stage (stage.Waits q spare) c e = absurd (cc)
failed_stage (stage.Closed (close.Done v)) c e = absurd (cc)
failed_stage (stage.Closed (close.Failed d)) c e = let same : d ≡ c = cc in ap (λ x. stage.Closed (close.Failed x)) same

module _ (script : List trees.Task) (strict : Bool) (root : PlacedState) (right : StandsRight root)
    (own : root.task.script ≡ script) (declared : ForksAreDeclared root.task.script) (N : ℕ) (lines : List TraceLine)
    (traced : AreTraced (logged_program strict root) N lines) where
  abbrev point : Task PlacedState → Point PlacedState
  point u = let program = placed_program strict root in
      history program.rules (given program (last_round N)) u

  -- the task of a line, without its notes
  module _ (l : TraceLine) (there : IsIn l lines) (c : Cause) (ends : l.line.ending ≡ ending.Failed c) where
    k : (t : Task Logged) × HasLine strict root N t l
    k = of_line strict root N lines traced l there

    abbrev u : Task PlacedState
    u = task_as place k.0

    u_there : IsIn u (tasks (placed_program strict root) (last_round N))
    u_there = let seen = rounds_seen place (logged_program strict root) (placed_program strict root)
        (record { rules = placed_seen strict root; root = refl }) (last_round N) in
        subst (IsIn u) (sym seen.tasks)
        (to_map (task_as place) k.0 (tasks (logged_program strict root) (last_round N)) k.1.there)

    has_failed : (point u).stage ≡ stage.Closed (close.Failed c)
    has_failed =
        let rules = (logged_program strict root).rules in
        let V = given (logged_program strict root) (last_round N) in
        let seen = rounds_seen place (logged_program strict root) (placed_program strict root)
        (record { rules = placed_seen strict root; root = refl }) (last_round N) in
        let other = (placed_program strict root).rules in
        let same = (histories_seen place rules other (placed_seen strict root) V k.0).1 in
        let e = line_is (history rules V k.0) l k.1.is in
        ap (λ W. (history (placed_program strict root).rules W u).stage) seen.given
        ∙ ap (λ (p : Point PlacedState). p.stage) same
        ∙ failed_stage (history rules V k.0).stage c
        (e.1 ∙ ap Some (ap (λ (m : TraceLine). m.line.ending) e.2 ∙ ends))

    has_reason : HasReasonFor root.task.script (point u).body (held_of (point u)) c
    has_reason = subst (HasReasonIn root.task.script (point u).body (held_of (point u))) has_failed
        (failures_have_reasons strict root right declared (last_round N) u u_there)

    -- the statement that is looked up is the one at which the history stands
    module _ (s : Told) (table : s.statements ≡ statements_of script) where
      fails_first : (q : Statement) → statement_at s l.decl l.at ≡ Some q → l.held ≡ held_of (point u)
          → (r : Reason) → reason_in l.held (statement_at s l.decl l.at) ≡ Some r → FailsFirst s (told_task lines l) r
      fails_first q row held r e = let p = point u in (
        q,
        p.name,
        p.references,
        p.body.task.vars,
        row,
        held,
        statement_first p.name p.references p.body.task.vars q r
            (sym (ap (λ v. failed_at v q) held) ∙ (sym (ap (reason_in l.held) row) ∙ e)),
      )

      told_reason : (fault : Trouble) → HasReason root.task.script (point u).body (held_of (point u)) fault
          → held_at (ending.Failed c) (held_of (point u)) ≡ held_of (point u)
          → TellsOf fault (reason_in l.held (statement_at s l.decl l.at))
          × ((r : Reason) → reason_in l.held (statement_at s l.decl l.at) ≡ Some r → FailsFirst s (told_task lines l) r)
      told_reason fault h same =
          let line = lines_are_of_stands strict root N lines traced l there u u_there
          (line_name strict root N k.0 l k.1) in
          let found : slice_get script l.decl ≡ Some h.1.task = ap (slice_get script) line.decl
          ∙ ap (λ z. slice_get z (point u).body.stand.decl) (sym own) ∙ h.1.is_declared in
          let row : statement_at s l.decl l.at ≡ Some h.0 =
          ap (λ z. statement_in (slice_get z l.decl) l.at) table
          ∙ ap (λ o. statement_in o l.at) (slice_get-map (λ (d : trees.Task). within d.body) script l.decl
          ∙ ap (option_map (λ (d : trees.Task). within d.body)) found)
          ∙ ap (slice_get (within h.1.task.body)) line.at
          ∙ is_numbered (within h.1.task.body) (point u).body.stand.at h.0 h.1.is_at in
          let held : l.held ≡ held_of (point u) = line.held
          ∙ ap (λ e. held_at e (held_of (point u))) ends ∙ same in (
            subst (λ o. TellsOf fault (reason_in l.held o)) (sym row)
                (subst (λ v. TellsOf fault (failed_at v h.0)) (sym held) h.2),
            λ r e. fails_first h.0 row held r e,
          )

    told_for : (d : Cause) → c ≡ d → IsToldWhy script (told_task lines l) d
    told_for cause.Arith e = λ s table. told_reason s table trouble.Arith
        (subst (HasReasonFor root.task.script (point u).body (held_of (point u))) e has_reason)
        (ap (λ x. held_at (ending.Failed x) (held_of (point u))) e)
    told_for cause.Kind e = λ s table. told_reason s table trouble.Kind
        (subst (HasReasonFor root.task.script (point u).body (held_of (point u))) e has_reason)
        (ap (λ x. held_at (ending.Failed x) (held_of (point u))) e)
    told_for cause.Steps e = λ s table. (tt, λ r none. absurd (cc))
    told_for (cause.Owner q) e = λ s table. (tt, λ r none. absurd (cc))
    told_for (cause.Broken q) e = λ s table. (tt, λ r none. absurd (cc))
    told_for (cause.Order q) e = λ s table. (tt, λ r none. absurd (cc))

  of_failure : (cycles : List (List Link)) (t : ToldTask) (c : Cause) (m : Option Maker)
      → IsOf lines cycles (finding.Failed t c m) → IsToldWhy script t c
  of_failure cycles t c m (a_cycle d i e) = absurd (cc)
  of_failure cycles t c m (a_wait l i p is e) = absurd (cc)
  of_failure cycles t c m (a_failure l i d is none e) =
      let both = pair_is t (told_task lines l) c d (ap failed_so e) in
      subst (λ z. IsToldWhy script z c) (sym both.0)
      (told_for l i c (is ∙ ap ending.Failed (sym both.1)) c refl)
  of_failure cycles t c m (a_debt l i p owed e) = absurd (cc)
  of_failure cycles t c m (an_echo l i p is e) = absurd (cc)

-- the law
pub reasons_are_told : ReasonsAreTold
reasons_are_told script steps root main tokens is strict N lines cycles traced t c m i =
    let right = main_right script steps root main in
    of_failure script strict root right.0 right.1
    (subst ForksAreDeclared (sym right.1) (forks_declared tokens script is)) N lines traced cycles t c m
    (is_of lines cycles (finding.Failed t c m) i)
