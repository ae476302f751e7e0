-- What a line tells as owned where its task stopped is what the task owned there.
use Rattle.std.proofs.Common.{◌≡◌, ℕ, Bool, List, map, Some, refl, sym, ap, ◌∙◌, subst}
use Rattle.tj_base.specs.ForkOrder.{Name}
use Rattle.tj_body.specs.History.{history}
use Rattle.tj_body.specs.Points.{IsIn}
use Rattle.tj_body.specs.Rounds.{given, last_round, meaning, tasks}
use Rattle.tj_body.specs.SeenAs.{point_as}
use Rattle.tj_body.specs.declared.point.Close.TheVariants as close
use Rattle.tj_body.specs.declared.point.Point.{Point}
use Rattle.tj_body.specs.declared.point.PointStage.{PointStage}
use Rattle.tj_body.specs.declared.point.PointStage.TheVariants as stage
use Rattle.tj_body.specs.declared.point.Task.{Task}
use Rattle.tj_body.proofs.Lists.{in_map, to_map}
use Rattle.tj_body.proofs.SeenAs.{meaning_seen}
use Rattle.tj_eval.specs.Stands.{PlacedState}
use Rattle.tj_mean.specs.Outcomes.{ending_of, shown_of}
use Rattle.tj_mean.specs.declared.outcome.Ending.{Ending}
use Rattle.tj_mean.specs.declared.outcome.Ending.TheVariants as ending
use Rattle.tj_trace.specs.Inner.LogLaws.{are_seen}
use Rattle.tj_trace.specs.Logs.{Logged, erased, logged_program}
use Rattle.tj_trace.specs.Lookups.{kept_by, kept_with}
use Rattle.tj_trace.specs.TraceLaws.{script_program}
use Rattle.tj_trace.specs.Traces.{AreTraced}
use Rattle.tj_trace.specs.declared.line.TraceLine.{TraceLine}
use Rattle.tj_trace.proofs.HasLines.{ended_line, line_is, not_none, of_line, some_is, to_line}
use Rattle.tj_forest.specs.WentLaws.{OwnedAtEnd, kept_at}

-- by the stage at which the task stopped
kept_of : (p : Point Logged) (e : Ending) (z : PointStage) → ending_of z ≡ Some e
    → kept_with e (ended_line p e) ≡ kept_at z (point_as erased p)
kept_of p e (stage.Answered a) h = absurd (not_none e h)
kept_of p e (stage.Waits x spare) h = ap (λ o. kept_with o (ended_line p o)) (sym (some_is (ending.Waits x) e h))
kept_of p e (stage.Closed (close.Done v)) h =
    ap (λ o. kept_with o (ended_line p o)) (sym (some_is (ending.Done (shown_of v)) e h))
kept_of p e (stage.Closed (close.Failed c)) h =
    ap (λ o. kept_with o (ended_line p o)) (sym (some_is (ending.Failed c) e h))

module _ (strict : Bool) (root : PlacedState) (N : ℕ) (lines : List TraceLine)
    (traced : AreTraced (logged_program strict root) N lines) where
  abbrev logged_meaning : List (Point Logged)
  logged_meaning = meaning (logged_program strict root) N

  abbrev history_of : Task Logged → Point Logged
  history_of = history (logged_program strict root).rules (given (logged_program strict root) (last_round N))

  -- the script's histories are those with notes, without these
  same_meaning : meaning (script_program strict root) N ≡ map (point_as erased) logged_meaning
  same_meaning = meaning_seen erased (logged_program strict root) (script_program strict root)
      (record { rules = are_seen strict; root = refl }) N

  -- a history with notes is one of the script's, without them
  pub without_notes : (p : Point Logged) → IsIn p logged_meaning
      → IsIn (point_as erased p) (meaning (script_program strict root) N)
  without_notes p i =
      subst (IsIn (point_as erased p)) (sym same_meaning) (to_map (point_as erased) p logged_meaning i)

  -- the task of a line owned what the line tells
  pub line_keeps : (l : TraceLine) → IsIn l lines → (q : Name) → IsIn q (kept_by l)
      → OwnedAtEnd strict root N l.line.name q
  line_keeps l i q j =
      let t = of_line strict root N lines traced l i in
      let p = history_of t.0 in
      let k = line_is p l t.1.is in (
        point_as erased p,
        without_notes p (to_map history_of t.0 _ t.1.there),
        ap (λ (z : TraceLine). z.line.name) k.2,
        subst (IsIn q) (ap kept_by (sym k.2) ∙ kept_of p k.0 p.stage k.1) j,
      )

  -- what a task owned its line tells
  pub keeps_line : (y q : Name) → OwnedAtEnd strict root N y q → (l : TraceLine) × IsIn l lines × IsIn q (kept_by l)
  keeps_line y q (p, i, name, j) =
      let r = in_map (point_as erased) p logged_meaning (subst (IsIn p) same_meaning i) in
      let t = in_map history_of r.0 (tasks (logged_program strict root) (last_round N)) r.1 in
      let l = to_line strict root N lines traced t.0 t.1 in
      let h = history_of t.0 in
      let k = line_is h l.0 l.2.is in
      let own : IsIn q (kept_at h.stage (point_as erased h)) =
      subst (λ (z : Point _). IsIn q (kept_at z.stage z)) (r.2 ∙ ap (point_as erased) t.2) j in (
        l.0,
        l.1,
        subst (IsIn q) (sym (ap kept_by (sym k.2) ∙ kept_of h k.0 h.stage k.1)) own,
      )
