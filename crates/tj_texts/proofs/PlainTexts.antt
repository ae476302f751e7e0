-- The lines of a text of findings: none of their parts has a line feed, so each is one line.
use Rattle.std.proofs.Common.{ℕ, Bool, true, false, cond, nat_eq, suc, List, [], ◌∷◌, ◌++◌, length, map}
use Rattle.std.proofs.Common.{Option, Some, None, refl}
use Rattle.std.specs.Prelude.{codes, decimal, slice_get}
use Rattle.std.specs.List.{list_all}
use Rattle.std.specs.Option.{option_map}
use Rattle.tj_base.specs.ForkOrder.{Name, child}
use Rattle.tj_base.specs.Texts.{name_text}
use Rattle.tj_base.specs.declared.cause.Cause.{Cause}
use Rattle.tj_base.specs.declared.cause.Cause.TheVariants as cause
use Rattle.tj_body.specs.Names.{same}
use Rattle.tj_mean.specs.ReportTexts.{cause_text, line_feed}
use Rattle.tj_trace.specs.declared.line.Maker.{Maker}
use Rattle.tj_findings.specs.Groups.{cell_named, cell_told, cells_told, maker_told, origin_told, same_maker, same_name}
use Rattle.tj_findings.specs.Groups.{same_stand, tasks_told}
use Rattle.tj_findings.specs.LinesTold.{AreLines, HasPlainNames, IsPlain}
use Rattle.tj_findings.specs.PartTexts.{cause_word, is_promise, made_text, owner_text, promise_text, stopped_word}
use Rattle.tj_findings.specs.PartTexts.{where_agreed}
use Rattle.tj_findings.specs.ReasonTexts.{all_reasons}
use Rattle.tj_findings.specs.Scenes.{Told, name_of, spot_text, stop_text, task_at}
use Rattle.tj_findings.specs.Went.{same_went}
use Rattle.tj_findings.specs.declared.finding.Finding.{Finding}
use Rattle.tj_findings.specs.declared.finding.Stop.{Stop}
use Rattle.tj_findings.specs.declared.finding.ToldCell.{ToldCell}
use Rattle.tj_findings.specs.declared.finding.ToldTask.{ToldTask}
use Rattle.tj_findings.specs.declared.finding.Wait.{Wait}
use Rattle.tj_findings.specs.declared.finding.Went.{Went}
use Rattle.tj_findings.specs.declared.finding.Went.TheVariants as went
use Rattle.tj_findings.proofs.PlainTexts.{one_line, plain_before, plain_both, plain_cond, plain_decimal}
use Rattle.tj_findings.proofs.PlainParts.{plain_agreed, plain_by_stop, plain_cause, plain_label, plain_made, plain_name}
use Rattle.tj_findings.proofs.PlainParts.{plain_named, plain_owner, plain_promise, plain_reasons, plain_spot}
use Rattle.tj_findings.proofs.PlainParts.{plain_stop}
use Rattle.tj_findings.proofs.PlainParts.{plain_stopped, plain_task_at, plain_word}
use Rattle.tj_texts.specs.WhyTexts as why
use Rattle.tj_texts.specs.WentTexts.{alike_went, each_text, went_text}

-- so many tasks
pub plain_tasks : (n : ℕ) → IsPlain (why.tasks_text n)
plain_tasks n =
    plain_cond (nat_eq n 1) (codes "1 task") (decimal n ++ codes " tasks") refl
    (plain_both (decimal n) (codes " tasks") (plain_decimal n) refl)

-- how many cycles there are
pub plain_times : (n : ℕ) → IsPlain (why.times n)
plain_times n =
    plain_cond (nat_eq n 1) [] (decimal n ++ codes " times ") refl
    (plain_both (decimal n) (codes " times ") (plain_decimal n) refl)

-- two names, and how many more
plain_many : (x y : Name) (n : ℕ) → IsPlain (why.many_names x y n)
plain_many x y n =
    let two = name_text x ++ codes ", " ++ name_text y in
    plain_both (two ++ codes " and " ++ decimal n) (codes " more")
    (plain_both (two ++ codes " and ") (decimal n)
    (plain_both two (codes " and ")
    (plain_both (name_text x ++ codes ", ") (name_text y)
    (plain_both (name_text x) (codes ", ") (plain_name x) refl) (plain_name y)) refl) (plain_decimal n)) refl

-- the first of several names
pub plain_names : (xs : List Name) → IsPlain (why.first_names xs)
plain_names [] = refl
plain_names (x ∷ []) = plain_name x
plain_names (x ∷ y ∷ []) =
    plain_both (name_text x ++ codes " and ") (name_text y)
    (plain_both (name_text x) (codes " and ") (plain_name x) refl) (plain_name y)
plain_names (x ∷ y ∷ z ∷ more) = plain_many x y _

-- where a task was forked
plain_forked : (s : Told) (m : Option Maker) → IsPlain (why.fork_text s m)
plain_forked s None = refl
plain_forked s (Some m) =
    plain_both (codes " (forked at " ++ spot_text s m.decl m.at) (codes ")")
    (plain_both (codes " (forked at ") (spot_text s m.decl m.at) refl (plain_spot s m.decl m.at)) refl

-- the task for which tasks wait
plain_joined : (w : Wait) (ws : List Wait) → IsPlain (why.joined_text w ws)
plain_joined w ws =
    plain_cond (list_all (λ v. same w.cell.name v.cell.name) ws) (codes "the task " ++ name_text w.cell.name)
    (codes "tasks") (plain_both (codes "the task ") (name_text w.cell.name) refl (plain_name w.cell.name)) refl

-- what a task did that failed or ended owing
plain_end_word : (how : Stop) → IsPlain (why.end_word how)
plain_end_word how =
    plain_by_stop how (codes ", which ended owing at ") (codes ", which failed at ") (codes ", which waits at ") refl
    refl refl

-- the task where an echo began
plain_origin : (s : Told) (o : Option ToldTask) → IsPlain (why.origin_text s o)
plain_origin s None = refl
plain_origin s (Some t) =
    let name = codes ", at first from " ++ name_text t.name in
    plain_both (name ++ why.end_word t.stop) (stop_text s t)
    (plain_both name (why.end_word t.stop)
    (plain_both (codes ", at first from ") (name_text t.name) refl (plain_name t.name)) (plain_end_word t.stop))
    (plain_stop s t)

-- where a promise went
plain_went : (s : Told) (d : ℕ) (w : Went) → IsPlain (went_text s d w)
plain_went s d went.Nowhere = refl
plain_went s d (went.SetHere n) = plain_both (codes ", set at ") (spot_text s d n) refl (plain_spot s d n)
plain_went s d (went.HandedHere x k n) =
    let name = name_text (child x k) in
    plain_both (codes ", handed to " ++ name ++ codes " at ") (spot_text s d n)
    (plain_both (codes ", handed to " ++ name) (codes " at ")
    (plain_both (codes ", handed to ") name refl (plain_name (child x k))) refl) (plain_spot s d n)
plain_went s d went.TwiceHere = refl
plain_went s d (went.SetBy x e n) =
    plain_both (codes ", which " ++ name_text x ++ codes " set at ") (spot_text s e n)
    (plain_both (codes ", which " ++ name_text x) (codes " set at ")
    (plain_both (codes ", which ") (name_text x) refl (plain_name x)) refl) (plain_spot s e n)
plain_went s d (went.OwnedBy x) =
    plain_both (codes ", which " ++ name_text x) (codes " owned where it stopped")
    (plain_both (codes ", which ") (name_text x) refl (plain_name x)) refl

-- where promises went at one statement
plain_each : (s : Told) (d : ℕ) (w : Went) → IsPlain (each_text s d w)
plain_each s d went.Nowhere = refl
plain_each s d (went.SetHere n) = refl
plain_each s d (went.HandedHere x k n) =
    plain_both (codes ", each handed on at ") (spot_text s d n) refl (plain_spot s d n)
plain_each s d went.TwiceHere = refl
plain_each s d (went.SetBy x e n) =
    plain_both (codes ", each set by another at ") (spot_text s e n) refl (plain_spot s e n)
plain_each s d (went.OwnedBy x) = refl

-- where promises went for which several tasks failed
plain_all_went : (s : Told) (t : ToldTask) (ts : List ToldTask) → IsPlain (why.all_went s t ts)
plain_all_went s t ts =
    plain_cond (list_all (λ u. same_went t.went u.went) ts) (went_text s t.decl t.went) (why.each_went s t ts)
    (plain_went s t.decl t.went)
    (plain_agreed (list_all (λ u. alike_went t.went u.went) ts) (each_text s t.decl t.went)
    (plain_each s t.decl t.went))

-- the cause of failures
plain_cause_of : (c : Cause) (fs : List Finding) → IsPlain (why.cause_of c fs)
plain_cause_of c fs =
    plain_cond (list_all (λ g. same_name (cell_named c) (cell_told g)) fs) (cause_text c) (cause_word c) (plain_cause c)
    (plain_word c)

module _ (s : Told) (plain : HasPlainNames s) where
  -- several tasks
  plain_crowd : (t : ToldTask) (ts : List ToldTask) → IsPlain (why.crowd s t ts)
  plain_crowd t ts =
      let names = why.first_names (map (λ u. u.name) ts) in
      let name = name_of (slice_get s.script t.decl) in
      let agreed = list_all (λ u. same_maker t.fork u.fork) ts in
      plain_both (names ++ codes " of task " ++ name) (where_agreed agreed (why.fork_text s t.fork))
      (plain_both (names ++ codes " of task ") name
      (plain_both names (codes " of task ") (plain_names (map (λ u. u.name) ts)) refl) (plain_named s plain t.decl))
      (plain_agreed agreed (why.fork_text s t.fork) (plain_forked s t.fork))

  -- tasks
  plain_tasks_named : (ts : List ToldTask) → IsPlain (why.tasks_named s ts)
  plain_tasks_named [] = refl
  plain_tasks_named (t ∷ []) = plain_label s plain t
  plain_tasks_named (t ∷ u ∷ more) = plain_crowd t (t ∷ u ∷ more)

  -- promises for which tasks wait
  plain_promises : (w : Wait) (ws : List Wait) → IsPlain (why.promises_text s w ws)
  plain_promises w ws =
      let one = list_all (λ v. same w.cell.name v.cell.name) ws in
      let first = cond one (codes "the promise " ++ name_text w.cell.name) (codes "promises") in
      let made = list_all (λ v. same_maker w.cell.maker v.cell.maker) ws in
      let owned = list_all (λ v. same_name w.owner v.owner) ws in
      plain_both (first ++ where_agreed made (made_text s w.cell.maker)) (where_agreed owned (owner_text w.owner))
      (plain_both first (where_agreed made (made_text s w.cell.maker))
      (plain_cond one (codes "the promise " ++ name_text w.cell.name) (codes "promises")
      (plain_both (codes "the promise ") (name_text w.cell.name) refl (plain_name w.cell.name)) refl)
      (plain_agreed made (made_text s w.cell.maker) (plain_made s plain w.cell.maker)))
      (plain_agreed owned (owner_text w.owner) (plain_owner w.owner))

  -- what tasks wait for
  plain_cell : (w : Wait) (ws : List Wait) → IsPlain (why.cell_text s w ws)
  plain_cell w ws =
      plain_cond (is_promise w.cell.maker) (why.promises_text s w ws) (why.joined_text w ws) (plain_promises w ws)
      (plain_joined w ws)

  -- a line for waits
  pub wait_line : (w : Wait) (ws : List Wait) → AreLines 1 (why.wait_text s w ws)
  wait_line w ws =
      let names = why.tasks_named s (map (λ v. v.task) ws) in
      let waits = why.one_or (length ws) (codes " waits at ") (codes " wait at ") in
      one_line (names ++ waits ++ stop_text s w.task ++ codes " for " ++ why.cell_text s w ws)
      (plain_both (names ++ waits ++ stop_text s w.task ++ codes " for ") (why.cell_text s w ws)
      (plain_both (names ++ waits ++ stop_text s w.task) (codes " for ")
      (plain_both (names ++ waits) (stop_text s w.task)
      (plain_both names waits (plain_tasks_named (map (λ v. v.task) ws))
      (plain_cond (nat_eq (length ws) 1) (codes " waits at ") (codes " wait at ") refl refl))
      (plain_stop s w.task)) refl) (plain_cell w ws))

  -- what a task did that owned promises
  plain_did : (before : List ℕ) (how : Stop) → IsPlain before → IsPlain (before ++ stopped_word how ++ codes " at ")
  plain_did before how p =
      plain_both (before ++ stopped_word how) (codes " at ")
      (plain_both before (stopped_word how) p (plain_stopped how)) refl

  -- a line for a promise that was owed
  debt_line : (q : ToldCell) (t : ToldTask) → AreLines 1 (why.debt_line s q t)
  debt_line q t =
      let did = codes " owned it and " ++ stopped_word t.stop ++ codes " at " in
      one_line (codes "owed: " ++ promise_text s q ++ codes " was never set: " ++ task_at s t did)
      (plain_both (codes "owed: " ++ promise_text s q ++ codes " was never set: ") (task_at s t did)
      (plain_both (codes "owed: " ++ promise_text s q) (codes " was never set: ")
      (plain_both (codes "owed: ") (promise_text s q) refl (plain_promise s plain q)) refl)
      (plain_task_at s plain t did (plain_did (codes " owned it and ") t.stop refl)))

  -- who owed several promises
  plain_owners : (t : ToldTask) (ts : List ToldTask) → IsPlain (why.owners_text s t ts)
  plain_owners t ts =
      let did = codes " owned them and " ++ stopped_word t.stop ++ codes " at " in
      let one = codes ": " ++ task_at s t did in
      let name = name_of (slice_get s.script t.decl) in
      let each = codes ": task " ++ name ++ codes " owned each and " in
      let several = each ++ stopped_word t.stop ++ codes " at " ++ stop_text s t in
      plain_cond (list_all (λ u. same t.name u.name) ts) one (where_agreed (list_all (same_stand t) ts) several)
      (plain_both (codes ": ") (task_at s t did) refl
      (plain_task_at s plain t did (plain_did (codes " owned them and ") t.stop refl)))
      (plain_agreed (list_all (same_stand t) ts) several
      (plain_both (each ++ stopped_word t.stop ++ codes " at ") (stop_text s t)
      (plain_did each t.stop
      (plain_both (codes ": task " ++ name) (codes " owned each and ")
      (plain_both (codes ": task ") name refl (plain_named s plain t.decl)) refl)) (plain_stop s t)))

  -- a line for several such promises
  debts_line : (q : ToldCell) (t : ToldTask) (fs : List Finding) → AreLines 1 (why.debts_line s q t fs)
  debts_line q t fs =
      let names = why.first_names (cells_told fs) in
      let owners = why.owners_text s t (tasks_told fs) in
      plain_before 1 (why.debts_text s q fs) (why.never_set s t fs)
      (plain_both (codes "owed: the promises " ++ names) (made_text s q.maker)
      (plain_both (codes "owed: the promises ") names refl (plain_names (cells_told fs))) (plain_made s plain q.maker))
      (one_line (codes " were never set" ++ owners)
      (plain_both (codes " were never set") owners refl (plain_owners t (tasks_told fs))))

  -- one of two lines
  either_line : (b : Bool) (x y : List ℕ) → AreLines 1 x → AreLines 1 y → AreLines 1 (cond b x y)
  either_line true x y p q = p
  either_line false x y p q = q

  -- a line for promises that were owed
  pub owed_line : (q : ToldCell) (t : ToldTask) (fs : List Finding) → AreLines 1 (why.owed_line s q t fs)
  owed_line q t fs =
      either_line (nat_eq (length fs) 1) (why.debt_line s q t) (why.debts_line s q t fs) (debt_line q t)
      (debts_line q t fs)

  -- tasks that failed
  plain_failed : (t : ToldTask) (fs : List Finding) → IsPlain (why.failed_text s t fs)
  plain_failed t fs =
      let names = codes "failed: " ++ why.tasks_named s (tasks_told fs) in
      plain_both (names ++ codes " at " ++ stop_text s t) (codes ": ")
      (plain_both (names ++ codes " at ") (stop_text s t)
      (plain_both names (codes " at ")
      (plain_both (codes "failed: ") (why.tasks_named s (tasks_told fs)) refl (plain_tasks_named (tasks_told fs))) refl)
      (plain_stop s t)) refl

  -- where the cell of a cause was made
  plain_all_made : (m : Option Maker) (fs : List Finding) → IsPlain (why.all_made s m fs)
  plain_all_made m fs =
      plain_agreed (list_all (λ g. same_maker m (maker_told g)) fs) (made_text s m) (plain_made s plain m)

  -- what is told of that cell
  plain_about : (t : ToldTask) (m : Option Maker) (fs : List Finding) → IsPlain (why.about_text s t m fs)
  plain_about t m fs =
      plain_both (why.all_made s m fs) (why.all_went s t (tasks_told fs)) (plain_all_made m fs)
      (plain_all_went s t (tasks_told fs))

  -- the line of failures that are no echoes
  pub failed_line : (t : ToldTask) (c : Cause) (m : Option Maker) (fs : List Finding)
      → AreLines 1 (why.failed_text s t fs ++ why.why_failed s t c fs ++ why.about_text s t m fs ++ line_feed)
  failed_line t c m fs =
      let cause = why.why_failed s t c fs in
      one_line (why.failed_text s t fs ++ cause ++ why.about_text s t m fs)
      (plain_both (why.failed_text s t fs ++ cause) (why.about_text s t m fs)
      (plain_both (why.failed_text s t fs) cause (plain_failed t fs)
      (plain_both (why.cause_of c fs) (all_reasons s t c (tasks_told fs)) (plain_cause_of c fs)
      (plain_reasons s t c (tasks_told fs)))) (plain_about t m fs))

  -- a line for echoes
  pub echo_line : (t : ToldTask) (q : ToldCell) (o : Option ToldTask) (fs : List Finding)
      → AreLines 1 (why.echo_line s t q o fs)
  echo_line t q o fs =
      let broken = why.cause_of (cause.Broken q.name) fs in
      let made = why.all_made s q.maker fs in
      let agreed = list_all (λ g. same_name (option_map (λ t. t.name) o) (origin_told g)) fs in
      one_line (why.failed_text s t fs ++ broken ++ made ++ why.origins_text s o fs)
      (plain_both (why.failed_text s t fs ++ broken ++ made) (why.origins_text s o fs)
      (plain_both (why.failed_text s t fs ++ broken) made
      (plain_both (why.failed_text s t fs) broken (plain_failed t fs) (plain_cause_of (cause.Broken q.name) fs))
      (plain_all_made q.maker fs)) (plain_agreed agreed (why.origin_text s o) (plain_origin s o)))
