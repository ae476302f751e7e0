-- The law of lines: what is told of findings that are alike is made of their names, of where the first stopped, and of
-- the parts of the law of parts, each taken of all these findings; what made promises that were owed is of the first.
use Rattle.std.specs.Prelude.{◌≡◌, ◌⊎◌, ℕ, suc, ◌-◌, Bool, true, false, ◌||◌, nat_eq, nat_le, cond, List, [], ◌∷◌}
use Rattle.std.specs.Prelude.{◌++◌, codes, decimal, length, map, slice_get, Option, Some}
use Rattle.std.specs.List.{flat_map, range_with_len}
use Rattle.std.specs.Option.{option_map}
use Rattle.tj_base.specs.declared.cause.Cause.{Cause}
use Rattle.tj_base.specs.declared.cause.Cause.TheVariants as cause
use Rattle.tj_mean.specs.ReportTexts.{cause_text, line_feed}
use Rattle.tj_trace.specs.declared.line.Maker.{Maker}
use Rattle.tj_findings.specs.Groups.{cell_named, cell_told, cells_told, maker_told, origin_told, tasks_told, waits_at}
use Rattle.tj_findings.specs.PartTexts.{cause_word, is_promise, made_text, promise_text, stopped_word}
use Rattle.tj_findings.specs.ReasonTexts.{reason_text}
use Rattle.tj_findings.specs.Scenes.{Told, label, name_of, stop_text, task_at}
use Rattle.tj_findings.specs.declared.finding.Finding.{Finding}
use Rattle.tj_findings.specs.declared.finding.Finding.TheVariants as finding
use Rattle.tj_findings.specs.declared.finding.ToldCell.{ToldCell}
use Rattle.tj_findings.specs.declared.finding.ToldTask.{ToldTask}
use Rattle.tj_findings.specs.declared.finding.Wait.{Wait}
use Rattle.tj_texts.specs.AgreedParts.{HasCell, HasJoined, HasOwners, HasPromise, HasWent, IsAgreed}
use Rattle.tj_texts.specs.LineLaws.{cycles_head}
use Rattle.tj_texts.specs.WhyTexts.{first_names, fork_text, member, members_text, origin_text, source_line}

module _ (s : Told) where
  -- one task with its declaration, its arguments and its fork; or several, with the fork that each of them has, or none
  abbrev pub HasTasks : List ToldTask → List ℕ → Type 0
  HasTasks [] text = text ≡ []
  HasTasks (t ∷ []) text = text ≡ label s t
  HasTasks (t ∷ u ∷ ts) text = (fork : List ℕ)
      × (text ≡ first_names (map (λ v. v.name) (t ∷ u ∷ ts)) ++ codes " of task "
      ++ name_of (slice_get s.script t.decl) ++ fork)
      × IsAgreed (λ v. fork_text s v.fork) (t ∷ u ∷ ts) (fork_text s t.fork) fork

  -- for what tasks wait of which this is the first: a promise, or a task
  abbrev pub HasCells : Wait → List Wait → List ℕ → Type 0
  HasCells w ws text = ((is_promise w.cell.maker ≡ true) × HasPromise s w ws text)
      ⊎ ((is_promise w.cell.maker ≡ false) × HasJoined s w ws text)

  -- the line tells these waits, of which this is the first
  abbrev pub TellsWaits : Wait → List Wait → List ℕ → Type 0
  TellsWaits w ws text = (tasks cells : List ℕ)
      × (text ≡ tasks ++ cond (nat_eq (length ws) 1) (codes " waits at ") (codes " wait at ") ++ stop_text s w.task
      ++ codes " for " ++ cells ++ line_feed)
      × HasTasks (map (λ v. v.task) ws) tasks × HasCells w ws cells

  -- waits behind a cycle
  abbrev pub BehindTold : Type 0
  BehindTold = (all : Bool) (w : Wait) (gs : List Finding) → (line : List ℕ)
      × (members_text s all (finding.Behind w ∷ gs) ≡ codes "behind a deadlock: " ++ line)
      × TellsWaits w (waits_at 0 (finding.Behind w ∷ gs)) line

  -- what is told of the members of cycles with so many numbers, from this one on
  abbrev pub members_at : List Finding → ℕ → ℕ → List ℕ
  members_at fs n k = flat_map (member s fs) (range_with_len n k)

  -- cycles: all of their members, or of long ones those at the two ends, and how many are left out
  abbrev pub CyclesTold : Type 0
  CyclesTold = (all : Bool) (ws : List Wait) (gs : List Finding)
      → members_text s all (finding.Cycle ws ∷ gs) ≡ cycles_head (suc (length gs)) (length ws)
      ++ cond (all || nat_le (length ws) 20) (members_at (finding.Cycle ws ∷ gs) 0 (length ws))
      (members_at (finding.Cycle ws ∷ gs) 0 10 ++ (codes "  .. " ++ decimal (length ws - 20) ++ codes " more ..\n")
      ++ members_at (finding.Cycle ws ∷ gs) (length ws - 10) 10)

  -- their members with one number, whose waits these are
  abbrev pub MembersTold : Type 0
  MembersTold = (fs : List Finding) (n : ℕ) (w : Wait) (ws : List Wait) → waits_at n fs ≡ w ∷ ws → (line : List ℕ)
      × (member s fs n ≡ codes "  " ++ line ++ source_line s w.task) × TellsWaits w (w ∷ ws) line

  -- failures that echo no other: the cause, the reason, where the cell was made and where it went
  abbrev pub FailuresTold : Type 0
  FailuresTold = (all : Bool) (t : ToldTask) (c : Cause) (m : Option Maker) (gs : List Finding)
      → (tasks why reason made went : List ℕ)
      × (members_text s all (finding.Failed t c m ∷ gs) ≡ (codes "failed: " ++ tasks ++ codes " at " ++ stop_text s t
      ++ codes ": ") ++ (why ++ reason) ++ (made ++ went) ++ line_feed ++ source_line s t)
      × HasTasks (tasks_told (finding.Failed t c m ∷ gs)) tasks
      × HasCell cell_told (finding.Failed t c m ∷ gs) (cell_named c) (cause_text c) (cause_word c) why
      × IsAgreed (λ u. reason_text s u c) (tasks_told (finding.Failed t c m ∷ gs)) (reason_text s t c) reason
      × IsAgreed (λ g. made_text s (maker_told g)) (finding.Failed t c m ∷ gs) (made_text s m) made
      × HasWent s t (tasks_told (finding.Failed t c m ∷ gs)) went

  -- echoes: the cause, where the cell was made and where the failure began
  abbrev pub EchoesTold : Type 0
  EchoesTold = (all : Bool) (t : ToldTask) (q : ToldCell) (o : Option ToldTask) (gs : List Finding)
      → (tasks why made began : List ℕ)
      × (members_text s all (finding.Echo t q o ∷ gs) ≡ (codes "failed: " ++ tasks ++ codes " at " ++ stop_text s t
      ++ codes ": ") ++ why ++ made ++ began ++ line_feed)
      × HasTasks (tasks_told (finding.Echo t q o ∷ gs)) tasks
      × HasCell cell_told (finding.Echo t q o ∷ gs) (Some q.name) (cause_text (cause.Broken q.name)) (codes "broken")
      why
      × IsAgreed (λ g. made_text s (maker_told g)) (finding.Echo t q o ∷ gs) (made_text s q.maker) made
      × HasCell origin_told (finding.Echo t q o ∷ gs) (option_map (λ u. u.name) o) (origin_text s o) [] began

  -- a promise that was owed, and who owed it
  abbrev pub DebtTold : Type 0
  DebtTold = (all : Bool) (q : ToldCell) (t : ToldTask)
      → members_text s all (finding.Owed q t ∷ []) ≡ codes "owed: " ++ promise_text s q ++ codes " was never set: "
      ++ task_at s t (codes " owned it and " ++ stopped_word t.stop ++ codes " at ") ++ line_feed

  -- several promises, and who owed them
  abbrev pub DebtsTold : Type 0
  DebtsTold = (all : Bool) (q : ToldCell) (t : ToldTask) (g : Finding) (gs : List Finding) → (owners : List ℕ)
      × (members_text s all (finding.Owed q t ∷ g ∷ gs)
      ≡ (codes "owed: the promises " ++ first_names (cells_told (finding.Owed q t ∷ g ∷ gs)) ++ made_text s q.maker)
      ++ (codes " were never set" ++ owners ++ line_feed))
      × HasOwners s t (tasks_told (finding.Owed q t ∷ g ∷ gs)) owners

  -- all of these
  abbrev pub LinesAgree : Type 0
  LinesAgree = CyclesTold × MembersTold × BehindTold × FailuresTold × EchoesTold × DebtTold × DebtsTold
