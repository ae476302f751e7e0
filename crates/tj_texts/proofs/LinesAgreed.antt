-- What is told of findings that are alike is made of the parts that agree.
use Rattle.std.proofs.Common.{◌≡◌, inl, inr, ℕ, zero, suc, ◌+◌, ◌-◌, Bool, true, false, ◌||◌, nat_eq, nat_le, cond}
use Rattle.std.proofs.Common.{List, [], ◌∷◌, ◌++◌, length, map, refl, ap, ◌∙◌, eqb-true}
use Rattle.std.proofs.Common.{arith}
use Rattle.tj_base.specs.declared.cause.Cause.TheVariants as cause
use Rattle.tj_findings.specs.Groups.{tasks_told, waits_at}
use Rattle.tj_findings.specs.PartTexts.{is_promise}
use Rattle.tj_findings.specs.ReasonTexts.{all_reasons}
use Rattle.tj_findings.specs.Scenes.{Told}
use Rattle.tj_findings.specs.declared.finding.Finding.{Finding}
use Rattle.tj_findings.specs.declared.finding.Finding.TheVariants as finding
use Rattle.tj_findings.specs.declared.finding.ToldTask.{ToldTask}
use Rattle.tj_findings.specs.declared.finding.Wait.{Wait}
use Rattle.tj_texts.specs.AgreedLines.{BehindTold, CyclesTold, DebtTold, DebtsTold, EchoesTold, FailuresTold}
use Rattle.tj_texts.specs.AgreedLines.{HasCells, HasTasks, LinesAgree, MembersTold, TellsWaits, members_at}
use Rattle.tj_texts.specs.LineLaws.{cycles_head}
use Rattle.tj_texts.specs.WhyTexts as why
use Rattle.tj_texts.proofs.NamesTold.{cycles_begin}
use Rattle.tj_texts.proofs.PartsAgreed.{parts_agree}

module _ (s : Told) where
  has_tasks : (ts : List ToldTask) → HasTasks s ts (why.tasks_named s ts)
  has_tasks [] = refl
  has_tasks (t ∷ []) = refl
  has_tasks (t ∷ u ∷ ts) = (parts_agree s).0 t (t ∷ u ∷ ts)

  has_cells : (w : Wait) (ws : List Wait) → HasCells s w ws (why.cell_text s w ws)
  has_cells w ws = by (is_promise w.cell.maker) refl where
    by : (b : Bool) → is_promise w.cell.maker ≡ b
        → HasCells s w ws (cond b (why.promises_text s w ws) (why.joined_text w ws))
    by true e = inl (e, ((parts_agree s).1 w ws).0)
    by false e = inr (e, ((parts_agree s).1 w ws).1)

  tells_waits : (w : Wait) (ws : List Wait) → TellsWaits s w ws (why.wait_text s w ws)
  tells_waits w ws =
      let ts = map (λ v. v.task) ws in
      (why.tasks_named s ts, why.cell_text s w ws, refl, has_tasks ts, has_cells w ws)

  behind_told : BehindTold s
  behind_told all w gs =
      let ws = waits_at 0 (finding.Behind w ∷ gs) in (why.wait_text s w ws, refl, tells_waits w ws)

  -- so many members
  members_told : (fs : List Finding) (k n : ℕ) → why.members_from s fs n k ≡ members_at s fs n k
  members_told fs zero n = refl
  members_told fs (suc k) n = ap (λ z. why.member s fs n ++ z) (members_told fs k (n + 1))

  cycles_told : CyclesTold s
  cycles_told all ws gs =
      cycles_begin (length fs) (length ws) (why.members s all fs (length ws))
      ∙ ap (λ z. cycles_head (length fs) (length ws) ++ z) (by (all || nat_le (length ws) 20)) where
        fs : List Finding
        fs = finding.Cycle ws ∷ gs

        left : List ℕ
        left = why.left_out (length ws - 20)

        by : (b : Bool) → cond b (why.members_from s fs 0 (length ws)) (why.ends s fs (length ws))
            ≡ cond b (members_at s fs 0 (length ws))
            (members_at s fs 0 10 ++ left ++ members_at s fs (length ws - 10) 10)
        by true = members_told fs (length ws) 0
        by false =
            ap (λ z. z ++ left ++ why.members_from s fs (length ws - 10) 10) (members_told fs 10 0)
            ∙ ap (λ z. members_at s fs 0 10 ++ left ++ z) (members_told fs 10 (length ws - 10))

  member_told : MembersTold s
  member_told fs n w ws is =
      (why.wait_text s w (w ∷ ws), ap (why.member_lines s) is, tells_waits w (w ∷ ws))

  failures_told : FailuresTold s
  failures_told all t c m gs =
      let fs = finding.Failed t c m ∷ gs in
      let ts = tasks_told fs in
      let agree = parts_agree s in (
        why.tasks_named s ts,
        why.cause_of c fs,
        all_reasons s t c ts,
        why.all_made s m fs,
        why.all_went s t ts,
        refl,
        has_tasks ts,
        agree.2 c fs,
        agree.4 t c ts,
        agree.3 m fs,
        agree.5 t ts,
      )

  echoes_told : EchoesTold s
  echoes_told all t q o gs =
      let fs = finding.Echo t q o ∷ gs in
      let agree = parts_agree s in (
        why.tasks_named s (tasks_told fs),
        why.cause_of (cause.Broken q.name) fs,
        why.all_made s q.maker fs,
        why.origins_text s o fs,
        refl,
        has_tasks (tasks_told fs),
        agree.2 (cause.Broken q.name) fs,
        agree.3 q.maker fs,
        agree.6 o fs,
      )

  debt_told : DebtTold s
  debt_told all q t = refl

  debts_told : DebtsTold s
  debts_told all q t g gs =
      (why.owners_text s t (tasks_told fs), by (nat_eq (length fs) 1) refl, (parts_agree s).7 t (tasks_told fs)) where
        fs : List Finding
        fs = finding.Owed q t ∷ g ∷ gs

        by : (b : Bool) → nat_eq (length fs) 1 ≡ b
            → cond b (why.debt_line s q t) (why.debts_line s q t fs) ≡ why.debts_line s q t fs
        by true e = absurd (omega (arith, eqb-true (length fs) 1 e))
        by false e = refl

  -- the law
  pub lines_agree : LinesAgree s
  lines_agree =
      (cycles_told, member_told, behind_told, failures_told, echoes_told, debt_told, debts_told)
