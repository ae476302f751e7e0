-- What a finding of the list is of, and which findings are in the list.
use Rattle.std.proofs.Common.{◌≡◌, Bool, true, false, cond, List, [], ◌++◌, map, None}
use Rattle.std.proofs.Common.{refl, sym, ap, subst, ◌∙◌, inl, inr, ◌⊎◌}
use Rattle.std.specs.List.{flat_map}
use Rattle.tj_base.specs.ForkOrder.{Name}
use Rattle.tj_base.specs.declared.cause.Cause.{Cause}
use Rattle.tj_base.specs.declared.cause.Cause.TheVariants as cause
use Rattle.tj_body.specs.Points.{IsIn}
use Rattle.tj_body.proofs.Lists.{from_flat_map, in_either, in_flat_map, in_left, in_map, in_right, to_map}
use Rattle.tj_mean.specs.declared.outcome.Ending.{Ending}
use Rattle.tj_mean.specs.declared.outcome.Ending.TheVariants as ending
use Rattle.tj_mean.specs.declared.outcome.Link.{Link}
use Rattle.tj_trace.specs.declared.line.TraceLine.{TraceLine}
use Rattle.tj_findings.specs.Echoes.{echoed}
use Rattle.tj_findings.specs.Findings.{behind, behind_with, echo, echo_with, failed, failed_with, findings_of, is_member}
use Rattle.tj_findings.specs.Findings.{is_owing, owed, told_cycle, told_debt, told_echo, told_failure, told_wait}
use Rattle.tj_findings.specs.declared.finding.Finding.{Finding}
use Rattle.tj_findings.specs.declared.finding.Finding.TheVariants as finding

module _ (lines : List TraceLine) (cycles : List (List Link)) where
  -- what a finding is of: a cycle, or the line of a task that waits, failed or owes
  pub data IsOf (f : Finding) : Type 0 where
    a_cycle : (c : List Link) → IsIn c cycles → f ≡ told_cycle lines c → IsOf f
    a_wait : (l : TraceLine) → IsIn l lines → (q : Name) → l.line.ending ≡ ending.Waits q
        → f ≡ finding.Behind (told_wait lines l q) → IsOf f
    a_failure : (l : TraceLine) → IsIn l lines → (c : Cause) → l.line.ending ≡ ending.Failed c → echoed c ≡ None
        → f ≡ told_failure lines l c → IsOf f
    a_debt : (l : TraceLine) → IsIn l lines → (q : Name) → IsIn q l.line.owes → f ≡ told_debt lines l q → IsOf f
    an_echo : (l : TraceLine) → IsIn l lines → (q : Name) → l.line.ending ≡ ending.Failed (cause.Broken q)
        → f ≡ told_echo lines l q → IsOf f

  module _ (f : Finding) where
    of_behind : (l : TraceLine) → IsIn l lines → (b : Bool) (e : Ending) → l.line.ending ≡ e
        → IsIn f (behind_with lines b l e) → IsOf f
    of_behind l there b (ending.Done v) is i = absurd i
    of_behind l there b (ending.Failed c) is i = absurd i
    of_behind l there true (ending.Waits q) is i = absurd i
    of_behind l there false (ending.Waits q) is (inl e) = a_wait l there q is e
    of_behind l there false (ending.Waits q) is (inr i) = absurd i

    of_failed : (l : TraceLine) → IsIn l lines → (e : Ending) → l.line.ending ≡ e → IsIn f (failed_with lines l e)
        → IsOf f
    of_failed l there (ending.Done v) is i = absurd i
    of_failed l there (ending.Failed cause.Arith) is (inl e) = a_failure l there cause.Arith is refl e
    of_failed l there (ending.Failed cause.Kind) is (inl e) = a_failure l there cause.Kind is refl e
    of_failed l there (ending.Failed cause.Steps) is (inl e) = a_failure l there cause.Steps is refl e
    of_failed l there (ending.Failed (cause.Owner q)) is (inl e) = a_failure l there (cause.Owner q) is refl e
    of_failed l there (ending.Failed (cause.Order q)) is (inl e) = a_failure l there (cause.Order q) is refl e
    of_failed l there (ending.Failed cause.Arith) is (inr i) = absurd i
    of_failed l there (ending.Failed cause.Kind) is (inr i) = absurd i
    of_failed l there (ending.Failed cause.Steps) is (inr i) = absurd i
    of_failed l there (ending.Failed (cause.Owner q)) is (inr i) = absurd i
    of_failed l there (ending.Failed (cause.Order q)) is (inr i) = absurd i
    of_failed l there (ending.Failed (cause.Broken q)) is i = absurd i
    of_failed l there (ending.Waits q) is i = absurd i

    of_owed : (l : TraceLine) → IsIn l lines → (b : Bool) → IsIn f (cond b (map (told_debt lines l) l.line.owes) [])
        → IsOf f
    of_owed l there false i = absurd i
    of_owed l there true i =
        let q = in_map (told_debt lines l) f l.line.owes i in a_debt l there q.0 q.1 q.2

    of_echo : (l : TraceLine) → IsIn l lines → (e : Ending) → l.line.ending ≡ e → IsIn f (echo_with lines l e) → IsOf f
    of_echo l there (ending.Done v) is i = absurd i
    of_echo l there (ending.Failed cause.Arith) is i = absurd i
    of_echo l there (ending.Failed cause.Kind) is i = absurd i
    of_echo l there (ending.Failed cause.Steps) is i = absurd i
    of_echo l there (ending.Failed (cause.Owner q)) is i = absurd i
    of_echo l there (ending.Failed (cause.Order q)) is i = absurd i
    of_echo l there (ending.Failed (cause.Broken q)) is (inl e) = an_echo l there q is e
    of_echo l there (ending.Failed (cause.Broken q)) is (inr i) = absurd i
    of_echo l there (ending.Waits q) is i = absurd i

    abbrev one : List Finding
    one = map (told_cycle lines) cycles

    abbrev two : List Finding
    two = one ++ flat_map (behind lines cycles) lines

    abbrev three : List Finding
    three = two ++ flat_map (failed lines) lines

    abbrev four : List Finding
    four = three ++ flat_map (owed lines true) lines

    abbrev five : List Finding
    five = four ++ flat_map (owed lines false) lines

    first : IsIn f one → IsOf f
    first i = let c = in_map (told_cycle lines) f cycles i in a_cycle c.0 c.1 c.2

    second : IsIn f one ⊎ IsIn f (flat_map (behind lines cycles) lines) → IsOf f
    second (inl i) = first i
    second (inr i) =
        let l = from_flat_map (behind lines cycles) f lines i in
        of_behind l.0 l.1 (is_member cycles l.0.line.name) l.0.line.ending refl l.2

    third : IsIn f two ⊎ IsIn f (flat_map (failed lines) lines) → IsOf f
    third (inl i) = second (in_either f one (flat_map (behind lines cycles) lines) i)
    third (inr i) =
        let l = from_flat_map (failed lines) f lines i in of_failed l.0 l.1 l.0.line.ending refl l.2

    fourth : IsIn f three ⊎ IsIn f (flat_map (owed lines true) lines) → IsOf f
    fourth (inl i) = third (in_either f two (flat_map (failed lines) lines) i)
    fourth (inr i) =
        let l = from_flat_map (owed lines true) f lines i in of_owed l.0 l.1 (is_owing true l.0.line.ending) l.2

    fifth : IsIn f four ⊎ IsIn f (flat_map (owed lines false) lines) → IsOf f
    fifth (inl i) = fourth (in_either f three (flat_map (owed lines true) lines) i)
    fifth (inr i) =
        let l = from_flat_map (owed lines false) f lines i in of_owed l.0 l.1 (is_owing false l.0.line.ending) l.2

    sixth : IsIn f five ⊎ IsIn f (flat_map (echo lines) lines) → IsOf f
    sixth (inl i) = fifth (in_either f four (flat_map (owed lines false) lines) i)
    sixth (inr i) = let l = from_flat_map (echo lines) f lines i in of_echo l.0 l.1 l.0.line.ending refl l.2

    -- each finding of the list is of something
    pub is_of : IsIn f (findings_of lines cycles) → IsOf f
    is_of i = sixth (in_either f five (flat_map (echo lines) lines) i)

    put_third : IsIn f (flat_map (failed lines) lines) → IsIn f (findings_of lines cycles)
    put_third i = in_left f five (flat_map (echo lines) lines) (in_left f four (flat_map (owed lines false) lines)
        (in_left f three (flat_map (owed lines true) lines) (in_right f two (flat_map (failed lines) lines) i)))

    put_fourth : IsIn f (flat_map (owed lines true) lines) → IsIn f (findings_of lines cycles)
    put_fourth i = in_left f five (flat_map (echo lines) lines) (in_left f four (flat_map (owed lines false) lines)
        (in_right f three (flat_map (owed lines true) lines) i))

  -- a failure that is no echo is in the list
  pub failure_there : (l : TraceLine) → IsIn l lines → (c : Cause) → l.line.ending ≡ ending.Failed c → echoed c ≡ None
      → IsIn (told_failure lines l c) (findings_of lines cycles)
  failure_there l there c is none = put_third (told_failure lines l c)
      (in_flat_map (failed lines) l (told_failure lines l c) lines there
      (subst (λ e. IsIn (told_failure lines l c) (failed_with lines l e)) (sym is) (by c none)))
    where
      by : (c : Cause) → echoed c ≡ None → IsIn (told_failure lines l c) (failed_with lines l (ending.Failed c))
      by cause.Arith e = inl refl
      by cause.Kind e = inl refl
      by cause.Steps e = inl refl
      by (cause.Owner q) e = inl refl
      by (cause.Broken q) e = absurd (cc)
      by (cause.Order q) e = inl refl

  -- what a task owes that ended is in the list
  pub debt_there : (l : TraceLine) → IsIn l lines → (q : Name) → IsIn q l.line.owes
      → (e : Ending) → l.line.ending ≡ e → is_owing true e ≡ true
      → IsIn (told_debt lines l q) (findings_of lines cycles)
  debt_there l there q i e is owes = put_fourth (told_debt lines l q)
      (in_flat_map (owed lines true) l (told_debt lines l q) lines there
      (subst (λ b. IsIn (told_debt lines l q) (cond b (map (told_debt lines l) l.line.owes) []))
      (sym (ap (is_owing true) is ∙ owes)) (to_map (told_debt lines l) q l.line.owes i)))
