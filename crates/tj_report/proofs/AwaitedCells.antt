-- What the records tell of tasks that wait: for which cell. A record of a task that has stopped tells something.
use Rattle.tj_report.proofs.Prelude.{Answer, Finish, Held, IsEndBelow, IsFinishBelow, IsRecordBelow, List, Name, Rec}
use Rattle.tj_report.proofs.Prelude.{Stopped, [], ap, ending_by, finished_by, in_order, map, name_in, option_map, refl}
use Rattle.tj_report.proofs.Prelude.{some_is, sym, told_by, true, ℕ, ◌<◌, ◌∙◌, ◌∷◌, ◌≡◌}
use Rattle.std.proofs.Common.{Bool, false, cond, ◌||◌, not, Option, Some, None, drop, subst}
use Rattle.std.specs.Prelude.{slice_get, unwrap_or}
use Rattle.tj_base.specs.declared.cell.CellId.{CellId}
use Rattle.tj_body.specs.Names.{put_in, at_most}
use Rattle.tj_body.specs.declared.ask.Answer.TheVariants as answer
use Rattle.tj_mean.specs.Outcomes.{is_nil, is_troubled, is_undone}
use Rattle.tj_mean.specs.declared.outcome.Ending.{Ending}
use Rattle.tj_mean.specs.declared.outcome.Ending.TheVariants as ending
use Rattle.tj_mean.specs.declared.outcome.TaskLine.{TaskLine}
use Rattle.tj_words.specs.Words.Lists.{cell}
use Rattle.tj_record.specs.declared.record.Finish.TheVariants as finish
use Rattle.tj_report.specs.Inner.AwaitedCells.{awaited_by, awaited_in, wait_by}
use Rattle.tj_report.specs.Inner.CellNames.{IsBelow}
use Rattle.tj_report.specs.Inner.WalkedReports.{has_failed, has_trouble}

-- an end is no wait
never_waits : (ns : List Name) (f : Finish) (q : Name) → finished_by ns f ≡ ending.Waits q → ⊥
never_waits ns (finish.Done v) q e = absurd (cc)
never_waits ns (finish.Failed h) q e = absurd (cc)

-- a task is troubled that failed
undone : (ns : List Name) (f : Finish) → has_failed f ≡ is_undone (finished_by ns f)
undone ns (finish.Done v) = refl
undone ns (finish.Failed h) = refl

module _ (ns : List Name) where
  -- a task that waits is told to wait for the cell
  pub wait_ending : (f : Option Finish) (a : Answer) (held : List Held) (d : CellId) → wait_by f a held ≡ Some d
      → ending_by ns f a held ≡ Some (ending.Waits (name_in ns d))
  wait_ending (Some f) a held d e = absurd (cc)
  wait_ending None (answer.RefAt k) held d e = by (slice_get held k) e where
    by : (o : Option Held) → option_map (λ (h : Held). h.cell) o ≡ Some d
        → option_map (λ (h : Held). ending.Waits (name_in ns h.cell)) o ≡ Some (ending.Waits (name_in ns d))
    by None e = absurd (cc)
    by (Some h) e = ap (λ c. Some (ending.Waits (name_in ns c))) (some_is h.cell d e)
  wait_ending None a held d e = absurd (cc)

  -- and no other one
  pub no_wait : (f : Option Finish) (a : Answer) (held : List Held) (q : Name) → wait_by f a held ≡ None
      → ending_by ns f a held ≡ Some (ending.Waits q) → ⊥
  no_wait (Some f) a held q e w = never_waits ns f q (some_is (finished_by ns f) (ending.Waits q) w)
  no_wait None (answer.RefAt k) held q e w = by (slice_get held k) e w where
    by : (o : Option Held) → option_map (λ (h : Held). h.cell) o ≡ None
        → option_map (λ (h : Held). ending.Waits (name_in ns h.cell)) o ≡ Some (ending.Waits q) → ⊥
    by None e w = absurd (cc)
    by (Some h) e w = absurd (cc)
  no_wait None a held q e w = absurd (cc)

  -- a task that has stopped has ended or waits
  pub stopped_ends : (n : ℕ) (f : Option Finish) (a : Answer) (held : List Held) → IsEndBelow n f a held
      → (e : Ending) × (ending_by ns f a held ≡ Some e)
  stopped_ends n (Some f) a held h = (finished_by ns f, refl)
  stopped_ends n None (answer.RefAt k) held h =
      (ending.Waits (name_in ns h.0.cell), ap (option_map (λ (x : Held). ending.Waits (name_in ns x.cell))) h.1)
  stopped_ends n None a held h = absurd h

  -- what is troubled by its end
  trouble_by : (f : Option Finish) (a : Answer) (held : List Held) (owed : List CellId) (e : Ending)
      → ending_by ns f a held ≡ Some e → has_trouble f owed ≡ (is_undone e || not (is_nil owed))
  trouble_by (Some f) a held owed e h =
      ap (λ b. b || not (is_nil owed)) (undone ns f ∙ ap is_undone (some_is (finished_by ns f) e h))
  trouble_by None (answer.RefAt k) held owed e h = by (slice_get held k) h where
    by : (o : Option Held) → option_map (λ (x : Held). ending.Waits (name_in ns x.cell)) o ≡ Some e
        → true ≡ (is_undone e || not (is_nil owed))
    by None w = absurd (cc)
    by (Some x) w = ap (λ z. is_undone z || not (is_nil owed)) (some_is (ending.Waits (name_in ns x.cell)) e w)
  trouble_by None a held owed e h = absurd (cc)

-- the cell for which a task waits is among the first n
pub awaited_below : (n : ℕ) (f : Option Finish) (a : Answer) (held : List Held) (d : CellId) → IsEndBelow n f a held
    → wait_by f a held ≡ Some d → IsBelow n d
awaited_below n (Some f) a held d h e = absurd (cc)
awaited_below n None (answer.RefAt k) held d h e =
    subst (IsBelow n) (some_is h.0.cell d (sym (ap (option_map (λ (x : Held). x.cell)) h.1) ∙ e)) h.2
awaited_below n None a held d h e = absurd (cc)

-- so are the cells that an end names
pub finish_below : (n : ℕ) (o : Option Finish) (a : Answer) (held : List Held) (f : Finish) → o ≡ Some f
    → IsEndBelow n o a held → IsFinishBelow n f
finish_below n o a held f e h = subst (λ x. IsEndBelow n x a held) e h

-- a task that has stopped and doesn't wait has ended
pub stopped_not : (n : ℕ) (f : Option Finish) (a : Answer) (held : List Held) → IsEndBelow n f a held → f ≡ None
    → wait_by f a held ≡ None → ⊥
stopped_not n (Some f) a held h e w = absurd (cc)
stopped_not n None (answer.RefAt k) held h e w =
    let z : Some h.0.cell ≡ None = sym (ap (option_map (λ (x : Held). x.cell)) h.1) ∙ w in absurd (cc)
stopped_not n None a held h e w = h

-- the root is, too
pub awaited_there : {B : Type 0} (n : ℕ) (o : Option (Rec B)) → 0 < n → ((r : Rec B) → o ≡ Some r → IsRecordBelow n r)
    → (awaited_in o).0 < n
awaited_there n None l h = l
awaited_there n (Some r) l h = by (awaited_by r) refl where
  by : (a : Option CellId) → awaited_by r ≡ a → (unwrap_or a (cell 0)).0 < n
  by None e = l
  by (Some d) e = awaited_below n r.finish r.answer r.held d (h r refl).stops e

-- names in order are none where they were none
put_there : (x : Name) (l : List Name) → is_nil (put_in x l) ≡ false
put_there x [] = refl
put_there x (y ∷ ys) = by (at_most x y) where
  by : (b : Bool) → is_nil (cond b (x ∷ y ∷ ys) (y ∷ put_in x ys)) ≡ false
  by true = refl
  by false = refl

owes_none : (ns : List Name) (cs : List CellId) → is_nil (in_order (map (name_in ns) cs)) ≡ is_nil cs
owes_none ns [] = refl
owes_none ns (c ∷ cs) = put_there (name_in ns c) (in_order (map (name_in ns) cs))

module _ {B : Type 0} (ns : List Name) (r : Rec B) where
  -- the line of a task with this record and this ending
  abbrev pub line_with : Ending → TaskLine
  line_with e = record {
    name = name_in ns r.cell;
    prints = r.prints;
    ending = e;
    owes = in_order (map (name_in ns) r.owed);
  }

  abbrev task_with : Ending → Stopped
  task_with e = record { line = line_with e; holds = drop 1 (map (name_in ns) r.owned) }

  -- what is told of a task has its line
  pub told_line : (s : Stopped) → told_by ns r ≡ Some s
      → (e : Ending) × (ending_by ns r.finish r.answer r.held ≡ Some e) × (s.line ≡ line_with e)
  told_line s h = by (ending_by ns r.finish r.answer r.held) refl h where
    by : (o : Option Ending) → ending_by ns r.finish r.answer r.held ≡ o → option_map task_with o ≡ Some s
        → (e : Ending) × (ending_by ns r.finish r.answer r.held ≡ Some e) × (s.line ≡ line_with e)
    by None q h = absurd (cc)
    by (Some e) q h = (e, q, ap (λ (z : Stopped). z.line) (sym (some_is (task_with e) s h)))

  -- the record of a task that has stopped tells something
  pub told_there : (n : ℕ) → IsEndBelow n r.finish r.answer r.held → (s : Stopped) × (told_by ns r ≡ Some s)
  told_there n h =
      let e = stopped_ends ns n r.finish r.answer r.held h in (task_with e.0, ap (option_map task_with) e.1)

  -- it is troubled where the record says so
  pub told_trouble : (s : Stopped) → told_by ns r ≡ Some s → has_trouble r.finish r.owed ≡ is_troubled s.line
  told_trouble s h =
      let x = told_line s h in
      trouble_by ns r.finish r.answer r.held r.owed x.0 x.1
      ∙ ap (λ b. is_undone x.0 || not b) (sym (owes_none ns r.owed))
      ∙ ap is_troubled (sym x.2)

  -- it waits for the cell
  pub told_waits_for : (s : Stopped) (d : CellId) → told_by ns r ≡ Some s → awaited_by r ≡ Some d
      → s.line.ending ≡ ending.Waits (name_in ns d)
  told_waits_for s d h e =
      let x = told_line s h in
      ap (λ (l : TaskLine). l.ending) x.2
      ∙ some_is x.0 (ending.Waits (name_in ns d)) (sym x.1 ∙ wait_ending ns r.finish r.answer r.held d e)

  -- or for none
  pub told_waits_not : (s : Stopped) (q : Name) → told_by ns r ≡ Some s → awaited_by r ≡ None
      → s.line.ending ≡ ending.Waits q → ⊥
  told_waits_not s q h e w =
      let x = told_line s h in
      no_wait ns r.finish r.answer r.held q e
      (x.1 ∙ ap Some (sym (ap (λ (l : TaskLine). l.ending) x.2) ∙ w))
