-- Which cells are broken in a meaning: by their entries, and by what is told of its tasks.
use Rattle.std.proofs.Common.{◌≡◌, ◌⊎◌, ◌++◌, ℕ, zero, suc, ◌*◌, Bool, true, false, List, [], ◌∷◌, map}
use Rattle.std.proofs.Common.{Option, Some, None, refl, sym, ap, ◌∙◌, subst, inl, inr, arith, ⊎_elim}
use Rattle.std.specs.List.{flat_map}
use Rattle.std.specs.Option.{option_map}
use Rattle.tj_base.specs.ForkOrder.{Name}
use Rattle.tj_base.specs.declared.cell.Sort.{Sort}
use Rattle.tj_base.specs.declared.cell.Sort.TheVariants as sort
use Rattle.tj_base.specs.declared.cause.Cause.{Cause}
use Rattle.tj_base.specs.declared.cause.Cause.TheVariants as cause
use Rattle.tj_body.proofs.Histories.AskSteps.{is_ask_step}
use Rattle.tj_body.proofs.Lists.{from_flat_map, in_either, in_map, to_map}
use Rattle.tj_body.proofs.Rounds.Families.{from_entry}
use Rattle.tj_body.specs.History.{Assignment, after_look, after_read, after_stage, history, point_after, with_entry}
use Rattle.tj_body.specs.Inner.AskSteps.{IsAskStep, fails, ends, makes, forks, sets, gets, joins, prints}
use Rattle.tj_body.specs.Laws.{IsLast}
use Rattle.tj_body.specs.Names.{in_order}
use Rattle.tj_body.specs.Points.{IsIn}
use Rattle.tj_body.specs.Programs.{Program, Rules}
use Rattle.tj_body.specs.Rounds.{IsFull, given, last_round, meaning, tasks, writes_by}
use Rattle.tj_body.specs.declared.ask.Ask.{Ask}
use Rattle.tj_body.specs.declared.point.Close.{Close}
use Rattle.tj_body.specs.declared.point.Close.TheVariants as close
use Rattle.tj_body.specs.declared.point.Entry.{Entry}
use Rattle.tj_body.specs.declared.point.Entry.TheVariants as entry
use Rattle.tj_body.specs.declared.point.Point.{Point}
use Rattle.tj_body.specs.declared.point.PointStage.{PointStage}
use Rattle.tj_body.specs.declared.point.PointStage.TheVariants as stage
use Rattle.tj_body.specs.declared.point.Task.{Task}
use Rattle.tj_body.specs.declared.point.Value.{Value}
use Rattle.tj_body.specs.declared.point.Value.TheVariants as value
use Rattle.tj_mean.proofs.Lists.NameOrder.{in_unpermuted}
use Rattle.tj_mean.proofs.Outcomes.ToldOutcomes.{of_told, told_name}
use Rattle.tj_mean.proofs.Lists.Elements.{some_is}
use Rattle.tj_mean.specs.Outcomes.{IsOutcome, ending_of, stopped_of}
use Rattle.tj_mean.specs.declared.outcome.Ending.{Ending}
use Rattle.tj_mean.specs.declared.outcome.Ending.TheVariants as ending
use Rattle.tj_mean.specs.declared.outcome.Outcome.{Outcome}
use Rattle.tj_mean.specs.declared.stopped.Stopped.{Stopped}
use Rattle.tj_words.specs.LawParts.Telling.{sort_tag, tag_of}
use Rattle.tj_told.specs.ToldNews.{IsBrokenIn}

-- TAG is 4 of what is broken alone
pub broken_tag : (e : Entry) → 4 ≡ tag_of e → e ≡ entry.Broken
broken_tag entry.Broken h = refl
broken_tag (entry.Value (value.Num i)) h = let z : 4 ≡ 1 = h in absurd (cc)
broken_tag (entry.Value (value.Ref r)) h = by r.sort h where
  by : (k : Sort) → 4 ≡ sort_tag k → entry.Value (value.Ref r) ≡ entry.Broken
  by sort.Promise z = let y : 4 ≡ 2 = z in absurd (cc)
  by sort.Task z = let y : 4 ≡ 3 = z in absurd (cc)

-- the stage is a failure
abbrev pub FailedIn : PointStage → Type 0
FailedIn st = (c : Cause) × (st ≡ stage.Closed (close.Failed c))

-- where the task has broken the cell, it has failed, and the cell is its result, or it owed the cell
abbrev Breaks : PointStage → Name → List Name → List (Name × Entry) → Type 0
Breaks st x owed writes = (q : Name) → IsIn (q, entry.Broken) writes → ((x ≡ q) × FailedIn st) ⊎ IsIn q owed

-- a task that goes on has broken nothing; one that has closed as above
abbrev BreaksIn : PointStage → Name → List Name → List (Name × Entry) → Type 0
BreaksIn (stage.Closed e) x owed writes = Breaks (stage.Closed e) x owed writes
BreaksIn (stage.Answered a) x owed writes = (q : Name) → ¬ IsIn (q, entry.Broken) writes
BreaksIn (stage.Waits c spare) x owed writes = (q : Name) → ¬ IsIn (q, entry.Broken) writes

-- a written value isn't broken
abbrev entry_of : Name × Entry → Entry
entry_of w = w.1

abbrev name_of : Name × Entry → Name
name_of w = w.0

not_broken : (q p : Name) (v : Value) → ◌≡◌ {A = Name × Entry} (q, entry.Broken) (p, entry.Value v) → ⊥
not_broken q p v e = let z : entry.Broken ≡ entry.Value v = ap entry_of e in absurd (cc)

value_failed : (v : Value) → entry.Value v ≡ entry.Broken → (F : Type 0) → F
value_failed v e F = absurd (cc)

-- what a stage says of broken cells, of each stage
broke : (st : PointStage) (x : Name) (owed : List Name) (writes : List (Name × Entry)) → BreaksIn st x owed writes
    → Breaks st x owed writes
broke (stage.Closed e) x owed writes h q i = h q i
broke (stage.Answered a) x owed writes h q i = absurd (h q i)
broke (stage.Waits c spare) x owed writes h q i = absurd (h q i)

module _ {B : Type 0} where
  abbrev BreaksSo : Point B → Type 0
  BreaksSo p = BreaksIn p.stage p.name p.owed p.writes

  abbrev NoneBroken : Point B → Type 0
  NoneBroken p = (q : Name) → ¬ IsIn (q, entry.Broken) p.writes

  closes : (e : Close) (r : Entry) (p : Point B) → NoneBroken p → (r ≡ entry.Broken → FailedIn (stage.Closed e))
      → Breaks (stage.Closed e) p.name (in_order p.holds)
      (p.writes ++ (p.name, r) ∷ map (with_entry entry.Broken) (in_order p.holds))
  closes e r p none failed q i =
      ⊎_elim (λ j. absurd (none q j)) (λ j. by j)
      (in_either (q, entry.Broken) p.writes ((p.name, r) ∷ map (with_entry entry.Broken) (in_order p.holds)) i)
    where
      by : IsIn (q, entry.Broken) ((p.name, r) ∷ map (with_entry entry.Broken) (in_order p.holds))
          → ((p.name ≡ q) × FailedIn (stage.Closed e)) ⊎ IsIn q (in_order p.holds)
      by (inl h) = inl (sym (ap name_of h), failed (sym (ap entry_of h)))
      by (inr k) = let m = in_map (with_entry entry.Broken) (q, entry.Broken) (in_order p.holds) k in
          inr (subst (λ z. IsIn z (in_order p.holds)) (sym (ap name_of m.2)) m.1)

  ask_steps : (strict : Bool) (p : Point B) (a : Ask B) (p' : Point B) → IsAskStep strict p a p' → NoneBroken p
      → BreaksSo p'
  ask_steps strict p _ _ (fails a c) n = closes (close.Failed c) entry.Broken p n (λ e. (c, refl))
  ask_steps strict p _ _ (ends v) n = closes _ _ p n (λ e. value_failed _ e _)
  ask_steps strict p _ _ makes n = n
  ask_steps strict p _ _ (forks b pass hand l e) n = n
  ask_steps strict p _ _ (sets k v s o) n = λ q i. ⊎_elim (n q)
      (λ j. ⊎_elim (λ e. not_broken q _ _ e) (λ z. z) j) (in_either (q, entry.Broken) p.writes _ i)
  ask_steps strict p _ _ (gets spare k s) n = n
  ask_steps strict p _ _ (joins spare k s o) n = n
  ask_steps strict p _ _ (prints i) n = n

  reads : (spare : Bool) (c : Name) (x : Entry) (p : Point B) → NoneBroken p → BreaksSo (after_read spare c x p)
  reads true c entry.Broken p n = n
  reads false c entry.Broken p n = closes (close.Failed (cause.Broken c)) entry.Broken p n (λ e. (cause.Broken c, refl))
  reads spare c (entry.Value (value.Num i)) p n = n
  reads spare c (entry.Value (value.Ref r)) p n = n

  looks : (spare : Bool) (c : Name) (o : Option Entry) (p : Point B) → BreaksSo p → NoneBroken p
      → BreaksSo (after_look spare c o p)
  looks spare c None p g n = g
  looks spare c (Some x) p g n = reads spare c x p n

  module _ (rules : Rules B) (V : Assignment) where
    goes : (st : PointStage) (p : Point B) → p.stage ≡ st → BreaksSo p → BreaksSo (after_stage rules V st p)
    goes (stage.Answered a) p e g =
        let ask = rules.asks p.body a in let next : Point B = record p { body = rules.then p.body a } in
        ask_steps rules.strict next ask _ (is_ask_step rules.strict next ask)
        (subst (λ z. BreaksIn z p.name p.owed p.writes) e g)
    goes (stage.Waits c spare) p e g =
        looks spare c (V c) p g (subst (λ z. BreaksIn z p.name p.owed p.writes) e g)
    goes (stage.Closed x) p e g = g

    breaks_so : (t : Task B) (k : ℕ) → BreaksSo (point_after rules V k t)
    breaks_so t zero = λ q i. i
    breaks_so t (suc k) = let p = point_after rules V k t in goes p.stage p refl (breaks_so t k)

    -- the history of a task breaks its result, where it fails, and what it owes
    history_breaks : (t : Task B) → let p = history rules V t in Breaks p.stage p.name p.owed p.writes
    history_breaks t = let k = 2 * suc (rules.left t.body) in let p = history rules V t in
        broke p.stage p.name p.owed p.writes (breaks_so t k)

  -- some history of the meaning has broken the cell
  module _ (program : Program B) (N : ℕ) (is_last : IsLast program) (fits : ¬ IsFull program N) (q : Name) where
    broken_meant : given program (last_round N) q ≡ Some entry.Broken
        → (p : Point B) × IsIn p (meaning program N) × (((p.name ≡ q) × FailedIn p.stage) ⊎ IsIn q p.owed)
    broken_meant h =
        let V = given program (last_round N) in let U = given program (2 * N) in
        let z : last_round N ≡ suc (2 * N) = omega arith in
        let i = from_entry (flat_map (writes_by program.rules U) (tasks program (suc (2 * N)))) q entry.Broken
        (subst (λ n. given program n q ≡ Some entry.Broken) z h) in
        let t = from_flat_map (writes_by program.rules U) (q, entry.Broken) (tasks program (suc (2 * N))) i in
        let same : V ≡ U = (is_last N fits).1 in (
          history program.rules V t.0,
          to_map (history program.rules V) t.0 (tasks program (last_round N))
              (subst (λ n. IsIn t.0 (tasks program n)) (sym z) t.1),
          history_breaks program.rules V t.0 q
              (subst (λ W. IsIn (q, entry.Broken) (history program.rules W t.0).writes) (sym same) t.2),
        )

  -- what is told of a task with this history
  abbrev told_as : Point B → Ending → Stopped
  told_as p e = record {
    line = record { name = p.name; prints = p.prints; ending = e; owes = p.owed };
    holds = p.holds;
  }

  told_owes : (p : Point B) (s : Stopped) → stopped_of p ≡ Some s → s.line.owes ≡ p.owed
  told_owes p s h = by (ending_of p.stage) h where
    by : (o : Option Ending) → option_map (told_as p) o ≡ Some s → s.line.owes ≡ p.owed
    by None e = absurd (cc)
    by (Some x) e = ap (λ (y : Stopped). y.line.owes) (sym (some_is (told_as p x) s e))

  told_failed : (p : Point B) (s : Stopped) (c : Cause) → p.stage ≡ stage.Closed (close.Failed c)
      → stopped_of p ≡ Some s → s.line.ending ≡ ending.Failed c
  told_failed p s c w h = ap (λ (y : Stopped). y.line.ending) (sym (some_is (told_as p (ending.Failed c)) s
      (sym (ap (λ st. option_map (told_as p) (ending_of st)) w) ∙ h)))

  -- so the outcome tells the cell to be broken
  pub broken_told : (program : Program B) (N : ℕ) → IsLast program → ¬ IsFull program N → (o : Outcome)
      → IsOutcome (meaning program N) o → (q : Name) → given program (last_round N) q ≡ Some entry.Broken
      → IsBrokenIn o q
  broken_told program N is_last fits o (ss, t, k) q h =
      let m = broken_meant program N is_last fits q h in
      let s = of_told (meaning program N) ss t m.0 m.1 in (
        s.0.line,
        in_unpermuted (map (λ (y : Stopped). y.line) ss) o.lines k.lines s.0.line
            (to_map (λ (y : Stopped). y.line) s.0 ss s.1),
        ⊎_elim (λ (x : (m.0.name ≡ q) × FailedIn m.0.stage).
            inl (told_name m.0 s.0 s.2 ∙ x.0, (x.1.0, told_failed m.0 s.0 x.1.0 x.1.1 s.2)))
            (λ (x : IsIn q m.0.owed). inr (subst (IsIn q) (sym (told_owes m.0 s.0 s.2)) x)) m.2,
      )
