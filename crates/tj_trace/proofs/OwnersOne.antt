-- A cell has one owner at most where the tasks have stopped: what is owed is written, and nothing is owned or written
-- twice.
use Rattle.tj_trace.proofs.LoggedRules.{rules}
use Rattle.tj_trace.proofs.Prelude.{Ask, Bool, Ending, Entry, IsIn, Logged, Name, PlacedState, Point, PointStage, Rules}
use Rattle.tj_trace.proofs.Prelude.{Task, TraceLine, after_ask, after_look, after_read, ap, ending_of, given, history}
use Rattle.tj_trace.proofs.Prelude.{inr, last_round, line_of, logged_left}
use Rattle.tj_trace.proofs.Prelude.{logged_program, map, suc, sym, tasks, ℕ, ◌*◌, ◌∙◌, ◌∷◌, ◌≡◌}
use Rattle.std.proofs.Common.{zero, ◌≤◌, true, false, Option, Some, None, refl, subst, arith}
use Rattle.tj_body.specs.Names.{in_order}
use Rattle.tj_body.specs.History.{Assignment, after_close, after_stage, owned_in, point_after, value_at, with_entry}
use Rattle.tj_body.specs.Inner.AskSteps.{IsAskStep, fails, ends, makes, forks, sets, gets, joins, prints}
use Rattle.tj_body.specs.declared.point.Close.{Close}
use Rattle.tj_body.proofs.Counts.{times_of_in, total_one}
use Rattle.tj_body.proofs.Histories.AskSteps.{is_ask_step}
use Rattle.tj_body.proofs.Lists.{in_left, in_right, to_map}
use Rattle.tj_body.proofs.Rounds.Families.{uses}
use Rattle.tj_body.proofs.Rounds.Rises.{once_in_round, tasks_within, wrote_of_in}
use Rattle.tj_trace.specs.Lookups.{kept_by, kept_with}
use Rattle.tj_trace.specs.OneOwners.{OwnersAreOne}
use Rattle.tj_trace.proofs.HasLines.{not_none, some_is, ended_line, line_is, HasLine, of_line}
use Rattle.tj_base.specs.declared.cause.Cause.TheVariants as cause
use Rattle.tj_body.specs.declared.point.Close.TheVariants as close
use Rattle.tj_body.specs.declared.point.Value.TheVariants as value
use Rattle.tj_body.specs.declared.point.Entry.TheVariants as entry
use Rattle.tj_body.specs.declared.point.PointStage.TheVariants as stage
use Rattle.tj_mean.specs.declared.outcome.Ending.TheVariants as ending

module _ {B : Type 0} where
  -- what the task owes is broken among its writes
  abbrev pub OwesWritten : Point B → Type 0
  OwesWritten p = (q : Name) → IsIn q p.owed → IsIn (q, entry.Broken) p.writes

  closes : (e : Close) (r : Entry) (p : Point B) → OwesWritten (after_close e r p)
  closes e r p q i = in_right (q, entry.Broken) p.writes
      ((p.name, r) ∷ map (with_entry entry.Broken) (in_order p.holds))
      (inr (to_map (with_entry entry.Broken) q (in_order p.holds) i))

  keeps : (strict : Bool) (p : Point B) (a : Ask B) (q : Point B) → IsAskStep strict p a q → OwesWritten p
      → OwesWritten q
  keeps strict p _ _ (fails a c) h = closes (close.Failed c) entry.Broken p
  keeps strict p _ _ (ends v) h =
      let r = value_at p.name p.references v in closes (close.Done r) (entry.Value r) p
  keeps strict p _ _ makes h = h
  keeps strict p _ _ (forks b pass hand l e) h = h
  keeps strict p _ _ (sets k v s o) h = λ q i. in_left (q, entry.Broken) p.writes _ (h q i)
  keeps strict p _ _ (gets spare k s) h = h
  keeps strict p _ _ (joins spare k s o) h = h
  keeps strict p _ _ (prints i) h = h

  reads : (spare : Bool) (q : Name) (x : Entry) (p : Point B) → OwesWritten p → OwesWritten (after_read spare q x p)
  reads true q entry.Broken p h = h
  reads false q entry.Broken p h = closes (close.Failed (cause.Broken q)) entry.Broken p
  reads spare q (entry.Value (value.Num i)) p h = h
  reads spare q (entry.Value (value.Ref r)) p h = h

  looks : (spare : Bool) (q : Name) (o : Option Entry) (p : Point B) → OwesWritten p
      → OwesWritten (after_look spare q o p)
  looks spare q None p h = h
  looks spare q (Some x) p h = reads spare q x p h

  module _ (rules : Rules B) (V : Assignment) where
    steps : (s : PointStage) (p : Point B) → OwesWritten p → OwesWritten (after_stage rules V s p)
    steps (stage.Answered a) p h = let q = record p { body = rules.then p.body a } in
        keeps rules.strict q (rules.asks p.body a) (after_ask rules.strict (rules.asks p.body a) q)
        (is_ask_step rules.strict q (rules.asks p.body a)) h
    steps (stage.Waits x spare) p h = looks spare x (V x) p h
    steps (stage.Closed e) p h = h

    pub owes_written : (t : Task B) (k : ℕ) → OwesWritten (point_after rules V k t)
    owes_written t zero = λ q i. absurd i
    owes_written t (suc k) = let p = point_after rules V k t in steps p.stage p (owes_written t k)

-- what a task with this history kept, it owns or has broken
kept_used : (strict : Bool) (V : Assignment) (t : Task Logged) (e : Ending) (q : Name)
    → let p = history (rules strict) V t in
    (z : PointStage) → p.stage ≡ z → ending_of z ≡ Some e → IsIn q (kept_by (ended_line p e))
    → 1 ≤ uses (rules strict) V q t
kept_used strict V t e q (stage.Answered a) s f i = absurd (not_none e f)
kept_used strict V t e q (stage.Waits x spare) s f i =
    let p = history (rules strict) V t in
    let g = some_is (ending.Waits x) e f in
    let j : IsIn q (p.name ∷ p.holds) = subst (λ o. IsIn q (kept_with o (ended_line p e))) (sym g) i in
    let k = times_of_in q (owned_in p.stage p.name p.holds)
    (subst (λ w. IsIn q (owned_in w p.name p.holds)) (sym s) j) in
    omega arith
kept_used strict V t e q (stage.Closed c) s f i =
    let p = history (rules strict) V t in
    let j : IsIn q p.owed = ended c e f i in
    let k = wrote_of_in q entry.Broken p.writes (owes_written (rules strict) V t (2 * suc (logged_left t.body)) q j) in
    omega arith where
      no_wait : (c : Close) (x : Name) → ending_of (stage.Closed c) ≡ Some (ending.Waits x) → ⊥
      no_wait (close.Done v) x f = cc
      no_wait (close.Failed c) x f = cc

      ended : (c : Close) (e : Ending) → ending_of (stage.Closed c) ≡ Some e
          → let p = history (rules strict) V t in
          IsIn q (kept_by (ended_line p e)) → IsIn q p.owed
      ended c (ending.Waits x) f i = absurd (no_wait c x f)
      ended c e f i = i

-- the law
pub owners_are_one : (strict : Bool) (root : PlacedState) → OwnersAreOne strict root
owners_are_one strict root N lines traced l m q i j a b =
    let program = logged_program strict root in
    let n = last_round N in
    let t = of_line strict root N lines traced l i in
    let u = of_line strict root N lines traced m j in
    let up : n ≤ suc n = omega arith in
    let same : t.0 ≡ u.0 = total_one (uses program.rules (given program n) q) (tasks program (suc n))
    (once_in_round program n q) t.0 u.0 (tasks_within program n (suc n) up t.0 t.1.there)
    (tasks_within program n (suc n) up u.0 u.1.there) (used t.0 l t.1 a) (used u.0 m u.1 b) in
    some_is l m (sym t.1.is ∙ ap (λ z. line_of (history program.rules (given program n) z)) same ∙ u.1.is) where
      used : (t : Task Logged) (l : TraceLine) → HasLine strict root N t l → IsIn q (kept_by l)
          → 1 ≤ uses (logged_program strict root).rules (given (logged_program strict root) (last_round N)) q t
      used t l h a =
          let V = given (logged_program strict root) (last_round N) in
          let p = history (logged_program strict root).rules V t in
          let k = line_is p l h.is in
          kept_used strict V t k.0 q p.stage refl k.1 (subst (λ z. IsIn q (kept_by z)) (sym k.2) a)
