-- The fork order along waits: which cells are there, and why no cycle stands where OTHERS is 0.
use Rattle.std.proofs.Common.{◌≡◌, ℕ, zero, suc, ◌<◌, true, false, Some, sym, ap, ◌∙◌, subst, arith}
use native.Mathlib.Decide.{dec_le}
use mathlib.Core.Logic.{dite}
use Rattle.tj_base.specs.ForkOrder.{before}
use Rattle.tj_base.proofs.Orders.{before-self, before-trans}
use Rattle.tj_events.specs.declared.walk.Way.TheVariants.{Along, Other}
use Rattle.tj_events.specs.CoreState.{WaitStage, CellStage, promise, fresh, running, raised, waits, ended, CellState}
use Rattle.tj_events.specs.CoreState.{Cells, CoreState, name, owner, stage, wait, wait_of, is_task, IsTask}
use Rattle.tj_events.specs.Events.{raised_by}
use Rattle.tj_events.specs.WaitGraph.{Leads, Reaches}
use Rattle.tj_events.specs.Facts.{raised_by_all}
use Rattle.tj_events.specs.CoreFacts.{CoreFacts}
use Rattle.tj_events.proofs.OneCell.Frames.{some_none}

none_raised : (n : ℕ) (f : Cells) (i : ℕ) → i < n → raised_by_all n f ≡ 0 → raised_by (stage f i) ≡ 0
none_raised zero f i h e = absurd (omega arith)
none_raised (suc n) f i h e = dite (dec_le n i)
    (λ l. let q : i ≡ n = omega arith in subst (λ k. raised_by (stage f k) ≡ 0) (sym q) (omega arith))
    (λ l. none_raised n f i (omega arith) (omega arith))

module _ (s : CoreState) (x : CoreFacts s) where
  -- a task that waits is there
  pub waiter_there : (t c : ℕ) → wait s.cells t ≡ Some c → t < s.count
  waiter_there t c e = dite (dec_le s.count t)
      (λ l. some_none e (ap (λ (y : CellState). wait_of y.stage) (x.places.blanks t l)))
      (λ l. omega arith)

  -- a task is there
  pub task_there : (t : ℕ) → IsTask s.cells t → t < s.count
  task_there t e = dite (dec_le s.count t)
      (λ l.
      let no_task : is_task (stage s.cells t) ≡ false = ap (λ (y : CellState). is_task y.stage) (x.places.blanks t l) in
      let q : false ≡ true = sym no_task ∙ e in absurd (cc))
      (λ l. omega arith)

  -- a cell that somebody owns is there
  pub owned_there : (c u : ℕ) → owner s.cells c ≡ Some u → c < s.count
  owned_there c u e = dite (dec_le s.count c)
      (λ l. some_none e (ap (λ (y : CellState). y.owner) (x.places.blanks c l)))
      (λ l. omega arith)

  along_wait : (st : CellStage) (c : ℕ)
      → wait_of st ≡ Some c → raised_by st ≡ 0 → (w : WaitStage) × (st ≡ waits c Along w)
  along_wait (waits k Along w) c e h = let q : k ≡ c = cc in (w, (λ i. waits (q i) Along w))
  along_wait (waits k Other w) c e h = absurd (omega arith)
  along_wait promise c e h = absurd (cc)
  along_wait fresh c e h = absurd (cc)
  along_wait running c e h = absurd (cc)
  along_wait raised c e h = absurd (cc)
  along_wait ended c e h = absurd (cc)

  module _ (none : s.others ≡ 0) where
    leads_before : (t u : ℕ) → Leads s.cells t u → before (name s.cells t) (name s.cells u) ≡ true
    leads_before t u l =
        let e = x.others_count in
        let none_now : raised_by_all s.count s.cells ≡ 0 = omega arith in
        let w = along_wait (stage s.cells t) l.0 l.1
        (none_raised s.count s.cells t (waiter_there t l.0 l.1) none_now) in
        let q : u ≡ l.0 = x.owners.results_own l.0 u (x.along_waits.for_task t l.0 w.0 w.1) l.2 in
        subst (λ k. before (name s.cells t) (name s.cells k) ≡ true) (sym q) (x.along_waits.in_order t l.0 w.0 w.1)

    reach_before : (t k u : ℕ) → Reaches s.cells t (suc k) u → before (name s.cells t) (name s.cells u) ≡ true
    reach_before t zero u r =
        subst (λ k. before (name s.cells k) (name s.cells u) ≡ true) (sym r.1) (leads_before r.0 u r.2)
    reach_before t (suc k) u r = before-trans (name s.cells t) (name s.cells r.0) (name s.cells u)
        (reach_before t k r.0 r.1) (leads_before r.0 u r.2)

    -- where OTHERS is 0 no task is reached from itself
    pub no_return : (t n : ℕ) → 0 < n → Reaches s.cells t n t → ⊥
    no_return t zero h r = absurd (omega arith)
    no_return t (suc k) h r =
        let a = reach_before t k t r in
        let b = before-self (name s.cells t) in
        let c : true ≡ false = sym a ∙ b in absurd (cc)
