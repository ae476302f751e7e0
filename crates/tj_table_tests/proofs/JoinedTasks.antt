-- A task that a test runs has asked to join a task: what the calls of a wait along the fork order need.
use Rattle.tj_run.proofs.Prelude.{Bool, HasReadTree, Held, IsAsked, IsHeldAs, KnowsTask, Laid, MayBlock, PointsAsk}
use Rattle.tj_run.proofs.Prelude.{Program, Rec, RunsTask, SeatMe, ap, false, held_at, inr, length, sym, table_program}
use Rattle.tj_run.proofs.Prelude.{way_by, ℕ, ◌<◌, ◌∙◌, ◌≡◌}
use Rattle.tj_run.proofs.Asks.PointSteps.{before}
use Rattle.tj_run.proofs.Cells.ToldCells.{told_cell, told_held, told_knows, told_task}
use Rattle.tj_run.proofs.Waiting.JoinTests.{along_then, join_inside, runs_then}
use Rattle.tj_run.proofs.Waiting.WaitConditions.{may_block}
use Rattle.tj_base.specs.declared.cell.Sort.TheVariants as sort
use Rattle.tj_body.specs.declared.ask.Ask.TheVariants as ask
use Rattle.tj_events.specs.declared.walk.Way.TheVariants as way

-- the seat runs the task of the record, which has asked to join the task at the place
pub record IsToJoin {B : Type 0} (program : Bool → B → Program B) (laid : Laid B) (r : Rec B) (k : ℕ)
    (me : SeatMe B) : Type 0 where
  pub runs : RunsTask laid r me
  pub asked : IsAsked (table_program program laid) me.0 r (ask.Join k)
  pub law : PointsAsk (table_program program laid)

module _ {B : Type 0} {program : Bool → B → Program B} {laid : Laid B} {r : Rec B} {k : ℕ} {me : SeatMe B}
    (to : IsToJoin program laid r k me) where
  -- the place is one of the record
  pub inside_joined : k < length r.held
  inside_joined = join_inside (table_program program laid) me.0 to.law r k false to.asked

  -- the task is a cell of the table, and known
  pub joins_cell : r.cell.0 < laid.cells
  joins_cell = told_task laid r me to.runs (before (table_program program laid) me.0 r (ask.Join k) to.asked)
      to.asked.tells

  pub joins_known : KnowsTask r.cell.0 me.0
  joins_known = told_knows laid r me to.runs (before (table_program program laid) me.0 r (ask.Join k) to.asked)
      to.asked.tells

  module _ (h : Held) (is : h ≡ held_at r.held k) where
    -- and so is the other
    pub joined_cell : h.cell.0 < laid.cells
    joined_cell = told_cell laid r me to.runs
        (before (table_program program laid) me.0 r (ask.Join k) to.asked) to.asked.tells k inside_joined h is

    joined_held : IsHeldAs h me.0
    joined_held = told_held laid r me to.runs
        (before (table_program program laid) me.0 r (ask.Join k) to.asked) to.asked.tells k inside_joined h is

    module _ (task : h.sort ≡ sort.Task) where
      pub joined_known : KnowsTask h.cell.0 me.0
      joined_known = let e = joined_held in (inr e.known, (e.reference, e.is, e.sort ∙ task))

      -- it may block, at the view after the loads of the tree
      pub joins_along : (m : SeatMe B) → HasReadTree laid.cells me.0 m.0 → m.1 ≡ me.1
          → way.Along ≡ way_by m.0.born r.cell.0 h.cell.0
          → MayBlock r.cell.0 h.cell.0 way.Along m.0
      joins_along m read same along = may_block {program = program} {laid = laid} {r = r} {k = k} {spare = false}
          {me = m} {cell = h} (record {
            runs = runs_then program laid to.law r k false me m read same to.runs to.asked;
            waits = along_then program laid to.law r k false me m read same to.runs to.asked
                (ap (λ (z : Held). z.sort) (sym is) ∙ task)
                (ap (λ (z : Held). way_by m.0.born r.cell.0 z.cell.0) (sym is) ∙ sym along);
            is = is;
          }) way.Along along
