use Rattle.tj_run.proofs.Prelude.{Bool, CellId, Goes, Program, Rec, WakesAll, ap, program_of, refl, subst, sym, ◌∙◌}
use Rattle.tj_park.proofs.WakeLogs.{wake_grows}
use Rattle.tj_park.specs.Wakes.{WakesSome}
use Rattle.tj_body.specs.declared.ask.Answer.TheVariants as answer
use Rattle.tj_cells.specs.FilledCells.{IsFilledWith}
use Rattle.tj_run.proofs.Asks.NewThings.{lacks_memory}
use Rattle.tj_run.proofs.Asks.SetPromises.{IsToSet, not_so, promise_if, sets_about, sets_cell, sets_fills, sets_gives}
use Rattle.tj_run.proofs.Asks.SetPromises.{sets_goes, sets_notes, sets_other, sets_task, sets_unowned, sets_wakes}
use Rattle.tj_run.proofs.post.Post.set.Given.{Over}
use Rattle.tj_run.specs.declared.next.Next.TheVariants as next
use Rattle.tj_run.proofs.post.Post.set.Goals as goal
use Rattle.tj_run.proofs.post.Post.set.Goals.{After-at-h, After-fill}
use Rattle.tj_cells.proofs.CallLogs.{grows_on}
use Rattle.tj_run.proofs.Seats.LogGrowth.{closed_grows, still}

-- the program that runs
abbrev program : (g : Over) → Bool → g.row.B.Denot → Program g.row.B.Denot
program g = let b = g.B.Body in program_of b.places b.awaits b.left b.asks b.then

-- the task is to set the held cell at the place
to_set : (g : Over) (c : After-at-h g)
    → let b = g.B.Body in let a = c.args in
    IsToSet (program_of b.places b.awaits b.left b.asks b.then) a.laid.now a.rec.now a.place a.v a.self.now.seat.me
    c.at-h.result
to_set g c = let l = c.args.laid.now in record {
  runs = c.requires.runs;
  asked = c.requires.asked;
  law = c.points_in_rounds.ensures.ask l.strict l.root.value c.requires.asked.rooted;
  tell = c.names_and_cells.ensures.cells;
  is = c.at-h.ensures;
}

-- the task has filled it
filled : (g : Over) (c : After-fill g) → IsFilledWith c.args.rec.now.cell.0 c.at-h.result.cell.0 c.fill_at-value.result
    c.args.self.now.seat.me.0 c.fill.new.seat.me.0
filled g c = subst (λ (t : CellId). IsFilledWith t.0 c.at-h.result.cell.0 c.fill_at-value.result
    c.args.self.now.seat.me.0 c.fill.new.seat.me.0) c.cell-t.ensures c.fill.ensures.view

pub take_out-requires : goal.take_out-requires
take_out-requires g c = record {
  other = sets_other (to_set g (goal.at.take_out-requires g c).After-at-h) (promise_if _ c.in_default.not-Task);
}

pub returns-in-Task-clause-goes : goal.returns-in-Task-clause-goes
returns-in-Task-clause-goes g c =
    sets_task (to_set g (goal.at.returns-in-Task-clause-goes g c).After-at-h) c.in-Task.is

pub returns-then-not-take_out-clause-goes : goal.returns-then-not-take_out-clause-goes
returns-then-not-take_out-clause-goes g c = let no = c.if-not-take_out.true in
    rw (c.take_out.ensures.same no)
    (sets_unowned (to_set g (goal.at.returns-then-not-take_out-clause-goes g c).After-at-h)
    (promise_if _ c.in_default.not-Task) c.args.rec.now.owned refl
    (not_so c.take_out.result _ c.take_out.ensures.found no))

pub fill-requires-clause-cell : goal.fill-requires-clause-cell
fill-requires-clause-cell g c κs within = sets_cell (to_set g (goal.at.fill-requires-clause-cell g c).After-at-h)

pub fill-requires-clause-owner : goal.fill-requires-clause-owner
fill-requires-clause-owner g c κs within = rw c.cell-t.ensures
    (sets_gives (to_set g (goal.at.fill-requires-clause-owner g c).After-at-h) (promise_if _ c.in_default.not-Task)
    (c.take_out.ensures.found.0 c.if-not-take_out.false))

pub fill-requires-clause-value : goal.fill-requires-clause-value
fill-requires-clause-value g c κs within = let at = goal.at.fill-requires-clause-value g c in let l = c.args.laid.now in
    sets_fills (to_set g at.After-at-h) (promise_if _ c.in_default.not-Task)
    (c.take_out.ensures.found.0 c.if-not-take_out.false) c.fill_at-value.result c.fill_at-value.ensures
    (c.points_in_rounds.ensures.written l.strict l.root.value c.requires.asked.rooted)

pub wake-requires-clause-cell : goal.wake-requires-clause-cell
wake-requires-clause-cell g c κs within = sets_cell (to_set g (goal.at.wake-requires-clause-cell g c).After-at-h)

pub wake-requires-clause-may : goal.wake-requires-clause-may
wake-requires-clause-may g c κs within = let at = goal.at.wake-requires-clause-may g c in
    sets_wakes (to_set g at.After-at-h) (promise_if _ c.in_default.not-Task)
    (c.take_out.ensures.found.0 c.if-not-take_out.false) c.fill_at-value.result c.fill_at-value.ensures
    c.fill.new.seat.me (filled g at.After-fill) c.fill.ensures.seat.2

pub returns-in_err-wake-clause-stays : goal.returns-in_err-wake-clause-stays
returns-in_err-wake-clause-stays g c = let at = goal.at.returns-in_err-wake-clause-stays g c in
    let to = to_set g at.After-at-h in let promise = promise_if _ c.in_default.not-Task in
    let found = c.take_out.ensures.found.0 c.if-not-take_out.false in let is = c.fill_at-value.ensures in
    let h = c.at-h.result in
    let some : WakesSome g.P.Pool.puts g.P.Pool.same h.cell.0 c.fill.new.seat
    c.wake.new.seat c.args.self.now.pool c.wake.new.pool = c.in_err-wake.ensures.memory in (
      ap (λ (z : Rec g.row.B.Denot). z.body) c.take_out.ensures.others,
      (
        (c.wake.ensures.seat.0 ∙ c.fill.ensures.seat.0, c.wake.ensures.limit),
        lacks_memory c.args.self.now.seat.me.0 c.wake.new.seat.me.0
            (ap (λ u. u.about) some.woke.view ∙ sets_about to promise found c.fill_at-value.result is c.fill.new.seat.me
            (filled g at.After-fill) c.fill.ensures.seat.2)
            (sets_notes to promise found c.fill_at-value.result is c.fill.new.seat.me (filled g at.After-fill)
            c.fill.ensures.seat.2 _ _ c.wake.new.seat.me.0 some.woke)
            c.from_residual.result c.from_residual.ensures.1,
      ),
    )

pub returns-clause-goes : goal.returns-clause-goes
returns-clause-goes g c = let at = goal.at.returns-clause-goes g c in
    let h = c.at-h.result in
    let woke : WakesAll g.P.Pool.puts h.cell.0 c.in_ok-wake.field-0 c.fill.new.seat
    c.wake.new.seat c.args.self.now.pool c.wake.new.pool = c.in_ok-wake.ensures.woke in
    subst (λ (z : Rec g.row.B.Denot). Goes (program g) c.args.laid.now next.Runs z c.args.self.now.seat.me.0
    c.wake.new.seat.me)
    (sym (c.set_answer.ensures ∙ ap (λ (z : Rec g.row.B.Denot). record z { answer = answer.Done })
    c.take_out.ensures.others))
    (sets_goes (to_set g at.After-at-h) (promise_if _ c.in_default.not-Task)
    (c.take_out.ensures.found.0 c.if-not-take_out.false) c.fill_at-value.result c.fill_at-value.ensures
    c.fill.new.seat.me (filled g at.After-fill) c.fill.ensures.seat.2 woke.chain c.wake.new.seat.me woke.woke
    c.wake.ensures.seat.2 c.take_out.new.rec.owned
    (c.take_out.ensures.without c.if-not-take_out.false))

pub returns-in-Task-clause-log : goal.returns-in-Task-clause-log
returns-in-Task-clause-log g c = still c.args.self.now.seat

pub returns-then-not-take_out-clause-log : goal.returns-then-not-take_out-clause-log
returns-then-not-take_out-clause-log g c = still c.args.self.now.seat

pub returns-in_err-wake-clause-log : goal.returns-in_err-wake-clause-log
returns-in_err-wake-clause-log g c = let k = c.in_err-wake.ensures.memory in
    grows_on c.args.self.now.seat c.fill.new.seat c.wake.new.seat
    (closed_grows c.args.self.now.seat c.fill.new.seat _ _ c.fill.ensures.log)
    (wake_grows _ _ _ c.fill.new.seat c.wake.new.seat k.steps)

pub returns-clause-log : goal.returns-clause-log
returns-clause-log g c = let k = c.in_ok-wake.ensures.woke in
    grows_on c.args.self.now.seat c.fill.new.seat c.wake.new.seat
    (closed_grows c.args.self.now.seat c.fill.new.seat _ _ c.fill.ensures.log)
    (wake_grows _ _ _ c.fill.new.seat c.wake.new.seat k.steps)
