use Rattle.std.proofs.Common.{Err, refl, sym, ap, inl, inr, ◌∙◌}
use Rattle.tj_body.specs.Programs.{program_of}
use Rattle.tj_run.proofs.Runs.RunsAtRest.{full_told}
use Rattle.tj_run.specs.declared.why.Why.TheVariants as why
use Rattle.tj_words.specs.LawParts.FirstState.{first_view}
use Rattle.tj_told.proofs.RunFaults.{both_ok, ends_on, err_is, no_end, rest_ends_on}
use Rattle.tj_told.proofs.TakenSeats.{rested_so}
use Rattle.tj_told.specs.declared.fault.ToldFault.{ToldFault}
use Rattle.tj_told.proofs.run.run_beside.Goals as goal

pub ended-requires-clause-rested : goal.ended-requires-clause-rested
ended-requires-clause-rested g c κs within = let b = g.B.Body in let w = c.work_told-seat in let e = c.in-Ok.ensures in
    rested_so (program_of b.places b.awaits b.left b.asks b.then) w.result.1 _ _ w.ensures.left.0 w.result.0.me
    (ap (λ m. m.0) e.view ∙ (λ i. first_view (sym e.cells i) (sym e.root i) (sym e.strict i))) w.ensures.left.1
    w.ensures.left.2

pub returns-clause-full : goal.returns-clause-full
returns-clause-full g c e = let b = g.B.Body in let w = c.work_told-seat in
    full_told (program_of b.places b.awaits b.left b.asks b.then) c.args.root c.args.options.cells
    c.args.options.strict w.result.1 why.Full (c.ended.ensures.full e) refl _ w.ensures.left.0 c.in-Ok.ensures.view
    w.ensures.left.1

pub returns-clause-seen : goal.returns-clause-seen
returns-clause-seen g c none = let b = g.B.Body in let w = c.work_told-seat in let m = c.in-Ok.made in
    let e = c.in-Ok.ensures in let o = c.args.options in
    let p = program_of b.places b.awaits b.left b.asks b.then in
    both_ok c.ended.result (λ rest h k. (
      w.result.0,
      rest_ends_on p m.0.cells o.cells m.0.strict o.strict m.0.root.value c.args.root w.result.0 rest e.cells e.strict
          e.root h,
      w.ensures.seen none,
    )) c.ended.ensures.ends c.ended.ensures.ends

pub returns-in-Err-clause-early : goal.returns-in-Err-clause-early
returns-in-Err-clause-early g c none = inl none

pub returns-clause-early : goal.returns-clause-early
returns-clause-early g c none = let b = g.B.Body in let w = c.work_told-seat in let m = c.in-Ok.made in
    let e = c.in-Ok.ensures in let o = c.args.options in
    let p = program_of b.places b.awaits b.left b.asks b.then in
    err_is c.ended.result (λ why is h. inr (
      w.result.0,
      h.0,
      h.1,
      ends_on p m.0.cells o.cells m.0.strict o.strict m.0.root.value c.args.root w.result.0 h.0 h.1 e.cells e.strict
          e.root h.2,
      w.ensures.seen none,
      λ s. w.ensures.stored (λ left. no_end w.result.3
          (c.ended.ensures.stopped (is ∙ ap (λ (z : ToldFault). Err z) s)) left),
    )) c.ended.ensures.ended

pub returns-clause-goes : goal.returns-clause-goes
returns-clause-goes g c none s h n = c.work_told-seat.ensures.goes none s h (c.ended.ensures.other n)

pub returns-clause-stops : goal.returns-clause-stops
returns-clause-stops g c none s h e = c.work_told-seat.ensures.stops none s h (c.ended.ensures.stopped e)
