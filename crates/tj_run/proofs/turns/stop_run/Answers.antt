use Rattle.tj_run.proofs.Prelude.{IsIn, SeatMe, [], ap, inl, note_of, program_of, refl, subst, sym, ◌∷◌}
use Rattle.tj_run.proofs.Runs.TurnSteps.{found_since, stopped_since}
use Rattle.tj_words.specs.declared.view.Noted.TheVariants as note
use Rattle.tj_run.specs.declared.why.Left.TheVariants as left
use Rattle.tj_run.proofs.turns.stop_run.Goals as goal
use Rattle.tj_cells.proofs.CallLogs.{grows_by}
use Rattle.tj_run.proofs.Seats.LogGrowth.{ends_since}

pub unreachable-requires : goal.unreachable-requires
unreachable-requires g c = c.stop_word.ensures.stands c.word-word.result
    (subst (IsIn c.word-word.result) (sym (ap (λ (m : SeatMe g.row.B.Denot). m.0.stored) c.stop-2.ensures.me)) (inl refl))
    c.in-None.is

pub returns-clause-stopped : goal.returns-clause-stopped
returns-clause-stopped g c = let b = g.B.Body in
    stopped_since (program_of b.places b.awaits b.left b.asks b.then) c.args.seat.now.me.0 c.stop-2.new.seat.me.0
    c.stop_word.new.seat.me.0 c.in-Some.told (ap (λ (m : SeatMe g.row.B.Denot). m.0.about) c.stop-2.ensures.me)
    c.in-Some.ensures.some

pub returns-clause-found : goal.returns-clause-found
returns-clause-found g c = found_since (left.Stopped c.in-Some.told) c.args.seat.now.me.0 c.stop-2.new.seat.me.0
    c.stop_word.new.seat.me.0 (
      note_of note.StoredStop c.word-word.result c.args.seat.now.me.0 ∷ [],
      ap (λ (m : SeatMe g.row.B.Denot). m.0.notes) c.stop-2.ensures.me,
    )
    c.in-Some.ensures.found

pub returns-clause-log : goal.returns-clause-log
returns-clause-log g c = ends_since (left.Stopped c.in-Some.told) c.args.seat.now c.stop-2.new.seat c.stop_word.new.seat
    (grows_by c.args.seat.now c.stop-2.new.seat (_ ∷ []) c.stop-2.ensures.log) c.in-Some.ensures.log
