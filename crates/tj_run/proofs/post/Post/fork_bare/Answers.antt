use Rattle.tj_run.proofs.Prelude.{Bool, CellId, IsMade, Program, Why, [], held_at, map, program_of, refl, subst}
use Rattle.tj_run.proofs.Prelude.{◌∙◌, ◌∷◌, ◌≡◌}
use Rattle.tj_base.specs.declared.cell.Sort.TheVariants as sort
use Rattle.tj_run.specs.declared.why.Why.TheVariants as why
use Rattle.tj_run.proofs.Children.ForkCalls.{Forking, HasGiven, forks_birth, forks_goes, forks_known, forks_release}
use Rattle.tj_run.proofs.Children.ForkCalls.{found_held, given_lacks, if_err, parent_cell, places_inside}
use Rattle.tj_run.proofs.Children.ForkCalls.{released_lacks}
use Rattle.tj_run.proofs.post.Post.fork_bare.Given.{Over}
use Rattle.tj_run.proofs.post.Post.fork_bare.Goals as goal
use Rattle.tj_run.proofs.post.Post.fork_bare.Goals.{After-names_and_cells, In_ok-c}
use Rattle.tj_cells.proofs.CallLogs.{grows_by, grows_on}
use Rattle.tj_run.proofs.Seats.LogGrowth.{refused_grows, task_grows}

-- the program that runs
abbrev program : (g : Over) → Bool → g.row.B.Denot → Program g.row.B.Denot
program g = let b = g.B.Body in program_of b.places b.awaits b.left b.asks b.then

module _ (g : Over) (c : After-names_and_cells g) where
  -- what the fork stands on
  forking : Forking (program g) c.args.laid.now c.args.rec.now c.args.body c.args.pass [] c.args.self.now.seat.me
  forking = let l = c.args.laid.now in let a = c.requires.asked in let laws = c.points_in_rounds.ensures in record {
    runs = c.requires.runs;
    asked = a;
    law = laws.ask l.strict l.root.value a.rooted;
    things = laws.things l.strict l.root.value a.rooted;
    starts = laws.start l.strict l.root.value a.rooted;
    tell = c.names_and_cells.ensures.cells;
  }

module _ (g : Over) (c : In_ok-c g)
    (f : Forking (program g) c.args.laid.now c.args.rec.now c.args.body c.args.pass [] c.args.self.now.seat.me) where
  -- the child is born, and is given nothing
  given : HasGiven (program g) c.args.laid.now c.args.rec.now c.args.body c.args.pass [] c.args.self.now.seat.me
      c.in_ok-c.c
      c.args.rec.now.owned c.birth.new.seat.me.0
  given = record {
    forking = f;
    keeps = refl;
    born = c.birth.new.seat.me.0;
    made = subst (λ (t : CellId). IsMade sort.Task c.args.laid.now.cells t.0 c.in_ok-c.c.0 c.args.self.now.seat.me.0
        c.birth.new.seat.me.0) c.cell-t.ensures c.in_ok-c.ensures.made;
    promises = [];
    are = refl;
    gave = refl;
  }

pub birth-requires-clause-cell : goal.birth-requires-clause-cell
birth-requires-clause-cell g c κs within =
    let f = forking g (goal.at.birth-requires-clause-cell g c).After-names_and_cells in
    rw c.cell-t.ensures (parent_cell f)

pub birth-requires-clause-known : goal.birth-requires-clause-known
birth-requires-clause-known g c κs within =
    let f = forking g (goal.at.birth-requires-clause-known g c).After-names_and_cells in
    rw c.cell-t.ensures (forks_known f c.args.rec.now.owned refl)

pub birth-requires-clause-may : goal.birth-requires-clause-may
birth-requires-clause-may g c κs within =
    let f = forking g (goal.at.birth-requires-clause-may g c).After-names_and_cells in
    rw (c.cell-t.ensures, c.made.ensures) (forks_birth f c.args.rec.now.owned refl)

pub bare_child-requires : goal.bare_child-requires
bare_child-requires g c =
    places_inside c.args.rec.now.held c.args.rec.now.held c.args.pass c.items.result.now refl c.items.ensures
    c.requires.asked.placed.passed

pub returns-in_err-child-clause-stays : goal.returns-in_err-child-clause-stays
returns-in_err-child-clause-stays g c = let at = goal.at.returns-in_err-child-clause-stays g c in
    let res = c.from_residual-in_err-child in (
      refl,
      (
        (c.birth.ensures.seat.0, refl),
        given_lacks (given g at.In_ok-c (forking g at.After-names_and_cells))
            res.result res.ensures.1,
      ),
    )

pub release-requires-clause-may : goal.release-requires-clause-may
unfolding given
release-requires-clause-may g c κs within = let at = goal.at.release-requires-clause-may g c in
    let passed = map (held_at c.args.rec.now.held) c.items.result.now in
    forks_release (given g at.In_ok-c (forking g at.After-names_and_cells)) passed
    (found_held c.args.rec.now.held c.args.rec.now.held c.args.pass c.items.result.now passed refl refl
    c.items.ensures) c.in_ok-child.child c.in_ok-child.ensures

pub returns-in_err-release-clause-stays : goal.returns-in_err-release-clause-stays
returns-in_err-release-clause-stays g c = let at = goal.at.returns-in_err-release-clause-stays g c in
    let res = c.from_residual-in_err-release in (
      refl,
      (
        (c.release.ensures.table ∙ c.birth.ensures.seat.0, c.release.ensures.limit),
        released_lacks (given g at.In_ok-c (forking g at.After-names_and_cells)) c.release.new.seat.me
            c.birth.new.seat.me.1 c.release.ensures.me c.in_ok-c.ensures.slot res.result
            (if_err (λ (z : Why). z ≡ why.Memory) res.result res.ensures.1),
      ),
    )

pub returns-clause-stays : goal.returns-clause-stays
returns-clause-stays g c = let at = goal.at.returns-clause-stays g c in (
  c.note_made.ensures.same,
  (
    (c.release.ensures.table ∙ c.birth.ensures.seat.0, c.release.ensures.limit),
    released_lacks (given g at.In_ok-c (forking g at.After-names_and_cells)) c.release.new.seat.me
        c.birth.new.seat.me.1 c.release.ensures.me c.in_ok-c.ensures.slot c.note_made.result c.note_made.ensures.memory,
  ),
)

pub returns-clause-goes : goal.returns-clause-goes
returns-clause-goes g c = let at = goal.at.returns-clause-goes g c in
    forks_goes (given g at.In_ok-c (forking g at.After-names_and_cells)) c.release.new.seat.me
    c.birth.new.seat.me.1 c.release.ensures.me c.in_ok-c.ensures.slot c.note_made.result c.note_made.new.rec
    c.note_made.ensures.runs c.note_made.ensures.rec

pub returns-in_err-c-clause-log : goal.returns-in_err-c-clause-log
returns-in_err-c-clause-log g c = refused_grows c.args.self.now.seat c.birth.new.seat _ c.cell-t.result.0 sort.Task
    c.in_err-c.ensures.log_full

pub returns-in_err-child-clause-log : goal.returns-in_err-child-clause-log
returns-in_err-child-clause-log g c = task_grows c.args.self.now.seat c.birth.new.seat _ _ _ c.in_ok-c.ensures.log_made

pub returns-in_err-release-clause-log : goal.returns-in_err-release-clause-log
returns-in_err-release-clause-log g c = grows_on c.args.self.now.seat c.birth.new.seat c.release.new.seat
    (task_grows c.args.self.now.seat c.birth.new.seat _ _ _ c.in_ok-c.ensures.log_made)
    (grows_by c.birth.new.seat c.release.new.seat (_ ∷ _ ∷ [])
    (c.release.ensures.log.1, c.release.ensures.log.2))

pub returns-clause-log : goal.returns-clause-log
returns-clause-log g c = grows_on c.args.self.now.seat c.birth.new.seat c.release.new.seat
    (task_grows c.args.self.now.seat c.birth.new.seat _ _ _ c.in_ok-c.ensures.log_made)
    (grows_by c.birth.new.seat c.release.new.seat (_ ∷ _ ∷ [])
    (c.release.ensures.log.1, c.release.ensures.log.2))
