use Rattle.tj_run.proofs.Prelude.{AreKept, Bool, CellId, Err, Held, Hurt, IsAsked, IsMade, List, Ok, Program, Result}
use Rattle.tj_run.proofs.Prelude.{Why, [], ap, child_record, drop, gave_each, hand_cells, held_at, map, numbered}
use Rattle.tj_run.proofs.Prelude.{numbers, program_of, refl, subst, sym, table_program, ◌∙◌, ◌∷◌, ◌≡◌}
use Rattle.tj_base.specs.declared.cell.Sort.TheVariants as sort
use Rattle.tj_run.proofs.Seats.RunningTasks.{owns_some}
use Rattle.tj_body.specs.declared.ask.Ask.TheVariants as ask
use Rattle.tj_run.specs.declared.why.Why.TheVariants as why
use Rattle.tj_run.proofs.Children.BareForks.{no_places}
use Rattle.tj_run.proofs.Children.ForkCalls.{Forking, HasGiven, forks_birth, forks_cells, forks_fail, forks_goes}
use Rattle.tj_run.proofs.Children.ForkCalls.{forks_hand, forks_kept, forks_known, forks_release, found_cells}
use Rattle.tj_run.proofs.Children.ForkCalls.{found_held, given_lacks, if_err, kept_of, parent_cell, places_inside}
use Rattle.tj_run.proofs.Children.ForkCalls.{released_lacks, whole}
use Rattle.tj_run.proofs.post.Post.fork.Given.{Over}
use Rattle.tj_run.proofs.post.Post.fork.Goals as goal
use Rattle.tj_run.proofs.post.Post.fork.Goals.{After-as_slice-3, After-hand_each, After-names_and_cells, In_ok-c}
use Rattle.tj_run.proofs.post.Post.fork.Goals.{In_ok-left}
use Rattle.tj_cells.proofs.CallLogs.{grows_by, grows_on}
use Rattle.tj_run.proofs.Seats.LogGrowth.{refused_grows, still, task_grows}

-- the program that runs
abbrev program : (g : Over) → Bool → g.row.B.Denot → Program g.row.B.Denot
program g = let b = g.B.Body in program_of b.places b.awaits b.left b.asks b.then

module _ (g : Over) (c : After-names_and_cells g) where
  -- what the fork stands on
  forking : Forking (program g) c.args.laid.now c.args.rec.now c.args.body c.args.pass c.args.handed
      c.args.self.now.seat.me
  forking = let l = c.args.laid.now in let a = c.requires.asked in let laws = c.points_in_rounds.ensures in record {
    runs = c.requires.runs;
    asked = a;
    law = laws.ask l.strict l.root.value a.rooted;
    things = laws.things l.strict l.root.value a.rooted;
    starts = laws.start l.strict l.root.value a.rooted;
    tell = c.names_and_cells.ensures.cells;
  }

module _ (g : Over) (c : In_ok-left g) where
  -- the held cells at the handed places
  abbrev handed : List Held
  handed = map (held_at c.args.rec.now.held) c.args.handed

  handed_so : c.as_slice.result.now ≡ handed
  handed_so = c.as_slice.ensures.value ∙ found_held c.args.rec.now.held c.args.rec.now.held c.args.handed
      c.items-2.result.now c.in_ok-given.given.items c.in_ok-given.ensures refl c.items-2.ensures

  -- what the task keeps of its promises, or why it may not hand them
  keeps : (f : Forking (program g) c.args.laid.now c.args.rec.now c.args.body c.args.pass c.args.handed
      c.args.self.now.seat.me) (y : Result (List CellId) Hurt) → c.in_ok-left.field-0 ≡ y
      → AreKept (whole c.args.rec.now.cell y) (hand_cells (numbers c.args.rec.now.owned) (map numbered handed))
  keeps f y is = forks_kept f y (kept_of c.in_ok-left.field-0 y (drop 1 c.args.rec.now.owned) c.promises.result.now
      handed c.as_slice.result.now is c.promises.ensures.promises handed_so c.in_ok-left.ensures)

-- the child is born
made_so : (g : Over) (c : In_ok-c g) → IsMade sort.Task c.args.laid.now.cells c.args.rec.now.cell.0 c.in_ok-c.c.0
    c.args.self.now.seat.me.0 c.birth.new.seat.me.0
made_so g c = subst (λ (t : CellId). IsMade sort.Task c.args.laid.now.cells t.0 c.in_ok-c.c.0
    c.args.self.now.seat.me.0 c.birth.new.seat.me.0) c.cell-t.ensures c.in_ok-c.ensures.made

-- the promises that are handed
promises_so : (g : Over) (c : After-as_slice-3 g)
    → c.as_slice-3.result.now ≡ map (λ (h : Held). h.cell) (map (held_at c.args.rec.now.held) c.args.handed)
promises_so g c = let all = map (held_at c.args.rec.now.held) c.args.handed in
    c.as_slice-3.ensures.value ∙ found_cells c.as_slice-2.result.now all c.in_ok-promises.promises.items
    c.in_ok-promises.ensures (c.as_slice-2.ensures.value ∙ found_held c.args.rec.now.held c.args.rec.now.held
    c.args.handed c.items-2.result.now c.in_ok-given.given.items c.in_ok-given.ensures refl c.items-2.ensures)

module _ (g : Over) (c : After-hand_each g)
    (f : Forking (program g) c.args.laid.now c.args.rec.now c.args.body c.args.pass c.args.handed
    c.args.self.now.seat.me)
    (left : AreKept (Ok (c.args.rec.now.cell ∷ c.in-Ok.left)) (hand_cells (numbers c.args.rec.now.owned) (map numbered
    (map (held_at c.args.rec.now.held) c.args.handed))))
    (are : c.as_slice-3.result.now ≡ map (λ (h : Held). h.cell) (map (held_at c.args.rec.now.held) c.args.handed)) where
  -- the child is born, and is given the promises
  given : HasGiven (program g) c.args.laid.now c.args.rec.now c.args.body c.args.pass c.args.handed
      c.args.self.now.seat.me
      c.in_ok-c.c (c.args.rec.now.cell ∷ c.in-Ok.left) c.hand_each.new.seat.me.0
  given = record {
    forking = f;
    keeps = left;
    born = c.birth.new.seat.me.0;
    made = subst (λ (t : CellId). IsMade sort.Task c.args.laid.now.cells t.0 c.in_ok-c.c.0 c.args.self.now.seat.me.0
        c.birth.new.seat.me.0) c.cell-t.ensures c.in_ok-c.ensures.made;
    promises = c.as_slice-3.result.now;
    are = are;
    gave = c.hand_each.ensures.view ∙ ap (λ (t : CellId). gave_each t.0 c.as_slice-3.result.now c.in_ok-c.c.0
        c.birth.new.seat.me.0) c.cell-t.ensures;
  }

pub returns-in-Err-clause-goes : goal.returns-in-Err-clause-goes
returns-in-Err-clause-goes g c = let at = goal.at.returns-in-Err-clause-goes g c in
    forks_fail (forking g at.After-names_and_cells) c.in-Err.hurt
    (keeps g at.In_ok-left (forking g at.After-names_and_cells) (Err c.in-Err.hurt) c.in-Err.is)

pub held_at-requires-2 : goal.held_at-requires-2
held_at-requires-2 g c =
    places_inside c.args.rec.now.held c.args.rec.now.held c.args.pass c.items-3.result.now refl c.items-3.ensures
    c.requires.asked.placed.passed

pub birth-requires-clause-cell : goal.birth-requires-clause-cell
birth-requires-clause-cell g c κs within =
    rw c.cell-t.ensures (parent_cell (forking g (goal.at.birth-requires-clause-cell g c).After-names_and_cells))

pub birth-requires-clause-known : goal.birth-requires-clause-known
birth-requires-clause-known g c κs within = let at = goal.at.birth-requires-clause-known g c in
    rw c.cell-t.ensures (forks_known (forking g at.After-names_and_cells) (c.args.rec.now.cell ∷ c.in-Ok.left)
    (keeps g at.In_ok-left (forking g at.After-names_and_cells) (Ok c.in-Ok.left) c.in-Ok.is))

pub birth-requires-clause-may : goal.birth-requires-clause-may
birth-requires-clause-may g c κs within = let at = goal.at.birth-requires-clause-may g c in
    rw (c.cell-t.ensures, c.made.ensures) (forks_birth (forking g at.After-names_and_cells)
    (c.args.rec.now.cell ∷ c.in-Ok.left)
    (keeps g at.In_ok-left (forking g at.After-names_and_cells) (Ok c.in-Ok.left) c.in-Ok.is))

pub hand_each-requires-clause-cells : goal.hand_each-requires-clause-cells
hand_each-requires-clause-cells g c κs within = let at = goal.at.hand_each-requires-clause-cells g c in
    forks_cells (forking g at.After-names_and_cells) (c.args.rec.now.cell ∷ c.in-Ok.left)
    (keeps g at.In_ok-left (forking g at.After-names_and_cells) (Ok c.in-Ok.left) c.in-Ok.is) c.in_ok-c.c
    c.birth.new.seat.me.0 (made_so g at.In_ok-c) c.as_slice-3.result.now (promises_so g at.After-as_slice-3)

pub hand_each-requires-clause-may : goal.hand_each-requires-clause-may
hand_each-requires-clause-may g c κs within = let at = goal.at.hand_each-requires-clause-may g c in
    rw c.cell-t.ensures (forks_hand (forking g at.After-names_and_cells) (c.args.rec.now.cell ∷ c.in-Ok.left)
    (keeps g at.In_ok-left (forking g at.After-names_and_cells) (Ok c.in-Ok.left) c.in-Ok.is) c.in_ok-c.c
    c.birth.new.seat.me.0 (made_so g at.In_ok-c) c.as_slice-3.result.now (promises_so g at.After-as_slice-3))

pub returns-in_err-child-clause-stays : goal.returns-in_err-child-clause-stays
returns-in_err-child-clause-stays g c = let at = goal.at.returns-in_err-child-clause-stays g c in
    let res = c.from_residual-in_err-child in (
      refl,
      (
        (c.hand_each.ensures.seat.0 ∙ c.birth.ensures.seat.0, refl),
        given_lacks (given g at.After-hand_each (forking g at.After-names_and_cells)
            (keeps g at.In_ok-left (forking g at.After-names_and_cells) (Ok c.in-Ok.left) c.in-Ok.is)
            (promises_so g at.After-as_slice-3)) res.result
            res.ensures.1,
      ),
    )

pub release-requires-clause-may : goal.release-requires-clause-may
unfolding given
release-requires-clause-may g c κs within = let at = goal.at.release-requires-clause-may g c in
    let passed = c.in_ok-passed in let own = sym c.as_slice-3.ensures.value in
    forks_release (given g at.After-hand_each (forking g at.After-names_and_cells)
    (keeps g at.In_ok-left (forking g at.After-names_and_cells) (Ok c.in-Ok.left) c.in-Ok.is)
    (promises_so g at.After-as_slice-3)) passed.passed.items
    (found_held c.args.rec.now.held c.args.rec.now.held c.args.pass c.items-3.result.now passed.passed.items
    passed.ensures refl c.items-3.ensures) c.in_ok-child.child
    (c.in_ok-child.ensures ∙ ap (child_record c.in_ok-c.c c.args.body passed.passed.items) own)

pub returns-in_err-release-clause-stays : goal.returns-in_err-release-clause-stays
returns-in_err-release-clause-stays g c = let at = goal.at.returns-in_err-release-clause-stays g c in
    let res = c.from_residual-in_err-release in (
      refl,
      (
        (c.release.ensures.table ∙ c.hand_each.ensures.seat.0 ∙ c.birth.ensures.seat.0, c.release.ensures.limit),
        released_lacks (given g at.After-hand_each (forking g at.After-names_and_cells)
            (keeps g at.In_ok-left (forking g at.After-names_and_cells) (Ok c.in-Ok.left) c.in-Ok.is)
            (promises_so g at.After-as_slice-3))
            c.release.new.seat.me
            c.hand_each.new.seat.me.1 c.release.ensures.me (c.hand_each.ensures.seat.2 ∙ c.in_ok-c.ensures.slot)
            res.result
            (if_err (λ (z : Why). z ≡ why.Memory) res.result res.ensures.1),
      ),
    )

pub returns-clause-stays : goal.returns-clause-stays
returns-clause-stays g c = let at = goal.at.returns-clause-stays g c in (
  c.note_child.ensures.same,
  (
    (c.release.ensures.table ∙ c.hand_each.ensures.seat.0 ∙ c.birth.ensures.seat.0, c.release.ensures.limit),
    released_lacks (given g at.After-hand_each (forking g at.After-names_and_cells)
        (keeps g at.In_ok-left (forking g at.After-names_and_cells) (Ok c.in-Ok.left) c.in-Ok.is)
        (promises_so g at.After-as_slice-3)) c.release.new.seat.me
        c.hand_each.new.seat.me.1 c.release.ensures.me (c.hand_each.ensures.seat.2 ∙ c.in_ok-c.ensures.slot)
        c.note_child.result c.note_child.ensures.memory,
  ),
)

pub returns-clause-goes : goal.returns-clause-goes
returns-clause-goes g c = let at = goal.at.returns-clause-goes g c in
    forks_goes (given g at.After-hand_each (forking g at.After-names_and_cells)
    (keeps g at.In_ok-left (forking g at.After-names_and_cells) (Ok c.in-Ok.left) c.in-Ok.is)
    (promises_so g at.After-as_slice-3)) c.release.new.seat.me
    c.hand_each.new.seat.me.1 c.release.ensures.me (c.hand_each.ensures.seat.2 ∙ c.in_ok-c.ensures.slot)
    c.note_child.result c.note_child.new.rec c.note_child.ensures.runs c.note_child.ensures.rec

pub fork_bare-requires-clause-asked : goal.fork_bare-requires-clause-asked
fork_bare-requires-clause-asked g c κs within = let b = g.B.Body in
    let none : c.args.handed ≡ [] = sym c.items.ensures ∙ no_places c.items.result.now c.if-is_empty.ensures in
    subst (λ hs. IsAsked (table_program (program_of b.places b.awaits b.left b.asks b.then) c.args.laid.now)
    c.args.self.now.seat.me.0 c.args.rec.now (ask.Fork c.args.body c.args.pass hs)) none c.requires.asked

pub note_child-requires-clause-owns : goal.note_child-requires-clause-owns
note_child-requires-clause-owns g c κs within =
    owns_some c.args.laid.now c.args.rec.now c.args.self.now.seat.me c.requires.runs

pub returns-in_err-given-clause-log : goal.returns-in_err-given-clause-log
returns-in_err-given-clause-log g c = still c.args.self.now.seat

pub returns-in_err-left-clause-log : goal.returns-in_err-left-clause-log
returns-in_err-left-clause-log g c = still c.args.self.now.seat

pub returns-in-Err-clause-log : goal.returns-in-Err-clause-log
returns-in-Err-clause-log g c = still c.args.self.now.seat

pub returns-in_err-passed-clause-log : goal.returns-in_err-passed-clause-log
returns-in_err-passed-clause-log g c = still c.args.self.now.seat

pub returns-in_err-promises-clause-log : goal.returns-in_err-promises-clause-log
returns-in_err-promises-clause-log g c = still c.args.self.now.seat

pub returns-in_err-c-clause-log : goal.returns-in_err-c-clause-log
returns-in_err-c-clause-log g c = refused_grows c.args.self.now.seat c.birth.new.seat _ c.cell-t.result.0 sort.Task
    c.in_err-c.ensures.log_full

pub returns-in_err-child-clause-log : goal.returns-in_err-child-clause-log
returns-in_err-child-clause-log g c = grows_on c.args.self.now.seat c.birth.new.seat c.hand_each.new.seat
    (task_grows c.args.self.now.seat c.birth.new.seat _ _ _ c.in_ok-c.ensures.log_made) c.hand_each.ensures.log

pub returns-in_err-release-clause-log : goal.returns-in_err-release-clause-log
returns-in_err-release-clause-log g c = grows_on c.args.self.now.seat c.hand_each.new.seat c.release.new.seat
    (grows_on c.args.self.now.seat c.birth.new.seat c.hand_each.new.seat
    (task_grows c.args.self.now.seat c.birth.new.seat _ _ _ c.in_ok-c.ensures.log_made) c.hand_each.ensures.log)
    (grows_by c.hand_each.new.seat c.release.new.seat (_ ∷ _ ∷ [])
    (c.release.ensures.log.1, c.release.ensures.log.2))

pub returns-clause-log : goal.returns-clause-log
returns-clause-log g c = grows_on c.args.self.now.seat c.hand_each.new.seat c.release.new.seat
    (grows_on c.args.self.now.seat c.birth.new.seat c.hand_each.new.seat
    (task_grows c.args.self.now.seat c.birth.new.seat _ _ _ c.in_ok-c.ensures.log_made) c.hand_each.ensures.log)
    (grows_by c.hand_each.new.seat c.release.new.seat (_ ∷ _ ∷ [])
    (c.release.ensures.log.1, c.release.ensures.log.2))
