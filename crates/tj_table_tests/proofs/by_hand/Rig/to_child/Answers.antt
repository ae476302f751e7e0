use Rattle.tj_run.proofs.Prelude.{Bool, CellId, Held, IsAsked, IsMade, Program, Rec, [], ap, child_record, get_or}
use Rattle.tj_run.proofs.Prelude.{held_at, length, program_of}
use Rattle.tj_run.proofs.Prelude.{refl, subst, sym, table_program, ◌++◌, ◌+◌, ◌∙◌, ◌∷◌, ◌≡◌}
use Rattle.std.proofs.lemmas.List.{nil_from_length}
use Rattle.tj_run.proofs.Children.ForkCalls.{Forking, HasGiven, forks_birth, forks_known, forks_release, parent_cell}
use Rattle.tj_table_tests.proofs.ForkedByHand.{child_made, one_passed}
use Rattle.tj_table_tests.proofs.by_hand.Rig.to_child.Given.{Over}
use Rattle.tj_table_tests.specs.ByHand.{IsRun}
use Rattle.tj_table_tests.proofs.by_hand.Rig.to_child.Goals as goal
use Rattle.tj_table_tests.proofs.by_hand.Rig.to_child.Goals.{In-Fork, In-Ok}
use Rattle.tj_base.specs.declared.cell.Sort.TheVariants as sort
use Rattle.tj_body.specs.declared.ask.Ask.TheVariants as ask

-- the program that runs
abbrev program : (g : Over) → Bool → g.row.B.Denot → Program g.row.B.Denot
program g = let b = g.B.Body in program_of b.places b.awaits b.left b.asks b.then

module _ (g : Over) (c : In-Fork g) (none : c.in-Fork.hand ≡ []) where
  -- what the fork stands on
  forking : Forking (program g) c.args.self.now.laid c.ask-rec.result.0 c.in-Fork.body c.in-Fork.pass []
      c.args.seat.now.me
  forking = let l = c.args.self.now.laid in let a = c.ask-rec.ensures.asked in
      let laws = c.points_in_rounds.ensures in record {
        runs = c.ask-rec.ensures.runs;
        asked = subst (λ hs. IsAsked (table_program (program g) l) c.args.seat.now.me.0 c.ask-rec.result.0
            (ask.Fork c.in-Fork.body c.in-Fork.pass hs)) none
            (subst (IsAsked (table_program (program g) l) c.args.seat.now.me.0 c.ask-rec.result.0) c.in-Fork.is a);
        law = laws.ask l.strict l.root.value a.rooted;
        things = laws.things l.strict l.root.value a.rooted;
        starts = laws.start l.strict l.root.value a.rooted;
        tell = c.names_and_cells.ensures.cells;
      }

module _ (g : Over) (c : In-Ok g) (f : Forking (program g) c.args.self.now.laid c.ask-rec.result.0 c.in-Fork.body
    c.in-Fork.pass [] c.args.seat.now.me) where
  -- the child is born, and is given nothing
  given : HasGiven (program g) c.args.self.now.laid c.ask-rec.result.0 c.in-Fork.body c.in-Fork.pass []
      c.args.seat.now.me c.in-Ok.c c.ask-rec.result.0.owned c.birth.new.seat.me.0
  given = record {
    forking = f;
    keeps = refl;
    born = c.birth.new.seat.me.0;
    made = subst (λ (z : CellId). IsMade sort.Task c.args.self.now.laid.cells z.0 c.in-Ok.c.0 c.args.seat.now.me.0
        c.birth.new.seat.me.0) c.cell.ensures c.in-Ok.ensures.made;
    promises = [];
    are = refl;
    gave = refl;
  }

pub birth-requires-clause-cell : goal.birth-requires-clause-cell
birth-requires-clause-cell g c κs within =
    let none : c.in-Fork.hand ≡ [] = sym c.items.ensures ∙ nil_from_length c.items.result.now c.if-items-ne0.false in
    rw c.cell.ensures (parent_cell (forking g (goal.at.birth-requires-clause-cell g c).In-Fork none))

pub birth-requires-clause-known : goal.birth-requires-clause-known
birth-requires-clause-known g c κs within =
    let none : c.in-Fork.hand ≡ [] = sym c.items.ensures ∙ nil_from_length c.items.result.now c.if-items-ne0.false in
    rw c.cell.ensures (forks_known (forking g (goal.at.birth-requires-clause-known g c).In-Fork none)
    c.ask-rec.result.0.owned refl)

pub birth-requires-clause-may : goal.birth-requires-clause-may
birth-requires-clause-may g c κs within =
    let none : c.in-Fork.hand ≡ [] = sym c.items.ensures ∙ nil_from_length c.items.result.now c.if-items-ne0.false in
    rw (c.cell.ensures, c.made.ensures) (forks_birth (forking g (goal.at.birth-requires-clause-may g c).In-Fork none)
    c.ask-rec.result.0.owned refl)

pub release-requires-clause-may : goal.release-requires-clause-may
unfolding given
release-requires-clause-may g c κs within = let at = goal.at.release-requires-clause-may g c in
    let none : c.in-Fork.hand ≡ [] = sym c.items.ensures ∙ nil_from_length c.items.result.now c.if-items-ne0.false in
    let held = c.ask-rec.result.0.held in let pass = c.in-Fork.pass in
    let one : length pass ≡ 1 = subst (λ z. length z ≡ 1) c.items-2.ensures c.if-items-ne1.false in
    forks_release (given g at.In-Ok (forking g at.In-Fork none))
    (held_at held (get_or pass 0 0) ∷ []) (sym (one_passed held pass one)) c.child_of-child.result
    (c.child_of-child.ensures ∙ ap (λ (z : Held). child_record c.in-Ok.c c.in-Fork.body (z ∷ []) [])
    (c.at-passed.ensures ∙ (λ i. held_at held (get_or (c.items-3.ensures i) 0 0))))

pub returns-clause-runs : goal.returns-clause-runs
returns-clause-runs g c = let at = goal.at.returns-clause-runs g c in
    let none : c.in-Fork.hand ≡ [] = sym c.items.ensures ∙ nil_from_length c.items.result.now c.if-items-ne0.false in
    let r = c.ask-rec.result.0 in let child : Held = record { cell = c.in-Ok.c; sort = sort.Task } in
    subst (λ (z : Rec g.row.B.Denot). IsRun (program g) c.args.self.now.laid z c.release.new.seat.me)
    (sym (c.count_made.ensures ∙ ap (λ (z : Rec g.row.B.Denot). record z { made = z.made + 1 })
    (c.hold.ensures ∙ ap (λ (z : Rec g.row.B.Denot). record z { held = z.held ++ child ∷ [] }) c.set_answer.ensures)))
    (child_made (given g at.In-Ok (forking g at.In-Fork none)) c.release.new.seat.me c.birth.new.seat.me.1
    c.release.ensures.me c.in-Ok.ensures.slot (r.held ++ child ∷ []) refl c.places.result c.places.ensures)
