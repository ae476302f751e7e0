-- What a running task makes next: the seat may draw a cell for it, which is a new one, of the name that the point
-- makes.
use Rattle.tj_run.proofs.Prelude.{Answer, AreApart, ArePairs, Ask, Bool, CellId, Err, HasName, HasSeen, Held, HeldSays}
use Rattle.tj_run.proofs.Prelude.{IfErr, IsAsked, IsCell, IsIn, IsMade, IsTailOf, IsWorkers, KnowsMore, Lacks, Laid}
use Rattle.tj_run.proofs.Prelude.{List, MayMake, Name, None, Ok, Point, Program, Rec, Reference, Result, RunsTask}
use Rattle.tj_run.proofs.Prelude.{SeatMe, Some, Sort, Stands, Tells, View, Why, [], about_table, ap, arith, cell_on}
use Rattle.tj_run.proofs.Prelude.{held_in, inl, inr, inside, next_name, owned_in, pairs_map, refl, stands_on, subst}
use Rattle.tj_run.proofs.Prelude.{suc, sym, table_program, tells_on, to_task, ℕ, ◌++◌, ◌+◌, ◌∙◌, ◌∷◌, ◌≡◌, ◌≢◌}
use Rattle.std.specs.Result.{IsErrAnd}
use Rattle.tj_base.specs.ForkOrder.{child}
use Rattle.tj_body.specs.History.{owned}
use Rattle.tj_body.specs.RoundPoints.{InRounds}
use Rattle.tj_words.specs.Calls.DrawViews.{drawn_next}
use Rattle.tj_words.specs.LawParts.Holding.{made_by}
use Rattle.tj_cells.proofs.CallsKnowMore.{made_counts, made_hand, made_more, made_wakes}
use Rattle.tj_run.proofs.Cells.NamedLists.{HaveCells, cell_reference, pairs_there}
use Rattle.tj_run.proofs.Seats.OneTask.{held_one}
use Rattle.tj_run.proofs.Asks.PointSteps.{before, owned_after}
use Rattle.tj_run.proofs.Seats.WorkersSteps.{workers_on}
use Rattle.tj_body.specs.declared.point.PointStage.TheVariants as stage
use Rattle.tj_run.specs.declared.why.Why.TheVariants as why

-- a number more, which is another one
pub apart_more : (l : List ℕ) (c : ℕ) → AreApart l → ((x : ℕ) → IsIn x l → x ≢ c) → AreApart (l ++ c ∷ [])
apart_more [] c a n = ((λ i. i), tt)
apart_more (x ∷ l) c a n = ((λ i. by l i (λ j. a.0 j)), apart_more l c a.1 (λ y i. n y (inr i)))
  where
    by : (m : List ℕ) → IsIn x (m ++ c ∷ []) → (IsIn x m → ⊥) → ⊥
    by [] (inl e) z = n x (inl refl) e
    by [] (inr i) z = i
    by (y ∷ m) (inl e) z = z (inl e)
    by (y ∷ m) (inr i) z = by m i (λ j. z (inr j))

module _ {B : Type 0} (program : Bool → B → Program B) (laid : Laid B) (r : Rec B) (x : Ask B) (me : SeatMe B)
    (runs : RunsTask laid r me) (asked : IsAsked (table_program program laid) me.0 r x) where
  abbrev P : Program B
  P = table_program program laid

  -- the point at which the ask was given
  abbrev p : Point B
  p = before P me.0 r x asked

  -- the seat has the task
  pub task_held : held_in me.0.tasks r.cell.0 ≡ Some runs.custody
  task_held = ap (λ ks. held_in ks r.cell.0) runs.tasks ∙ held_one r.cell.0 runs.custody runs.task

  made_same : runs.custody.made ≡ p.made
  made_same = sym runs.has.made ∙ asked.tells.made

  -- it may draw a cell
  pub may_make : InRounds P (next_name p) → MayMake program r.cell.0 (r.made + 1) me.0
  may_make named = record {
    draw = record {
      about = about_table laid;
      is_about = runs.worker.of_table;
      has = runs.custody;
      held = task_held;
      may = runs.runs;
      result = runs.result;
      out = runs.out;
      no_hand = runs.worker.nothing.hand;
      room = (let l = runs.worker.lot in let z = runs.worker.refused in omega arith);
      task = to_task p.name;
      is_task = asked.tells.of;
      named = subst (λ n. InRounds P (child p.name (suc n))) (sym made_same) named;
    };
    next = (let a = runs.has.made in omega arith);
  }

  -- the cell drawn next has the name that the point makes next
  drawn_is : (o : Sort) → drawn_next r.cell.0 o me.0 ≡ record { name = next_name p; sort = o }
  drawn_is o = let a = cell_reference me.0.born r.cell.0 (to_task p.name) asked.tells.of in
      let b : made_by (held_in me.0.tasks r.cell.0) None ≡ p.made = ap (λ q. made_by q None) task_held ∙ made_same in
      λ i. record { name = child (a i).name (suc (b i)); sort = o }

  -- each cell that the task owns is there
  pub owned_there : HaveCells me.0.born runs.custody.owned
  owned_there = subst (HaveCells me.0.born) runs.has.owned
      (pairs_there me.0.born r.owned (owned p) asked.tells.owned_cells)

  -- a cell was made
  module _ (o : Sort) (c : ℕ) (w : View B) (m : IsMade o laid.cells r.cell.0 c me.0 w) where
    pub new_is : IsCell w.born c (record { name = next_name p; sort = o })
    new_is = subst (IsCell w.born c) (drawn_is o) m.is

    pub new_more : KnowsMore me.0 w
    new_more = made_more o laid.cells r.cell.0 c me.0 w m

    pub new_worker : IsWorkers laid w
    new_worker = workers_on laid me.0 w new_more (made_hand o laid.cells r.cell.0 c me.0 w m)
        (made_wakes o laid.cells r.cell.0 c me.0 w m) (made_counts o laid.cells r.cell.0 c me.0 w m) m.all runs.worker

    -- the new cell is another one than each that was there
    pub new_other : (y : ℕ) → IsIn y runs.custody.owned → y ≢ c
    new_other y i e = let z = owned_there y i in let l = inside me.0.born y z.0 z.1 in let n = m.new in
        absurd (omega arith)

    pub new_task_other : r.cell.0 ≢ c
    new_task_other e = let l = inside me.0.born r.cell.0 (to_task p.name) asked.tells.of in let n = m.new in
        absurd (omega arith)

-- what a seat that knows more knows of a task that has asked
module _ {B : Type 0} (program : Program B) (v w : View B) (more : KnowsMore v w) (r : Rec B) (x : Ask B)
    (asked : IsAsked program v r x) where
  pub tells_then : Tells w.born r (before program v r x asked)
  tells_then = tells_on v.born w.born more.born r (before program v r x asked) asked.tells

  pub stands_then : Stands program w asked.point
  stands_then = stands_on program v.born w.born more.born (HasSeen v.filled) (HasSeen w.filled)
      (λ c e i. more.filled (record { cell = c; entry = e }) i) asked.point asked.stands

  pub name_then : (c : CellId) (q : Name) → HasName v.born c q → HasName w.born c q
  name_then c q h = (h.0, cell_on v.born w.born more.born c.0 h.0 h.1, h.2)

  pub held_then : (d : Held) (y : Reference) → HeldSays v.born d y → HeldSays w.born d y
  held_then d y h = (cell_on v.born w.born more.born d.cell.0 y h.0, h.1)

  pub owned_then : (a : Answer)
      → ArePairs (HasName w.born) r.owned (owned_in (stage.Answered a) asked.point.name asked.point.holds)
  owned_then a = pairs_map (HasName v.born) (HasName w.born) name_then r.owned
      (owned_in (stage.Answered a) asked.point.name asked.point.holds) (owned_after program v r x asked a)

module _ {B : Type 0} where
  -- want of memory has no other cause
  pub lacks_noted : {A : Type 0} (v w : View B) → w.about ≡ v.about → IsTailOf v.notes w.notes → (r : Result A Why)
      → IfErr r (λ (z : Why). z ≡ why.Memory)
      → IfErr r (λ (z : Why). Lacks z v w)
  lacks_noted v w same more (Ok a) h = tt
  lacks_noted v w same more (Err z) h = record {
    about = same;
    notes = more;
    refused = λ e. absurd (apart (sym h ∙ e));
  }
    where
      apart : why.Memory ≡ why.Full → ⊥
      apart q = cc

  pub lacks_memory : {A : Type 0} (v w : View B) → w.about ≡ v.about → IsTailOf v.notes w.notes → (r : Result A Why)
      → IsErrAnd r (λ (z : Why). z ≡ why.Memory)
      → IfErr r (λ (z : Why). Lacks z v w)
  lacks_memory {A = A} v w same more (Ok a) h = tt
  lacks_memory {A = A} v w same more (Err z) h = lacks_noted {A = A} v w same more (Err z) h
