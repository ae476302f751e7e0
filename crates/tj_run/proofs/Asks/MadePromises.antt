-- A running task makes a promise, which it owns and holds from then on.
use Rattle.tj_run.proofs.Prelude.{Bool, CellId, Goes, HasCell, HasName, Held, HeldSays, IsAsked, IsIn, IsRunning}
use Rattle.tj_run.proofs.Prelude.{KnowsMore, Laid, Name, Point, PointsAsk, Program, Rec, RunsTask, SeatMe}
use Rattle.tj_run.proofs.Prelude.{ThingsInRounds, View, [], ap, arith, in_either, in_left, in_right, inl, inr, length}
use Rattle.tj_run.proofs.Prelude.{noted, refl, subst, sym, table_program, ℕ, ⊎_elim, ◌++◌, ◌+◌, ◌∙◌, ◌∷◌, ◌≡◌, ◌⊎◌}
use Rattle.tj_body.specs.History.{after_new, next_name, to_promise}
use Rattle.tj_cells.specs.MadeCells.{IsMade, MayMake, makes_promise}
use Rattle.tj_run.proofs.Asks.FoundValues.{pairs_snoc}
use Rattle.tj_run.proofs.Cells.KnownCells.{cells_known, ending_known, held_known, known_more, owed_known, owned_known}
use Rattle.tj_run.proofs.Cells.KnownCells.{task_known}
use Rattle.tj_run.proofs.Asks.NewThings.{apart_more, may_make, new_is, new_more, new_other, new_worker, owned_then}
use Rattle.tj_run.proofs.Asks.NewThings.{stands_then, tells_then}
use Rattle.tj_run.proofs.Seats.OneTask.{noted_one}
use Rattle.tj_run.proofs.Cells.PieceLists.{numbers_append}
use Rattle.tj_run.proofs.Asks.PointSteps.{after_rounds, before, pairs_length, stands_next}
use Rattle.tj_base.specs.declared.cell.Sort.TheVariants as sort
use Rattle.tj_body.specs.declared.ask.Answer.TheVariants as answer
use Rattle.tj_body.specs.declared.ask.Ask.TheVariants as ask
use Rattle.tj_body.specs.declared.point.PointStage.TheVariants as stage
use Rattle.tj_run.specs.declared.next.Next.TheVariants as next

-- the record holds and owns one promise more, whose place is its answer, and has made one thing more
abbrev pub with_promise : {B : Type 0} → CellId → Rec B → Rec B
with_promise c r = record r {
  held = r.held ++ record { cell = c; sort = sort.Promise } ∷ [];
  owned = r.owned ++ c ∷ [];
  made = r.made + 1;
  answer = answer.Local (length r.held);
}

module _ {B : Type 0} (program : Bool → B → Program B) (laid : Laid B) (r : Rec B) (me : SeatMe B)
    (runs : RunsTask laid r me) (asked : IsAsked (table_program program laid) me.0 r ask.New)
    (law : PointsAsk (table_program program laid)) where
  abbrev P : Program B
  P = table_program program laid

  abbrev p : Point B
  p = before P me.0 r ask.New asked

  -- its name is that of a cell of some round
  pub may_make_promise : ThingsInRounds P → MayMake program r.cell.0 (r.made + 1) me.0
  may_make_promise things = may_make program laid r ask.New me runs asked
      ((things (after_new p) (after_rounds P me.0 r ask.New asked law)).0 (next_name p)
      (in_right (next_name p) p.promises (next_name p ∷ []) (inl refl)))

  module _ (c : CellId) (w : View B) (m : IsMade sort.Promise laid.cells r.cell.0 c.0 me.0 w) where
    abbrev q : Rec B
    q = with_promise c r

    more : KnowsMore me.0 w
    more = new_more program laid r ask.New me runs asked sort.Promise c.0 w m

    tasks_then : w.tasks ≡ makes_promise c.0 runs.custody ∷ []
    tasks_then = m.tasks ∙ (ap (λ ks. noted r.cell.0 (makes_promise c.0) ks) runs.tasks
        ∙ noted_one r.cell.0 runs.custody runs.task (makes_promise c.0) refl)

    known_then : (y : ℕ) → IsIn y me.0.known → IsIn y w.known
    known_then y i = subst (IsIn y) (sym m.known) (inr i)

    new_known : IsIn c.0 w.known
    new_known = subst (IsIn c.0) (sym m.known) (inl refl)

    runs_then : RunsTask laid q (w, me.1)
    runs_then = let k = runs.has.knows in record {
      worker = new_worker program laid r ask.New me runs asked sort.Promise c.0 w m;
      custody = makes_promise c.0 runs.custody;
      tasks = tasks_then;
      slots = runs.slots;
      task = runs.task;
      runs = tt;
      out = runs.out;
      has = record {
        cell = refl;
        owned = numbers_append r.owned (c ∷ []) ∙ ap (λ l. l ++ c.0 ∷ []) runs.has.owned;
        made = (let a = runs.has.made in omega arith);
        knows = cells_known w.known q (known_then r.cell.0 (task_known me.0.known r k))
            (known_more w.known (λ (h : Held). h.cell.0) r.held (record { cell = c; sort = sort.Promise })
            (λ y i. known_then y (held_known me.0.known r k y i)) new_known)
            (known_more w.known (λ (d : CellId). d.0) r.owned c
            (λ y i. known_then y (owned_known me.0.known r k y i)) new_known)
            (λ y i. known_then y (owed_known me.0.known r k y i))
            (λ y i. known_then y (ending_known me.0.known r k y i));
      };
      result = in_left r.cell.0 runs.custody.owned (c.0 ∷ []) runs.result;
      owned_apart = apart_more runs.custody.owned c.0 runs.owned_apart
          (new_other program laid r ask.New me runs asked sort.Promise c.0 w m);
    }

    new_stands : (y : Name) → IsIn y (p.promises ++ next_name p ∷ [])
        → IsIn y p.promises ⊎ HasCell w.born y (λ d x. x.sort ≡ sort.Promise)
    new_stands y i = ⊎_elim (λ j. inl j) (λ j. inr (⊎_elim (λ e. (
      c.0,
      to_promise (next_name p),
      new_is program laid r ask.New me runs asked sort.Promise c.0 w m,
      sym e,
      refl,
    )) (λ n. absurd n) j))
        (in_either y p.promises (next_name p ∷ []) i)

    running_then : IsRunning P w q
    running_then = let t = tells_then P me.0 w more r ask.New asked in
        let new = new_is program laid r ask.New me runs asked sort.Promise c.0 w m in record {
          rooted = asked.rooted;
          point = after_new p;
          at_stage = ap (λ i. stage.Answered (answer.Local i))
              (sym (pairs_length (HeldSays w.born) r.held p.references t.held));
          unfinished = asked.unfinished;
          tells = record {
            of = t.of;
            body = t.body;
            held = pairs_snoc (HeldSays w.born) r.held p.references (record { cell = c; sort = sort.Promise })
                (to_promise (next_name p)) t.held (new, refl);
            owned_cells = pairs_snoc (HasName w.born) r.owned (p.name ∷ p.holds) c (next_name p)
                (owned_then P me.0 w more r ask.New asked answer.Done) (to_promise (next_name p), new, refl);
            made = (let a = t.made in omega arith);
            prints = t.prints;
            owed = t.owed;
          };
          stands = stands_next P w asked.point (after_new p) (stands_then P me.0 w more r ask.New asked)
              (after_rounds P me.0 r ask.New asked law) (λ k j. inl j) new_stands (λ y e j. inl j);
        }

    pub promise_goes : Goes program laid next.Runs q me.0 (w, me.1)
    promise_goes = record {
      knows = more;
      runs = runs_then;
      goes_on = running_then;
    }

  -- the record notes it step by step
  pub promise_made : (t c : CellId) (s : SeatMe B) → t ≡ r.cell
      → IsMade sort.Promise laid.cells t.0 c.0 me.0 s.0 → s.1 ≡ me.1
      → (held owned made noted : Rec B) (place : ℕ) → place ≡ length r.held
      → held ≡ record r { held = r.held ++ record { cell = c; sort = sort.Promise } ∷ [] }
      → owned ≡ record held { owned = held.owned ++ c ∷ [] }
      → made ≡ record owned { made = owned.made + 1 }
      → noted ≡ record made { answer = answer.Local place }
      → Goes program laid next.Runs noted me.0 s
  promise_made t c s its is_made slots held owned made noted place place_is held_is owned_is made_is noted_is =
      subst (λ (z : Rec B). Goes program laid next.Runs z me.0 s)
      (sym (noted_is
      ∙ (ap (λ (z : Rec B). record z { answer = answer.Local place }) made_is
      ∙ (ap (λ (z : Rec B). record z { made = z.made + 1; answer = answer.Local place }) owned_is
      ∙ (ap (λ (z : Rec B). record z { owned = z.owned ++ c ∷ []; made = z.made + 1; answer = answer.Local place })
      held_is ∙ ap (λ k. record (with_promise c r) { answer = answer.Local k }) place_is)))))
      (subst (λ (z : SeatMe B). Goes program laid next.Runs (with_promise c r) me.0 z) (λ i. (s.0, sym slots i))
      (promise_goes c s.0 (subst (λ (z : CellId). IsMade sort.Promise laid.cells z.0 c.0 me.0 s.0) its is_made)))
