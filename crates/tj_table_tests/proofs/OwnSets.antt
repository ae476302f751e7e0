-- A task that a test runs sets the promise that it owns beside its result, by a seat that has nothing else.
use Rattle.tj_run.proofs.Prelude.{Bool, CellId, Custody, Fill, HasWoken, IsFilledWith, Laid, List, MayAct}
use Rattle.tj_run.proofs.Prelude.{MayFill, MayWake, None, Program, Rec, RunsTask, SeatMe, Some, View, [], ap}
use Rattle.tj_run.proofs.Prelude.{about_table, arith, became, cell, cond, drop, eq-eqb, false, get_or, has_cell}
use Rattle.tj_run.proofs.Prelude.{held_in}
use Rattle.tj_run.proofs.Prelude.{length, may_wake_closed, nat_eq, none_some, numbers, one_some, refl, subst, sym, true}
use Rattle.tj_run.proofs.Prelude.{ℕ}
use Rattle.tj_run.proofs.Prelude.{◌<◌, ◌∙◌, ◌∷◌, ◌≡◌}
use Rattle.std.proofs.Common.{◌||◌}
use Rattle.tj_words.specs.Calls.ExchangeViews.{KnowsTable}
use Rattle.tj_park.specs.Records.{AlarmsLeave}
use Rattle.tj_run.proofs.Seats.OneTask.{held_one}
use Rattle.tj_run.proofs.Seats.QuietTasks.{acts_quietly}
use Rattle.tj_body.specs.declared.point.Entry.TheVariants as entry

-- the second of two cells is one of them
second_of : (l : List CellId) (c : ℕ) → length l ≡ 2 → (get_or l 1 (cell 0)).0 ≡ c
    → has_cell c (numbers l) ≡ true
second_of [] c e f = absurd (omega arith)
second_of (a ∷ []) c e f = absurd (omega arith)
second_of (a ∷ (d ∷ [])) c e f = ap (λ b. nat_eq c a.0 || (b || false)) (eq-eqb c d.0 (sym f))
    ∙ always (nat_eq c a.0)
  where
    always : (b : Bool) → b || true ≡ true
    always true = refl
    always false = refl
second_of (a ∷ (d ∷ (x ∷ l))) c e f = absurd (omega arith)

-- the one behind the first of two cells is one of them
second_left : (l : List CellId) (c : ℕ) → length (drop 1 l) ≡ 1 → (get_or (drop 1 l) 0 (cell 0)).0 ≡ c
    → has_cell c (numbers l) ≡ true
second_left [] c e f = absurd (omega arith)
second_left (a ∷ []) c e f = absurd (omega arith)
second_left (a ∷ (d ∷ [])) c e f = second_of (a ∷ (d ∷ [])) c refl f
second_left (a ∷ (d ∷ (x ∷ l))) c e f = absurd (omega arith)

-- and the task owns it
pub owns_second : (owned now then : List CellId) (c : ℕ) → now ≡ drop 1 owned → then ≡ drop 1 owned → length now ≡ 1
    → (get_or then 0 (cell 0)).0 ≡ c
    → has_cell c (numbers owned) ≡ true
owns_second owned now then c is also one at = second_left owned c (subst (λ l. length l ≡ 1) is one)
    (subst (λ l. (get_or l 0 (cell 0)).0 ≡ c) also at)

module _ {B : Type 0} {laid : Laid B} {r : Rec B} {me : SeatMe B} (runs : RunsTask laid r me) where
  held : held_in me.0.tasks r.cell.0 ≡ Some runs.custody
  held = ap (λ l. held_in l r.cell.0) runs.tasks ∙ held_one r.cell.0 runs.custody runs.task

  -- no task of the seat has alarmed
  none_alarmed : AlarmsLeave 0 me.0
  none_alarmed a = by (nat_eq runs.custody.task a.0) (ap (λ ks. held_in ks a.0) (sym runs.tasks) ∙ a.2)
    where
      by : (b : Bool) → cond b (Some runs.custody) None ≡ Some a.1 → 0 < me.0.tokens
      by true e = absurd (acts_quietly a.1.does
          (subst (λ (z : Custody B). MayAct z.does) (one_some runs.custody a.1 e) runs.runs) a.3)
      by false e = none_some None a.1 refl e

  module _ {program : Bool → B → Program B} (c : ℕ) (f : Fill) (fills : MayFill program c f me.0) (o : SeatMe B)
      (filled : IsFilledWith r.cell.0 c f me.0 o.0) where
    became_so : o.0 ≡ became r.cell.0 c (entry.Value fills.value) me.0
    became_so = filled fills.value fills.says

    -- those who wait for it may be woken then
    pub wakes_own : o.1 ≡ me.1 → MayWake c o
    wakes_own same = subst (λ (z : View B). MayWake c (z, o.1)) (sym became_so)
        (subst (λ s. MayWake c (became r.cell.0 c (entry.Value fills.value) me.0, s)) (sym (same ∙ runs.slots))
        (may_wake_closed r.cell.0 c (entry.Value fills.value) me.0 runs.custody held ((r.cell.0, None) ∷ []) tt
        runs.worker.nothing.rest (let l = runs.worker.lot in let z = runs.worker.tokens in omega arith)
        (let l = runs.worker.lot in let z = runs.worker.cleared in omega arith) none_alarmed))

    -- and the seat still knows its table
    pub knows_own : (chain : List ℕ) (w : View B) → HasWoken c chain [] o.0 w → KnowsTable w
    knows_own chain w woke = (
      about_table laid,
      ap (λ (z : View B). z.about) woke.view ∙ (ap (λ (z : View B). z.about) became_so ∙ runs.worker.of_table),
    )
