-- A task that was claimed, or has come back: it is at its start, or waits for a cell of which something has become.
use Rattle.tj_run.proofs.Prelude.{Answer, Bool, Err, FindsNothing, Finish, Goes, HeldSays, IfOk, IsGoodAt, IsRooted}
use Rattle.tj_run.proofs.Prelude.{IsRunning, IsWaiting, Laid, Next, None, Ok, Option, Point, PointsAreGood, Program}
use Rattle.tj_run.proofs.Prelude.{Rec, Result, RunsTask, SeatMe, TellsStage, View, Why, ap, arith, held_at, length}
use Rattle.tj_run.proofs.Prelude.{more_itself, most_places, reference, refl, subst, sym, table_program, ℕ, ⊎_elim, ◌+◌}
use Rattle.tj_run.proofs.Prelude.{◌<◌, ◌^◌, ◌∙◌, ◌≡◌, ◌≢◌, ◌≤◌}
use Rattle.tj_body.specs.Points.{MayWait}
use Rattle.tj_body.specs.declared.point.PointStage.{PointStage}
use Rattle.tj_words.specs.Calls.TakenRecords.{HasWaited, IsKnownRecord}
use Rattle.tj_run.specs.Inner.Going.{HasAnswer, IsCauseOfWait}
use Rattle.tj_run.proofs.Waiting.LookedCells.{waited}
use Rattle.tj_run.proofs.Asks.NextAsks.{few_held}
use Rattle.tj_run.proofs.Asks.PointSteps.{pairs_length}
use Rattle.tj_body.specs.declared.ask.Answer.TheVariants as answer
use Rattle.tj_body.specs.declared.point.PointStage.TheVariants as stage
use Rattle.tj_run.specs.declared.next.Next.TheVariants as next

-- the answer is that of a task that waits
abbrev pub IsPlace : Answer → Type 0
IsPlace (answer.RefAt k) = Unit {0}
IsPlace answer.Start = ⊥
IsPlace (answer.Local k) = ⊥
IsPlace answer.Done = ⊥
IsPlace (answer.Num i) = ⊥
IsPlace answer.Lost = ⊥

-- a point that is given an answer doesn't wait
abbrev Waiting : PointStage → Type 0
Waiting (stage.Answered a) = ⊥
Waiting (stage.Waits q spare) = Unit {0}
Waiting (stage.Closed e) = ⊥

-- so many places, and one more to come, leave room for it
few_waiting : (n l : ℕ) → n + l + 1 ≤ most_places → n + 1 < 2 ^ 31
few_waiting n l h = few_held n l (omega arith)

module _ {B : Type 0} (program : Program B) (v : View B) (r : Rec B) (known : IsKnownRecord program v.born v.filled r)
    (unfinished : r.finish ≡ None) (rooted : IsRooted program) where
  abbrev p : Point B
  p = known.told.point

  stage_told : TellsStage v.born None r.answer r.spare p
  stage_told = subst (λ (f : Option Finish). TellsStage v.born f r.answer r.spare p) unfinished known.told.tells_stage

  -- at its start
  at_start : (a : Answer) → ¬ IsPlace a → TellsStage v.born None a r.spare p → p.stage ≡ stage.Answered a
  at_start answer.Start n h = h
  at_start (answer.RefAt k) n h = absurd (n tt)
  at_start a n h = absurd h

  pub starts : ¬ IsPlace r.answer → IsRunning program v r
  starts n = record {
    rooted = rooted;
    point = p;
    at_stage = at_start r.answer n stage_told;
    unfinished = unfinished;
    tells = known.told.tells;
    stands = known.told.stands;
  }

  -- in a wait
  module _ (good : PointsAreGood program) (k : ℕ) (is : r.answer ≡ answer.RefAt k) where
    waits_there : (k < length p.references) × (p.stage ≡ stage.Waits (reference p k).name r.spare)
    waits_there = subst (λ a. TellsStage v.born None a r.spare p) is stage_told

    waits_well : MayWait program.rules r.spare p
    waits_well = subst (λ z. IsGoodAt program.rules z p) waits_there.1 (good p known.told.stands.of_rounds).at_stage

    pub waits_again : IsWaiting program v r k r.spare
    waits_again = record {
      rooted = rooted;
      point = p;
      at_stage = waits_there.1;
      inside = waits_there.0;
      unfinished = unfinished;
      tells = known.told.tells;
      stands = known.told.stands;
      room = subst (λ n. n + 1 < 2 ^ 31)
          (sym (pairs_length (HeldSays v.born) r.held p.references known.told.tells.held))
          (few_waiting (length p.references) _ waits_well.room);
    }

    -- something has become of its cell
    has_waited : HasWaited v.born r p v.filled
    has_waited = ⊎_elim (λ e. absurd (subst Waiting (sym waits_there.1 ∙ e) tt)) (λ w. w) known.goes_on

    place_of : answer.RefAt k ≡ answer.RefAt has_waited.point_waits.place → k ≡ has_waited.point_waits.place
    place_of = λ e. cc

module _ {B : Type 0} (program : Bool → B → Program B) (laid : Laid B) (r : Rec B) (me : SeatMe B)
    (runs : RunsTask laid r me)
    (known : IsKnownRecord (table_program program laid) me.0.born me.0.filled r) (unfinished : r.finish ≡ None)
    (rooted : IsRooted (table_program program laid)) where
  -- it goes on from its start
  pub goes_from_start : ¬ IsPlace r.answer → Goes program laid next.Runs r me.0 me
  goes_from_start n = record {
    knows = more_itself me.0;
    runs = runs;
    goes_on = starts (table_program program laid) me.0 r known unfinished rooted n;
  }

  module _ (good : PointsAreGood (table_program program laid)) (k : ℕ) (is : r.answer ≡ answer.RefAt k) where
    -- nothing has become of the cell only where the seat doesn't know of anything
    never_in_vain : (w : View B) → FindsNothing (held_at r.held k).cell.0 me.0 w → ⊥
    unfolding waits_again
    never_in_vain w f = let P = table_program program laid in
        let h = has_waited P me.0 r known unfinished rooted good k is in
        let again = waits_again P me.0 r known unfinished rooted good k is in
        let same = place_of P me.0 r known unfinished rooted good k is (sym is ∙ h.point_waits.is_answer) in
        f.unknown (record { cell = h.cell; entry = h.entry }) h.known
        (runs.worker.cells.apart h.cell (held_at r.held k).cell.0
        (reference again.point h.point_waits.place) (reference again.point k) h.point_waits.is_cell
        (waited program laid r k r.spare me runs again)
        (ap (λ i. (reference again.point i).name) (sym same)))

    pub has_answer : (w : View B) (n : Next) → IsCauseOfWait n r k r.spare me.0 w → HasAnswer n
    has_answer w (next.Waits q s) h = absurd (never_in_vain w h.2)
    has_answer w n h = tt

    -- whatever the look gives
    pub has_answers : (w : View B) (res : Result Next Why) → IfOk res (λ n. IsCauseOfWait n r k r.spare me.0 w)
        → IfOk res HasAnswer
    has_answers w (Ok n) h = has_answer w n h
    has_answers w (Err e) h = tt

-- an answer that is no place
pub is_place : (a : Answer) → ((k : ℕ) → a ≢ answer.RefAt k) → ¬ IsPlace a
is_place (answer.RefAt k) n i = n k refl
is_place a n i = i
