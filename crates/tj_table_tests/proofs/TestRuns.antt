-- What the tests know of the first seat of a table, of a task that is claimed and begins, and of a seat that has come
-- back from its last task.
use Rattle.tj_run.proofs.Prelude.{Bool, Claimed, ComesBack, IfSome, IsFree, IsRooted, IsRunning, KnowsMore, Laid, None}
use Rattle.tj_run.proofs.Prelude.{Option, Program, Rec, SeatMe, Some, View, arith, least_lot, refl}
use Rattle.tj_run.proofs.Prelude.{saw_rest, subst, sym, table_program, ℕ, ◌*◌, ◌∷◌, ◌≡◌, ◌≤◌}
use Rattle.tj_words.specs.LawParts.Lots.{all_lots}
use Rattle.tj_words.specs.AtRest.RestingSeats.{MayRest}
use Rattle.tj_words.specs.SeatViews.Views.{MaySplit}
use Rattle.tj_run.proofs.Waiting.ResumedTasks.{IsPlace, starts}
use Rattle.tj_run.proofs.Runs.TurnSteps.{claimed_back}
use Rattle.tj_body.specs.declared.ask.Answer.TheVariants as answer

module _ {B : Type 0} (laid : Laid B) where
  -- a free seat with all lots that has loaded LIVE as 0 may close the table
  pub may_rest : (me : SeatMe B) (w : View B) → IsFree laid me → me.0.lot ≡ all_lots → w ≡ saw_rest me.0
      → MayRest w
  may_rest me w free all e = subst MayRest (sym e) (record {
    alone = all;
    rested = refl;
    tasks = free.tasks;
    hand = free.worker.nothing.hand;
    dues = free.worker.nothing.dues;
  })

  -- all lots are enough for two seats
  pub all_large : (me : SeatMe B) → me.0.lot ≡ all_lots → 2 * least_lot ≤ me.0.lot
  all_large me all = omega arith

  -- and it may be split
  pub may_split : (me : SeatMe B) → IsFree laid me → me.0.lot ≡ all_lots → MaySplit me.0
  may_split me free all = let w = free.worker in record {
    lot = all_large me all;
    refused = (let e = w.refused in omega arith);
    tokens = (let e = w.tokens in omega arith);
    cleared = (let e = w.cleared in omega arith);
  }

module _ {B : Type 0} (program : Bool → B → Program B) (laid : Laid B) where
  -- a free seat claims a task
  module _ (r : Rec B) (t : ℕ) (old new : SeatMe B) (o : Option (Rec B)) (is : o ≡ Some r) (free : IsFree laid old)
      (rooted : IsRooted (table_program program laid)) (some : IfSome o (λ x. Claimed program t x old.0 new.0))
      (slot : IfSome o (λ _. new.1 ≡ (t, None) ∷ old.1)) where
    claims : Claimed program t r old.0 new.0
    claims = subst (λ z. IfSome z (λ x. Claimed program t x old.0 new.0)) is some

    pub claim_knows : KnowsMore old.0 new.0
    claim_knows = claims.knows

    pub claim_back : ComesBack program laid r new.0 new
    claim_back = claimed_back program laid r t old new free rooted claims
        (subst (λ z. IfSome z (λ _. new.1 ≡ (t, None) ∷ old.1)) is slot)

    -- and it begins
    pub claim_begins : r.answer ≡ answer.Start → IsRunning (table_program program laid) new.0 r
    claim_begins e = starts (table_program program laid) new.0 r claim_back.known claim_back.unfinished rooted
        (λ p. subst IsPlace e p)
