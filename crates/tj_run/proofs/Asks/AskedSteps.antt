-- A task that has asked is to fail for this reason, or waits for this cell; what a seat knows of the ask stays known.
use Rattle.tj_run.proofs.Prelude.{All, Ask, Bool, HasSeen, HeldSays, Hurt, HurtSays, IsAsked, IsClosing, IsIn}
use Rattle.tj_run.proofs.Prelude.{IsOfRounds, IsWaiting, KnowsMore, Point, PointsAsk, Program, Rec, View, after_ask}
use Rattle.tj_run.proofs.Prelude.{after_failure, arith, hurt_cells, inl, length, reference, refl, stands_on, subst}
use Rattle.tj_run.proofs.Prelude.{tells_on, with_wait, ℕ, ◌<◌, ◌≡◌}
use Rattle.tj_base.specs.declared.cause.Cause.{Cause}
use Rattle.tj_run.proofs.Asks.PointSteps.{after_rounds, before, owned_after, pairs_length, stands_next, still_open}
use Rattle.tj_body.specs.declared.ask.Answer.TheVariants as answer
use Rattle.tj_body.specs.declared.point.Close.TheVariants as close
use Rattle.tj_record.specs.declared.record.Finish.TheVariants as finish

-- a seat that knows more knows of the ask too
pub asked_on : {B : Type 0} (program : Program B) (v w : View B) → KnowsMore v w → (r : Rec B) (x : Ask B)
    → IsAsked program v r x → IsAsked program w r x
asked_on program v w more r x h = record {
  rooted = h.rooted;
  point = h.point;
  given = h.given;
  at_stage = h.at_stage;
  is = h.is;
  unfinished = h.unfinished;
  tells = tells_on v.born w.born more.born r (record h.point { body = program.rules.then h.point.body h.given })
      h.tells;
  stands = stands_on program v.born w.born more.born (HasSeen v.filled) (HasSeen w.filled)
      (λ c e i. more.filled (record { cell = c; entry = e }) i) h.point h.stands;
  placed = h.placed;
  room = h.room;
  few = h.few;
}

module _ {B : Type 0} (program : Program B) (v : View B) (law : PointsAsk program) (r : Rec B) (x : Ask B)
    (h : IsAsked program v r x) where
  -- the point at which the ask was given
  abbrev p : Point B
  p = before program v r x h

  -- the task is to fail
  pub asked_fails : (f : Hurt) (why : Cause) → HurtSays v.born f why → All (λ c. IsIn c v.known) (hurt_cells f)
      → after_ask program.rules.strict x p ≡ after_failure why p
      → IsClosing program v r (finish.Failed f)
  asked_fails f why says known e = record {
    rooted = h.rooted;
    point = h.point;
    body = p.body;
    ending = close.Failed why;
    is_open = still_open program v r x h;
    unfinished = h.unfinished;
    tells = h.tells;
    stands = h.stands;
    says = (why, says, refl);
    knows = known;
    ends = subst (IsOfRounds program) e (after_rounds program v r x h law);
  }

  -- the task waits for the cell at the place
  pub asked_waits : (k : ℕ) (spare : Bool) → k < length r.held
      → after_ask program.rules.strict x p ≡ with_wait spare (reference p k).name p
      → IsWaiting program v r k spare
  asked_waits k spare l e = let t = h.tells in let n = with_wait spare (reference p k).name p in record {
    rooted = h.rooted;
    point = n;
    at_stage = refl;
    inside = (let q = pairs_length (HeldSays v.born) r.held h.point.references t.held in omega arith);
    unfinished = h.unfinished;
    tells = record {
      of = t.of;
      body = t.body;
      held = t.held;
      owned_cells = owned_after program v r x h answer.Done;
      made = t.made;
      prints = t.prints;
      owed = t.owed;
    };
    stands = stands_next program v h.point n h.stands
        (subst (IsOfRounds program) e (after_rounds program v r x h law)) (λ c j. inl j) (λ q j. inl j)
        (λ q y j. inl j);
    room = h.room;
  }
