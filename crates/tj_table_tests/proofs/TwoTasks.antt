-- A seat that runs a task has claimed another one, which begins and asks for a promise.
use Rattle.tj_run.proofs.Prelude.{Ask, AsksArePlaced, Bool, Claimed, ComesBack, Custody, HasSeen, Held, IsAsked, IsFree}
use Rattle.tj_run.proofs.Prelude.{IsRunning, KnowsMore, Laid, None, PointsAreGood, PointsAsk, Program, Rec, SeatMe}
use Rattle.tj_run.proofs.Prelude.{Some, View, [], ap, cond, custody_of, false, held_at, hold}
use Rattle.tj_run.proofs.Prelude.{length, let_go, more_on, more_same, ne_eqb, refl, stands_on, subst, sym}
use Rattle.tj_run.proofs.Prelude.{table_program, tells_on, ℕ, ◌<◌, ◌∙◌, ◌∷◌, ◌≡◌}
use Rattle.tj_table_tests.specs.Beside.{HasBegun}
use Rattle.tj_run.proofs.Waiting.JoinTests.{get_inside, get_waits}
use Rattle.tj_run.proofs.Asks.NextAsks.{asked_next}
use Rattle.tj_run.proofs.Seats.OneTask.{held_one}
use Rattle.tj_table_tests.proofs.TestRuns.{claim_back, claim_begins}
use Rattle.tj_run.proofs.Seats.FreeSeats.{workers_same}
use Rattle.tj_base.specs.declared.cell.Sort.TheVariants as sort
use Rattle.tj_body.specs.declared.ask.Ask.TheVariants as ask
use Rattle.tj_table_tests.specs.Beside.{WaitsBeside, alone}

-- a task that runs does so where its seat knows more
pub running_on : {B : Type 0} (program : Program B) (v w : View B) → KnowsMore v w → (r : Rec B)
    → IsRunning program v r → IsRunning program w r
running_on program v w more r h = record {
  rooted = h.rooted;
  point = h.point;
  at_stage = h.at_stage;
  unfinished = h.unfinished;
  tells = tells_on v.born w.born more.born r h.point h.tells;
  stands = stands_on program v.born w.born more.born (HasSeen v.filled) (HasSeen w.filled)
      (λ c e i. more.filled (record { cell = c; entry = e }) i) h.point h.stands;
}

module _ {B : Type 0} (program : Bool → B → Program B) (laid : Laid B) (r0 r : Rec B) (old m : SeatMe B)
    (h : HasBegun program laid r0 r old m) where
  abbrev its : Program B
  its = table_program program laid

  abbrev t : ℕ
  t = r.cell.0

  pub slots_now : m.1 ≡ (t, None) ∷ ((r0.cell.0, None) ∷ [])
  slots_now = h.slot ∙ ap (λ l. (t, None) ∷ l) h.runs.slots

  abbrev k0 : Custody B
  k0 = h.runs.custody

  abbrev k : Custody B
  k = custody_of r

  pub first_stays : let_go t (k0 ∷ []) ≡ k0 ∷ []
  first_stays = ap (λ b. cond b [] (k0 ∷ [])) (ne_eqb k0.task t (λ e. h.apart (sym e ∙ h.runs.task)))

  -- it holds both
  pub tasks_now : m.0.tasks ≡ k ∷ (k0 ∷ [])
  tasks_now = h.claimed.tasks ∙ (ap (hold k) h.runs.tasks ∙ ap (λ l. k ∷ l) first_stays)

  -- the seat without its first task
  abbrev bare : View B
  bare = record old.0 { tasks = [] }

  abbrev me : SeatMe B
  me = (alone r m.0, (t, None) ∷ [])

  bare_free : IsFree laid (bare, [])
  bare_free = let w = h.runs.worker in record {
    worker = workers_same laid old.0 bare w w.lot w.tokens;
    tasks = refl;
    slots = refl;
  }

  claims_alone : Claimed program t r bare (alone r m.0)
  claims_alone = let c = h.claimed in record {
    taken = record {
      held = held_one t k refl;
      has = record {
        cell = c.taken.has.cell;
        owned = c.taken.has.owned;
        made = c.taken.has.made;
        knows = c.taken.has.knows;
      };
      unfinished = c.taken.unfinished;
      owns_result = c.taken.owns_result;
      owned_apart = c.taken.owned_apart;
      all = c.taken.all;
      known = c.taken.known;
    };
    tasks = refl;
    knows = more_on bare old.0 (alone r m.0) (more_same bare old.0 ([], refl))
        (more_on old.0 m.0 (alone r m.0) c.knows (more_same m.0 (alone r m.0) ([], refl)));
    hand = record { hand = c.hand.hand; dues = c.hand.dues };
    wakes = record { pushes = c.wakes.pushes; shuts = c.wakes.shuts; rest = c.wakes.rest };
    counts = record { tokens = c.counts.tokens; cleared = c.counts.cleared; refused = c.counts.refused };
    steps = c.steps;
    plain_loads = c.plain_loads;
    once_loads = c.once_loads;
    records = c.records;
    put_home = c.put_home;
  }

  pub back : ComesBack program laid r (alone r m.0) me
  back = claim_back program laid r t (bare, []) me (Some r) refl bare_free h.rooted claims_alone refl

  -- the other task begins
  pub begins : IsRunning its (alone r m.0) r
  begins = claim_begins program laid r t (bare, []) me (Some r) refl bare_free h.rooted claims_alone refl h.start

  -- its body has asked for a promise
  module _ (good : PointsAreGood its) (x : Ask B) (b : B) (e : x ≡ its.rules.asks r.body r.answer)
      (f : b ≡ its.rules.then r.body r.answer) (placed : AsksArePlaced its) (law : PointsAsk its)
      (p : ℕ) (gets : x ≡ ask.Get p) where
    abbrev r' : Rec B
    r' = record r { body = b }

    asked : IsAsked its (alone r m.0) r' (ask.Get p)
    asked = subst (λ y. IsAsked its (alone r m.0) r' y) gets (asked_next its good (alone r m.0) r begins x b e f placed)

    pub inside : p < length r.held
    inside = get_inside its (alone r m.0) law r' p false asked

    pub waits_beside : (h' : Held) → h' ≡ held_at r.held p → h'.sort ≡ sort.Promise
        → WaitsBeside program laid r0 r' p h' old m
    waits_beside h' at promise = record {
      body = r.body;
      begun = h;
      waits = get_waits its (alone r m.0) law r' p false asked (ap (λ (z : Held). z.sort) (sym at) ∙ promise);
      held = at;
      promise = promise;
    }
