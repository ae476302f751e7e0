-- A call from its publish on, and what its verdict says of each table under the law.
use Rattle.tj_detect.proofs.Prelude.{Alarm, Along, Blocks, Bool, Comes, Custody, Does, EndsWith, IsAtCount, IsLoad}
use Rattle.tj_detect.proofs.Prelude.{IsWalkOf, List, MayBlock, MayCount, Other, Program, SawOthers, Skipped, Some}
use Rattle.tj_detect.proofs.Prelude.{Verdict, View, Walked, Walker, WalksWith, Way, [], ap, arith, does_after, doing}
use Rattle.tj_detect.proofs.Prelude.{held_in, one_some, others_read, read_on, refl, start_walk, subst, sym}
use Rattle.tj_detect.proofs.Prelude.{tokens_given, turned, walk_first, walk_others, walk_with, ℕ, ◌*◌, ◌+◌, ◌↔◌, ◌∙◌}
use Rattle.tj_detect.proofs.Prelude.{◌≡◌, ◌≢◌, ◌≤◌}
use Rattle.tj_events.specs.WalkLaws.{SettlersAreNotAlone}
use Rattle.tj_words.specs.Calls.WaitViews.{now_does, published, MayPublishWait}
use Rattle.tj_words.specs.Steps.WalkSteps.{MayWait}
use Rattle.tj_words.specs.Calls.WalkViews.{IsWalking, MayRaise}
use Rattle.tj_words.proofs.Events.WalkersShown.{walker_shown, alarm_shown}
use Rattle.tj_detect.specs.Blocks.{HasReadNoOthers, IsStepCount, InEachTable, StandsOnCycle, OthersWatch, shown}
use Rattle.tj_detect.proofs.NeededWalks.{needed}
use Rattle.tj_detect.proofs.Doings.{doing_held, doing_on, turned_doing, published_doing}
use Rattle.tj_words.specs.declared.view.Does.TheVariants as does
use Rattle.tj_detect.proofs.WalkReads.{walks_at}

-- the steps of a walk and at most two before it
few_from : (verdict : Verdict) (bound n k : ℕ) → verdict ≢ Skipped → n ≤ 3 * bound + 1 → k ≤ 2
    → IsStepCount verdict bound (n + k)
few_from Skipped bound n k not a b = absurd (not refl)
few_from verdict bound n k not a b = omega arith

-- whether t waits for q along the order, by what it does, and its walker has read OTHERS as 0
abbrev no_others : ℕ → Does → Type 0
no_others q (does.Walking p way w) = (p ≡ q) × (way ≡ Along) × (w.last ≡ SawOthers 0)
no_others q _ = ⊥

module _ {B : Type 0} (v : View B) (t q : ℕ) (way : Way) (m : MayBlock t q way v) where
  abbrev k : Custody B
  k = m.custody

  -- a wait may be published where t may wait, if but steps were made
  publish_now : (d : Does) (tasks : List (Custody B)) (steps tokens : ℕ) → held_in tasks t ≡ Some (now_does d k)
      → tokens ≡ v.tokens → MayWait way d
      → MayPublishWait t q way (record v { tasks = tasks; steps = steps; tokens = tokens })
  publish_now d tasks steps tokens held same may = record {
    custody = now_does d k;
    held = held;
    out = m.out;
    may = may;
    result = m.result;
    task_known = m.task_known;
    cell_known = m.cell_known;
    its_way = m.its_way;
    wakes = λ x. let y = m.wakes x in omega (arith, same, y);
  }

  -- so after steps that left the task running or raised
  publish_after : (d : Does) (n : ℕ) → MayWait way d → MayPublishWait t q way (doing t d n 0 v)
  publish_after d n may = publish_now d _ _ _ (doing_held v t k m.held d n 0) (omega arith) may

  pub may_publish : MayWait way k.does → MayPublishWait t q way v
  may_publish may = publish_now k.does v.tasks v.steps v.tokens m.held refl may

  pub may_raise : MayRaise t v
  may_raise = record { task = k; held = m.held; acts = m.runs; result = m.result }

  module _ (v1 : View B) (e1 : v1 ≡ turned t (λ _. does.Raised) v) where
    raised : v1 ≡ doing t does.Raised 1 0 v
    raised = e1 ∙ turned_doing v t k m.held (λ _. does.Raised) k.does does.Raised refl refl

    pub may_publish_other : way ≡ Other → MayPublishWait t q way v1
    may_publish_other e = subst (MayPublishWait t q way) (sym raised)
        (publish_after does.Raised 1 (subst (λ (y : Way). MayWait y does.Raised) (sym e) refl))

    pub published_other : (v2 : View B) → v2 ≡ published t q way v1
        → v2 ≡ doing t (does.Walking q way start_walk) 2 0 v
    published_other v2 e = e
        ∙ (published_doing v1 t q way
        ∙ (ap (doing t (does.Walking q way start_walk) 1 0) raised
        ∙ doing_on v t k m.held does.Raised (does.Walking q way start_walk) 1 1 0 0))

  -- the walk before the number of cells is read
  module _ (w : Walker) (n : ℕ) (v1 : View B) (e : v1 ≡ doing t (does.Walking q way w) n 0 v) where
    pub walking : WalksWith t q way w v1
    walking = (
      now_does (does.Walking q way w) k,
      ap (λ (x : View B). held_in x.tasks t) e ∙ doing_held v t k m.held (does.Walking q way w) n 0,
      refl,
    )

    pub walks_now : (F : ℕ → Way → Walker → Type 0) → F q way w → IsWalking t F v1
    walks_now F may = walks_at walking may

    counts : IsWalkOf t way w → MayCount way w → w.trail ≡ [] → w.loads ≡ 0
        → IsAtCount t q way (doing t (does.Walking q way w) n 0 v)
    counts walk may trail loads = record {
      custody = now_does (does.Walking q way w) k;
      walker = w;
      held = doing_held v t k m.held (does.Walking q way w) n 0;
      walks = refl;
      out = m.out;
      room = let room = m.room in omega (arith, room);
      walk = walk;
      may = may;
      trail = trail;
      loads = loads;
    }

    pub at_count : IsWalkOf t way w → MayCount way w → w.trail ≡ [] → w.loads ≡ 0 → IsAtCount t q way v1
    at_count walk may trail loads = subst (IsAtCount t q way) (sym e) (counts walk may trail loads)

    -- the whole call
    pub blocks : (verdict : Verdict) (old mid new : ℕ) (v2 : View B) → mid ≡ old + n → n ≤ 2
        → Comes verdict t q way mid new v1 v2
        → Blocks verdict t q way old new v v2
    blocks verdict old mid new v2 c less h =
        let d = h.counted in
        let all : v2 ≡ doing t (does_after verdict q way h.walker) (h.steps + n) (tokens_given verdict + 0) v
        = h.view ∙ (ap (doing t (does_after verdict q way h.walker) h.steps (tokens_given verdict)) e
        ∙ doing_on v t k m.held (does.Walking q way w) (does_after verdict q way h.walker) n h.steps 0
        (tokens_given verdict)) in
        let none : tokens_given verdict + 0 ≡ tokens_given verdict = omega arith in
        record {
          walker = h.walker;
          steps = h.steps + n;
          walk = h.walk;
          ends = h.ends;
          needed = needed t way verdict h.walker h.walk h.ends;
          few_loads = h.few_loads;
          few_steps = few_from verdict h.walker.bound h.steps n h.walked h.few_steps less;
          counted = omega (arith, c, d);
          view = all ∙ ap (λ z. doing t (does_after verdict q way h.walker) (h.steps + n) z v) none;
        }

  -- the walk of a wait along the order, which reads OTHERS
  module _ (v1 : View B) (e1 : v1 ≡ published t q way v) where
    first : v1 ≡ doing t (does.Walking q way start_walk) 1 0 v
    first = e1 ∙ published_doing v t q way

    pub at_others : way ≡ Along → IsWalking t (λ c y w. (y ≡ Along) × (w.last ≡ start_walk.last)) v1
    at_others along =
        walks_now start_walk 1 v1 first (λ c y w. (y ≡ Along) × (w.last ≡ start_walk.last)) (along, refl)

    module _ (n : ℕ) (v2 : View B) (e2 : v2 ≡ read_on t (others_read n) v1) (along : way ≡ Along) where
      pub others_on : v2 ≡ doing t (does.Walking q way (others_read n start_walk)) 2 0 v
      others_on =
          let s = walking start_walk 1 v1 first in
          e2
          ∙ (turned_doing v1 t s.0 s.1 (walk_with (others_read n)) (does.Walking q way start_walk)
          (does.Walking q way (others_read n start_walk)) s.2 refl
          ∙ (ap (doing t (does.Walking q way (others_read n start_walk)) 1 0) first
          ∙ doing_on v t k m.held (does.Walking q way start_walk) (does.Walking q way (others_read n start_walk))
          1 1 0 0))

      pub others_walk : IsWalkOf t way (others_read n start_walk)
      others_walk = walk_others start_walk n walk_first (along, refl)

      -- the walk is skipped
      pub skips : (old new : ℕ) → new ≡ old + 2 → n ≡ 0 → Blocks Skipped t q way old new v v2
      skips old new c none = record {
        walker = others_read n start_walk;
        steps = 2;
        walk = others_walk;
        ends = (along, ap (λ x. SawOthers x) none);
        needed = tt;
        few_loads = omega arith;
        few_steps = refl;
        counted = c;
        view = others_on;
      }

-- what t does after the call, and how its walk has ended, by the verdict
skip_does : (verdict : Verdict) (t q : ℕ) (way : Way) (w : Walker) → EndsWith verdict t way w → verdict ≡ Skipped
    → does_after verdict q way w ≡ does.Walking q Along w
skip_does Skipped t q way w h e = ap (λ (y : Way). does.Walking q y w) h.0
skip_does verdict t q way w h e = absurd (cc)

skip_last : (verdict : Verdict) (t : ℕ) (way : Way) (w : Walker) → EndsWith verdict t way w → verdict ≡ Skipped
    → w.last ≡ SawOthers 0
skip_last Skipped t way w h e = h.1
skip_last verdict t way w h e = absurd (cc)

is_skip : (verdict : Verdict) (t q : ℕ) (way : Way) (w : Walker) → EndsWith verdict t way w
    → no_others q (does_after verdict q way w)
    → verdict ≡ Skipped
is_skip Alarm t q way w h none = absurd none
is_skip Walked t q way w h none = absurd (subst IsLoad none.2 h.1)
is_skip Skipped t q way w h none = refl

module _ {B : Type 0} {verdict : Verdict} {t q : ℕ} {way : Way} {old new : ℕ} {v v' : View B} {way0 : Way}
    (may : MayBlock t q way0 v) (b : Blocks verdict t q way old new v v') where
  -- what the seat has for the task after the call
  has_now : held_in v'.tasks t ≡ Some (now_does (does_after verdict q way b.walker) may.custody)
  has_now = ap (λ (x : View B). held_in x.tasks t) b.view
      ∙ doing_held v t may.custody may.held (does_after verdict q way b.walker) b.steps (tokens_given verdict)

  pub skips_exactly : verdict ≡ Skipped ↔ HasReadNoOthers t q v'
  skips_exactly = (
    λ e. record {
      custody = now_does (does_after verdict q way b.walker) may.custody;
      walker = b.walker;
      held = has_now;
      walks = skip_does verdict t q way b.walker b.ends e;
      last = skip_last verdict t way b.walker b.ends e;
    },
    λ h. let none : no_others q (does.Walking q Along h.walker) = (refl, refl, h.last) in
        let same = one_some (now_does (does_after verdict q way b.walker) may.custody) h.custody
        (sym has_now ∙ h.held) in
        is_skip verdict t q way b.walker b.ends (subst (no_others q)
        (sym h.walks ∙ ap (λ (x : Custody B). x.does) (sym same)) none),
  )

  module _ (program : Bool → B → Program B) where
    -- who has alarmed is on a standing cycle
    pub alarm_stands : verdict ≡ Alarm → InEachTable program v' (StandsOnCycle t)
    alarm_stands e = λ key s r id at. r.law.facts.alarm t q way
        (alarm_shown program key s r id v' at t (now_does (does_after verdict q way b.walker) may.custody) has_now q way
        b.walker (ap (λ x. does_after x q way b.walker) e))

    -- where the walk has ended, each cycle through t has another member that watches
    pub others_watch : SettlersAreNotAlone → verdict ≡ Walked → InEachTable program v' (OthersWatch t)
    others_watch law e = λ key s r id at n cycle. law (shown program key s r) t n r.law.facts (
      q,
      way,
      b.walker,
      walker_shown program key s r id v' at t
          (now_does (does_after verdict q way b.walker) may.custody) has_now q way b.walker
          (ap (λ x. does_after x q way b.walker) e),
      (subst (λ x. EndsWith x t way b.walker) e b.ends).0,
    ) cycle
