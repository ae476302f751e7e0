-- The loop of a walk: so many owners are passed, and how it ends.
use Rattle.tj_detect.proofs.Prelude.{Alarm, CellId, Comes, Counted, Ended, EndsWalk, Hops, IsAtCount, IsLoad, IsWalking}
use Rattle.tj_detect.proofs.Prelude.{List, MayReadOwner, Next, Own, Passed, Some, View, Walked, Walker, WalksOn}
use Rattle.tj_detect.proofs.Prelude.{WalksWith, Way, alarmed, ap, arith, count_read, doing, inl, inr, length, now_does}
use Rattle.tj_detect.proofs.Prelude.{owner_read, passed_on, present, read_on, refl, subst, sym, walk_count, ℕ, ⊎_elim}
use Rattle.tj_detect.proofs.Prelude.{◌*◌, ◌+◌, ◌<◌, ◌∙◌, ◌≡◌, ◌≤◌, ◌⊎◌}
use Rattle.tj_events.specs.declared.walk.TrailLink.{TrailLink}
use Rattle.tj_words.specs.Calls.WaitViews.{MayStoreAlarm}
use Rattle.tj_detect.proofs.Doings.{doing_held, doing_on, alarmed_doing}
use Rattle.tj_detect.proofs.WalkReads.{still, one_read, then_on}
use Rattle.tj_words.specs.declared.view.Does.TheVariants as does

module _ {B : Type 0} (cells t q : ℕ) (way : Way) (s0 : ℕ) (v0 : View B) (h : IsAtCount t q way v0) (bound : ℕ) where
  -- the walk at its count of the cells
  abbrev has : WalksWith t q way h.walker v0
  has = (h.custody, h.held, h.walks)

  -- so many owners are passed, and p is the present cell
  pub record IsWalked (passed p s : ℕ) (v : View B) : Type 0 where
    pub walker : Walker
    pub came : WalksOn t q way h.walker walker (1 + 3 * passed) s0 s v0 v
    pub trail : length walker.trail ≡ passed
    pub here : p ≡ present q walker.trail
    pub bound_is : walker.bound ≡ bound
    pub loads : walker.loads ≡ 3 * passed
    pub last : ((walker.last ≡ Counted) × (passed ≡ 0)) ⊎ (walker.last ≡ Passed)
    pub inside : p < cells
    pub within : passed ≤ bound

  pub walked_first : (s : ℕ) (v : View B) → q < cells → v ≡ read_on t (count_read bound) v0 → s ≡ s0 + 1
      → IsWalked 0 q s v
  walked_first s v inside e c = record {
    walker = count_read bound h.walker;
    came = one_read v0 t q way h.walker has (count_read bound) (count_read bound h.walker) v s0 s refl e c
        (λ x. walk_count h.walker bound x h.may);
    trail = ap (λ (l : List TrailLink). length l) h.trail;
    here = sym (ap (present q) h.trail);
    bound_is = refl;
    loads = h.loads;
    last = inl (refl, refl);
    inside = inside;
    within = omega arith;
  }

  module _ (passed p s : ℕ) (v : View B) (i : IsWalked passed p s v) where
    -- the walk goes on
    pub on_walk : WalksWith t q way i.walker v
    on_walk = still v0 t q way h.walker has i.walker (1 + 3 * passed) 0 v i.came.view

    pub may_read : passed < bound → MayReadOwner i.walker
    may_read less = ⊎_elim
        (λ (e : (i.walker.last ≡ Counted) × (passed ≡ 0)). inl e.0)
        (λ (e : i.walker.last ≡ Passed). inr (e, let x = i.trail in let y = i.bound_is in omega (arith, x, y, less)))
        i.last

    pub walks_there : passed < bound → IsWalking t (λ c way w. (p ≡ present c w.trail) × MayReadOwner w) v
    walks_there less = record {
      task = on_walk.0;
      wait = q;
      way = way;
      walker = i.walker;
      held = on_walk.1;
      does = on_walk.2;
      may = (i.here, may_read less);
    }

    module _ (less : passed < bound) (s' : ℕ) (v' : View B) where
      pub walked_next : (x : CellId) (next : ℕ) → next ≡ passed + 1 → Hops cells (Next x) t q way i.walker s s' v v'
          → IsWalked next x.0 s' v'
      walked_next x next e hop = let more : 3 + (1 + 3 * passed) ≡ 1 + 3 * next = omega (arith, e) in record {
        walker = passed_on hop.1.0 x.0 (owner_read (Some hop.1.0) i.walker);
        came = subst (λ n. WalksOn t q way h.walker (passed_on hop.1.0 x.0 (owner_read (Some hop.1.0) i.walker)) n s0 s'
            v0 v') more
            (then_on v0 t q way h.walker has i.walker (passed_on hop.1.0 x.0 (owner_read (Some hop.1.0) i.walker))
            (1 + 3 * passed) 3 s0 s s' v v' i.came hop.1.1);
        trail = let y = i.trail in omega (arith, y, e);
        here = refl;
        bound_is = i.bound_is;
        loads = let y = i.loads in omega (arith, y, e);
        last = inr refl;
        inside = hop.0;
        within = omega (arith, e, less);
      }

      pub walked_ended : Hops cells Ended t q way i.walker s s' v v' → Comes Walked t q way s0 s' v0 v'
      walked_ended e =
          let all : WalksOn t q way h.walker e.walker (e.loads + (1 + 3 * passed)) s0 s' v0 v'
          = then_on v0 t q way h.walker has i.walker e.walker (1 + 3 * passed) e.loads s0 s s' v v' i.came e.came in
          let a = i.loads in
          let b = i.bound_is in
          let c = e.bound in
          let d = e.loaded in
          let f = e.few in
          record {
            walker = e.walker;
            steps = e.loads + (1 + 3 * passed);
            walked = λ z. absurd (cc);
            walk = all.walk h.walk;
            ends = (e.settles, e.by_load);
            few_loads = omega (arith, a, b, c, d, f, less);
            few_steps = omega (arith, a, b, c, d, f, less);
            counted = all.counted;
            view = all.view;
          }

      module _ (own : Hops cells Own t q way i.walker s s' v v') where
        abbrev at_own : Walker
        at_own = owner_read (Some t) i.walker

        own_on : WalksOn t q way h.walker at_own (1 + (1 + 3 * passed)) s0 s' v0 v'
        own_on = then_on v0 t q way h.walker has i.walker at_own (1 + 3 * passed) 1 s0 s s' v v' i.came own

        alarm_there : MayStoreAlarm t q way (doing t (does.Walking q way at_own) (1 + (1 + 3 * passed)) 0 v0)
        alarm_there = record {
          walks = record {
            custody = now_does (does.Walking q way at_own) h.custody;
            walker = at_own;
            held = doing_held v0 t h.custody h.held (does.Walking q way at_own) (1 + (1 + 3 * passed)) 0;
            walks = refl;
            room = let room = h.room in omega (arith, room);
          };
          out = h.out;
          last = refl;
        }

        pub may_alarm : MayStoreAlarm t q way v'
        may_alarm = subst (MayStoreAlarm t q way) (sym own_on.view) alarm_there

        pub walked_alarm : (s'' : ℕ) (v'' : View B) → v'' ≡ alarmed t q way v' → s'' ≡ s' + 1
            → Comes Alarm t q way s0 s'' v0 v''
        walked_alarm s'' v'' e c =
            let here : WalksWith t q way at_own v'
            = still v0 t q way h.walker has at_own (1 + (1 + 3 * passed)) 0 v' own_on.view in
            let a = i.loads in
            let b = i.bound_is in
            let d = own_on.counted in
            record {
              walker = at_own;
              steps = 1 + (1 + (1 + 3 * passed));
              walked = λ z. absurd (cc);
              walk = own_on.walk h.walk;
              ends = refl;
              few_loads = omega (arith, a, b, less);
              few_steps = omega (arith, a, b, less);
              counted = omega (arith, c, d);
              view = e ∙ (alarmed_doing v' t here.0 here.1 q way at_own here.2
                  ∙ (ap (doing t (does.Alarmed q way at_own) 1 1) own_on.view
                  ∙ doing_on v0 t h.custody h.held (does.Walking q way at_own) (does.Alarmed q way at_own)
                  (1 + (1 + 3 * passed)) 1 0 1));
            }

    pub walked_out : bound ≤ passed → 0 < bound → Comes Walked t q way s0 s v0 v
    walked_out done some =
        let e : passed ≡ bound = let y = i.within in omega (arith, done, y) in
        let a = i.loads in
        let b = i.bound_is in
        let c = i.trail in
        let ended : length i.walker.trail ≡ i.walker.bound = omega (arith, b, c, e) in
        ⊎_elim
        (λ (z : (i.walker.last ≡ Counted) × (passed ≡ 0)). let y = z.1 in absurd (omega (arith, y, e, some)))
        (λ (z : i.walker.last ≡ Passed). record {
          walker = i.walker;
          steps = 1 + 3 * passed;
          walked = λ q. absurd (cc);
          walk = i.came.walk h.walk;
          ends = (
            subst (EndsWalk (length i.walker.trail) i.walker.bound) (sym z) ended,
            subst IsLoad (sym z) tt,
          );
          few_loads = omega (arith, a, b, e);
          few_steps = omega (arith, a, b, e);
          counted = i.came.counted;
          view = i.came.view;
        })
        i.last

-- a walk that has counted the cells, in its loop
pub record IsUnderWay {B : Type 0} (cells t q : ℕ) (way : Way) (bound passed p s0 s : ℕ) (v0 v : View B) : Type 0 where
  pub start : IsAtCount t q way v0
  pub walked : IsWalked cells t q way s0 v0 start bound passed p s v

module _ {B : Type 0} {cells t q : ℕ} {way : Way} {bound passed p s0 s : ℕ} {v0 v : View B}
    (u : IsUnderWay cells t q way bound passed p s0 s v0 v) where
  pub on_way : WalksWith t q way u.walked.walker v
  on_way = on_walk cells t q way s0 v0 u.start bound passed p s v u.walked

  -- past the last owner the walk is at its end
  pub at_bound : bound ≤ passed → 0 < bound → Comes Walked t q way s0 s v0 v
  at_bound = walked_out cells t q way s0 v0 u.start bound passed p s v u.walked

  module _ (less : passed < bound) where
    pub reads_owner : IsWalking t (λ c way w. (p ≡ present c w.trail) × MayReadOwner w) v
    reads_owner = walks_there cells t q way s0 v0 u.start bound passed p s v u.walked less

    -- what the reads of one owner more come to
    module _ (s' : ℕ) (v' : View B) where
      pub on_next : (x : CellId) (next : ℕ) → next ≡ passed + 1
          → Hops cells (Next x) t q way u.walked.walker s s' v v'
          → IsUnderWay cells t q way bound next x.0 s0 s' v0 v'
      on_next x next e hop = record {
        start = u.start;
        walked = walked_next cells t q way s0 v0 u.start bound passed p s v u.walked less s' v' x next e hop;
      }

      pub at_ended : Hops cells Ended t q way u.walked.walker s s' v v' → Comes Walked t q way s0 s' v0 v'
      at_ended = walked_ended cells t q way s0 v0 u.start bound passed p s v u.walked less s' v'

      module _ (own : Hops cells Own t q way u.walked.walker s s' v v') where
        pub alarms_next : MayStoreAlarm t q way v'
        alarms_next = may_alarm cells t q way s0 v0 u.start bound passed p s v u.walked less s' v' own

        pub at_alarm : (s'' : ℕ) (v'' : View B) → v'' ≡ alarmed t q way v' → s'' ≡ s' + 1
            → Comes Alarm t q way s0 s'' v0 v''
        at_alarm = walked_alarm cells t q way s0 v0 u.start bound passed p s v u.walked less s' v' own
