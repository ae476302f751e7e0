-- What the reads of one owner make of a walk, step by step.
use Rattle.tj_detect.proofs.Prelude.{Bool, CellId, Counted, Custody, Does, Ended, Hops, IsWalkOf, Next, None, Own}
use Rattle.tj_detect.proofs.Prelude.{Passed, Some, View, Walker, Way, ap, arith, doing, held_in, now_does, one_some}
use Rattle.tj_detect.proofs.Prelude.{present, refl, subst, sym, true, walk_again, walk_owner, walk_wait, ℕ, ◌+◌, ◌<◌}
use Rattle.tj_detect.proofs.Prelude.{◌∙◌, ◌≡◌}
use Rattle.std.proofs.Common.{false, Option, length, ⊎_elim}
use Rattle.tj_events.specs.Events.{owner_read, wait_found, owner_found, is_owner, MayReadOwner}
use Rattle.tj_words.specs.Calls.WalkViews.{IsWalking, MayLoadWait, owner_seen, read_on, walk_with}
use Rattle.tj_detect.specs.Inner.WalkHops.{WalksWith, WalksOn, Passes, passed_on}
use Rattle.tj_detect.specs.declared.blocking.Hop.{Hop}
use Rattle.tj_detect.proofs.Doings.{doing_held, doing_on, turned_doing}
use Rattle.tj_words.specs.declared.view.Does.TheVariants as does

-- F holds of the wait and of the walker of a task that does this
abbrev walks_fit : (ℕ → Way → Walker → Type 0) → Does → Type 0
walks_fit F (does.Walking q way w) = F q way w
walks_fit F _ = ⊥

-- an owner that is read first is read so
first_read : (o : Option ℕ) (w : Walker) → MayReadOwner w → owner_seen o w w.last ≡ owner_read o w
first_read o w may = ⊎_elim (λ (e : w.last ≡ Counted). ap (owner_seen o w) e)
    (λ (e : (w.last ≡ Passed) × (length w.trail < w.bound)). ap (owner_seen o w) e.0) may

-- a task that walks with this walker is one of a walk, of which this holds
pub walks_at : {B : Type 0} {t q : ℕ} {way : Way} {w : Walker} {F : ℕ → Way → Walker → Type 0} {v : View B}
    → WalksWith t q way w v → F q way w → IsWalking t F v
walks_at {q = q} {way = way} {w = w} has may = record {
  task = has.0;
  wait = q;
  way = way;
  walker = w;
  held = has.1;
  does = has.2;
  may = may;
}

module _ {B : Type 0} (v : View B) (t q : ℕ) (way : Way) (w : Walker) (has : WalksWith t q way w v) where
  -- the walker that a seat has for a task is one
  pub its_walker : (F : ℕ → Way → Walker → Type 0) → IsWalking t F v → F q way w
  its_walker F i =
      let same : has.0 ≡ i.task = one_some has.0 i.task (sym has.1 ∙ i.held) in
      subst (walks_fit F) (sym i.does ∙ (sym (ap (λ (x : Custody B). x.does) same) ∙ has.2)) i.may

  -- and it may do what the walker of this task may do, which has come to this cell
  pub its_next : (p : ℕ) (F : Walker → Type 0) → IsWalking t (λ q way w. (p ≡ present q w.trail) × F w) v → F w
  its_next p F i = (its_walker (λ q way w. (p ≡ present q w.trail) × F w) i).1

  -- the walk goes on
  pub still : (w1 : Walker) (n m : ℕ) (v1 : View B) → v1 ≡ doing t (does.Walking q way w1) n m v
      → WalksWith t q way w1 v1
  still w1 n m v1 e = (
    now_does (does.Walking q way w1) has.0,
    ap (λ (x : View B). held_in x.tasks t) e ∙ doing_held v t has.0 has.1 (does.Walking q way w1) n m,
    refl,
  )

  pub one_read : (f : Walker → Walker) (w1 : Walker) (v1 : View B) (old new : ℕ) → f w ≡ w1 → v1 ≡ read_on t f v
      → new ≡ old + 1
      → (IsWalkOf t way w → IsWalkOf t way w1)
      → WalksOn t q way w w1 1 old new v v1
  one_read f w1 v1 old new is e s h = record {
    walk = h;
    counted = s;
    view = e ∙ turned_doing v t has.0 has.1 (walk_with f) (does.Walking q way w) (does.Walking q way w1) has.2
        (ap (does.Walking q way) is);
  }

  pub then_on : (w1 w2 : Walker) (n m old mid new : ℕ) (v1 v2 : View B) → WalksOn t q way w w1 n old mid v v1
      → WalksOn t q way w1 w2 m mid new v1 v2
      → WalksOn t q way w w2 (m + n) old new v v2
  then_on w1 w2 n m old mid new v1 v2 a b = record {
    walk = λ h. b.walk (a.walk h);
    counted = let x = a.counted in let y = b.counted in omega (arith, x, y);
    view = b.view ∙ (ap (doing t (does.Walking q way w2) m 0) a.view
        ∙ doing_on v t has.0 has.1 (does.Walking q way w1) (does.Walking q way w2) n m 0 0);
  }

  -- the reads after the first, which has found u
  module _ (cells u : ℕ) (may : MayLoadWait t u w) (o : Option ℕ) (v1 : View B)
      (e1 : v1 ≡ read_on t (wait_found u o) v) (old mid : ℕ) (s1 : mid ≡ old + 1) where
    pub wait_read : (o1 : Option ℕ) → o ≡ o1 → WalksOn t q way w (wait_found u o1 w) 1 old mid v v1
    wait_read o1 e = one_read (wait_found u o) (wait_found u o1 w) v1 old mid (ap (λ x. wait_found u x w) e) e1 s1
        (λ h. walk_wait w u o1 h may)

    pub no_wait : o ≡ None → Passes cells Ended u t q way w old mid v v1
    no_wait e = record {
      walker = wait_found u None w;
      loads = 1;
      came = wait_read None e;
      settles = refl;
      by_load = tt;
      bound = refl;
      loaded = omega arith;
      few = omega arith;
    }

    module _ (x : ℕ) (waits : o ≡ Some x) where
      abbrev w1 : Walker
      w1 = wait_found u (Some x) w

      -- the walk after the wait was read
      pub at_again : WalksWith t q way w1 v1
      at_again = still w1 1 0 v1 (wait_read (Some x) waits).view

      module _ (a : Option ℕ) (v2 : View B) (e2 : v2 ≡ read_on t (λ y. owner_seen a y y.last) v1) (new : ℕ)
          (s2 : new ≡ mid + 1) where
        again_read : (same : Bool) → is_owner a u ≡ same
            → WalksOn t q way w (owner_found same u x w1) 2 old new v v2
        again_read same e = then_on w1 (owner_found same u x w1) 1 1 old mid new v1 v2 (wait_read (Some x) waits) second
          where
            second : WalksOn t q way w1 (owner_found same u x w1) 1 mid new v1 v2
            second = record {
              walk = λ h. subst (λ (b : Bool). IsWalkOf t way (owner_found b u x w1)) e (walk_again w1 u x a h refl);
              counted = s2;
              view = e2 ∙ turned_doing v1 t at_again.0 at_again.1 (walk_with (λ y. owner_seen a y y.last))
                  (does.Walking q way w1) (does.Walking q way (owner_found same u x w1)) at_again.2
                  (ap (λ (b : Bool). does.Walking q way (owner_found b u x w1)) e);
            }

        pub passes_next : (c : CellId) → c.0 ≡ x → x < cells → is_owner a u ≡ true
            → Passes cells (Next c) u t q way w old new v v2
        passes_next c is less e = (
          subst (λ y. y < cells) (sym is) less,
          subst (λ y. WalksOn t q way w (passed_on u y w) 2 old new v v2) (sym is) (again_read true e),
        )

        pub has_changed : is_owner a u ≡ false → Passes cells Ended u t q way w old new v v2
        has_changed e = record {
          walker = owner_found false u x w1;
          loads = 2;
          came = again_read false e;
          settles = tt;
          by_load = tt;
          bound = refl;
          loaded = omega arith;
          few = omega arith;
        }

  -- all reads of one owner
  module _ (cells : ℕ) (may : MayReadOwner w) (o : Option ℕ) (v1 : View B)
      (e1 : v1 ≡ read_on t (λ y. owner_seen o y y.last) v) (old mid : ℕ) (s1 : mid ≡ old + 1) where
    first : (o1 : Option ℕ) → o ≡ o1 → WalksOn t q way w (owner_read o1 w) 1 old mid v v1
    first o1 e = one_read (λ y. owner_seen o y y.last) (owner_read o1 w) v1 old mid
        (first_read o w may ∙ ap (λ x. owner_read x w) e) e1 s1 (λ h. walk_owner w o1 h may)

    pub no_owner : o ≡ None → Hops cells Ended t q way w old mid v v1
    no_owner e = record {
      walker = owner_read None w;
      loads = 1;
      came = first None e;
      settles = refl;
      by_load = tt;
      bound = refl;
      loaded = omega arith;
      few = omega arith;
    }

    pub is_own : (u : ℕ) → o ≡ Some u → u ≡ t → Hops cells Own t q way w old mid v v1
    is_own u e is = first (Some t) (e ∙ ap (λ x. Some x) is)

    -- the owner is another task
    module _ (u : ℕ) (e : o ≡ Some u) where
      pub at_owner : WalksWith t q way (owner_read (Some u) w) v1
      at_owner = still (owner_read (Some u) w) 1 0 v1 (first (Some u) e).view

      pub hops : (h : Hop) (v2 : View B) (new : ℕ)
          → Passes cells h u t q way (owner_read (Some u) w) mid new v1 v2
          → Hops cells h t q way w old new v v2
      hops (Next c) v2 new p = (
        p.0,
        (
          u,
          then_on (owner_read (Some u) w) (passed_on u c.0 (owner_read (Some u) w)) 1 2 old mid new v1 v2
              (first (Some u) e) p.1,
        ),
      )
      hops Ended v2 new p = record {
        walker = p.walker;
        loads = p.loads + 1;
        came = then_on (owner_read (Some u) w) p.walker 1 p.loads old mid new v1 v2 (first (Some u) e) p.came;
        settles = p.settles;
        by_load = p.by_load;
        bound = p.bound;
        loaded = let x = p.loaded in omega (arith, x);
        few = let x = p.few in omega (arith, x);
      }
      hops Own v2 new p = absurd p
