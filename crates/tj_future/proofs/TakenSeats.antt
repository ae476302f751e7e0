-- How the workers leave once their seat has taken in that of the watch: at rest, or stopped as one of both says.
use Rattle.std.proofs.Common.{◌≡◌, ◌⊎◌, inl, inr, ℕ, ◌+◌, ◌-◌, ◌*◌, ◌≤◌, ◌||◌, Bool, [], Option, Some, IfSome}
use Rattle.std.proofs.Common.{refl, sym, ap, ◌∙◌, subst, arith}
use Rattle.tj_log.specs.Shown.{SeatShown}
use Rattle.tj_body.specs.Programs.{Program}
use Rattle.tj_record.specs.declared.record.Rec.{Rec}
use Rattle.tj_words.specs.declared.view.View.{View}
use Rattle.tj_words.specs.LawParts.Lots.{least_lot}
use Rattle.tj_words.specs.SeatViews.SeatSteps.{SeatMe}
use Rattle.tj_words.specs.SeatViews.Views.{IsIdle, both, left_half, right_half}
use Rattle.tj_run.specs.declared.why.Why.{Why}
use Rattle.tj_run.specs.declared.why.Why.TheVariants as why
use Rattle.tj_run.specs.declared.why.Left.{Left}
use Rattle.tj_run.specs.declared.why.Left.TheVariants as leaving
use Rattle.tj_run.specs.Leaving.{HasRested, HasStopped, IsTold, Leaves}
use Rattle.tj_run.proofs.Runs.TurnSteps.{stopped_since}
use Rattle.tj_future.specs.declared.watched.Watched.{Watched}
use Rattle.tj_future.specs.declared.watched.Watched.TheVariants as watched
use Rattle.tj_future.specs.Looks.{FindsStopped, IsWatched}

-- what holds of what there is holds of this
pub of_some : {A : Type 0} (P : A → Type 0) (r : Option A) (x : A) → r ≡ Some x → IfSome r P → P x
of_some {A} P r x e h = let k : IfSome (Some x) P = subst (λ (z : Option A). IfSome z P) e h in k

-- two lots are the one that was split
sums : (whole a b : ℕ) → 2 * least_lot ≤ whole → a ≡ whole - least_lot → b ≡ least_lot → a + b ≡ whole
sums whole a b room e f = omega arith

module _ {B : Type 0} (program : Bool → B → Program B) (cells p : ℕ) (v : View B) (room : 2 * least_lot ≤ v.lot) where
  -- what a view of the same table tells of the meaning
  told_alike : (cause : Why) (last : View B) → last.about ≡ v.about → IsTold program cause last
      → IsTold program cause v
  told_alike why.Full last e h = λ a i. h a (e ∙ i)
  told_alike why.Memory last e h = tt

  -- a watch that was stopped says why the run was
  stopped_watch : (cause : Why) (w : View B)
      → IsWatched program cells p (watched.Stopped cause) (right_half v) w → HasStopped program cause v w
  stopped_watch cause w h = let found : FindsStopped program cells p cause h.0 w = h.2 in record {
    stop = ap (λ (u : View B). u.stop) found.0.view;
    told = told_alike cause h.0 h.1.about found.1;
  }

  -- workers at rest are at rest once their seat has taken in another idle one
  rested_taken : (worked other now : SeatMe B) → HasRested (left_half v) worked → other.0.lot ≡ least_lot
      → now ≡ (both worked.0 other.0, []) → IsIdle now.0 → HasRested v now
  rested_taken worked other now h lot e idle = record {
    rested = ap (λ (m : SeatMe B). m.0.rested) e ∙ ap (λ b. b || other.0.rested) h.rested;
    idle = idle;
    slots = ap (λ (m : SeatMe B). m.1) e;
    lot = ap (λ (m : SeatMe B). m.0.lot) e ∙ sums v.lot worked.0.lot other.0.lot room h.lot lot;
    about = ap (λ (m : SeatMe B). m.0.about) e ∙ h.about;
  }

  -- the workers and the watch, which begin with the halves of a seat, leave as the seat says that took in both
  pub leaves_taken : (worked other now : SeatShown (Option (Rec B)) (View B)) (how was : Left) (answer : Watched)
      (mine theirs : View B) → mine ≡ left_half v → theirs ≡ right_half v
      → Leaves program was mine worked.me → other.me.0.lot ≡ theirs.lot
      → IsWatched program cells p answer theirs other.me.0
      → (how ≡ leaving.Rested → (was ≡ leaving.Rested) × (now.me ≡ (both worked.me.0 other.me.0, [])) × IsIdle now.me.0)
      → ((cause : Why) → how ≡ leaving.Stopped cause → ((now ≡ worked) × (was ≡ leaving.Stopped cause))
      ⊎ ((now ≡ other) × (answer ≡ watched.Stopped cause)))
      → Leaves program how v now.me
  leaves_taken worked other now leaving.Rested was answer mine theirs m t l lot w r s =
      let taken = r refl in
      rested_taken worked.me other.me now.me
      (subst (λ x. Leaves program x (left_half v) worked.me) taken.0
      (subst (λ x. Leaves program was x worked.me) m l))
      (lot ∙ ap (λ (u : View B). u.lot) t) taken.1 taken.2
  leaves_taken worked other now (leaving.Stopped cause) was answer mine theirs m t l lot w r s = by (s cause refl)
    where
      by : ((now ≡ worked) × (was ≡ leaving.Stopped cause)) ⊎ ((now ≡ other) × (answer ≡ watched.Stopped cause))
          → HasStopped program cause v now.me.0
      by (inl x) = subst (λ (z : SeatShown (Option (Rec B)) (View B)). HasStopped program cause v z.me.0) (sym x.0)
          (stopped_since program v (left_half v) worked.me.0 cause refl
          (subst (λ z. Leaves program z (left_half v) worked.me) x.1
          (subst (λ z. Leaves program was z worked.me) m l)))
      by (inr y) = subst (λ (z : SeatShown (Option (Rec B)) (View B)). HasStopped program cause v z.me.0) (sym y.0)
          (stopped_watch cause other.me.0
          (subst (λ z. IsWatched program cells p z (right_half v) other.me.0) y.1
          (subst (λ z. IsWatched program cells p answer z other.me.0) t w)))
