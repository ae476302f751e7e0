-- How the workers leave once their seat has taken in that of the observer, and that an observer, and what it tells, may
-- go to another thread.
use Rattle.std.proofs.Common.{◌≡◌, ℕ, ◌+◌, ◌-◌, ◌*◌, ◌≤◌, ◌||◌, Bool, [], Option, refl, sym, ap, ◌∙◌, subst, arith}
use denote.Param.Send.{IsSend, IsSync, sendable}
use denote.Param.SendFields.{as_row_send, declared_send, variants_send}
use denote.RattleType.{RattleType}
use denote.Struct.Field.{row_field}
use Rattle.std.proofs.Crossing.{crosses}
use Rattle.std.specs.contracts.thread.Parker as parker
use Rattle.tj_told.specs.contracts.looks.Watch as watch
use Rattle.tj_base.proofs.items.Items.TheSendSync as items_sends
use Rattle.tj_base.specs.contracts.items.Items as items
use Rattle.tj_base.specs.contracts.value.Shown as shown
use Rattle.tj_mean.specs.contracts.outcome.Link as link
use Rattle.tj_told.specs.contracts.news.News as news
use Rattle.tj_told.specs.contracts.telling.Telling as telling
use Rattle.tj_told.proofs.NameSends.{names_send}
use Rattle.tj_log.specs.Shown.{SeatShown}
use Rattle.tj_body.specs.Programs.{Program}
use Rattle.tj_record.specs.declared.record.Rec.{Rec}
use Rattle.tj_words.specs.declared.view.View.{View}
use Rattle.tj_words.specs.LawParts.Lots.{least_lot}
use Rattle.tj_words.specs.SeatViews.SeatSteps.{SeatMe}
use Rattle.tj_words.specs.SeatViews.Views.{IsIdle, both, left_half}
use Rattle.tj_run.specs.declared.why.Why.{Why}
use Rattle.tj_run.specs.declared.why.Left.{Left}
use Rattle.tj_run.specs.declared.why.Left.TheVariants as leaving
use Rattle.tj_run.specs.Leaving.{HasRested, Leaves}
use Rattle.tj_run.proofs.Runs.TurnSteps.{stopped_since}

-- two lots are the one that was split
sums : (whole a b : ℕ) → 2 * least_lot ≤ whole → a ≡ whole - least_lot → b ≡ least_lot → a + b ≡ whole
sums whole a b room e f = omega arith

module _ {B : Type 0} (program : Bool → B → Program B) (v : View B) (room : 2 * least_lot ≤ v.lot) where
  -- workers at rest are at rest once their seat has taken in another idle one
  rested_taken : (worked other now : SeatMe B) → HasRested (left_half v) worked → other.0.lot ≡ least_lot
      → now ≡ (both worked.0 other.0, []) → IsIdle now.0 → HasRested v now
  rested_taken worked other now h lot e idle = record {
    rested = ap (λ (m : SeatMe B). m.0.rested) e ∙ ap (λ b. b || other.0.rested) h.rested;
    idle = idle;
    slots = ap (λ (m : SeatMe B). m.1) e;
    lot = ap (λ (m : SeatMe B). m.0.lot) e ∙ sums v.lot worked.0.lot other.0.lot room h.lot lot;
    about = ap (λ (m : SeatMe B). m.0.about) e ∙ h.about;
  }

  -- the workers, which begin with a half of a seat, leave as the seat says that took in the observer's
  pub leaves_taken : (worked other now : SeatShown (Option (Rec B)) (View B)) (how was : Left) (mine : View B)
      → mine ≡ left_half v → Leaves program was mine worked.me → other.me.0.lot ≡ least_lot
      → (how ≡ leaving.Rested → (was ≡ leaving.Rested) × (now.me ≡ (both worked.me.0 other.me.0, [])) × IsIdle now.me.0)
      → ((cause : Why) → how ≡ leaving.Stopped cause → (now ≡ other) × (was ≡ leaving.Stopped cause))
      → (me : SeatMe B) × Leaves program how v me × (how ≡ leaving.Rested → now.me ≡ me)
  leaves_taken worked other now leaving.Rested was mine m l lot r s =
      let taken = r refl in (
        now.me,
        rested_taken worked.me other.me now.me
            (subst (λ x. Leaves program x (left_half v) worked.me) taken.0
            (subst (λ x. Leaves program was x worked.me) m l))
            lot taken.1 taken.2,
        λ e. refl,
      )
  leaves_taken worked other now (leaving.Stopped cause) was mine m l lot r s = let x = s cause refl in (
    worked.me,
    stopped_since program v (left_half v) worked.me.0 cause refl
        (subst (λ z. Leaves program z (left_half v) worked.me) x.1 (subst (λ z. Leaves program was z worked.me) m l)),
    λ e. absurd (let q : leaving.Stopped cause ≡ leaving.Rested = e in cc),
  )

-- where workers are at rest, so is the seat that has their view
pub rested_so : {B : Type 0} (program : Bool → B → Program B) (how : Left) (v w : View B) (me now : SeatMe B) → v ≡ w
    → Leaves program how v me → (how ≡ leaving.Rested → now ≡ me) → how ≡ leaving.Rested → HasRested w now
rested_so program how v w me now e l same is = subst (λ m. HasRested w m) (sym (same is))
    (subst (λ z. HasRested z me) e (subst (λ x. Leaves program x v me) is l))

-- what follows from either way to leave is so
pub either_left : {P : Type 0} (how : Left) → (how ≡ leaving.Rested → P) → ((cause : Why) → how ≡ leaving.Stopped cause
    → P) → P
either_left leaving.Rested f g = f refl
either_left (leaving.Stopped cause) f g = g cause refl

-- a bell may be shared, and an observer may be told how often it looks, and for what
pub bell_sync : IsSync parker.the_row
bell_sync = search (sendable, crosses) depth 20

pub watch_send : IsSend watch.the_row
watch_send = search (sendable, crosses, names_send) depth 40

-- a part of a cycle, a value, and all that is told may go to another thread
link_send : IsSend link.the_row
link_send = search (sendable, crosses, names_send) depth 20

shown_send : IsSend shown.the_row
shown_send = search (sendable, crosses, names_send) depth 20

links_send : IsSend (items.the_row link.the_row)
links_send = items_sends.the_send link.the_row link_send

news_send : IsSend news.the_row
news_send = variants_send news.enum (
  (as_row_send (row_field _) links_send, tt),
  (
    (as_row_send (row_field _) names_send, tt),
    ((as_row_send (row_field _) names_send, (as_row_send (row_field _) shown_send, tt)), tt),
  ),
)

told_send : IsSend (items.the_row news.the_row)
told_send = items_sends.the_send news.the_row news_send

-- a listener that may go to another thread may go with what it was told
pub telling_send : (T : RattleType) → IsSend T → IsSend (telling.the_row T)
telling_send T t = declared_send (telling.the_type T)
    (as_row_send (row_field _) t, (as_row_send (row_field _) told_send, (search (sendable, crosses) depth 20, tt)))
