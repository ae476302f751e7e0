-- What a wait gives after a pending poll is what it was to give before.
use Rattle.std.proofs.Common.{◌≡◌, ℕ, Bool, Option, Some, None, [], sym, ◌∙◌, subst}
use Rattle.tj_log.specs.Shown.{SeatShown}
use Rattle.futures.specs.declared.task.Poll.{Poll}
use Rattle.futures.specs.declared.task.Poll.TheVariants.{Ready, Pending}
use Rattle.futures.specs.Poll.{OnPending}
use Rattle.tj_body.specs.Programs.{Program}
use Rattle.tj_record.specs.declared.record.Rec.{Rec}
use Rattle.tj_words.specs.declared.table.Laid.{Laid}
use Rattle.tj_words.specs.declared.view.View.{View}
use Rattle.tj_words.specs.SeatViews.Views.{IsIdle}
use Rattle.tj_future.specs.declared.watched.Watched.{Watched}
use Rattle.tj_future.specs.LookLogs.{MakesLook, again, at_once}
use Rattle.tj_future.specs.Looks.{Answers, GoesOn}
use Rattle.tj_future.specs.Polls.{IsGiven}
use Rattle.tj_future.proofs.Looking.{knows_still, watched_at, watched_on}

-- what holds anyway holds of a pending poll
pub if_pending : {A : Type 0} (polled : Poll A) (P : Type 0) → P → OnPending polled P
if_pending (Ready x) P h = tt
if_pending Pending P h = h

module _ {B : Type 0} (program : Bool → B → Program B) (laid : Laid B) (p : ℕ) where
  pub given_before : (held : Option (SeatShown (Option (Rec B)) (View B)))
      (before after : SeatShown (Option (Rec B)) (View B))
      → held ≡ Some before
      → after.table_id ≡ before.table_id
      → after.me.0.lot ≡ before.me.0.lot
      → GoesOn program p before.me.0 after.me.0
      → MakesLook p None before after
      → (answer : Watched) (back : SeatShown (Option (Rec B)) (View B))
      → IsGiven program laid (Some after) p answer back
      → IsGiven program laid held p answer back
  given_before held before after is table lot goes made answer back h =
      subst (λ z. IsGiven program laid z p answer back) (sym is) (
        h.0 ∙ table,
        h.1,
        h.2,
        h.3 ∙ lot,
        watched_on program laid.cells p answer before.me.0 after.me.0 back.me.0
            (knows_still p before.me.0 after.me.0 goes) h.4,
        again before after back made h.5,
      )

  -- what a poll that is ready gives
  pub given_now : (held : Option (SeatShown (Option (Rec B)) (View B)))
      (before back : SeatShown (Option (Rec B)) (View B))
      → held ≡ Some before
      → back.table_id ≡ before.table_id
      → IsIdle back.me.0
      → back.me.1 ≡ []
      → back.me.0.lot ≡ before.me.0.lot
      → (answer : Watched)
      → Answers program laid.cells p answer before.me.0 back.me.0
      → MakesLook p (Some answer) before back
      → IsGiven program laid held p answer back
  given_now held before back is table idle slots lot answer found made =
      subst (λ z. IsGiven program laid z p answer back) (sym is) (
        table,
        idle,
        slots,
        lot,
        watched_at program laid.cells p answer before.me.0 back.me.0 found,
        at_once before back made,
      )
