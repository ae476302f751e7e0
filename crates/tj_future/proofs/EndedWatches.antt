-- A run that ends with the seat that has taken in that of a watch, and that this seat may close the table.
use Rattle.std.proofs.Common.{◌≡◌, ℕ, Bool, [], ap, ◌∙◌, subst}
use Rattle.tj_body.specs.Programs.{Program}
use Rattle.tj_cells.specs.CallLogs.{Seat}
use Rattle.tj_words.specs.AtRest.EndedRuns.{RestEndsRun}
use Rattle.tj_words.specs.AtRest.RestShown.{RestShown}
use Rattle.tj_words.specs.AtRest.RestingSeats.{MayRest}
use Rattle.tj_words.specs.LawParts.FirstState.{first_view}
use Rattle.tj_words.specs.SeatViews.SeatSteps.{SeatMe}
use Rattle.tj_words.specs.declared.table.Laid.{Laid}
use Rattle.tj_run.specs.Leaving.{HasRested, Leaves}
use Rattle.tj_run.specs.declared.why.Left.{Left}
use Rattle.tj_run.specs.declared.why.Left.TheVariants as leaving
use Rattle.tj_future.specs.WatchedRuns.{EndsWatched, HasWatched, IsWatch, ended}
use Rattle.tj_future.specs.declared.watched.Watched.{Watched}

module _ {B : Type 0} (program : Bool → B → Program B) (root : B) (cells : ℕ) (strict : Bool) (laid : Laid B)
    (of_cells : laid.cells ≡ cells) (of_strict : laid.strict ≡ strict) (of_root : laid.root.value ≡ root) where
  pub ends_watched : (p : ℕ) (answer : Watched) (how : Left) (old : SeatMe B)
      → old ≡ (first_view cells root strict, [])
      → (now : Seat B)
      → HasWatched program laid.cells p answer how old.0 now
      → how ≡ leaving.Rested
      → (r : RestShown B)
      → RestEndsRun program laid.cells laid.strict laid.root.value now r
      → EndsWatched program cells strict root p answer r
  ends_watched p answer how old first now h is r e = ended now h.given
      (subst (λ n. RestEndsRun program n strict root now r) of_cells
      (subst (λ b. RestEndsRun program laid.cells b root now r) of_strict
      (subst (λ x. RestEndsRun program laid.cells laid.strict x now r) of_root e)))
      (subst (λ n. IsWatch program n p answer (first_view cells root strict) h.given) of_cells
      (subst (λ (m : SeatMe B). IsWatch program laid.cells p answer m.0 h.given) first h.watch))
      (h.taken is)

-- the seat of workers at rest may close the table, where they began with the first seat
pub rest_may : {B : Type 0} (program : Bool → B → Program B) {root : B} {cells : ℕ} {strict : Bool} {how : Left}
    (old : SeatMe B) → old ≡ (first_view cells root strict, []) → (now : SeatMe B) → how ≡ leaving.Rested
    → Leaves program how old.0 now → MayRest now.0
rest_may {B} program old first now is h =
    let r : HasRested old.0 now = subst (λ z. Leaves program z old.0 now) is h in record {
      alone = r.lot ∙ ap (λ (m : SeatMe B). m.0.lot) first;
      rested = r.rested;
      tasks = r.idle.tasks;
      hand = r.idle.hand;
      dues = r.idle.dues;
    }
