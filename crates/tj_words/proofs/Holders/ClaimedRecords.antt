-- What a seat knows of the stage of the point that the record tells which it has claimed.
use Rattle.tj_words.proofs.Prelude.{HeldSays, IsCell, None, Point, Rec, Reference, Tells, TellsStage, WaitsFor}
use Rattle.tj_words.proofs.Prelude.{reference, subst, to_task, ℕ, ◌≡◌}
use Rattle.std.specs.Prelude.{List}
use Rattle.tj_words.specs.Calls.TakenRecords.{HasWaitedFor}
use Rattle.tj_words.proofs.Meaning.Resting.{pairs_at}
use Rattle.tj_body.specs.declared.ask.Answer.TheVariants as answer
use Rattle.tj_body.specs.declared.point.PointStage.TheVariants as stage

module _ {B : Type 0} (born : List Reference) (r : Rec B) (p : Point B) where
  module _ (tells : Tells born r p) (told : TellsStage born r.finish r.answer r.spare p)
      (unended : r.finish ≡ None) where
    told_open : TellsStage born None r.answer r.spare p
    told_open = subst (λ o. TellsStage born o r.answer r.spare p) unended told

    -- a record at Start is to be given Start
    pub starts : r.answer ≡ answer.Start → p.stage ≡ stage.Answered answer.Start
    starts e = subst (λ a. TellsStage born None a r.spare p) e told_open

    -- one that has waited is to be given what has become of the cell
    pub waited : (c : ℕ) → WaitsFor r c → HasWaitedFor born r p c
    waited c w = let at_place = subst (λ a. TellsStage born None a r.spare p) w.2 told_open in
        let held = pairs_at (HeldSays born) r.held p.references w.0 w.1 (to_task p.name) tells.held w.3 in record {
          place = w.0;
          is_answer = w.2;
          inside = at_place.0;
          waits = at_place.1;
          is_cell = subst (λ d. IsCell born d (reference p w.0)) w.4 held.0;
        }
