-- Where a table may be closed, TAG and BITS of a task's result say what its record at home does: a task that has ended
-- has written its result, and one that waits owns it still.
use Rattle.tj_words.proofs.Prelude.{BitsSay, Bool, Close, Contents, FillSays, FinishSays, IsCell, IsFilled}
use Rattle.tj_words.proofs.Prelude.{IsRecordIn, IsStill, IsToldRecord, Law, List, MayRest, None, Option, Point}
use Rattle.tj_words.proofs.Prelude.{Program, Reference, Ruled, Some, TellsStage, Value, arith, bits_in, contents_of}
use Rattle.tj_words.proofs.Prelude.{dite, drawn_in, get_elem?, hand_of, home_of, refl, some, subst, sym, tag_in}
use Rattle.tj_words.proofs.Prelude.{tag_of, to_task, ℕ, ℕ_discrete, ◌<◌, ◌∙◌, ◌≡◌}
use Rattle.tj_words.specs.declared.offsets.Once.TheVariants.{Tag}
use Rattle.tj_words.specs.declared.phase.Phase.{Phase}
use Rattle.tj_record.specs.declared.record.Fill.{Fill}
use Rattle.tj_record.specs.declared.record.Finish.{Finish}
use Rattle.tj_record.specs.declared.record.Rec.{Rec}
use Rattle.tj_words.specs.declared.table.Key.{Key}
use Rattle.tj_words.specs.declared.view.View.{View}
use Rattle.tj_words.proofs.Lemmas.{AreApartByName, born_apart, inside}
use Rattle.tj_runs.specs.AlikeSeats.{RecordsSayResults, ResultSays, fill_of}
use Rattle.tj_words.specs.Words.Values.{fill_in, tag_word}
use Rattle.tj_body.proofs.Histories.EndedPoints.{ClosesWhole, HasClosedIn, closes_whole, result_of}
use Rattle.tj_body.specs.declared.point.Entry.TheVariants as entry
use Rattle.tj_body.specs.declared.point.PointStage.TheVariants as stage
use Rattle.tj_words.specs.declared.phase.Phase.TheVariants as phase
use Rattle.tj_words.proofs.Meaning.RestingStates as rests

module _ (born : List Reference) (apart : AreApartByName born) where
  -- words that say the value with which a cell is filled say that filling
  fill_says : (f : Fill) (v : Value) (tag bits : ℕ) → FillSays born f v → tag ≡ tag_of (entry.Value v)
      → BitsSay born (entry.Value v) bits → (tag ≡ tag_word (Some f)) × (fill_in tag bits ≡ Some f)
  fill_says f v tag bits h t b = grind (arith, apart)

  -- so it is of the ending of a task
  finish_says : (f : Finish) (e : Close) (tag bits : ℕ) → FinishSays born f e → tag ≡ tag_of (result_of e)
      → BitsSay born (result_of e) bits → (tag ≡ tag_word (fill_of f)) × (fill_in tag bits ≡ fill_of f)
  finish_says f e tag bits h t b = grind (arith, fill_says)

module _ {B : Type 0} (program : Bool → B → Program B) (key : Key B) (u : Ruled program key) (id : ℕ) (v : View B)
    (at : get_elem? u.now.views id ≡ some v) (may : MayRest v) (t : ℕ) (r : Rec B)
    (home : home_of (contents_of u.now) t ≡ Some r) where
  abbrev P : Program B
  P = program key.strict key.root.value

  abbrev x : Contents B
  x = contents_of u.now

  abbrev law : Law P key.cells x
  law = u.rule.law

  abbrev told : IsToldRecord P law.born
      (IsFilled P (drawn_in key.cells x) (hand_of x) law.born (tag_in x) (bits_in x)) r
  told = law.meaning.records t r home

  its_cell : IsCell law.born t (to_task told.point.name)
  its_cell = subst (λ c. IsCell law.born c (to_task told.point.name)) (law.custody.own_slots t r home) told.tells.of

  -- a task that has ended
  ended : (f : Finish) (e : Close) → FinishSays law.born f e → told.point.stage ≡ stage.Closed e
      → ResultSays (tag_in x t) (bits_in x t) (Some f)
  ended f e h is =
      let point = told.stands.of_rounds.2 in
      let own = subst (λ z. HasClosedIn z told.point.name told.point.writes told.point.holds) is
      (subst (λ (p : Point B). ClosesWhole p) (sym point.1.1)
      (closes_whole P.rules _ told.stands.of_rounds.0 point.1.0)) in
      let cell = told.stands.writes told.point.name (result_of e) own.wrote in
      let same : cell.0 ≡ t = born_apart law cell.0 t cell.1 (to_task told.point.name) cell.2 its_cell cell.3 in
      finish_says law.born (born_apart law) f e (tag_in x t) (bits_in x t) h
      (subst (λ c. tag_in x c ≡ tag_of (result_of e)) same cell.4.tag_is)
      (subst (λ c. BitsSay law.born (result_of e) (bits_in x c)) same cell.4.written.bits_say)

  -- one that hasn't
  waiting : r.finish ≡ None → tag_in x t ≡ 0
  waiting none = by (x.words.phase t) refl
      (rests.still u.rule id at may t
      (subst (λ k. t < k) law.births.all (inside law.born t _ its_cell)))
      (law.records_fit t r home)
    where
      by : (p : Phase) → x.words.phase t ≡ p → IsStill p → IsRecordIn (tag_in x) p r → tag_in x t ≡ 0
      by phase.Unborn e s i = absurd s
      by phase.Ready e s i = absurd s
      by phase.Running e s i = absurd s
      by phase.Ended e s i = let q : None ≡ Some i.0.0 = sym none ∙ i.0.1 in absurd (cc)
      by phase.Promise e s i = absurd i
      by (phase.Waiting c way w) e s i = dite (ℕ_discrete (tag_in x t) 0) (λ z. z)
          (λ z. absurd (law.waiters_own t c way w e (law.once_words.valued t Tag (λ h. h) z).1))

  says : ResultSays (tag_in x t) (bits_in x t) r.finish
  says = by r.finish refl
    where
      by : (f : Option Finish) → r.finish ≡ f → ResultSays (tag_in x t) (bits_in x t) f
      by None e = waiting e
      by (Some f) e =
          let w = subst (λ o. TellsStage law.born o r.answer r.spare told.point) e
          told.tells_stage in ended f w.0 w.1 w.2

pub records_say_results : (B : Type 0) → RecordsSayResults B
records_say_results B program key u id v at may t r home = says program key u id v at may t r home
