-- What a record tells, over the names of the cells, is what is told of the history that the record tells.
use Rattle.tj_report.proofs.Prelude.{AllByRecursion, Answer, Bool, Finish, Held, IsEndBelow, IsRecordBelow, List, Name}
use Rattle.tj_report.proofs.Prelude.{None, Point, Rec, Reference, Some, Stopped, [], ap, drop, ending_by, in_order, map}
use Rattle.tj_report.proofs.Prelude.{names, option_map, owned, refl, suc, sym, told_by, zero, ℕ, ◌<◌, ◌∙◌, ◌∷◌, ◌≡◌}
use Rattle.std.proofs.Common.{ℤ, Option, get_or, length, arith}
use Rattle.std.specs.Prelude.{slice_get}
use Rattle.tj_base.specs.declared.cell.CellId.{CellId}
use Rattle.tj_base.specs.declared.cause.Cause.{Cause}
use Rattle.tj_body.specs.History.{to_task, to_promise, reference}
use Rattle.tj_body.specs.declared.point.Close.{Close}
use Rattle.tj_body.specs.declared.point.Value.{Value}
use Rattle.tj_mean.specs.Outcomes.{shown_of, ending_of, stopped_of}
use Rattle.tj_mean.specs.declared.outcome.Ending.{Ending}
use Rattle.tj_words.specs.LawParts.Telling.{ArePairs, HasName, HeldSays, FillSays, HurtSays, FinishSays, Tells}
use Rattle.tj_words.specs.LawParts.Telling.{TellsStage}
use Rattle.tj_record.specs.declared.record.Fill.{Fill}
use Rattle.tj_record.specs.declared.record.Hurt.{Hurt}
use Rattle.tj_report.proofs.CellIndexes.{name_there}
use Rattle.tj_report.specs.Inner.CellNames.{IsBelow, name_in}
use Rattle.tj_report.specs.Inner.ToldRecords.{shown_by, cause_by, finished_by, IsFillBelow, IsHurtBelow, IsFinishBelow}
use Rattle.tj_base.specs.declared.cause.Cause.TheVariants as cause
use Rattle.tj_base.specs.declared.value.Shown.TheVariants as shown
use Rattle.tj_body.specs.declared.ask.Answer.TheVariants as answer
use Rattle.tj_body.specs.declared.point.PointStage.TheVariants as stage
use Rattle.tj_mean.specs.declared.outcome.Ending.TheVariants as ending
use Rattle.tj_record.specs.declared.record.Fill.TheVariants as fill
use Rattle.tj_record.specs.declared.record.Hurt.TheVariants as hurt
use Rattle.tj_record.specs.declared.record.Finish.TheVariants as finish

module _ (born : List Reference) where
  abbrev many : ℕ
  many = length (names born)

  -- cells with these names
  pub names_there : (cells : List CellId) (qs : List Name) → ArePairs (HasName born) cells qs
      → AllByRecursion (IsBelow many) cells × (map (name_in (names born)) cells ≡ qs)
  names_there [] [] h = (tt, refl)
  names_there [] (q ∷ qs) h = absurd h
  names_there (c ∷ cs) [] h = absurd h
  names_there (c ∷ cs) (q ∷ qs) h =
      let there = name_there born c.0 h.0.0 h.0.1 in
      let rest = names_there cs qs h.1 in
      let first : name_in (names born) c ≡ q = there.1 ∙ h.0.2 in
      let tail = rest.1 in
      ((there.0, rest.0), λ i. first i ∷ tail i)

  pub fill_says : (f : Fill) (v : Value) → FillSays born f v
      → IsFillBelow many f × (shown_by (names born) f ≡ shown_of v)
  fill_says (fill.Num i) v h = (tt, ap shown_of (sym h))
  fill_says (fill.Promise c) v h =
      let there = name_there born c.0 (to_promise h.0) h.1 in
      (there.0, ap (λ q. shown.Ref q) there.1 ∙ ap shown_of (sym h.2))
  fill_says (fill.Task c) v h =
      let there = name_there born c.0 (to_task h.0) h.1 in
      (there.0, ap (λ q. shown.Ref q) there.1 ∙ ap shown_of (sym h.2))

  hurt_says : (x : Hurt) (why : Cause) → HurtSays born x why
      → IsHurtBelow many x × (cause_by (names born) x ≡ why)
  hurt_says (hurt.Owner c) why h =
      let there = name_there born c.0 h.1.0 h.1.1 in
      (there.0, ap (λ q. cause.Owner q) (there.1 ∙ h.1.2) ∙ sym h.2)
  hurt_says (hurt.Broken c) why h =
      let there = name_there born c.0 h.1.0 h.1.1 in
      (there.0, ap (λ q. cause.Broken q) (there.1 ∙ h.1.2) ∙ sym h.2)
  hurt_says (hurt.Order c) why h =
      let there = name_there born c.0 h.1.0 h.1.1 in
      (there.0, ap (λ q. cause.Order q) (there.1 ∙ h.1.2) ∙ sym h.2)
  hurt_says x why h = (tt, sym h)

  finish_says : (f : Finish) (e : Close) → FinishSays born f e
      → IsFinishBelow many f × (ending_of (stage.Closed e) ≡ Some (finished_by (names born) f))
  finish_says (finish.Done f) e h =
      let s = fill_says f h.0 h.1 in
      (s.0, ap (λ z. ending_of (stage.Closed z)) h.2 ∙ ap (λ x. Some (ending.Done x)) (sym s.1))
  finish_says (finish.Failed x) e h =
      let s = hurt_says x h.0 h.1 in
      (s.0, ap (λ z. ending_of (stage.Closed z)) h.2 ∙ ap (λ y. Some (ending.Failed y)) (sym s.1))

  held_at : (hs : List Held) (rs : List Reference) (k : ℕ) (d : Reference) → ArePairs (HeldSays born) hs rs
      → k < length rs → (h : Held) × (slice_get hs k ≡ Some h) × HeldSays born h (get_or rs k d)
  held_at [] [] k d h l = absurd (omega arith)
  held_at [] (r ∷ rs) k d h l = absurd h
  held_at (x ∷ xs) [] k d h l = absurd h
  held_at (x ∷ xs) (r ∷ rs) zero d h l = (x, refl, h.0)
  held_at (x ∷ xs) (r ∷ rs) (suc k) d h l = held_at xs rs k d h.1 (omega arith)

  module _ {B : Type 0} (p : Point B) (stopped : ending_of p.stage ≡ None → ⊥) where
    stage_told : (f : Option Finish) (a : Answer) (spare : Bool) (held : List Held)
        → ArePairs (HeldSays born) held p.references → TellsStage born f a spare p
        → IsEndBelow many f a held × (ending_by (names born) f a held ≡ ending_of p.stage)
    stage_told (Some f) a spare held hs h =
        let s = finish_says f h.0 h.1 in (s.0, sym s.1 ∙ ap ending_of (sym h.2))
    stage_told None answer.Start spare held hs h = absurd (stopped (ap ending_of h))
    stage_told None (answer.RefAt k) spare held hs h =
        let w = held_at held p.references k (to_task p.name) hs h.0 in
        let there = name_there born w.0.cell.0 (reference p k) w.2.0 in (
          (w.0, w.1, there.0),
          ap (option_map (λ (x : Held). ending.Waits (name_in (names born) x.cell))) w.1
              ∙ ap (λ q. Some (ending.Waits q)) there.1 ∙ ap ending_of (sym h.1),
        )
    stage_told None a spare held hs h = absurd h

    abbrev told_as : Option Ending → Name → List ℤ → List Name → List Name → Option Stopped
    told_as o name prints owes holds = option_map
        (λ e. record { line = record { name = name; prints = prints; ending = e; owes = owes }; holds = holds }) o

    -- what is told by the record is told of the history, and each cell that the record names has a name
    pub record_told : (r : Rec B) → Tells born r p → TellsStage born r.finish r.answer r.spare p
        → p.holds ≡ drop 1 (owned p) → IsRecordBelow many r × (told_by (names born) r ≡ stopped_of p)
    record_told r t s holds =
        let end = stage_told r.finish r.answer r.spare r.held t.held s in
        let own = names_there r.owned (owned p) t.owned_cells in
        let owes = names_there r.owed t.owed.0 t.owed.1 in
        let there = name_there born r.cell.0 (to_task p.name) t.of in
        let same_end = end.1 in
        let same_name = there.1 in
        let same_owes : in_order (map (name_in (names born)) r.owed) ≡ p.owed = ap in_order owes.1 ∙ sym t.owed.2 in
        let same_holds : drop 1 (map (name_in (names born)) r.owned) ≡ p.holds = ap (λ l. drop 1 l) own.1 ∙ sym holds in
        let same_prints = t.prints in (
          record { cell = there.0; owned = own.0; owed = owes.0; stops = end.0 },
          λ i. told_as (same_end i) (same_name i) (same_prints i) (same_owes i) (same_holds i),
        )
