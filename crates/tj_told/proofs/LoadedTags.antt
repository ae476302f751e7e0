-- What an observer's seat knows after a load of TAG.
use Rattle.std.proofs.Common.{◌≡◌, ◌≢◌, ℕ, zero, suc, Bool, [], Option, refl, sym, ◌∙◌, subst, inl, inr}
use Rattle.tj_body.specs.Programs.{Program}
use Rattle.tj_body.specs.declared.point.Entry.TheVariants as entry
use Rattle.tj_log.specs.Shown.{SeatShown}
use Rattle.tj_words.proofs.SeatLoads.KnowsMoreOn.{Keeps, keeps_load, keeps_noted}
use Rattle.tj_words.specs.LawParts.TreeWords.{AreCells}
use Rattle.tj_words.specs.SeatViews.KnownEntries.{HasSeen}
use Rattle.tj_words.specs.SeatViews.SeatSteps.{IsSameSeat}
use Rattle.tj_words.specs.SeatViews.SeenWords.{SeesOnce}
use Rattle.tj_words.specs.SeatViews.Views.{loaded_once, saw_entry}
use Rattle.tj_words.specs.declared.offsets.Once.TheVariants as once
use Rattle.tj_record.specs.declared.record.Rec.{Rec}
use Rattle.tj_words.specs.declared.view.View.{View}
use Rattle.tj_told.specs.Observers.{KnowsCell, LooksOn}
use Rattle.tj_told.specs.SeenNews.{IsBrokenNow}
use Rattle.tj_told.specs.ToldLoads.{GrowsTo}
use Rattle.tj_told.proofs.BrokenCells.{broken_tag}
use Rattle.tj_told.proofs.Climbing.{looks_itself, looks_then}

module _ {B : Type 0} (program : Bool → B → Program B) (cells c n : ℕ) where
  keeps_tag : (v w : View B) → SeesOnce program cells once.Tag c n v w → Keeps v w
  keeps_tag v w h = by n refl where
    by : (m : ℕ) → n ≡ m → Keeps v w
    by zero e = subst (Keeps v) (sym (h.0 e).view) (keeps_noted v (loaded_once v) (λ z. z) (λ z. z) ([], refl))
    by (suc m) e = let f = (h.1 (λ z. let y : suc m ≡ 0 = sym e ∙ z in absurd (cc))).0 in
        subst (Keeps v) (sym f.view) (keeps_load v (saw_entry c f.entry f.born v) f.begins (λ x i. inr i)
        (λ x i. inr i) (λ x i. i) (λ z. z) (λ z. z) ([], refl))

  -- the seat has looked on
  pub after_tag : (a b : SeatShown (Option (Rec B)) (View B)) → IsSameSeat a b
      → SeesOnce program cells once.Tag c n a.me.0 b.me.0 → GrowsTo a.log b.log → LooksOn a b
  after_tag a b same s grows = looks_then a a b (looks_itself a) same (keeps_tag a.me.0 b.me.0 s) grows

  -- where it found TAG to be 4, the cell is broken, and the seat knows it
  pub tag_broken : (v w : View B) → SeesOnce program cells once.Tag c n v w → n ≡ 4 → IsBrokenNow cells c w
  tag_broken v w h e =
      let s = h.1 (λ z. let y : 4 ≡ 0 = sym e ∙ z in absurd (cc)) in let f = s.0 in
      let broken = broken_tag f.entry (sym e ∙ s.1) in record {
        loaded = subst (λ (u : View B). HasSeen u.filled c entry.Broken) (sym f.view)
            (inl (λ i. record { cell = c; entry = sym broken i }));
        known = subst (KnowsCell c) (sym f.view) (inl refl, (f.reference, f.is));
        all = subst (λ (u : View B). AreCells cells u.born) (sym f.view) f.all;
      }

  -- where it found TAG to be other than 0, the seat knows the cell
  pub tag_known : (v w : View B) → SeesOnce program cells once.Tag c n v w → n ≢ 0 → KnowsCell c w
  tag_known v w h e = let f = (h.1 e).0 in
      subst (KnowsCell c) (sym f.view) (inl refl, (f.reference, f.is))
