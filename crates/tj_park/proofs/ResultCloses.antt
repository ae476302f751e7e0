-- The result of a task is set where the task ended well, and broken where it failed.
use Rattle.tj_park.proofs.Prelude.{Bool, Close, Finish, FinishSays, IsIn, IsToBecome, MayFill, Option, Program, Some}
use Rattle.tj_park.proofs.Prelude.{View, ap, became, inl, one_some, refl, result_of, subst, sym, ℕ, ◌∙◌, ◌≡◌, ◌≢◌}
use Rattle.tj_record.specs.declared.record.Fill.{Fill}
use Rattle.tj_record.specs.declared.record.Hurt.{Hurt}
use Rattle.tj_words.specs.LawParts.NamedCells.{fill_cells, finish_cells}
use Rattle.tj_cells.specs.FilledCells.{IsFilledWith, MayGiveUp, WillBecome, cells_named}
use Rattle.tj_park.specs.Inner.Closings.{ClosesResult, MayCloseResult}
use Rattle.tj_body.specs.declared.point.Entry.TheVariants as entry
use Rattle.tj_record.specs.declared.record.Fill.TheVariants as fill
use Rattle.tj_record.specs.declared.record.Finish.TheVariants as ends
use Rattle.tj_park.proofs.OwnedCells.{owner_still}

named_cells : (x : Fill) (c : ℕ) → IsIn c (cells_named x) → IsIn c (fill_cells x)
named_cells (fill.Num i) c h = h
named_cells x c h = h

-- who failed hasn't ended well
pub failed_not_done : (o : Option Finish) (h : Hurt) → o ≡ Some (ends.Failed h) → (x : Fill)
    → o ≢ Some (ends.Done x)
failed_not_done o h e x q = let z = sym e ∙ q in absurd (cc)

module _ {B : Type 0} (program : Bool → B → Program B) (t : ℕ) (o : Option Finish) (v : View B)
    (m : MayCloseResult program t o v) where
  -- the task owns nothing but its result
  pub may_close_last : MayGiveUp t t v
  may_close_last = (
    record {
      task = t;
      owner = owner_still m.owns (inl refl);
      last = λ e. (m.owns.owned, m.no_hand);
    },
    refl,
  )

  -- where it ended well, the result has a value
  pub may_fill_last : (x : Fill) → o ≡ Some (ends.Done x) → MayFill program t x v
  may_fill_last x e =
      let f : m.ending_of ≡ ends.Done x = one_some m.ending_of (ends.Done x) (sym m.is ∙ e) in
      let s : FinishSays v.born (ends.Done x) m.ending
      = subst (λ k. FinishSays v.born k m.ending) f m.says in record {
        value = s.0;
        says = s.1;
        will = record {
          about = m.about;
          is_about = m.is_about;
          becomes = subst (λ k. IsToBecome (program m.about.strict m.about.root) v.born t (result_of k)) s.2 m.becomes;
        };
        knows = λ c i. m.knows c (subst (λ k. IsIn c (finish_cells k)) (sym e) (named_cells x c i));
      }

  -- where it failed, it is broken
  broken_end : (f : Finish) (ending : Close) → ((x : Fill) → f ≢ ends.Done x) → FinishSays v.born f ending
      → result_of ending ≡ entry.Broken
  broken_end (ends.Done x) ending n says = absurd (n x refl)
  broken_end (ends.Failed h) ending n says = ap result_of says.2

  pub may_break_last : ((x : Fill) → o ≢ Some (ends.Done x)) → WillBecome program t entry.Broken v
  may_break_last n = record {
    about = m.about;
    is_about = m.is_about;
    becomes = subst (λ k. IsToBecome (program m.about.strict m.about.root) v.born t k)
        (broken_end m.ending_of m.ending (λ x e. n x (m.is ∙ ap Some e)) m.says) m.becomes;
  }

  pub filled_closes : (w : View B) (x : Fill) → o ≡ Some (ends.Done x) → IsFilledWith t t x v w
      → ClosesResult t o v w
  filled_closes w x e by f ending is says =
      let s : FinishSays v.born (ends.Done x) ending
      = subst (λ k. FinishSays v.born k ending) (one_some f (ends.Done x) (sym is ∙ e)) says in
      by s.0 s.1 ∙ ap (λ k. became t t (result_of k) v) (sym s.2)

  pub broken_closes : (w : View B) → ((x : Fill) → o ≢ Some (ends.Done x)) → w ≡ became t t entry.Broken v
      → ClosesResult t o v w
  broken_closes w n e f ending is says =
      e ∙ ap (λ k. became t t k v) (sym (broken_end f ending (λ x q. n x (is ∙ ap Some q)) says))
