-- What a watch of the root was told is what the root's line of the outcome tells.
use Rattle.tj_program.proofs.Prelude.{AllByRecursion, Answer, Bool, IsOutcome, List, None, Option, Outcome, Point}
use Rattle.tj_program.proofs.Prelude.{Program, RestCell, Some, [], ap, cond, in_unpermuted, inl, inr, map, meaning}
use Rattle.tj_program.proofs.Prelude.{subst, sym, ℕ, ◌∙◌, ◌∷◌, ◌≡◌}
use Rattle.std.specs.List.Sorted.{IsStrictlySortedBy}
use Rattle.std.specs.Option.{option_map}
use Rattle.std.specs.declared.cmp.Ordering.TheVariants.{Less}
use mathlib.Core.Option.{some}
use lib.ListN.{get_elem?}
use Rattle.tj_base.specs.ForkOrder.{Name}
use Rattle.tj_body.specs.History.{to_task}
use Rattle.tj_body.specs.Points.{IsIn}
use Rattle.tj_body.specs.declared.point.Reference.{Reference}
use Rattle.tj_mean.specs.Outcomes.{Ascend, ending_of, is_nil, stopped_of}
use Rattle.tj_mean.specs.declared.outcome.Ending.{Ending}
use Rattle.tj_mean.specs.declared.outcome.TaskLine.{TaskLine}
use Rattle.tj_mean.specs.declared.stopped.Stopped.{Stopped}
use Rattle.tj_mean.proofs.Lists.Elements.{some_is}
use Rattle.tj_mean.proofs.Lists.NameOrder.{order}
use Rattle.tj_mean.proofs.Outcomes.ToldOutcomes.{of_told, told_name}
use Rattle.tj_words.specs.AtRest.RestMeaning.{AreRecordsOf, AreWordsOf, HaveMeaning, TellsHistory}
use Rattle.tj_words.specs.LawParts.Telling.{TellsStage}
use Rattle.tj_record.specs.declared.record.Finish.{Finish}
use Rattle.tj_record.specs.declared.record.Rec.{Rec}
use Rattle.tj_future.specs.RootWatches.{IsRootWatched, watched_of}
use Rattle.tj_future.specs.declared.watched.Watched.{Watched}
use Rattle.tj_program.specs.Inner.WatchTells.{WatchTells}
use Rattle.tj_modes.specs.RootLines.{ending_line, root_line}
use Rattle.tj_base.specs.declared.value.Shown.TheVariants as shown
use Rattle.tj_body.specs.declared.ask.Answer.TheVariants as answer
use Rattle.tj_body.specs.declared.point.Close.TheVariants as close
use Rattle.tj_body.specs.declared.point.PointStage.TheVariants as stage
use Rattle.tj_mean.specs.declared.outcome.Ending.TheVariants as ending
use Rattle.tj_record.specs.declared.record.Fill.TheVariants as fill
use Rattle.tj_record.specs.declared.record.Finish.TheVariants as finish

-- ---- the root's line

-- no name comes before the empty one
none_before : (n : Name) → order n [] ≡ Less → ⊥
none_before [] e = absurd (cc)
none_before (k ∷ ks) e = absurd (cc)

-- behind the first of lines in order there is none of the root
none_later : (x : Name) (ls : List TaskLine) → AllByRecursion (λ z. order x z ≡ Less) (map (λ (l : TaskLine). l.name) ls)
    → (l : TaskLine) → IsIn l ls → l.name ≡ [] → ⊥
none_later x [] h l i e = absurd i
none_later x (y ∷ ys) h l (inl same) e =
    none_before x (subst (λ n. order x n ≡ Less) (sym (ap (λ (z : TaskLine). z.name) same) ∙ e) h.0)
none_later x (y ∷ ys) h l (inr i) e = none_later x ys h.1 l i e

first_line : (l : TaskLine) (ls : List TaskLine) → l.name ≡ [] → root_line (l ∷ ls) ≡ ending_line l.ending
first_line l ls e = ap (λ n. cond (is_nil n) (ending_line l.ending) (root_line ls)) e

-- the root's line is that of its ending
pub root_has : (ls : List TaskLine) → Ascend (map (λ (l : TaskLine). l.name) ls) → (l : TaskLine) → IsIn l ls
    → l.name ≡ [] → root_line ls ≡ ending_line l.ending
unfolding IsStrictlySortedBy
root_has [] h l i e = absurd i
root_has (x ∷ xs) h l (inl same) e =
    first_line x xs (sym (ap (λ (z : TaskLine). z.name) same) ∙ e)
    ∙ ap (λ (z : TaskLine). ending_line z.ending) (sym same)
root_has (x ∷ xs) h l (inr i) e = absurd (none_later x.name xs h.0 l i e)

in_mapped : {A C : Type 0} (f : A → C) (x : A) (xs : List A) → IsIn x xs → IsIn (f x) (map f xs)
in_mapped f x [] i = absurd i
in_mapped f x (y ∷ ys) (inl same) = inl (ap f same)
in_mapped f x (y ∷ ys) (inr i) = inr (in_mapped f x ys i)

-- ---- what is told of the root's history

module _ {B : Type 0} (p : Point B) (s : Stopped) where
  -- what is told of a history that has stopped has its ending
  told_ending : (e : Ending) → ending_of p.stage ≡ Some e → stopped_of p ≡ Some s → s.line.ending ≡ e
  told_ending e is h = sym (ap (λ (z : Stopped). z.line.ending) (some_is (with_ending e) s
      (sym (ap (λ o. option_map with_ending o) is) ∙ h)))
    where
      with_ending : Ending → Stopped
      with_ending x = record {
        line = record { name = p.name; prints = p.prints; ending = x; owes = p.owed };
        holds = p.holds;
      }

  -- nothing is told of one that goes on
  goes_on : (a : Answer) → p.stage ≡ stage.Answered a → stopped_of p ≡ Some s → ⊥
  goes_on a is h = by (ending_of p.stage) (ap ending_of is) h where
    by : (o : Option Ending) → o ≡ None
        → option_map (λ x. record {
          line = record { name = p.name; prints = p.prints; ending = x; owes = p.owed };
          holds = p.holds;
        }) o ≡ Some s → ⊥
    by None e f = absurd (cc)
    by (Some x) e f = absurd (cc)

  -- a watch of its task is told what stands in its line
  module _ (born : List Reference) (lines : List TaskLine) (told : stopped_of p ≡ Some s)
      (has : root_line lines ≡ ending_line s.line.ending) where
    of_ending : (e : Ending) → ending_of p.stage ≡ Some e → root_line lines ≡ ending_line e
    of_ending e is = has ∙ ap ending_line (told_ending e is told)

    pub tells : (f : Option Finish) (a : Answer) (spare : Bool) → TellsStage born f a spare p
        → WatchTells (watched_of f) lines
    tells (Some (finish.Done (fill.Num i))) a spare (e, (v, is, closes), at) =
        of_ending (ending.Done (shown.Num i))
        (ap ending_of (at ∙ ap stage.Closed (closes ∙ ap close.Done is)))
    tells (Some (finish.Done (fill.Promise c))) a spare t = tt
    tells (Some (finish.Done (fill.Task c))) a spare t = tt
    tells (Some (finish.Failed hurt)) a spare (e, (why, says, closes), at) =
        of_ending (ending.Failed why) (ap ending_of (at ∙ ap stage.Closed closes))
    tells None answer.Start spare t = absurd (goes_on answer.Start t told)
    tells None (answer.RefAt k) spare t = of_ending _ (ap ending_of t.1)
    tells None (answer.Local k) spare t = absurd t
    tells None answer.Done spare t = absurd t
    tells None (answer.Num i) spare t = absurd t
    tells None answer.Lost spare t = absurd t

-- ---- the root at rest

module _ {B : Type 0} (program : Program B) (N : ℕ) (cells : List RestCell) (records : List (Option (Rec B))) where
  -- the root's history is told by record 0
  root_history : (born : List Reference) → AreWordsOf program N born cells → AreRecordsOf program N born records
      → (r : Rec B) → get_elem? records 0 ≡ some (Some r)
      → (p : Point B) × IsIn p (meaning program N) × (p.name ≡ []) × TellsStage born r.finish r.answer r.spare p
  root_history born words are r lies =
      let found = are.tasks 0 r lies in
      let t : TellsHistory born records 0 found.0 = found.2 in
      let both : some (Some t.r) ≡ some (Some r) = sym t.lies ∙ lies in
      let same : t.r ≡ r = cc in
      let cell : get_elem? born 0 ≡ some (to_task found.0.name) =
      subst (λ c. get_elem? born c ≡ some (to_task found.0.name)) t.own t.tells.of in
      let task : some (to_task found.0.name) ≡ some (to_task []) = sym cell ∙ words.named.root in
      let root : to_task found.0.name ≡ to_task [] = cc in (
        found.0,
        found.1,
        ap (λ (x : Reference). x.name) root,
        subst (λ z. TellsStage born z.finish z.answer z.spare found.0) same t.tells_stage,
      )

  -- a watch of the root is told what stands in the root's line
  pub watch_tells : HaveMeaning program N cells records → (o : Outcome) → IsOutcome (meaning program N) o
      → (w : Watched) → IsRootWatched records w → WatchTells w o.lines
  watch_tells meant o (ss, told, is) w (r, lies, e) =
      let p = root_history meant.0 meant.1 meant.2 r lies in
      let s = of_told (meaning program N) ss told p.0 p.1 in
      let line : IsIn s.0.line o.lines = in_unpermuted (map (λ (z : Stopped). z.line) ss) o.lines is.lines s.0.line
      (in_mapped (λ (z : Stopped). z.line) s.0 ss s.1) in
      let name : s.0.line.name ≡ [] = told_name p.0 s.0 s.2 ∙ p.2 in
      let has = root_has o.lines is.lines_in_order s.0.line line name in
      subst (λ z. WatchTells z o.lines) (sym e)
      (tells p.0 s.0 meant.0 o.lines s.2 has r.finish r.answer r.spare p.3)
