-- The tasks of which nothing is worked off.
use Rattle.std.proofs.Common.{◌≡◌, ℕ, ◌<◌, ◌↔◌, ◌⊎◌, inl, inr, Bool, true, List, [], Some, length}
use Rattle.std.proofs.Common.{refl, sym, ap, ◌∙◌, subst, arith, true≢false}
use Rattle.std.proofs.Common.{◌++◌, ◌∷◌, get_or}
use Rattle.std.proofs.lemmas.List.{length-append}
use Rattle.std.proofs.lemmas.Option.{slice_get_read}
use native.Mathlib.Decide.{ℕ_discrete}
use mathlib.Core.Logic.{dite}
use Rattle.std.specs.Prelude.{slice_get}
use Rattle.tj_base.specs.ForkOrder.{Name}
use Rattle.tj_mean.specs.ActLines.{AreActLines, HasAct}
use Rattle.tj_mean.specs.declared.act.Act.{Act}
use Rattle.tj_mean.specs.declared.act.Act.TheVariants as act
use Rattle.tj_mean.specs.declared.act.ActLine.{ActLine}
use Rattle.tj_mean.proofs.Lists.Elements.{get_less, get_there, some_is}
use Rattle.tj_mean.proofs.NotedActs.LineIndexes.{acts_at, line_at}
use Rattle.tj_known.specs.Knowledge.{Knows}
use Rattle.tj_known.specs.Inner.Learners.{IsForked, IsLearner, IsNew, IsUnderWay, has_index, worked}
use Rattle.tj_known.specs.Inner.Steps.{AreThere, HasName, IsThere}
use Rattle.tj_known.specs.declared.learner.Learner.{Learner}
use Rattle.tj_known.proofs.KnowledgeSteps.{at_root}
use Rattle.tj_known.proofs.Rows.{get_earlier, get_last}
use Rattle.tj_known.proofs.StepIndexes.{there_all}

module _ (lines : List ActLine) (fit : AreActLines lines) where
  -- no act of a new task is worked off
  new_worked : (l : ActLine) (x : Learner) → IsNew lines l x → worked x ≡ 0
  new_worked l x is = ap (λ (r : List Bool). length r) is.unmarked

  -- the root knows nothing
  root_knows : (t u : Name) (n : ℕ) → t ≡ [] → n ≡ 0 → Knows lines t n u → ⊥
  root_knows t u n et en knew =
      at_root lines fit u (subst (λ s. Knows lines s 0 u) et (subst (λ m. Knows lines t m u) en knew))

  -- a new task is as it has to be
  new_fits : (l : ActLine) (x : Learner) → IsNew lines l x → IsLearner lines l x
  new_fits l x is =
      let none = new_worked l x is in
      record {
        steps = is.steps;
        few = omega arith;
        unbegun = λ _. is.unmarked;
        knowledge = λ begun i u h. (
          λ has. absurd (true≢false (sym has ∙ ap (λ r. has_index r i) is.nothing)),
          λ knew. absurd (root_knows l.name u (worked x) (is.begun.0 begun) none knew),
        );
        marked = λ n u answered less g. absurd (omega arith);
      }

  -- where each task is new, the root alone has begun
  pub begins : (learners : List Learner) → length learners ≡ length lines
      → ((i : ℕ) (l : ActLine) (x : Learner) → slice_get lines i ≡ Some l → slice_get learners i ≡ Some x
      → IsNew lines l x)
      → IsUnderWay lines learners
  begins learners count new = record {
    count = count;
    each = λ i l x line_there there. new_fits l x (new i l x line_there there);
    begun = λ i t x named there. begun i t x named there;
  } where
    not_forked : (t : Name) → IsForked learners lines t → ⊥
    not_forked t f =
        let less = get_less learners f.index f.parent f.parent_there in
        let l = get_there lines f.index (omega arith) in
        let none = new_worked l.0 f.parent (new f.index l.0 f.parent l.1 f.parent_there) in
        let was = f.is_worked in omega arith

    begun : (i : ℕ) (t : Name) (x : Learner) → HasName lines i t → slice_get learners i ≡ Some x
        → (x.begun ≡ true) ↔ ((t ≡ []) ⊎ IsForked learners lines t)
    begun i t x named there =
        let l = line_at lines i t named in
        let is = new i l.0 x l.1 there in
        (λ has. inl (sym l.2 ∙ is.begun.0 has), λ either. is.begun.1 (l.2 ∙ root either))
      where
        root : (t ≡ []) ⊎ IsForked learners lines t → t ≡ []
        root (inl e) = e
        root (inr f) = absurd (not_forked t f)

-- each of the tasks so far is new
abbrev pub AreNew : List ActLine → List Learner → Type 0
AreNew lines learners = (i : ℕ) (l : ActLine) (x : Learner) → slice_get lines i ≡ Some l
    → slice_get learners i ≡ Some x → IsNew lines l x

-- one new task more
pub more_new : (lines : List ActLine) (ls : List Learner) (i : ℕ) (l : ActLine) (x : Learner) → length ls ≡ i
    → AreNew lines ls → i < length lines → l ≡ get_or lines i l → IsNew lines l x → AreNew lines (ls ++ x ∷ [])
more_new lines ls i l x count new less at is k m y line_there there = dite (ℕ_discrete k (length ls))
    (λ e. subst (λ w. IsNew lines w y)
    (some_is l m (sym (slice_get_read lines (length lines) i l refl less at)
    ∙ (ap (slice_get lines) (sym (e ∙ count)) ∙ line_there)))
    (subst (λ w. IsNew lines l w)
    (some_is x y (sym (get_last ls x) ∙ (ap (slice_get (ls ++ x ∷ [])) (sym e) ∙ there))) is))
    (λ differs. new k m y line_there (sym (get_earlier ls x k (earlier differs)) ∙ there))
  where
    earlier : (k ≡ length ls → ⊥) → k < length ls
    earlier differs =
        let few = get_less (ls ++ x ∷ []) k y there in
        let many = length-append ls (x ∷ []) in omega (arith, differs)

-- what a line's acts name has a line
pub line_acts_there : (lines : List ActLine) → AreActLines lines → (i : ℕ) (l : ActLine) → i < length lines
    → l ≡ get_or lines i l → AreThere lines l.acts
line_acts_there lines fit i l less at = there_all lines l.acts (λ n a h. one n a
    (subst (λ as_. slice_get as_ n ≡ Some a)
    (sym (acts_at lines fit.in_order i l (slice_get_read lines (length lines) i l refl less at))) h))
  where
    one : (n : ℕ) (a : Act) → HasAct lines l.name n a → IsThere lines a
    one n (act.Fork c) h = fit.forked_there l.name c n h
    one n (act.Join u answered) h = fit.joined_there l.name u n answered h
