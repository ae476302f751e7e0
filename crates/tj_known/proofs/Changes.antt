-- The tasks after one act more of one of them: those have begun that are the root or whose fork is worked off, and each
-- is as it has to be.
use Rattle.std.proofs.Common.{◌≡◌, ℕ, suc, ◌<◌, ◌↔◌, ◌⊎◌, inl, inr, Bool, true, List, [], ◌∷◌, Some, length, set, refl}
use Rattle.std.proofs.Common.{sym, ap, ◌∙◌, subst, arith, length-set}
use Rattle.std.proofs.lemmas.List.{length-append}
use Rattle.std.specs.Prelude.{slice_get}
use native.Mathlib.Decide.{ℕ_discrete}
use mathlib.Core.Logic.{dite}
use Rattle.tj_base.specs.ForkOrder.{Name, child}
use Rattle.tj_mean.specs.ActLines.{AreActLines, HasAct}
use Rattle.tj_mean.specs.declared.act.Act.{Act}
use Rattle.tj_mean.specs.declared.act.Act.TheVariants as act
use Rattle.tj_mean.specs.declared.act.ActLine.{ActLine}
use Rattle.tj_mean.proofs.Lists.Elements.{get_less, some_is}
use Rattle.tj_known.specs.Knowledge.{Knows}
use Rattle.tj_known.specs.Inner.Learners.{IsForked, IsLearner, IsUnderWay, IsWorkedOff, has_index, worked}
use Rattle.tj_known.specs.Inner.Steps.{HasName, IsStep}
use Rattle.tj_known.specs.declared.learner.Learner.{Learner}
use Rattle.tj_known.specs.declared.step.Step.TheVariants as step
use Rattle.tj_known.proofs.ActMore.{AtNext, learner_more, worked_more}
use Rattle.tj_known.proofs.KnowledgeSteps.{not_both}
use Rattle.tj_known.proofs.Rows.{get_other, get_put}

-- a child's name isn't its maker's
pub child_differs : (t : Name) (k : ℕ) → child t k ≡ t → ⊥
child_differs t k e =
    let longer = ap (λ (x : Name). length x) e in let many = length-append t (k ∷ []) in absurd (omega arith)

module _ (lines : List ActLine) where
  -- a fork is worked off where its parent's learner is another one that has come so far
  forked_by : (ls ms : List Learner) (t : Name) (f : IsForked ls lines t) (z : Learner)
      → slice_get ms f.index ≡ Some z → f.earlier < worked z → IsForked ms lines t
  forked_by ls ms t f z there less = record {
    parent = z;
    index = f.index;
    name = f.name;
    earlier = f.earlier;
    parent_there = there;
    named = f.named;
    forks = f.forks;
    is_worked = less;
  }

module _ (lines : List ActLine) (ls ms : List Learner) (fit : AreActLines lines) (under : IsUnderWay lines ls) where
  -- the other tasks are as far as they were
  pub record OthersStay (i : ℕ) : Type 0 where
    pub count : length ms ≡ length ls
    pub later : (k : ℕ) (x : Learner) → (k ≡ i → ⊥) → slice_get ls k ≡ Some x
        → (y : Learner) × (slice_get ms k ≡ Some y) × (worked y ≡ worked x)
    pub earlier : (k : ℕ) (y : Learner) → (k ≡ i → ⊥) → slice_get ms k ≡ Some y
        → (x : Learner) × (slice_get ls k ≡ Some x) × (worked y ≡ worked x)

  module _ (i : ℕ) (x y : Learner) (there : slice_get ls i ≡ Some x) (after : slice_get ms i ≡ Some y)
      (more : worked y ≡ suc (worked x)) (stay : OthersStay i) where
    -- a fork that was worked off is so still
    forked_stays : (t : Name) → IsForked ls lines t → IsForked ms lines t
    forked_stays t f = dite (ℕ_discrete f.index i) (λ e. here e)
        (λ differs. other (stay.later f.index f.parent differs f.parent_there)) where
          here : f.index ≡ i → IsForked ms lines t
          here e =
              let is : f.parent ≡ x = some_is f.parent x (sym f.parent_there ∙ (ap (slice_get ls) e ∙ there)) in
              let same = ap (λ z. worked z) is in
              let was = f.is_worked in
              forked_by lines ls ms t f y (ap (slice_get ms) e ∙ after) (omega arith)

          other : (z : Learner) × (slice_get ms f.index ≡ Some z) × (worked z ≡ worked f.parent) → IsForked ms lines t
          other z = let same = z.2 in let was = f.is_worked in forked_by lines ls ms t f z.0 z.1 (omega arith)

    -- a fork that is worked off was so before, or is the act
    forked_before : (t : Name) → IsForked ms lines t
        → IsForked ls lines t ⊎ ((s : Name) × HasName lines i s × HasAct lines s (worked x) (act.Fork t))
    forked_before t f = dite (ℕ_discrete f.index i) (λ e. here e)
        (λ differs. inl (other (stay.earlier f.index f.parent differs f.parent_there)))
      where
        other : (z : Learner) × (slice_get ls f.index ≡ Some z) × (worked f.parent ≡ worked z) → IsForked ls lines t
        other z = let same = z.2 in let was = f.is_worked in forked_by lines ms ls t f z.0 z.1 (omega arith)

        here : f.index ≡ i
            → IsForked ls lines t ⊎ ((s : Name) × HasName lines i s × HasAct lines s (worked x) (act.Fork t))
        here e =
            let is : f.parent ≡ y = some_is f.parent y (sym f.parent_there ∙ (ap (slice_get ms) e ∙ after)) in
            let same = ap (λ z. worked z) is in
            let was = f.is_worked in
            dite (ℕ_discrete f.earlier (worked x))
            (λ n. inr (
              f.name,
              subst (λ k. HasName lines k f.name) e f.named,
              subst (λ n. HasAct lines f.name n (act.Fork t)) n f.forks,
            ))
            (λ differs. inl (forked_by lines ms ls t f x (ap (slice_get ls) e ∙ there) (omega (arith, differs))))

    -- a task whose fork isn't the act has begun where it had
    pub begun_still : (t : Name) (a b : Bool) → b ≡ a
        → ((s : Name) → HasName lines i s → HasAct lines s (worked x) (act.Fork t) → ⊥)
        → (a ≡ true) ↔ ((t ≡ []) ⊎ IsForked ls lines t) → (b ≡ true) ↔ ((t ≡ []) ⊎ IsForked ms lines t)
    begun_still t a b same differs h = (
      λ is. onward (h.0 (sym same ∙ is)),
      λ root_or. same ∙ h.1 (backward root_or),
    ) where
      onward : (t ≡ []) ⊎ IsForked ls lines t → (t ≡ []) ⊎ IsForked ms lines t
      onward (inl e) = inl e
      onward (inr f) = inr (forked_stays t f)

      back : IsForked ls lines t ⊎ ((s : Name) × HasName lines i s × HasAct lines s (worked x) (act.Fork t))
          → (t ≡ []) ⊎ IsForked ls lines t
      back (inl f) = inr f
      back (inr is) = absurd (differs is.0 is.1 is.2)

      backward : (t ≡ []) ⊎ IsForked ms lines t → (t ≡ []) ⊎ IsForked ls lines t
      backward (inl e) = inl e
      backward (inr f) = back (forked_before t f)

-- the names at one index are the same
pub one_name : (lines : List ActLine) (i : ℕ) (s t : Name) → HasName lines i s → HasName lines i t → s ≡ t
one_name lines i s t h g = some_is s t (sym h ∙ g)

module _ (lines : List ActLine) (ls : List Learner) (fit : AreActLines lines) (under : IsUnderWay lines ls)
    (i : ℕ) where
  module _ (y : Learner) where
    -- the others stay where one is changed
    others_stay : (x : Learner) → slice_get ls i ≡ Some x → OthersStay lines ls (set ls i y) fit under i
    others_stay x there = record {
      count = length-set ls i y;
      later = λ k z differs at. (z, get_other ls i k y differs ∙ at, refl);
      earlier = λ k z differs at. (z, sym (get_other ls i k y differs) ∙ at, refl);
    }

    -- after a join
    pub after_join_state : (j : ℕ) (answered : Bool) (n : AtNext lines ls fit under i (step.Join j answered))
        (mark : Bool) → IsWorkedOff n.learner y mark
        → ((u : Name) (is : Bool) → n.doing ≡ act.Join u is
        → (mark ≡ true) ↔ Knows lines n.line.name (worked n.learner) u)
        → ((k : ℕ) (u : Name) → HasName lines k u
        → (has_index y.knows.items k ≡ true) ↔ Knows lines n.line.name (suc (worked n.learner)) u)
        → IsUnderWay lines (set ls i y)
    after_join_state j answered n mark off marked knows = record {
      count = length-set ls i y ∙ under.count;
      each = λ k l z line_there at. dite (ℕ_discrete k i) (λ e. here k l z e line_there at)
          (λ differs. under.each k l z line_there (sym (get_other ls i k y differs) ∙ at));
      begun = λ k t z named at. dite (ℕ_discrete k i) (λ e. still k t n.learner z named
          (ap (slice_get ls) e ∙ n.there)
          (ap (λ w. w.begun) (is_new k z e at) ∙ off.begun))
          (λ differs. still k t z z named (sym (get_other ls i k y differs) ∙ at) refl);
    } where
      less : i < length ls
      less = get_less ls i n.learner n.there

      is_new : (k : ℕ) (z : Learner) → k ≡ i → slice_get (set ls i y) k ≡ Some z → z ≡ y
      is_new k z e at = some_is z y (sym at ∙ (ap (slice_get (set ls i y)) e ∙ get_put ls i y less))

      here : (k : ℕ) (l : ActLine) (z : Learner) → k ≡ i → slice_get lines k ≡ Some l
          → slice_get (set ls i y) k ≡ Some z → IsLearner lines l z
      here k l z e line_there at =
          let same : n.line ≡ l = some_is n.line l (sym n.line_there ∙ (ap (slice_get lines) (sym e) ∙ line_there)) in
          subst (λ w. IsLearner lines w z) same (subst (λ w. IsLearner lines n.line w) (sym (is_new k z e at))
          (learner_more lines n.line n.learner y mark n.doing n.fits n.begun n.less off n.does marked knows))

      no_fork : (a : Act) → IsStep lines a (step.Join j answered) → HasAct lines n.line.name (worked n.learner) a
          → (t s : Name) → HasName lines i s → HasAct lines s (worked n.learner) (act.Fork t) → ⊥
      no_fork (act.Fork c) is does t s named forks = absurd is
      no_fork (act.Join u b) is does t s named forks =
          not_both lines s n.line.name t u (worked n.learner) (worked n.learner) b forks does
          (one_name lines i n.line.name s n.named named) refl

      still : (k : ℕ) (t : Name) (z w : Learner) → HasName lines k t → slice_get ls k ≡ Some z
          → w.begun ≡ z.begun
          → (w.begun ≡ true) ↔ ((t ≡ []) ⊎ IsForked (set ls i y) lines t)
      still k t z w named at same = begun_still lines ls (set ls i y) fit under i n.learner y n.there
          (get_put ls i y less)
          (worked_more n.learner y mark off) (others_stay n.learner n.there) t z.begun w.begun same
          (no_fork n.doing n.step n.does t) (under.begun k t z named at)
