-- One act more of a task: the act that is next, and what holds of the task after it.
use Rattle.std.proofs.Common.{◌≡◌, ℕ, suc, ◌<◌, ◌↔◌, Bool, true, false, cond, ◌&&◌, nat_lt, List, [], ◌∷◌}
use Rattle.std.proofs.Common.{Option, Some, None, length, refl, sym, ap, ◌∙◌, subst, arith, true≢false}
use Rattle.std.proofs.lemmas.List.{length-append}
use Rattle.std.specs.Prelude.{slice_get}
use Rattle.std.specs.Option.{option_map_or}
use native.Mathlib.Decide.{ℕ_discrete}
use mathlib.Core.Logic.{dite}
use Rattle.tj_base.specs.ForkOrder.{Name}
use Rattle.tj_mean.specs.ActLines.{AreActLines, HasAct}
use Rattle.tj_mean.specs.declared.act.Act.{Act}
use Rattle.tj_mean.specs.declared.act.Act.TheVariants as act
use Rattle.tj_mean.specs.declared.act.ActLine.{ActLine}
use Rattle.tj_mean.proofs.NotedActs.LineIndexes.{acts_at, name_at}
use Rattle.tj_mean.proofs.Lists.Elements.{get_less, get_there, some_is}
use Rattle.tj_known.specs.Knowledge.{Knows}
use Rattle.tj_known.specs.Inner.Learners.{IsLearner, IsUnderWay, IsWorkedOff, NextAt, has_index, next_of, worked}
use Rattle.tj_known.specs.Inner.Steps.{AreSteps, HasName, IsStep}
use Rattle.tj_known.specs.declared.learner.Learner.{Learner}
use Rattle.tj_known.specs.declared.step.Step.{Step}
use Rattle.tj_known.proofs.Rows.{mark_earlier, mark_last}
use Rattle.tj_known.proofs.StepIndexes.{act_at}

-- one act more is worked off
pub worked_more : (x y : Learner) (mark : Bool) → IsWorkedOff x y mark → worked y ≡ suc (worked x)
worked_more x y mark off = ap (λ (l : List Bool). length l) off.marks
    ∙ (length-append x.marks.items (mark ∷ []) ∙ omega arith)

-- a truth value in place of an equal one
pub same_truth : {P : Type 0} (b c : Bool) → b ≡ c → (c ≡ true) ↔ P → (b ≡ true) ↔ P
same_truth b c e h = (λ is. h.0 (sym e ∙ is), λ p. e ∙ h.1 p)

-- what the next act of a task says of it
next_tells : (x : Learner) (s : Step) (b : Bool) → x.begun ≡ b → next_of x ≡ Some s
    → (x.begun ≡ true) × (worked x < length x.steps.items) × (slice_get x.steps.items (worked x) ≡ Some s)
next_tells x s true begun next = by (nat_lt (worked x) (length x.steps.items))
    (sym (ap (λ b. cond (b && nat_lt (worked x) (length x.steps.items)) (slice_get x.steps.items (worked x)) None)
    begun)
    ∙ next) where
      by : (b : Bool) → cond b (slice_get x.steps.items (worked x)) None ≡ Some s
          → (x.begun ≡ true) × (worked x < length x.steps.items) × (slice_get x.steps.items (worked x) ≡ Some s)
      by true e = (begun, get_less x.steps.items (worked x) s e, e)
      by false e = absurd (cc)
next_tells x s false begun next =
    let none : None ≡ Some s =
    sym (ap (λ b. cond (b && nat_lt (worked x) (length x.steps.items)) (slice_get x.steps.items (worked x)) None) begun)
    ∙ next in absurd (cc)

module _ (lines : List ActLine) (learners : List Learner) (fit : AreActLines lines)
    (under : IsUnderWay lines learners) where
  -- the task with an index, with its next act
  pub record AtNext (i : ℕ) (s : Step) : Type 0 where
    pub learner : Learner
    pub line : ActLine
    pub doing : Act
    pub there : slice_get learners i ≡ Some learner
    pub line_there : slice_get lines i ≡ Some line
    pub named : HasName lines i line.name
    pub begun : learner.begun ≡ true
    pub less : worked learner < length learner.steps.items
    pub does : HasAct lines line.name (worked learner) doing
    pub step : IsStep lines doing s
    pub fits : IsLearner lines line learner

  -- the learner at an index of which something is said
  learner_at : (i : ℕ) (s : Step) → NextAt learners i s
      → (x : Learner) × (slice_get learners i ≡ Some x) × (next_of x ≡ Some s)
  learner_at i s next = by (slice_get learners i) refl where
    by : (o : Option Learner) → slice_get learners i ≡ o
        → (x : Learner) × (slice_get learners i ≡ Some x) × (next_of x ≡ Some s)
    by None e =
        let none : None ≡ Some s = sym (ap (λ o. option_map_or next_of o None) e) ∙ next in absurd (cc)
    by (Some x) e = (x, e, sym (ap (λ o. option_map_or next_of o None) e) ∙ next)

  -- the next act of a task
  pub at_next : (i : ℕ) (s : Step) → NextAt learners i s → AtNext i s
  at_next i s next =
      let x = learner_at i s next in
      let tells = next_tells x.0 s x.0.begun refl x.2 in
      let less = get_less learners i x.0 x.1 in
      let many = under.count in
      let l = get_there lines i (omega arith) in
      let is = under.each i l.0 x.0 l.1 x.1 in
      let a = act_at lines l.0.acts x.0.steps.items is.steps (worked x.0) s tells.2 in
      record {
        learner = x.0;
        line = l.0;
        doing = a.0;
        there = x.1;
        line_there = l.1;
        named = name_at lines i l.0 l.1;
        begun = tells.0;
        less = tells.1;
        does = subst (λ as_. slice_get as_ (worked x.0) ≡ Some a.0)
            (sym (acts_at lines fit.in_order i l.0 l.1)) a.1;
        step = a.2;
        fits = is;
      }

module _ (lines : List ActLine) where
  -- a mark after one act more
  marked_more : (l : ActLine) (x y : Learner) (mark : Bool) (a : Act) → IsLearner lines l x → IsWorkedOff x y mark
      → HasAct lines l.name (worked x) a
      → ((u : Name) (answered : Bool) → a ≡ act.Join u answered → (mark ≡ true) ↔ Knows lines l.name (worked x) u)
      → (n : ℕ) (u : Name) (answered : Bool) → n < worked y → HasAct lines l.name n (act.Join u answered)
      → (has_index y.marks.items n ≡ true) ↔ Knows lines l.name n u
  marked_more l x y mark a is off does marked n u answered less g = dite (ℕ_discrete n (worked x))
      (λ e. last e)
      (λ differs. let count = worked_more x y mark off in earlier (omega (arith, differs)))
    where
      last : n ≡ worked x → (has_index y.marks.items n ≡ true) ↔ Knows lines l.name n u
      last e = subst (λ k. (has_index y.marks.items k ≡ true) ↔ Knows lines l.name k u) (sym e)
          (same_truth (has_index y.marks.items (worked x)) mark
          (ap (λ row. has_index row (worked x)) off.marks ∙ mark_last x.marks.items mark)
          (marked u answered (some_is a (act.Join u answered)
          (sym does ∙ subst (λ k. HasAct lines l.name k (act.Join u answered)) e g))))

      earlier : n < worked x → (has_index y.marks.items n ≡ true) ↔ Knows lines l.name n u
      earlier few = same_truth (has_index y.marks.items n) (has_index x.marks.items n)
          (ap (λ row. has_index row n) off.marks ∙ mark_earlier x.marks.items mark n few) (is.marked n u answered few g)

  -- what holds of a task after one act more
  pub learner_more : (l : ActLine) (x y : Learner) (mark : Bool) (a : Act) → IsLearner lines l x → x.begun ≡ true
      → worked x < length x.steps.items → IsWorkedOff x y mark → HasAct lines l.name (worked x) a
      → ((u : Name) (answered : Bool) → a ≡ act.Join u answered → (mark ≡ true) ↔ Knows lines l.name (worked x) u)
      → ((i : ℕ) (u : Name) → HasName lines i u
      → (has_index y.knows.items i ≡ true) ↔ Knows lines l.name (suc (worked x)) u)
      → IsLearner lines l y
  learner_more l x y mark a is begun less off does marked knows =
      let count = worked_more x y mark off in
      let same = ap (λ (ss : List Step). length ss) off.steps in
      record {
        steps = subst (λ ss. AreSteps lines l.acts ss) (sym off.steps) is.steps;
        few = omega arith;
        unbegun = λ e. absurd (true≢false (sym (off.begun ∙ begun) ∙ e));
        knowledge = λ _ i u h. subst (λ n. (has_index y.knows.items i ≡ true) ↔ Knows lines l.name n u) (sym count)
            (knows i u h);
        marked = marked_more l x y mark a is off does marked;
      }
