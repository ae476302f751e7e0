-- Where no task can go on, all acts are worked off: an act that can be reached isn't what its task stops at.
use Rattle.std.proofs.Common.{◌≡◌, ℕ, suc, ◌≤◌, Bool, true, false, cond, not, ◌&&◌, ◌||◌, nat_eq, nat_lt}
use Rattle.std.proofs.Common.{List, [], Some, None, length, refl, sym, ap, ◌∙◌, subst, arith, inl, inr}
use Rattle.std.proofs.Common.{lt-ltb, eq-eqb}
use Rattle.std.proofs.Common.{true≢false}
use Rattle.std.specs.Prelude.{slice_get}
use Rattle.std.specs.Option.{option_map_or}
use native.Mathlib.Decide.{ℕ_discrete}
use mathlib.Core.Logic.{dite}
use Rattle.tj_base.specs.ForkOrder.{Name}
use Rattle.tj_body.specs.Points.{IsIn}
use Rattle.tj_mean.specs.ActLines.{AreActLines, CanReach, HasAct, act_count, acts_of, names_of}
use Rattle.tj_mean.specs.ActLines.{root_begins, child_begins, forks, waits, answered}
use Rattle.tj_mean.specs.declared.act.Act.{Act}
use Rattle.tj_mean.specs.declared.act.Act.TheVariants as act
use Rattle.tj_mean.specs.declared.act.ActLine.{ActLine}
use Rattle.tj_mean.proofs.NotedActs.LineIndexes.{acts_at, line_at, name_at, one_index, index_of_acting}
use Rattle.tj_mean.proofs.Lists.Elements.{all_of_in, get_in, get_less, get_there, in_get, some_is}
use Rattle.tj_known.specs.Inner.Learners.{AreDone, AreStuck, IsLearner, IsUnderWay, can_do, can_go_on}
use Rattle.tj_known.specs.Inner.Learners.{can_go_on_at}
use Rattle.tj_known.specs.Inner.Learners.{has_index, is_done, is_done_at, next_of, worked}
use Rattle.tj_known.specs.Inner.Steps.{HasName, IsStep}
use Rattle.tj_known.specs.declared.learner.Learner.{Learner}
use Rattle.tj_known.specs.declared.step.Step.{Step}
use Rattle.tj_known.specs.declared.step.Step.TheVariants as step
use Rattle.tj_known.proofs.StepIndexes.{step_at, steps_count}

module _ (lines : List ActLine) (learners : List Learner) (fit : AreActLines lines)
    (under : IsUnderWay lines learners) where
  -- a task of the lines, with its line and how far it is worked off
  pub record Found (t : Name) : Type 0 where
    pub index : ℕ
    pub line : ActLine
    pub learner : Learner
    pub named : HasName lines index t
    pub line_there : slice_get lines index ≡ Some line
    pub learner_there : slice_get learners index ≡ Some learner
    pub acts_are : acts_of lines t ≡ line.acts
    pub fits : IsLearner lines line learner

  -- what stands at an index
  abbrev pub found_at : (t : Name) (i : ℕ) → HasName lines i t → Found t
  found_at t i h =
      let l = line_at lines i t h in
      let less = get_less lines i l.0 l.1 in
      let many = under.count in
      let x = get_there learners i (omega arith) in record {
        index = i;
        line = l.0;
        learner = x.0;
        named = h;
        line_there = l.1;
        learner_there = x.1;
        acts_are = ap (λ n. acts_of lines n) (sym l.2) ∙ acts_at lines fit.in_order i l.0 l.1;
        fits = under.each i l.0 x.0 l.1 x.1;
      }

  -- each task is found
  pub find : (t : Name) → IsIn t (names_of lines) → Found t
  find t is = let p = get_in (names_of lines) t is in found_at t p.0 p.1

  -- and so is one that does an act
  pub find_acting : (t : Name) (n : ℕ) (a : Act) → HasAct lines t n a → Found t
  find_acting t n a h = let p = index_of_acting lines t n a h in found_at t p.0 p.1

  -- the step of an act
  pub step_of : (t : Name) (f : Found t) (n : ℕ) (a : Act) → HasAct lines t n a
      → (s : Step) × (slice_get f.learner.steps.items n ≡ Some s) × IsStep lines a s
  step_of t f n a h = step_at lines f.line.acts f.learner.steps.items f.fits.steps n a
      (subst (λ l. slice_get l n ≡ Some a) f.acts_are h)

  -- the task has begun, and this many of its acts are worked off
  pub record IsWorked (t : Name) (n : ℕ) (f : Found t) : Type 0 where
    pub begun : f.learner.begun ≡ true
    pub far : n ≤ worked f.learner

  -- two that are found at one index are the same
  one_learner : (i : ℕ) (x y : Learner) → slice_get learners i ≡ Some x → slice_get learners i ≡ Some y → x ≡ y
  one_learner i x y a b = some_is x y (sym a ∙ b)

  module _ (stuck : AreStuck learners) where
    -- no task is at an act that it can do
    stops : (i : ℕ) (x : Learner) (s : Step) → slice_get learners i ≡ Some x → x.begun ≡ true
        → slice_get x.steps.items (worked x) ≡ Some s → can_do learners x (Some s) ≡ true → ⊥
    stops i x s there begun next can =
        let less = get_less x.steps.items (worked x) s next in
        let test : (x.begun && nat_lt (worked x) (length x.steps.items)) ≡ true =
        ap (λ b. b && nat_lt (worked x) (length x.steps.items)) begun
        ∙ lt-ltb (worked x) (length x.steps.items) less in
        let is_next : next_of x ≡ Some s =
        ap (λ b. cond b (slice_get x.steps.items (worked x)) None) test ∙ next in
        let goes : can_go_on_at learners i ≡ true =
        ap (λ o. option_map_or (can_go_on learners) o false) there
        ∙ ap (λ o. can_do learners x o) is_next ∙ can in
        true≢false (sym goes ∙ stuck i)

    -- so an act that its task can do is worked off
    goes_past : (t : Name) (f : Found t) (n : ℕ) (a : Act) → HasAct lines t n a → IsWorked t n f
        → ((s : Step) → IsStep lines a s → can_do learners f.learner (Some s) ≡ true) → IsWorked t (suc n) f
    goes_past t f n a h w can =
        let s = step_of t f n a h in
        record {
          begun = w.begun;
          far = dite (ℕ_discrete n (worked f.learner))
              (λ e. absurd (stops f.index f.learner s.0 f.learner_there w.begun
              (subst (λ k. slice_get f.learner.steps.items k ≡ Some s.0) e s.1) (can s.0 s.2)))
              (λ differs. let far = w.far in omega (arith, differs));
        }

    can_fork : (x : Learner) (c : Name) (s : Step) → IsStep lines (act.Fork c) s → can_do learners x (Some s) ≡ true
    can_fork x c (step.Fork i) is = refl
    can_fork x c (step.Join i b) is = absurd is

    can_wait : (x : Learner) (u : Name) (s : Step) → IsStep lines (act.Join u false) s
        → can_do learners x (Some s) ≡ true
    can_wait x u (step.Fork i) is = absurd is
    can_wait x u (step.Join i b) is =
        subst (λ d. (not (has_index x.knows.items i && d) || is_done_at learners i) ≡ true) is.1
        (free (has_index x.knows.items i) (is_done_at learners i))
      where
        free : (b d : Bool) → (not (b && false) || d) ≡ true
        free true d = refl
        free false d = refl

    can_join : (x : Learner) (u : Name) (s : Step) (f : Found u) → IsStep lines (act.Join u true) s
        → is_done f.learner ≡ true → can_do learners x (Some s) ≡ true
    can_join x u (step.Fork i) f is done = absurd is
    can_join x u (step.Join i b) f is done = told (not (has_index x.knows.items i && b)) (is_done_at learners i)
        (ap (λ o. option_map_or is_done o false) at_index ∙ done) where
          told : (b d : Bool) → d ≡ true → (b || d) ≡ true
          told true d e = refl
          told false d e = e

          at_index : slice_get learners i ≡ Some f.learner
          at_index = subst (λ k. slice_get learners k ≡ Some f.learner)
              (one_index lines fit.in_order u f.index i f.named is.0) f.learner_there

    -- a task whose last act is worked off is done
    at_end : (t : Name) (f : Found t) → IsWorked t (act_count lines t) f → is_done f.learner ≡ true
    at_end t f w =
        let far = w.far in
        let few = f.fits.few in
        let many = steps_count lines f.line.acts f.learner.steps.items f.fits.steps in
        let acts = ap (λ (l : List Act). length l) f.acts_are in
        ap (λ b. b && nat_eq (worked f.learner) (length f.learner.steps.items)) w.begun
        ∙ eq-eqb (worked f.learner) (length f.learner.steps.items) (omega arith)

    -- what can be reached is worked off
    reached_worked : (t : Name) (n : ℕ) → CanReach lines t n → (f : Found t) → IsWorked t n f
    reached_worked _ _ root_begins f = record {
      begun = (under.begun f.index [] f.learner f.named f.learner_there).1 (inl refl);
      far = omega arith;
    }
    reached_worked _ _ (child_begins t c n h r) f =
        let p = find_acting t n (act.Fork c) h in
        let w = goes_past t p n (act.Fork c) h (reached_worked t n r p) (λ s is. can_fork p.learner c s is) in
        let far = w.far in record {
          begun = (under.begun f.index c f.learner f.named f.learner_there).1 (inr (record {
            parent = p.learner;
            index = p.index;
            name = t;
            earlier = n;
            parent_there = p.learner_there;
            named = p.named;
            forks = h;
            is_worked = omega arith;
          }));
          far = omega arith;
        }
    reached_worked _ _ (forks t c n h r) f =
        goes_past t f n (act.Fork c) h (reached_worked t n r f) (λ s is. can_fork f.learner c s is)
    reached_worked _ _ (waits t u n h r) f =
        goes_past t f n (act.Join u false) h (reached_worked t n r f) (λ s is. can_wait f.learner u s is)
    reached_worked _ _ (answered t u n h r all) f =
        let j = find u (fit.joined_there t u n true h) in
        let w = reached_worked u _ all j in
        goes_past t f n (act.Join u true) h (reached_worked t n r f)
        (λ s is. can_join f.learner u s j is (at_end u j w))

    -- all acts are worked off
    pub all_done : AreDone learners
    all_done = all_of_in (λ x. is_done x ≡ true) learners (λ x is. done_one x (get_in learners x is)) where
      done_one : (x : Learner) → (i : ℕ) × (slice_get learners i ≡ Some x) → is_done x ≡ true
      done_one x at =
          let less = get_less learners at.0 x at.1 in
          let many = under.count in
          let l = get_there lines at.0 (omega arith) in
          let named = name_at lines at.0 l.0 l.1 in
          let f = found_at l.0.name at.0 named in
          let done = at_end l.0.name f (reached_worked l.0.name (act_count lines l.0.name)
          (fit.reached l.0.name (in_get (names_of lines) at.0 l.0.name named)) f) in
          subst (λ y. is_done y ≡ true) (one_learner at.0 f.learner x f.learner_there at.1) done
