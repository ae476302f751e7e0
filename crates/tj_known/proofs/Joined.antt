-- The tasks after a join: one that tells nothing, and one of a known task, which tells what that one knows at its end.
use Rattle.std.proofs.Common.{◌≡◌, ℕ, suc, ◌↔◌, ◌⊎◌, inl, inr, Bool, true, false, ◌&&◌, ◌||◌, nat_eq, List, Some}
use Rattle.std.proofs.Common.{length, set, refl, sym, ap, ◌∙◌, subst, arith}
use Rattle.std.specs.Prelude.{slice_get}
use Rattle.std.proofs.lemmas.Bool.{eqb-true}
use Rattle.tj_base.specs.ForkOrder.{Name}
use Rattle.tj_mean.specs.ActLines.{AreActLines, HasAct, act_count}
use Rattle.tj_mean.specs.declared.act.Act.{Act}
use Rattle.tj_mean.specs.declared.act.Act.TheVariants as act
use Rattle.tj_mean.specs.declared.act.ActLine.{ActLine}
use Rattle.tj_mean.proofs.Lists.Elements.{get_less, get_there}
use Rattle.tj_mean.proofs.NotedActs.LineIndexes.{acts_at, name_at}
use Rattle.tj_known.specs.Knowledge.{Knows}
use Rattle.tj_known.specs.Inner.Learners.{IsUnderWay, IsWorkedOff, has_index, is_done, worked}
use Rattle.tj_known.specs.Inner.Steps.{HasName, IsStep}
use Rattle.tj_known.specs.declared.learner.Learner.{Learner}
use Rattle.tj_known.specs.declared.step.Step.TheVariants as step
use Rattle.tj_known.proofs.ActMore.{AtNext, same_truth}
use Rattle.tj_known.proofs.Changes.{after_join_state, one_name}
use Rattle.tj_known.proofs.KnowledgeSteps.{after_join, after_told}
use Rattle.tj_known.proofs.StepIndexes.{steps_count}

-- the joined task of a step is that of its act
joined_by : (lines : List ActLine) (j : ℕ) (answered : Bool) (a : Act) → IsStep lines a (step.Join j answered)
    → (u : Name) × HasName lines j u × (a ≡ act.Join u answered)
joined_by lines j answered (act.Fork t) is = absurd is
joined_by lines j answered (act.Join u b) is = (u, is.0, ap (act.Join u) is.1)

-- the joined task of a join
abbrev joined_of : Name → Act → Name
joined_of t (act.Fork c) = t
joined_of t (act.Join u answered) = u

-- what is done has begun, and all its steps are worked off
pub done_tells : (x : Learner) → is_done x ≡ true → (x.begun ≡ true) × (worked x ≡ length x.steps.items)
done_tells x done = by x.begun (nat_eq (worked x) (length x.steps.items)) refl refl done where
  by : (a b : Bool) → x.begun ≡ a → nat_eq (worked x) (length x.steps.items) ≡ b → (a && b) ≡ true
      → (x.begun ≡ true) × (worked x ≡ length x.steps.items)
  by true true begun equal e = (begun, eqb-true (worked x) (length x.steps.items) equal)
  by true false begun equal e = absurd (cc)
  by false b begun equal e = absurd (cc)

-- either of two
pub either : (b c : Bool) → (b || c) ≡ true → (b ≡ true) ⊎ (c ≡ true)
either true c e = inl refl
either false c e = inr e

pub or_left : (b c : Bool) → b ≡ true → (b || c) ≡ true
or_left true c e = refl
or_left false c e = absurd (cc)

pub or_right : (b c : Bool) → c ≡ true → (b || c) ≡ true
or_right true c e = refl
or_right false c e = e

-- not both
pub and_false : (b c : Bool) → (b && c) ≡ false → c ≡ true → b ≡ true → ⊥
and_false true true e one two = absurd (cc)
and_false true false e one two = absurd (cc)
and_false false c e one two = absurd (cc)

module _ (lines : List ActLine) (ls : List Learner) (fit : AreActLines lines) (under : IsUnderWay lines ls)
    (i j : ℕ) where
  module _ (answered : Bool) (n : AtNext lines ls fit under i (step.Join j answered)) where
    -- the joined task of the next act
    pub joined : (u : Name) × HasName lines j u × (n.doing ≡ act.Join u answered)
    joined = joined_by lines j answered n.doing n.step

    -- the next act is the join of that one
    does_join : HasAct lines n.line.name (worked n.learner) (act.Join joined.0 answered)
    does_join = subst (λ a. HasAct lines n.line.name (worked n.learner) a) joined.2 n.does

    -- what the row has of it is whether it is known
    known_joined : (has_index n.learner.knows.items j ≡ true)
        ↔ Knows lines n.line.name (worked n.learner) joined.0
    known_joined = n.fits.knowledge n.begun j joined.0 joined.1

    -- so it is whatever the act's task is called
    known_called : (u : Name) (is : Bool) → n.doing ≡ act.Join u is
        → (has_index n.learner.knows.items j ≡ true) ↔ Knows lines n.line.name (worked n.learner) u
    known_called u is e = subst (λ v. (has_index n.learner.knows.items j ≡ true)
        ↔ Knows lines n.line.name (worked n.learner) v) (ap (joined_of u) (sym joined.2 ∙ e)) known_joined

    -- after a join that tells nothing
    pub join_state : (y : Learner) → (has_index n.learner.knows.items j && answered) ≡ false
        → IsWorkedOff n.learner y (has_index n.learner.knows.items j) → y.knows.items ≡ n.learner.knows.items
        → IsUnderWay lines (set ls i y)
    join_state y plain off row = after_join_state lines ls fit under i y j answered n
        (has_index n.learner.knows.items j) off known_called knows
      where
        knows : (k : ℕ) (v : Name) → HasName lines k v
            → (has_index y.knows.items k ≡ true) ↔ Knows lines n.line.name (suc (worked n.learner)) v
        knows k v h =
            let same = after_join lines n.line.name joined.0 v (worked n.learner) answered does_join
            (λ e knew. and_false (has_index n.learner.knows.items j) answered plain e (known_joined.1 knew)) in
            let known = n.fits.knowledge n.begun k v h in
            same_truth (has_index y.knows.items k) (has_index n.learner.knows.items k)
            (ap (λ r. has_index r k) row) (λ is. same.1 (known.0 is), λ knew. known.1 (same.0 knew))

  module _ (n : AtNext lines ls fit under i (step.Join j true)) where
    -- what a task knows whose acts are all worked off is what it knows after its last act
    at_its_end : (z : Learner) → slice_get ls j ≡ Some z → is_done z ≡ true → (k : ℕ) (v : Name) → HasName lines k v
        → (has_index z.knows.items k ≡ true)
        ↔ Knows lines (joined true n).0 (act_count lines (joined true n).0) v
    at_its_end z there done k v h =
        let less = get_less ls j z there in
        let many = under.count in
        let l = get_there lines j (omega arith) in
        let is = under.each j l.0 z l.1 there in
        let tells = done_tells z done in
        let same : l.0.name ≡ (joined true n).0 =
        one_name lines j l.0.name (joined true n).0 (name_at lines j l.0 l.1) (joined true n).1 in
        let count : worked z ≡ act_count lines l.0.name =
        tells.1 ∙ (steps_count lines l.0.acts z.steps.items is.steps
        ∙ sym (ap (λ (as_ : List Act). length as_) (acts_at lines fit.in_order j l.0 l.1))) in
        subst (λ w. (has_index z.knows.items k ≡ true) ↔ Knows lines w (act_count lines w) v) same
        (subst (λ m. (has_index z.knows.items k ≡ true) ↔ Knows lines l.0.name m v) count
        (is.knowledge tells.0 k v h))

    -- after a join of a known task, which tells what that one knows at its end
    pub learn_state : (y z : Learner) → slice_get ls j ≡ Some z → is_done z ≡ true
        → has_index n.learner.knows.items j ≡ true → IsWorkedOff n.learner y true
        → ((k : ℕ) → has_index y.knows.items k ≡ (has_index n.learner.knows.items k || has_index z.knows.items k))
        → IsUnderWay lines (set ls i y)
    learn_state y z there done knew off row = after_join_state lines ls fit under i y j true n true off
        (λ u is e. same_truth true (has_index n.learner.knows.items j) (sym knew) (known_called true n u is e)) knows
      where
        knows : (k : ℕ) (v : Name) → HasName lines k v
            → (has_index y.knows.items k ≡ true) ↔ Knows lines n.line.name (suc (worked n.learner)) v
        knows k v h =
            let told = after_told lines n.line.name (joined true n).0 v (worked n.learner) (does_join true n)
            ((known_joined true n).0 knew) in
            let mine = n.fits.knowledge n.begun k v h in
            let its = at_its_end z there done k v h in (
              λ is. told.1 (out mine its (either (has_index n.learner.knows.items k) (has_index z.knows.items k)
                  (sym (row k) ∙ is))),
              λ knows. row k ∙ back mine its (told.0 knows),
            )
          where
            out : ((has_index n.learner.knows.items k ≡ true) ↔ Knows lines n.line.name (worked n.learner) v)
                → ((has_index z.knows.items k ≡ true)
                ↔ Knows lines (joined true n).0 (act_count lines (joined true n).0) v)
                → (has_index n.learner.knows.items k ≡ true) ⊎ (has_index z.knows.items k ≡ true)
                → Knows lines n.line.name (worked n.learner) v
                ⊎ Knows lines (joined true n).0 (act_count lines (joined true n).0) v
            out mine its (inl e) = inl (mine.0 e)
            out mine its (inr e) = inr (its.0 e)

            back : ((has_index n.learner.knows.items k ≡ true) ↔ Knows lines n.line.name (worked n.learner) v)
                → ((has_index z.knows.items k ≡ true)
                ↔ Knows lines (joined true n).0 (act_count lines (joined true n).0) v)
                → Knows lines n.line.name (worked n.learner) v
                ⊎ Knows lines (joined true n).0 (act_count lines (joined true n).0) v
                → (has_index n.learner.knows.items k || has_index z.knows.items k) ≡ true
            back mine its (inl knew) = or_left (has_index n.learner.knows.items k) (has_index z.knows.items k)
                (mine.1 knew)
            back mine its (inr knew) = or_right (has_index n.learner.knows.items k) (has_index z.knows.items k)
                (its.1 knew)
