-- The tasks after a fork: the parent knows the child, and the child begins with what the parent knew before.
use Rattle.std.proofs.Common.{◌≡◌, ℕ, suc, ◌<◌, ◌↔◌, ◌⊎◌, inl, inr, Bool, true, false, List, []}
use Rattle.std.proofs.Common.{Some, length, set, refl, sym, ap, ◌∙◌, subst, arith}
use Rattle.std.proofs.Common.{length-set, ◌||◌, nat_eq}
use Rattle.std.proofs.lemmas.Bool.{ne_eqb}
use Rattle.std.proofs.lemmas.Bool.Decides.{Decides-eqb}
use Rattle.std.specs.Prelude.{slice_get}
use native.Mathlib.Decide.{ℕ_discrete}
use mathlib.Core.Logic.{dite}
use Rattle.tj_base.specs.ForkOrder.{Name}
use Rattle.tj_mean.specs.ActLines.{AreActLines, HasAct}
use Rattle.tj_mean.specs.declared.act.Act.{Act}
use Rattle.tj_mean.specs.declared.act.Act.TheVariants as act
use Rattle.tj_mean.specs.declared.act.ActLine.{ActLine}
use Rattle.tj_base.proofs.ChildNames.{child_some}
use Rattle.tj_mean.proofs.Lists.Elements.{get_less, get_there, some_is}
use Rattle.tj_mean.proofs.NotedActs.LineIndexes.{line_at, name_at, one_index}
use Rattle.tj_known.specs.Knowledge.{Knows}
use Rattle.tj_known.specs.Inner.Learners.{IsForked, IsLearner, IsUnderWay, IsWorkedOff, has_index, worked}
use Rattle.tj_known.specs.Inner.Steps.{AreSteps, HasName, IsStep}
use Rattle.tj_known.specs.declared.learner.Learner.{Learner}
use Rattle.tj_known.specs.declared.step.Step.TheVariants as step
use Rattle.tj_known.proofs.ActMore.{AtNext, learner_more, same_truth, worked_more}
use Rattle.tj_known.proofs.Changes.{OthersStay, begun_still, child_differs, one_name}
use Rattle.tj_known.proofs.KnowledgeSteps.{after_fork, at_begin, one_fork}
use Rattle.tj_known.proofs.Rows.{get_other, get_put}

-- the child of a step is the child of its act
forked_by : (lines : List ActLine) (c : ℕ) (a : Act) → IsStep lines a (step.Fork c)
    → (t : Name) × HasName lines c t × (a ≡ act.Fork t)
forked_by lines c (act.Fork t) is = (t, is, refl)
forked_by lines c (act.Join u b) is = absurd is

-- the child of a fork
abbrev other_of : Name → Act → Name
other_of t (act.Fork c) = c
other_of t (act.Join u answered) = t

module _ (lines : List ActLine) (ls : List Learner) (fit : AreActLines lines) (under : IsUnderWay lines ls) (i c : ℕ)
    (n : AtNext lines ls fit under i (step.Fork c)) where
  -- what is known of the child of a fork
  pub record IsChildOf (t : Name) : Type 0 where
    pub named : HasName lines c t
    pub forks : HasAct lines n.line.name (worked n.learner) (act.Fork t)
    pub elsewhere : c ≡ i → ⊥

  -- the child of the next act
  child_of : (t : Name) × IsChildOf t
  child_of =
      let f = forked_by lines c n.doing n.step in
      let forks = subst (λ a. HasAct lines n.line.name (worked n.learner) a) f.2 n.does in
      let own = fit.own_children n.line.name f.0 (worked n.learner) forks in (
        f.0,
        record {
          named = f.1;
          forks = forks;
          elsewhere = λ e. child_differs n.line.name own.0
              (sym own.1 ∙ one_name lines i f.0 n.line.name (subst (λ k. HasName lines k f.0) e f.1) n.named);
        },
      )

  -- the child isn't the task itself
  pub child_elsewhere : c ≡ i → ⊥
  child_elsewhere e = child_of.1.elsewhere e

  -- the child has an index
  pub child_there : (z : Learner) × (slice_get ls c ≡ Some z)
  child_there =
      let l = line_at lines c child_of.0 child_of.1.named in
      let less = get_less lines c l.0 l.1 in
      let many = under.count in
      get_there ls c (omega arith)

  module _ (z : Learner) (child_is : slice_get ls c ≡ Some z) where
    -- the child hadn't begun
    not_begun : (b : Bool) → z.begun ≡ b → z.begun ≡ false
    not_begun false e = e
    not_begun true e = absurd (by ((under.begun c child_of.0 z child_of.1.named child_is).0 e)) where
      twice : (f : IsForked ls lines child_of.0) → ⊥
      twice f =
          let one = one_fork lines fit n.line.name f.name child_of.0 (worked n.learner) f.earlier child_of.1.forks
          f.forks in
          let at : f.index ≡ i = one_index lines fit.in_order n.line.name f.index i
          (subst (λ s. HasName lines f.index s) one.0 f.named) n.named in
          let same : f.parent ≡ n.learner =
          some_is f.parent n.learner (sym f.parent_there ∙ (ap (slice_get ls) at ∙ n.there)) in
          let far = ap (λ x. worked x) same in
          let was = f.is_worked in
          let when = one.1 in omega arith

      by : (child_of.0 ≡ []) ⊎ IsForked ls lines child_of.0 → ⊥
      by (inl e) =
          let own = fit.own_children n.line.name child_of.0 (worked n.learner) child_of.1.forks in
          child_some n.line.name own.0 (sym own.1 ∙ e)
      by (inr f) = twice f

    module _ (z2 y : Learner) (steps : z2.steps.items ≡ z.steps.items) (unmarked : z2.marks.items ≡ z.marks.items)
        (begins : z2.begun ≡ true) (inherits : z2.knows.items ≡ n.learner.knows.items)
        (off : IsWorkedOff n.learner y false) (row : (k : ℕ)
        → has_index y.knows.items k ≡ (nat_eq k c || has_index n.learner.knows.items k)) where
      abbrev after : List Learner
      after = set (set ls c z2) i y

      less_c : c < length ls
      less_c = get_less ls c z child_is

      less_i : i < length (set ls c z2)
      less_i = let a = get_less ls i n.learner n.there in let b = length-set ls c z2 in omega arith

      at_task : slice_get after i ≡ Some y
      at_task = get_put (set ls c z2) i y less_i

      at_child : slice_get after c ≡ Some z2
      at_child = get_other (set ls c z2) i c y child_elsewhere ∙ get_put ls c z2 less_c

      at_other : (k : ℕ) → (k ≡ i → ⊥) → (k ≡ c → ⊥) → slice_get after k ≡ slice_get ls k
      at_other k one two = get_other (set ls c z2) i k y one ∙ get_other ls c k z2 two

      marks_are : worked z2 ≡ worked z
      marks_are = ap (λ (l : List Bool). length l) unmarked

      others : OthersStay lines ls after fit under i
      others = record {
        count = length-set (set ls c z2) i y ∙ length-set ls c z2;
        later = λ k x differs at. dite (ℕ_discrete k c)
            (λ e. (z2, ap (slice_get after) e ∙ at_child, marks_are ∙ ap (λ w. worked w) (old k x e at)))
            (λ apart. (x, at_other k differs apart ∙ at, refl));
        earlier = λ k x differs at. dite (ℕ_discrete k c)
            (λ e. (z, ap (slice_get ls) e ∙ child_is, ap (λ w. worked w) (new k x e at) ∙ marks_are))
            (λ apart. (x, sym (at_other k differs apart) ∙ at, refl));
      } where
        old : (k : ℕ) (x : Learner) → k ≡ c → slice_get ls k ≡ Some x → z ≡ x
        old k x e at = some_is z x (sym child_is ∙ (ap (slice_get ls) (sym e) ∙ at))

        new : (k : ℕ) (x : Learner) → k ≡ c → slice_get after k ≡ Some x → x ≡ z2
        new k x e at = some_is x z2 (sym at ∙ (ap (slice_get after) e ∙ at_child))

      more : worked y ≡ suc (worked n.learner)
      more = worked_more n.learner y false off

      -- what the parent knows
      parent_knows : (k : ℕ) (u : Name) → HasName lines k u
          → (has_index y.knows.items k ≡ true) ↔ Knows lines n.line.name (suc (worked n.learner)) u
      parent_knows k u h = dite (ℕ_discrete k c) (λ e. the_child e) (λ apart. other apart) where
        forked : Knows lines n.line.name (suc (worked n.learner)) u
            ↔ (Knows lines n.line.name (worked n.learner) u ⊎ (u ≡ child_of.0))
        forked = after_fork lines n.line.name child_of.0 u (worked n.learner) child_of.1.forks

        known : (has_index n.learner.knows.items k ≡ true) ↔ Knows lines n.line.name (worked n.learner) u
        known = n.fits.knowledge n.begun k u h

        the_child : k ≡ c → (has_index y.knows.items k ≡ true) ↔ Knows lines n.line.name (suc (worked n.learner)) u
        the_child e = (
          λ _. forked.1 (inr (one_name lines c u child_of.0 (subst (λ j. HasName lines j u) e h) child_of.1.named)),
          λ _. row k ∙ ap (λ b. b || has_index n.learner.knows.items k) ((Decides-eqb k c).1 e),
        )

        differs : (k ≡ c → ⊥) → u ≡ child_of.0 → ⊥
        differs apart e = apart (one_index lines fit.in_order child_of.0 k c
            (subst (λ w. HasName lines k w) e h) child_of.1.named)

        was : (k ≡ c → ⊥) → Knows lines n.line.name (worked n.learner) u ⊎ (u ≡ child_of.0)
            → Knows lines n.line.name (worked n.learner) u
        was apart (inl knew) = knew
        was apart (inr e) = absurd (differs apart e)

        other : (k ≡ c → ⊥)
            → (has_index y.knows.items k ≡ true) ↔ Knows lines n.line.name (suc (worked n.learner)) u
        other apart = same_truth (has_index y.knows.items k) (has_index n.learner.knows.items k)
            (row k ∙ ap (λ b. b || has_index n.learner.knows.items k) (ne_eqb k c apart))
            (λ is. forked.1 (inl (known.0 is)), λ knows. known.1 (was apart (forked.0 knows)))

      -- the parent
      parent_is : IsLearner lines n.line y
      parent_is = learner_more lines n.line n.learner y false n.doing n.fits n.begun n.less off n.does
          (λ u is e. absurd (no_join n.doing n.step u is e)) parent_knows
        where
          no_join : (a : Act) → IsStep lines a (step.Fork c) → (u : Name) (is : Bool) → a ≡ act.Join u is → ⊥
          no_join (act.Fork t) h u is e = absurd (cc)
          no_join (act.Join v b) h u is e = absurd h

      -- the child
      child_fits : (l : ActLine) → slice_get lines c ≡ Some l → IsLearner lines l z2
      child_fits l at =
          let is = under.each c l z at child_is in
          let none : z2.marks.items ≡ [] = unmarked ∙ is.unbegun (not_begun z.begun refl) in
          let zero_is : worked z2 ≡ 0 = ap (λ (r : List Bool). length r) none in
          let name_is : l.name ≡ child_of.0 = one_name lines c l.name child_of.0 (name_of l at) child_of.1.named in
          record {
            steps = subst (λ ss. AreSteps lines l.acts ss) (sym steps) is.steps;
            few = omega arith;
            unbegun = λ _. none;
            knowledge = λ _ k u h. knows k u h l.name name_is (worked z2) zero_is;
            marked = λ m u answered few g. absurd (omega arith);
          }
        where
          name_of : (l : ActLine) → slice_get lines c ≡ Some l → HasName lines c l.name
          name_of l at = name_at lines c l at

          knows : (k : ℕ) (u : Name) → HasName lines k u → (t : Name) → t ≡ child_of.0 → (m : ℕ) → m ≡ 0
              → (has_index z2.knows.items k ≡ true) ↔ Knows lines t m u
          knows k u h t et m em =
              let begin = at_begin lines fit n.line.name child_of.0 u (worked n.learner) child_of.1.forks in
              let known = n.fits.knowledge n.begun k u h in
              subst (λ s. (has_index z2.knows.items k ≡ true) ↔ Knows lines s m u) (sym et)
              (subst (λ j. (has_index z2.knows.items k ≡ true) ↔ Knows lines child_of.0 j u) (sym em)
              (same_truth (has_index z2.knows.items k) (has_index n.learner.knows.items k)
              (ap (λ r. has_index r k) inherits) (λ is. begin.1 (known.0 is), λ k. known.1 (begin.0 k))))

      -- after a fork
      pub after_fork_state : IsUnderWay lines after
      after_fork_state = record {
        count = others.count ∙ under.count;
        each = λ k l w line_there at. dite (ℕ_discrete k i) (λ e. task k l w e line_there at)
            (λ one. dite (ℕ_discrete k c) (λ e. born k l w e line_there at)
            (λ two. under.each k l w line_there (sym (at_other k one two) ∙ at)));
        begun = λ k t w named at. dite (ℕ_discrete k i) (λ e. still k t n.learner w (λ f. child_elsewhere (sym f ∙ e))
            named (ap (slice_get ls) e ∙ n.there) (ap (λ v. v.begun) (is_task k w e at) ∙ off.begun))
            (λ one. dite (ℕ_discrete k c) (λ e. now k t w e named at)
            (λ two. still k t w w two named (sym (at_other k one two) ∙ at) refl));
      } where
        is_task : (k : ℕ) (w : Learner) → k ≡ i → slice_get after k ≡ Some w → w ≡ y
        is_task k w e at = some_is w y (sym at ∙ (ap (slice_get after) e ∙ at_task))

        is_child : (k : ℕ) (w : Learner) → k ≡ c → slice_get after k ≡ Some w → w ≡ z2
        is_child k w e at = some_is w z2 (sym at ∙ (ap (slice_get after) e ∙ at_child))

        task : (k : ℕ) (l : ActLine) (w : Learner) → k ≡ i → slice_get lines k ≡ Some l → slice_get after k ≡ Some w
            → IsLearner lines l w
        task k l w e line_there at =
            let same : n.line ≡ l = some_is n.line l (sym n.line_there ∙ (ap (slice_get lines) (sym e) ∙ line_there)) in
            subst (λ v. IsLearner lines v w) same
            (subst (λ v. IsLearner lines n.line v) (sym (is_task k w e at)) parent_is)

        born : (k : ℕ) (l : ActLine) (w : Learner) → k ≡ c → slice_get lines k ≡ Some l → slice_get after k ≡ Some w
            → IsLearner lines l w
        born k l w e line_there at = subst (λ v. IsLearner lines l v) (sym (is_child k w e at))
            (child_fits l (ap (slice_get lines) (sym e) ∙ line_there))

        now : (k : ℕ) (t : Name) (w : Learner) → k ≡ c → HasName lines k t → slice_get after k ≡ Some w
            → (w.begun ≡ true) ↔ ((t ≡ []) ⊎ IsForked after lines t)
        now k t w e named at = (
          λ _. inr (record {
            parent = y;
            index = i;
            name = n.line.name;
            earlier = worked n.learner;
            parent_there = at_task;
            named = n.named;
            forks = subst (λ s. HasAct lines n.line.name (worked n.learner) (act.Fork s))
                (one_name lines c child_of.0 t child_of.1.named (subst (λ j. HasName lines j t) e named))
                child_of.1.forks;
            is_worked = let m = more in omega arith;
          }),
          λ _. ap (λ v. v.begun) (is_child k w e at) ∙ begins,
        )

        no_fork : (k : ℕ) (t s : Name) → (k ≡ c → ⊥) → HasName lines k t → HasName lines i s
            → HasAct lines s (worked n.learner) (act.Fork t) → ⊥
        no_fork k t s apart named at forks =
            let forks2 = subst (λ r. HasAct lines r (worked n.learner) (act.Fork t))
            (one_name lines i s n.line.name at n.named) forks in
            let same : t ≡ child_of.0 = ap (other_of child_of.0) (some_is (act.Fork t) (act.Fork child_of.0)
            (sym forks2 ∙ child_of.1.forks)) in
            apart (one_index lines fit.in_order child_of.0 k c (subst (λ r. HasName lines k r) same named)
            child_of.1.named)

        still : (k : ℕ) (t : Name) (v w : Learner) → (k ≡ c → ⊥) → HasName lines k t → slice_get ls k ≡ Some v
            → w.begun ≡ v.begun → (w.begun ≡ true) ↔ ((t ≡ []) ⊎ IsForked after lines t)
        still k t v w apart named at same = begun_still lines ls after fit under i n.learner y n.there at_task more
            others t
            v.begun w.begun same (λ s h g. no_fork k t s apart named h g) (under.begun k t v named at)
