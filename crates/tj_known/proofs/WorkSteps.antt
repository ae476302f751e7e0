-- The steps of the work, as the code takes them: what an act makes of all tasks, and what a sweep does.
use Rattle.std.proofs.Common.{◌≡◌, ℕ, zero, suc, ◌+◌, ◌<◌, ◌≤◌, Bool, true, false, ◌&&◌, ◌||◌, List, [], ◌∷◌, Some}
use Rattle.std.proofs.Common.{None, nat_eq}
use Rattle.std.proofs.Common.{length, set, get_or, refl, sym, ap, ◌∙◌, subst, arith, true≢false, length-set}
use Rattle.std.proofs.lemmas.Option.{slice_get_read}
use Rattle.std.specs.Prelude.{slice_get}
use Rattle.std.specs.Option.{option_map_or}
use native.Mathlib.Decide.{ℕ_discrete}
use mathlib.Core.Logic.{dite}
use Rattle.tj_mean.specs.ActLines.{AreActLines}
use Rattle.tj_mean.specs.declared.act.ActLine.{ActLine}
use Rattle.tj_mean.proofs.Lists.Elements.{get_less, some_is}
use Rattle.tj_mean.proofs.NotedActs.LineIndexes.{line_at}
use Rattle.tj_known.specs.Inner.Learners.{AreDone, IsAdvanced, IsTried, IsSweep, IsUnderWay, IsWorkedOff}
use Rattle.tj_known.specs.Inner.Learners.{NextAt, acts_left, can_go_on_at, has_index, is_done, knows_at}
use Rattle.tj_known.specs.Inner.Learners.{next_of}
use Rattle.tj_known.specs.Inner.Monitors.{IsAtWork}
use Rattle.tj_known.specs.declared.learner.Learner.{Learner}
use Rattle.tj_known.specs.declared.work.Monitor.{Monitor}
use Rattle.tj_known.specs.declared.step.Step.{Step}
use Rattle.tj_known.specs.declared.step.Step.TheVariants as step
use Rattle.std.proofs.Common.{◌++◌, take}
use Rattle.tj_known.specs.KnownLines.{AreTold, joins_in}
use Rattle.tj_known.specs.declared.known.KnownLine.{KnownLine}
use Rattle.tj_known.specs.Inner.Learners.{IsLearner}
use Rattle.tj_known.specs.Inner.Marks.{marked_lines}
use Rattle.tj_known.proofs.ToldJoins.{marks_count, told_more}
use Rattle.tj_known.proofs.ActMore.{AtNext, at_next}
use Rattle.tj_known.proofs.ActsLeft.{can_at, can_join_known, can_join_plain, done_at, fell, left_less, left_same}
use Rattle.tj_known.proofs.ActsLeft.{next_at, next_is, stuck_all}
use Rattle.tj_known.proofs.Forked.{after_fork_state, child_elsewhere, child_there}
use Rattle.tj_known.proofs.Joined.{join_state, joined, learn_state}
use Rattle.tj_known.proofs.Rows.{get_other}

-- what is read at an index stands there
read_at : {A : Type 0} (xs : List A) (i : ℕ) (x : A) → i < length xs → x ≡ get_or xs i x → slice_get xs i ≡ Some x
read_at xs i x less at = slice_get_read xs (length xs) i x refl less at

-- two elements are changed in either order
set_swap : {A : Type 0} (xs : List A) (i c : ℕ) (y z : A) → (i ≡ c → ⊥) → set (set xs c z) i y ≡ set (set xs i y) c z
set_swap [] i c y z differs = refl
set_swap (x ∷ xs) zero zero y z differs = absurd (differs refl)
set_swap (x ∷ xs) zero (suc c) y z differs = refl
set_swap (x ∷ xs) (suc i) zero y z differs = refl
set_swap (x ∷ xs) (suc i) (suc c) y z differs = ap (λ l. x ∷ l) (set_swap xs i c y z (λ e. differs (ap suc e)))

-- what a row of the task with an index has
knows_of : (ls : List Learner) (i j : ℕ) (x : Learner) → slice_get ls i ≡ Some x
    → knows_at ls i j ≡ has_index x.knows.items j
knows_of ls i j x there = ap (λ o. option_map_or (λ (y : Learner). has_index y.knows.items j) o false) there

module _ (lines : List ActLine) (ls : List Learner) (fit : AreActLines lines) (under : IsUnderWay lines ls)
    (i : ℕ) where
  module _ (s : Step) (next : NextAt ls i s) where
    -- the task with its next act
    the_next : AtNext lines ls fit under i s
    the_next = at_next lines ls fit under i s next

    -- the task has an index
    pub index_less : i < length ls
    index_less = get_less ls i the_next.learner the_next.there

    -- what is read there is the task
    is_next : (x : Learner) → x ≡ get_or ls i x → x ≡ the_next.learner
    is_next x at = some_is x the_next.learner (sym (read_at ls i x index_less at) ∙ the_next.there)

  module _ (c : ℕ) (next : NextAt ls i (step.Fork c)) where
    -- the child has an index
    pub child_less : c < length ls
    child_less =
        let z = child_there lines ls fit under i c (the_next (step.Fork c) next) in get_less ls c z.0 z.1

    -- the child isn't its parent
    apart : c ≡ i → ⊥
    apart e = child_elsewhere lines ls fit under i c (the_next (step.Fork c) next) e

    -- what is read at its index after its parent changed
    child_read : (y z : Learner) → z ≡ get_or (set ls i y) c z → slice_get ls c ≡ Some z
    child_read y z at =
        let less = child_less in
        let same = length-set ls i y in
        sym (get_other ls i c y apart) ∙ read_at (set ls i y) c z (omega arith) at

    -- a fork is worked off
    pub forked : (x y z z2 : Learner) → x ≡ get_or ls i x → z ≡ get_or (set ls i y) c z
        → z2.steps.items ≡ z.steps.items → z2.marks.items ≡ z.marks.items → z2.begun ≡ true
        → z2.knows.items ≡ x.knows.items → IsWorkedOff x y false
        → ((k : ℕ) → has_index y.knows.items k ≡ (nat_eq k c || has_index x.knows.items k))
        → IsTried lines i ls (set (set ls i y) c z2) true
    forked x y z z2 x_at z_at steps marks begins inherits off row =
        let n = the_next (step.Fork c) next in
        let x_is = is_next (step.Fork c) next x x_at in
        let child_is = child_read y z z_at in
        let off2 = subst (λ w. IsWorkedOff w y false) x_is off in
        let left = left_same ls c z z2 child_is steps marks in
        let differs : (i ≡ c → ⊥) = λ e. apart (sym e) in
        let one = left_less (set ls c z2) i n.learner y false (get_other ls c i z2 differs ∙ n.there) n.less off2 in
        subst (λ ms. IsTried lines i ls ms true) (set_swap ls i c y z2 differs) (record {
          under_way = after_fork_state lines ls fit under i c n z child_is z2 y steps marks begins
              (inherits ∙ ap (λ (w : Learner). w.knows.items) x_is) off2
              (λ k. row k ∙ ap (λ (w : Learner). nat_eq k c || has_index w.knows.items k) x_is);
          answer = sym (can_at ls i n.learner (Some (step.Fork c)) n.there
              (next_is ls i (step.Fork c) n.learner n.there next));
          fewer = λ _. one ∙ left;
          still = λ e. absurd (true≢false e);
        })

  module _ (j : ℕ) (answered : Bool) (next : NextAt ls i (step.Join j answered)) where
    -- the joined task has an index
    pub joined_less : j < length ls
    joined_less =
        let u = joined lines ls fit under i j answered (the_next (step.Join j answered) next) in
        let l = line_at lines j u.0 u.1 in
        let less = get_less lines j l.0 l.1 in
        let many = under.count in omega arith

    -- what is known of it
    pub knows_read : (x : Learner) → x ≡ get_or ls i x → has_index x.knows.items j ≡ knows_at ls i j
    knows_read x at = sym (knows_of ls i j x (read_at ls i x (index_less (step.Join j answered) next) at))

    -- as the code reads it
    pub knows_at_read : (x : Learner) (b : Bool) → x ≡ get_or ls i x → b ≡ has_index x.knows.items j
        → b ≡ knows_at ls i j
    knows_at_read x b at is = is ∙ knows_read x at

    -- a join that tells nothing is worked off
    pub joined_plain : (x y : Learner) (known : Bool) → x ≡ get_or ls i x → known ≡ knows_at ls i j
        → (knows_at ls i j && answered) ≡ false → IsWorkedOff x y known → y.knows.items ≡ x.knows.items
        → IsTried lines i ls (set ls i y) true
    joined_plain x y known at is plain off row =
        let n = the_next (step.Join j answered) next in
        let x_is = is_next (step.Join j answered) next x at in
        let knows_is = knows_of ls i j n.learner n.there in
        let plain2 = sym (ap (λ b. b && answered) knows_is) ∙ plain in
        let off2 = subst (λ w. IsWorkedOff w y known) x_is off in
        record {
          under_way = join_state lines ls fit under i j answered n y plain2
              (subst (λ b. IsWorkedOff n.learner y b) (is ∙ knows_is) off2)
              (row ∙ ap (λ (w : Learner). w.knows.items) x_is);
          answer = sym (can_join_plain ls i j answered n.learner n.there
              (next_is ls i (step.Join j answered) n.learner n.there next) plain2);
          fewer = λ _. left_less ls i n.learner y known n.there n.less off2;
          still = λ e. absurd (true≢false e);
        }

  module _ (j : ℕ) (next : NextAt ls i (step.Join j true)) where
    -- whether a join of a known task can be done
    can_join : knows_at ls i j ≡ true → (z : Learner) → slice_get ls j ≡ Some z → can_go_on_at ls i ≡ is_done z
    can_join knew z there =
        let n = the_next (step.Join j true) next in
        can_join_known ls i j true n.learner n.there (next_is ls i (step.Join j true) n.learner n.there next)
        (ap (λ b. b && true) (sym (knows_of ls i j n.learner n.there) ∙ knew)) ∙ done_at ls j z there

    -- where it can't be, nothing changes
    waits_still : (z : Learner) → knows_at ls i j ≡ true → z ≡ get_or ls j z → is_done z ≡ false
        → IsTried lines i ls ls false
    waits_still z knew at waits = record {
      under_way = under;
      answer = sym (can_join knew z (read_at ls j z (joined_less j true next) at) ∙ waits);
      fewer = λ e. absurd (true≢false (sym e));
      still = λ _. refl;
    }

    -- a join of a known task that is done is worked off
    known_joined : (x y z : Learner) → x ≡ get_or ls i x → z ≡ get_or ls j z → knows_at ls i j ≡ true
        → is_done z ≡ true → IsWorkedOff x y true
        → ((k : ℕ) → has_index y.knows.items k ≡ (has_index x.knows.items k || has_index z.knows.items k))
        → IsTried lines i ls (set ls i y) true
    known_joined x y z x_at z_at knew done off row =
        let n = the_next (step.Join j true) next in
        let x_is = is_next (step.Join j true) next x x_at in
        let there = read_at ls j z (joined_less j true next) z_at in
        let off2 = subst (λ w. IsWorkedOff w y true) x_is off in
        record {
          under_way = learn_state lines ls fit under i j n y z there done
              (sym (knows_of ls i j n.learner n.there) ∙ knew) off2
              (λ k. row k ∙ ap (λ (w : Learner). has_index w.knows.items k || has_index z.knows.items k) x_is);
          answer = sym (can_join knew z there ∙ done);
          fewer = λ _. left_less ls i n.learner y true n.there n.less off2;
          still = λ e. absurd (true≢false e);
        }

  module _ (j : ℕ) where
    -- a join that tells something is an answered one of a known task
    tells_both : (a b : Bool) → (a && b) ≡ true → (a ≡ true) × (b ≡ true)
    tells_both true true e = (refl, refl)
    tells_both true false e = absurd (cc)
    tells_both false b e = absurd (cc)

    -- the answered join in place of the join
    answered_next : (answered : Bool) → answered ≡ true → NextAt ls i (step.Join j answered)
        → NextAt ls i (step.Join j true)
    answered_next answered e next = subst (λ b. NextAt ls i (step.Join j b)) e next

    module _ (answered : Bool) (next : NextAt ls i (step.Join j answered))
        (tells : (knows_at ls i j && answered) ≡ true) where
      both : (knows_at ls i j ≡ true) × (answered ≡ true)
      both = tells_both (knows_at ls i j) answered tells

      -- where the joined task has acts left, nothing changes
      pub joined_waits : (z : Learner) → z ≡ get_or ls j z → is_done z ≡ false → IsTried lines i ls ls false
      joined_waits z at waits = waits_still j (answered_next answered both.1 next) z both.0 at waits

      -- a join of a known task that is done is worked off
      pub joined_known : (x y z : Learner) → x ≡ get_or ls i x → z ≡ get_or ls j z → is_done z ≡ true
          → IsWorkedOff x y true
          → ((k : ℕ) → has_index y.knows.items k ≡ (has_index x.knows.items k || has_index z.knows.items k))
          → IsTried lines i ls (set ls i y) true
      joined_known x y z x_at z_at done off row = known_joined j (answered_next answered both.1 next) x y z x_at z_at
          both.0 done off row

-- where nothing is next, the task can't go on
pub none_next : (lines : List ActLine) (ls : List Learner) (i : ℕ) (x : Learner) → IsUnderWay lines ls
    → i < length ls → x ≡ get_or ls i x → next_of x ≡ None → IsTried lines i ls ls false
none_next lines ls i x under less at none = record {
  under_way = under;
  answer = sym (can_at ls i x None (read_at ls i x less at) none);
  fewer = λ e. absurd (true≢false (sym e));
  still = λ _. refl;
}

-- and else that is next of the task with the index
pub some_next : (ls : List Learner) (i : ℕ) (x : Learner) (s : Step) → i < length ls → x ≡ get_or ls i x
    → next_of x ≡ Some s → NextAt ls i s
some_next ls i x s less at next = next_at ls i x s (read_at ls i x less at) next

-- a task that goes on as far as it can, and now can't
pub advanced : (lines : List ActLine) (i : ℕ) (old now new : List Learner) (moved : Bool)
    → IsTried lines i now new false → (moved ≡ true → acts_left now < acts_left old) → (moved ≡ false → now ≡ old)
    → IsAdvanced lines i old new moved
advanced lines i old now new moved tried fewer still =
    let same : new ≡ now = tried.still refl in
    record {
      under_way = tried.under_way;
      fewer = λ e. subst (λ ls. acts_left ls < acts_left old) (sym same) (fewer e);
      still = λ e. same ∙ still e;
      stuck = λ e. subst (λ ls. can_go_on_at ls i ≡ false) (still e) (sym tried.answer);
    }

-- it goes on by one act
pub further : (lines : List ActLine) (i : ℕ) (old now new : List Learner) (moved : Bool) → IsTried lines i now new true
    → (moved ≡ true → acts_left now < acts_left old) → (moved ≡ false → now ≡ old) → acts_left new < acts_left old
further lines i old now new moved tried fewer still =
    let one = tried.fewer refl in
    fell moved (acts_left new) (acts_left now) (acts_left old) fewer (λ e. ap acts_left (still e)) (omega arith)

-- how far a sweep has come
pub record IsSwept (lines : List ActLine) (count : ℕ) (old now : List Learner) (moved : Bool) : Type 0 where
  pub under_way : IsUnderWay lines now
  pub fewer : moved ≡ true → acts_left now < acts_left old
  pub still : moved ≡ false → now ≡ old
  pub stuck : moved ≡ false → (k : ℕ) → k < count → can_go_on_at now k ≡ false

-- a sweep begins
pub sweep_begins : (lines : List ActLine) (ls : List Learner) → IsUnderWay lines ls → IsSwept lines 0 ls ls false
sweep_begins lines ls under = record {
  under_way = under;
  fewer = λ e. absurd (true≢false (sym e));
  still = λ _. refl;
  stuck = λ _ k less. absurd (omega arith);
}

-- one task more in a sweep
pub sweep_more : (lines : List ActLine) (i : ℕ) (old now new : List Learner) (moved went : Bool)
    → IsSwept lines i old now moved → IsAdvanced lines i now new went → IsSwept lines (i + 1) old new (moved || went)
sweep_more lines i old now new true true sweep on = record {
  under_way = on.under_way;
  fewer = λ _. let a = sweep.fewer refl in let b = on.fewer refl in omega arith;
  still = λ e. absurd (true≢false e);
  stuck = λ e. absurd (true≢false e);
}
sweep_more lines i old now new true false sweep on = record {
  under_way = on.under_way;
  fewer = λ _. subst (λ ls. acts_left ls < acts_left old) (sym (on.still refl)) (sweep.fewer refl);
  still = λ e. absurd (true≢false e);
  stuck = λ e. absurd (true≢false e);
}
sweep_more lines i old now new false true sweep on = record {
  under_way = on.under_way;
  fewer = λ _. let b = on.fewer refl in let a = ap acts_left (sweep.still refl) in omega arith;
  still = λ e. absurd (true≢false e);
  stuck = λ e. absurd (true≢false e);
}
sweep_more lines i old now new false false sweep on = record {
  under_way = on.under_way;
  fewer = λ e. absurd (true≢false (sym e));
  still = λ _. on.still refl ∙ sweep.still refl;
  stuck = λ _ k less. subst (λ ls. can_go_on_at ls k ≡ false) (sym (on.still refl)) (dite (ℕ_discrete k i)
      (λ e. subst (λ m. can_go_on_at now m ≡ false) (sym e) (on.stuck refl))
      (λ differs. sweep.stuck refl k (omega (arith, differs))));
}

-- a sweep ends
pub sweep_ends : (lines : List ActLine) (count : ℕ) (old now : List Learner) (moved : Bool)
    → IsSwept lines count old now moved → length now ≤ count → IsSweep lines old now moved
sweep_ends lines count old now moved sweep whole = record {
  under_way = sweep.under_way;
  fewer = sweep.fewer;
  stuck = λ e. stuck_all now (λ k less. sweep.stuck e k (omega arith));
}

-- a task that goes on leaves no more acts
pub no_more : (lines : List ActLine) (i : ℕ) (old new : List Learner) (moved : Bool)
    → IsAdvanced lines i old new moved → acts_left new ≤ acts_left old
no_more lines i old new true on = let less = on.fewer refl in omega arith
no_more lines i old new false on = let same = ap acts_left (on.still refl) in omega arith

-- all sweeps leave as many tasks
pub as_many : (lines : List ActLine) (ls ms : List Learner) → IsUnderWay lines ls → IsUnderWay lines ms
    → length ms ≡ length ls
as_many lines ls ms under after = after.count ∙ sym under.count

-- what is read at an index twice is the same, so it is done still
pub done_again : (ls : List Learner) (j : ℕ) (x y : Learner) → j < length ls → x ≡ get_or ls j x → y ≡ get_or ls j y
    → is_done x ≡ true → is_done y ≡ true
done_again ls j x y less x_at y_at done =
    subst (λ z. is_done z ≡ true) (some_is x y (sym (read_at ls j x less x_at) ∙ read_at ls j y less y_at)) done

module _ (lines : List ActLine) (ls : List Learner) (fit : AreActLines lines) (under : IsUnderWay lines ls)
    (done : AreDone ls) (i : ℕ) (l : ActLine) (x : Learner) (less : i < length lines) (l_at : l ≡ get_or lines i l)
    (x_at : x ≡ get_or ls i x) where
  -- the task of the line has an index
  has_learner : i < length ls
  has_learner = let many = under.count in omega arith

  -- its acts are all worked off
  its_done : is_done x ≡ true
  its_done = subst (λ w. is_done w ≡ true) (sym x_at) (done i x has_learner)

  -- it is as it has to be
  its_fits : IsLearner lines l x
  its_fits = under.each i l x (read_at lines i l less l_at) (read_at ls i x has_learner x_at)

  -- the task of a line has a mark for each act
  pub line_marks : length l.acts ≡ length x.marks.items
  line_marks = marks_count lines fit l x its_fits its_done

  -- its joins are told
  pub line_told : (ks : List KnownLine) → AreTold lines (joins_in (take i lines)) ks
      → AreTold lines (joins_in (take (i + 1) lines)) (ks ++ marked_lines l.name l.acts x.marks.items)
  line_told ks told = told_more lines fit i l x ks (read_at lines i l less l_at) its_fits its_done told

-- a monitor is at work while its lines are the same and its learners are under way
pub at_work_still : (m n : Monitor) → IsAtWork m → n.lines.now ≡ m.lines.now → IsUnderWay m.lines.now n.learners.items
    → IsAtWork n
at_work_still m n work same under = record {
  lines = subst AreActLines (sym same) work.lines;
  under_way = subst (λ lines. IsUnderWay lines n.learners.items) (sym same) under;
}
