-- How many acts are left, and whether a task can go on.
use Rattle.std.proofs.Common.{◌≡◌, ℕ, suc, ◌+◌, ◌-◌, ◌<◌, Bool, true, false, ◌&&◌, ◌||◌, not, List, Option, Some, None}
use Rattle.std.proofs.Common.{length, set, refl, sym, ap, ◌∙◌, subst, arith}
use Rattle.std.proofs.lemmas.List.Sums.{sum_by-set}
use Rattle.std.proofs.lemmas.Option.{get_or_from_slice_get, slice_get_past}
use Rattle.std.specs.Prelude.{slice_get}
use Rattle.std.specs.Option.{option_map_or}
use native.Mathlib.Decide.{dec_le}
use mathlib.Core.Logic.{dite}
use Rattle.tj_mean.proofs.Lists.Elements.{get_less}
use Rattle.tj_known.specs.Inner.Learners.{AreStuck, IsWorkedOff, NextAt, acts_left, can_do, can_go_on, can_go_on_at}
use Rattle.tj_known.specs.Inner.Learners.{has_index, is_done, is_done_at, next_of, worked}
use Rattle.tj_known.specs.declared.learner.Learner.{Learner}
use Rattle.tj_known.specs.declared.step.Step.{Step}
use Rattle.tj_known.specs.declared.step.Step.TheVariants as step
use Rattle.tj_known.proofs.ActMore.{worked_more}

-- how many acts of a task are left
abbrev left_of : Learner → ℕ
left_of x = length x.steps.items - worked x

-- one task in place of another
left_put : (ls : List Learner) (i : ℕ) (x y : Learner) → slice_get ls i ≡ Some x
    → acts_left (set ls i y) + left_of x ≡ acts_left ls + left_of y
left_put ls i x y there =
    let less = get_less ls i x there in
    subst (λ z. acts_left (set ls i y) + left_of z ≡ acts_left ls + left_of y) (get_or_from_slice_get ls i x x there)
    (sum_by-set left_of ls i y x less)

-- one act of a task is worked off
pub left_less : (ls : List Learner) (i : ℕ) (x y : Learner) (mark : Bool) → slice_get ls i ≡ Some x
    → worked x < length x.steps.items → IsWorkedOff x y mark → acts_left (set ls i y) + 1 ≡ acts_left ls
left_less ls i x y mark there less off =
    let put = left_put ls i x y there in
    let more = worked_more x y mark off in
    let same = ap (λ (ss : List Step). length ss) off.steps in omega arith

-- a task with as many acts left
pub left_same : (ls : List Learner) (i : ℕ) (x y : Learner) → slice_get ls i ≡ Some x
    → y.steps.items ≡ x.steps.items → y.marks.items ≡ x.marks.items → acts_left (set ls i y) ≡ acts_left ls
left_same ls i x y there steps marks =
    let put = left_put ls i x y there in
    let same = ap (λ (ss : List Step). length ss) steps in
    let as_many = ap (λ (ms : List Bool). length ms) marks in omega arith

module _ (ls : List Learner) where
  -- the task with an index can go on if it can do what is next
  pub can_at : (i : ℕ) (x : Learner) (o : Option Step) → slice_get ls i ≡ Some x → next_of x ≡ o
      → can_go_on_at ls i ≡ can_do ls x o
  can_at i x o there next = ap (λ p. option_map_or (can_go_on ls) p false) there ∙ ap (λ p. can_do ls x p) next

  -- what is next of the task with an index
  pub next_at : (i : ℕ) (x : Learner) (s : Step) → slice_get ls i ≡ Some x → next_of x ≡ Some s → NextAt ls i s
  next_at i x s there next = ap (λ p. option_map_or next_of p None) there ∙ next

  -- a join that tells nothing can be done
  pub can_join_plain : (i j : ℕ) (answered : Bool) (x : Learner) → slice_get ls i ≡ Some x
      → next_of x ≡ Some (step.Join j answered) → (has_index x.knows.items j && answered) ≡ false
      → can_go_on_at ls i ≡ true
  can_join_plain i j answered x there next plain =
      can_at i x (Some (step.Join j answered)) there next ∙ ap (λ b. not b || is_done_at ls j) plain

  -- one that tells something can be done where the joined task is done
  pub can_join_known : (i j : ℕ) (answered : Bool) (x : Learner) → slice_get ls i ≡ Some x
      → next_of x ≡ Some (step.Join j answered) → (has_index x.knows.items j && answered) ≡ true
      → can_go_on_at ls i ≡ is_done_at ls j
  can_join_known i j answered x there next known =
      can_at i x (Some (step.Join j answered)) there next ∙ ap (λ b. not b || is_done_at ls j) known

  -- whether the task with an index is done
  pub done_at : (j : ℕ) (z : Learner) → slice_get ls j ≡ Some z → is_done_at ls j ≡ is_done z
  done_at j z there = ap (λ p. option_map_or is_done p false) there

  -- no task can go on if none with an index can
  pub stuck_all : ((i : ℕ) → i < length ls → can_go_on_at ls i ≡ false) → AreStuck ls
  stuck_all each i = dite (dec_le (suc i) (length ls)) (λ less. each i (omega arith))
      (λ past. ap (λ p. option_map_or (can_go_on ls) p false)
      (slice_get_past ls i (let q = past in omega (arith, past))))

-- where acts were left before or something moved, and one more is worked off, fewer are left
pub fell : (moved : Bool) (new now first : ℕ) → (moved ≡ true → now < first) → (moved ≡ false → now ≡ first)
    → new < now → new < first
fell true new now first fewer still less = let f = fewer refl in omega arith
fell false new now first fewer still less = let f = still refl in omega arith

-- what is next of the task that stands at an index
pub next_is : (ls : List Learner) (i : ℕ) (s : Step) (x : Learner) → slice_get ls i ≡ Some x → NextAt ls i s
    → next_of x ≡ Some s
next_is ls i s x there next = sym (ap (λ p. option_map_or next_of p None) there) ∙ next
