-- A seat's view after steps of a call that changed what one of its tasks does.
use Rattle.tj_detect.proofs.Prelude.{Custody, Does, View, Walker, Way, [], ap, doing, held_in, start_walk, suc, ℕ, ◌+◌}
use Rattle.std.proofs.Common.{◌≡◌, cond, Bool, List, ◌∷◌, Some, None, refl, sym, ◌∙◌, arith, eq-eqb, ne_eqb}
use mathlib.Core.Logic.{dite}
use native.Mathlib.Decide.{ℕ_discrete}
use Rattle.tj_words.specs.LawParts.ShownState.{does_walk}
use Rattle.tj_words.specs.SeatViews.TaskLists.{let_go, hold, noted}
use Rattle.tj_words.specs.Calls.WaitViews.{now_does, now_alarmed, published, alarmed}
use Rattle.tj_words.specs.Calls.WalkViews.{does_next, turned}
use Rattle.tj_words.proofs.Holders.HeldChanges.{held_task}
use Rattle.tj_words.proofs.Holders.HeldTasks.{none_some}
use Rattle.tj_words.proofs.Holders.NotedTasks.{noted_is}
use Rattle.tj_words.proofs.Holders.SeatTasks.{let_go_here, hold_here}
use Rattle.tj_words.specs.declared.view.Does.TheVariants as does

module _ {B : Type 0} where
  -- a list that doesn't have the task is as it is without it
  free_stays : (t : ℕ) (ks : List (Custody B)) → held_in ks t ≡ None → let_go t ks ≡ ks
  free_stays t [] e = refl
  free_stays t (k ∷ ks) e = dite (ℕ_discrete k.task t)
      (λ q. none_some (held_in (k ∷ ks) t) k e
      (ap (λ (b : Bool). cond b (Some k) (held_in ks t)) (eq-eqb k.task t q)))
      (λ n. let m = ne_eqb k.task t n in
      ap (λ (b : Bool). cond b (let_go t ks) (k ∷ let_go t ks)) m
      ∙ ap (λ l. k ∷ l) (free_stays t ks (sym (ap (λ (b : Bool). cond b (Some k) (held_in ks t)) m) ∙ e)))

  -- a task that is held anew is let go with what was held before
  held_anew : (k : Custody B) (ks : List (Custody B)) → let_go k.task (k ∷ let_go k.task ks) ≡ let_go k.task ks
  held_anew k ks =
      ap (λ (b : Bool). cond b (let_go k.task (let_go k.task ks)) (k ∷ let_go k.task (let_go k.task ks)))
      (eq-eqb k.task k.task refl)
      ∙ free_stays k.task (let_go k.task ks) (let_go_here k.task ks)

  -- the view with these counts of steps and tokens, and with these tasks
  abbrev with_tasks : ℕ → ℕ → List (Custody B) → View B → View B
  with_tasks steps tokens tasks v = record v { steps = steps; tokens = tokens; tasks = tasks }

  -- a wait that is published
  pub published_doing : (v : View B) (t q : ℕ) (way : Way)
      → published t q way v ≡ doing t (does.Walking q way start_walk) 1 0 v
  published_doing v t q way =
      let steps : suc v.steps ≡ 1 + v.steps = omega arith in
      let tokens : v.tokens ≡ 0 + v.tokens = omega arith in
      λ j. with_tasks (steps j) (tokens j) (noted t (now_does (does.Walking q way start_walk)) v.tasks) v

  module _ (v : View B) (t : ℕ) (k : Custody B) (held : held_in v.tasks t ≡ Some k) where
    noted_here : (d : Does) → noted t (now_does d) v.tasks ≡ hold (now_does d k) v.tasks
    noted_here d = noted_is v.tasks t k (now_does d) held

    -- the seat has the task, which does this
    pub doing_held : (d : Does) (n m : ℕ) → held_in (doing t d n m v).tasks t ≡ Some (now_does d k)
    doing_held d n m = ap (λ l. held_in l t) (noted_here d)
        ∙ (ap (held_in (hold (now_does d k) v.tasks)) (sym (held_task v.tasks t k held))
        ∙ hold_here (now_does d k) v.tasks)

    -- what it does later is all that is seen of it
    pub doing_on : (d d' : Does) (n n' m m' : ℕ) → doing t d' n' m' (doing t d n m v) ≡ doing t d' (n' + n) (m' + m) v
    doing_on d d' n n' m m' =
        let steps : n' + (n + v.steps) ≡ (n' + n) + v.steps = omega arith in
        let tokens : m' + (m + v.tokens) ≡ (m' + m) + v.tokens = omega arith in
        let tasks : noted t (now_does d') (noted t (now_does d) v.tasks) ≡ noted t (now_does d') v.tasks
        = noted_is (noted t (now_does d) v.tasks) t (now_does d k) (now_does d') (doing_held d n m)
        ∙ (ap (hold (now_does d' k)) (noted_here d)
        ∙ (ap (λ l. now_does d' k ∷ l) (held_anew (now_does d k) v.tasks) ∙ sym (noted_here d'))) in
        λ j. with_tasks (steps j) (tokens j) (tasks j) v

    -- a step by which the task turns to something else
    pub turned_doing : (f : Does → Does) (d d' : Does) → k.does ≡ d → f d ≡ d' → turned t f v ≡ doing t d' 1 0 v
    turned_doing f d d' e q =
        let steps : suc v.steps ≡ 1 + v.steps = omega arith in
        let tokens : v.tokens ≡ 0 + v.tokens = omega arith in
        let tasks : noted t (does_next f) v.tasks ≡ noted t (now_does d') v.tasks
        = noted_is v.tasks t k (does_next f) held
        ∙ (ap (λ (x : Does). hold (now_does x k) v.tasks) (ap f e ∙ q) ∙ sym (noted_here d')) in
        λ j. with_tasks (steps j) (tokens j) (tasks j) v

    -- the store of Alarmed
    pub alarmed_doing : (q : ℕ) (way : Way) (w : Walker) → k.does ≡ does.Walking q way w
        → alarmed t q way v ≡ doing t (does.Alarmed q way w) 1 1 v
    alarmed_doing q way w e =
        let tasks : noted t (now_alarmed q way) v.tasks ≡ noted t (now_does (does.Alarmed q way w)) v.tasks
        = noted_is v.tasks t k (now_alarmed q way) held
        ∙ (ap (λ (x : Walker). hold (now_does (does.Alarmed q way x) k) v.tasks) (ap does_walk e)
        ∙ sym (noted_here (does.Alarmed q way w))) in
        let steps : suc v.steps ≡ 1 + v.steps = omega arith in
        let tokens : suc v.tokens ≡ 1 + v.tokens = omega arith in
        λ j. with_tasks (steps j) (tokens j) (tasks j) v
