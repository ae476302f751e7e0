-- A task leaves its seat, which holds what it held besides.
use Rattle.tj_park.proofs.Prelude.{Backing, Bool, Custody, DoesRun, HasAlarmed, Holds, IsIn, List, MayLowerLive}
use Rattle.tj_park.proofs.Prelude.{MayRaiseLive, MayRelease, Program, Rec, SlotsOf, Some, View, [], ap, arith}
use Rattle.tj_park.proofs.Prelude.{backing_idle, backing_running, backing_token, cond, eq-eqb, false, held_in}
use Rattle.tj_park.proofs.Prelude.{held_task, hold, let_go, nat_eq, none_some, noted_here, one_some, refl, released}
use Rattle.tj_park.proofs.Prelude.{subst, suc, sym, true, with_tokens, ℕ, ⊎_elim, ◌-◌, ◌<◌, ◌∙◌, ◌∷◌, ◌≡◌}
use Rattle.tj_words.specs.declared.view.Does.{Does}
use Rattle.tj_words.specs.Calls.LiveViews.{came_home, homed, now_home, without_task}
use Rattle.tj_words.specs.Calls.PutRecords.{PutsHome}
use Rattle.tj_words.specs.SeatViews.TaskLists.{noted}
use Rattle.tj_words.proofs.Holders.NotedTasks.{noted_is}
use Rattle.tj_words.proofs.Holders.SeatTasks.{let_go_here, let_go_else}
use Rattle.tj_park.specs.ChildViews.{MayReleaseChild, MayShelve, released_child, shelved}
use Rattle.tj_park.specs.Records.{MayGoHome}

module _ {B : Type 0} where
  -- a task that is let go twice is let go once
  let_go_twice : (t : ℕ) (ks : List (Custody B)) → let_go t (let_go t ks) ≡ let_go t ks
  let_go_twice t [] = refl
  let_go_twice t (k ∷ ks) = by (nat_eq k.task t) refl (let_go_twice t ks)
    where
      by : (b : Bool) → nat_eq k.task t ≡ b → let_go t (let_go t ks) ≡ let_go t ks
          → let_go t (cond b (let_go t ks) (k ∷ let_go t ks)) ≡ cond b (let_go t ks) (k ∷ let_go t ks)
      by true e r = r
      by false e r = ap (λ (b : Bool). cond b (let_go t (let_go t ks)) (k ∷ let_go t (let_go t ks))) e
          ∙ ap (λ l. k ∷ l) r

  -- what was noted of a task is let go with it
  pub let_go_held : (k : Custody B) (t : ℕ) (ks : List (Custody B)) → k.task ≡ t → let_go t (hold k ks) ≡ let_go t ks
  let_go_held k t ks e = ap (λ (b : Bool). cond b (let_go t (let_go k.task ks)) (k ∷ let_go t (let_go k.task ks)))
      (eq-eqb k.task t e)
      ∙ (ap (λ z. let_go t (let_go z ks)) e ∙ let_go_twice t ks)

  pub let_go_noted : (t : ℕ) (k : Custody B) (f : Custody B → Custody B) (ks : List (Custody B))
      → held_in ks t ≡ Some k → (f k).task ≡ k.task → let_go t (noted t f ks) ≡ let_go t ks
  let_go_noted t k f ks held its = ap (let_go t) (noted_is ks t k f held)
      ∙ let_go_held (f k) t ks (its ∙ held_task ks t k held)

  -- a seat without the task holds one that does so, if it did, and the task didn't
  pub holds_without : (F : Does → Type 0) (t : ℕ) (k : Custody B) (v : View B) → held_in v.tasks t ≡ Some k → ¬ F k.does
      → Holds F v → Holds F (without_task t v)
  holds_without F t k v held n h = (
    h.0,
    h.1,
    let_go_else t h.0 v.tasks
        (λ e. n (subst (λ (z : Custody B). F z.does)
        (one_some h.1 k (sym h.2 ∙ (ap (held_in v.tasks) e ∙ held))) h.3))
        ∙ h.2,
    h.3,
  )

  -- what a seat holds without the task it held before
  pub holds_before : (F : Does → Type 0) (t : ℕ) (v : View B) → Holds F (without_task t v) → Holds F v
  holds_before F t v h = (
    h.0,
    h.1,
    sym (let_go_else t h.0 v.tasks
        (λ e. none_some (held_in (let_go t v.tasks) h.0) h.1
        (ap (held_in (let_go t v.tasks)) e ∙ let_go_here t v.tasks) h.2))
        ∙ h.2,
    h.3,
  )

  -- a record that may go home, in the slot that was taken last, comes there
  pub puts_home : (program : Bool → B → Program B) (t : ℕ) (k : Custody B) (r : Rec B) (v : View B) (l : SlotsOf B)
      → MayGoHome program t k r v → PutsHome program t k r (v, (t, Some r) ∷ l)
  puts_home program t k r v l m = record {
    slot = refl;
    cell = m.has.cell;
    owned = m.has.owned;
    made = m.has.made;
    knows = m.has.knows;
    told = m.told;
  }

  module _ (program : Bool → B → Program B) (t : ℕ) (r : Rec B) (v : View B) (l : SlotsOf B) where
    module _ (may : MayReleaseChild program t r v) where
      -- LIVE may be raised for the child
      pub raise_child : MayRaiseLive program (v, (t, Some r) ∷ l)
      raise_child = record {
        backed = may.backed;
        room = may.room;
        lays = record {
          custody = may.custody;
          held = may.held;
          unborn = may.unborn;
          no_hand = may.no_hand;
          puts = puts_home program t may.custody r v l may.leaves;
          unfinished = may.leaves.unfinished;
          starts = may.starts;
        };
      }

      -- the view after that
      abbrev pub raised : View B
      raised = homed ((t, Some r) ∷ l) (came_home t r (with_tokens (suc v.tokens) v))

      same_token : suc v.tokens - 1 ≡ v.tokens
      same_token = omega arith

      same_tasks : let_go t (noted t (now_home r) v.tasks) ≡ let_go t v.tasks
      same_tasks = let_go_noted t may.custody (now_home r) v.tasks may.held refl

      -- the child leaves the seat, and the token that was taken for it
      pub child_released : released t raised ≡ released_child t r v
      child_released = ap (λ n. record (released t raised) { tokens = n }) same_token
          ∙ ap (λ ks. record (released_child t r v) { tasks = ks }) same_tasks

      not_running : ¬ DoesRun may.custody.does
      not_running h = subst DoesRun may.unborn h

      backing : Backing (released_child t r v)
      backing = ⊎_elim
          (λ (h : 0 < v.tokens). backing_token (released_child t r v) h)
          (λ (h : Holds DoesRun v). backing_running (released_child t r v)
          (holds_without DoesRun t may.custody v may.held not_running h)
          (λ a. may.alarms (holds_before HasAlarmed t v a)))
          may.backed

      -- Ready may be stored for the child
      pub ready_child : MayRelease t raised
      ready_child = record {
        custody = now_home r may.custody;
        held = noted_here v.tasks t may.custody (now_home r) may.held refl;
        unborn = may.unborn;
        record_of = r;
        home = refl;
        token = omega arith;
        backing = subst Backing (sym child_released) backing;
      }

    -- LIVE may be lowered for a task that has alarmed
    pub lower_alarmed : MayShelve program t r v → MayLowerLive program (v, (t, Some r) ∷ l)
    lower_alarmed may = record {
      token = may.token;
      shelves = record {
        custody = may.custody;
        held = may.held;
        cell = may.cell;
        way = may.way;
        walker = may.walker;
        alarmed = may.alarmed;
        no_hand = λ h e. none_some v.hand h may.idle.hand e;
        puts = puts_home program t may.custody r v l may.leaves;
        unfinished = may.leaves.unfinished;
        waits = may.waits;
      };
      backing = backing_idle (shelved t r v) may.idle.pushes may.idle.shuts may.idle.rest
          (λ d. subst (IsIn d.0) may.idle.dues d.1)
          (λ a. let one : 1 < v.tokens = may.alarms a in omega arith);
    }
