-- What holds of the lines of a meaning's acts: the law of acts, from its parts.
use Rattle.std.proofs.Common.{◌≡◌, ℕ, suc, ◌*◌, ◌<◌, Bool, List, Some, false, refl, sym, ap, ◌∙◌, subst, arith}
use Rattle.std.specs.Prelude.{slice_get}
use Rattle.tj_base.specs.ForkOrder.{Name, child}
use Rattle.tj_body.specs.Programs.{Program, AreLawful, root_task}
use Rattle.tj_body.specs.History.{point_after}
use Rattle.tj_body.specs.Rounds.{given, tasks, last_round, IsFull}
use Rattle.tj_body.specs.Points.{IsIn, IsProper, IsSomeTask}
use Rattle.tj_body.specs.RoundPoints.{IsOfRounds}
use Rattle.tj_body.specs.declared.point.Task.{Task}
use Rattle.tj_body.proofs.Lists.{in_map, to_map}
use Rattle.tj_body.proofs.RoundPoints.{things_in_rounds}
use Rattle.tj_body.proofs.Rounds.Rises.{tasks_within}
use Rattle.tj_body.proofs.Rounds.Settles.{is_last}
use Rattle.tj_mean.specs.Acts.{AreActsOf, acts_by, line_of, meant_lines}
use Rattle.tj_mean.specs.ActLines.{AreActLines, CanReach, HasAct, act_count, names_of}
use Rattle.tj_mean.specs.declared.act.Act.{Act}
use Rattle.tj_mean.specs.declared.act.Act.TheVariants as act
use Rattle.tj_mean.specs.declared.act.ActLine.{ActLine}
use Rattle.tj_mean.proofs.NotedActs.ActTasks.{acts_tell}
use Rattle.tj_mean.proofs.Lists.Elements.{get_in, in_get}
use Rattle.tj_mean.proofs.NotedActs.ForkNumbers.{history_numbered}
use Rattle.tj_mean.proofs.NotedActs.LineIndexes.{line_at, index_of_acting}
use Rattle.tj_mean.proofs.Lists.NameOrder.{in_permuted, in_unpermuted}
use Rattle.tj_mean.proofs.NotedActs.ReachedActs.{acts_are, all_reached}

module _ {B : Type 0} (program : Program B) (obeys : AreLawful program.rules)
    (proper : IsProper program.rules (root_task program.root)) (calm : program.rules.strict ≡ false) (N : ℕ)
    (fits : ¬ IsFull program N) (lines : List ActLine) (are : AreActsOf program N lines) where
  -- a name of a line is that of a task of the meaning
  pub task_named : (i : ℕ) (t : Name) → slice_get (names_of lines) i ≡ Some t
      → (x : Task B) × IsIn x (tasks program (last_round N)) × (x.name ≡ t)
  task_named i t h =
      let l = line_at lines i t h in
      let there = in_permuted (meant_lines program N) lines are.same_lines l.0
      (in_get lines i l.0 l.1) in
      let x = in_map (line_of program.rules (given program (last_round N))) l.0 (tasks program (last_round N)) there in
      (x.0, x.1, ap (λ (z : ActLine). z.name) (sym x.2) ∙ l.2)

  -- a task that does an act is one of the meaning
  pub task_acting : (t : Name) (n : ℕ) (a : Act) → HasAct lines t n a
      → (x : Task B) × IsIn x (tasks program (last_round N)) × (x.name ≡ t)
  task_acting t n a h = let p = index_of_acting lines t n a h in task_named p.0 t p.1

  -- the act is one of its history
  of_history : (x : Task B) → IsIn x (tasks program (last_round N)) → (n : ℕ) (a : Act) → HasAct lines x.name n a
      → slice_get (acts_by program.rules (given program (last_round N)) x) n ≡ Some a
  of_history x i n a h =
      sym (ap (λ (l : List Act). slice_get l n)
      (acts_are program obeys proper calm N fits lines are (last_round N) x i)) ∙ h

  -- a task forks its own children
  pub own_children : (t c : Name) (n : ℕ) → HasAct lines t n (act.Fork c) → (k : ℕ) × (c ≡ child t k)
  own_children t c n h =
      let x = task_acting t n (act.Fork c) h in
      let g = of_history x.0 x.1 n (act.Fork c) (subst (λ z. HasAct lines z n (act.Fork c)) (sym x.2) h) in
      let k = 2 * suc (program.rules.left x.0.body) in
      let r = (history_numbered program.rules (given program (last_round N)) x.0 k).own n c g in
      (r.0, r.1 ∙ ap (λ z. child z r.0) x.2)

  -- and each with a greater number than those before
  pub numbers_rise : (t : Name) (m n j k : ℕ) → m < n → HasAct lines t m (act.Fork (child t j))
      → HasAct lines t n (act.Fork (child t k)) → j < k
  numbers_rise t m n j k less h g =
      let x = task_acting t m (act.Fork (child t j)) h in
      let first = of_history x.0 x.1 m (act.Fork (child x.0.name j))
      (subst (λ z. HasAct lines z m (act.Fork (child z j))) (sym x.2) h) in
      let last = of_history x.0 x.1 n (act.Fork (child x.0.name k))
      (subst (λ z. HasAct lines z n (act.Fork (child z k))) (sym x.2) g) in
      let steps = 2 * suc (program.rules.left x.0.body) in
      (history_numbered program.rules (given program (last_round N)) x.0 steps).rise m n j k less first last

  -- all acts of a task of the lines can be worked off
  pub reached : (i : ℕ) (t : Name) → slice_get (names_of lines) i ≡ Some t → CanReach lines t (act_count lines t)
  reached i t h =
      let x = task_named i t h in
      subst (λ z. CanReach lines z (act_count lines z)) x.2
      (all_reached program obeys proper calm N fits lines are x.0 x.1)

  -- a task of a round has a line
  has_line : (x : Task B) → IsSomeTask program x → IsIn x.name (names_of lines)
  has_line x s =
      let line = line_of program.rules (given program (last_round N)) in
      let there = ((is_last program N fits).0 s.0).0 x s.1 in
      to_map (λ (z : ActLine). z.name) (line x) lines
      (in_unpermuted (meant_lines program N) lines are.same_lines (line x)
      (to_map line x (tasks program (last_round N)) there))

  -- what a task forks has a line
  pub forked_there : (t c : Name) (n : ℕ) → HasAct lines t n (act.Fork c) → IsIn c (names_of lines)
  forked_there t c n h =
      let x = task_acting t n (act.Fork c) h in
      let g = of_history x.0 x.1 n (act.Fork c) (subst (λ z. HasAct lines z n (act.Fork c)) (sym x.2) h) in
      let m = last_round N in
      let k = 2 * suc (program.rules.left x.0.body) in
      let there = tasks_within program m (suc m) (omega arith) x.0 x.1 in
      let r = acts_tell program obeys proper calm N fits lines are m x.0 there k n (act.Fork c) g in
      let point = point_after program.rules (given program m) k x.0 in
      let of_rounds : IsOfRounds program point = (x.0, (m, x.1), (m, (k, refl))) in
      subst (λ z. IsIn z (names_of lines)) r.2
      (has_line r.0 ((things_in_rounds program obeys proper point of_rounds).1 r.0 r.1))

  -- and so has what it joins
  pub joined_there : (t u : Name) (n : ℕ) (is_answered : Bool) → HasAct lines t n (act.Join u is_answered)
      → IsIn u (names_of lines)
  joined_there t u n is_answered h =
      let a = act.Join u is_answered in
      let x = task_acting t n a h in
      let g = of_history x.0 x.1 n a (subst (λ z. HasAct lines z n a) (sym x.2) h) in
      let m = last_round N in
      let k = 2 * suc (program.rules.left x.0.body) in
      let there = tasks_within program m (suc m) (omega arith) x.0 x.1 in
      let r = acts_tell program obeys proper calm N fits lines are m x.0 there k n a g in
      subst (λ z. IsIn z (names_of lines)) r.2 (has_line r.0 r.1)

  -- so the law holds of the lines
  pub acts_agree : AreActLines lines
  acts_agree = record {
    in_order = are.in_name_order;
    own_children = own_children;
    numbers_rise = numbers_rise;
    forked_there = forked_there;
    joined_there = joined_there;
    reached = λ t i. let p = get_in (names_of lines) t i in reached p.0 t p.1;
  }
