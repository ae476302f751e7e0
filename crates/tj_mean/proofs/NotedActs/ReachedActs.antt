-- An order in which all acts of a meaning can be worked off. It is that of the rounds: what a task of a round has done
-- under the assignment before follows from the acts of tasks that ended under earlier ones.
use Rattle.std.proofs.Common.{◌≡◌, ◌⊎◌, ℕ, zero, suc, ◌+◌, ◌-◌, ◌*◌, Bool, true, false, inl, inr, ⊎_elim}
use Rattle.std.proofs.Common.{List, [], ◌∷◌, ◌++◌, map, length, Option, Some, None, Result, Ok, Err, refl, sym, ap, ◌∙◌}
use Rattle.std.proofs.Common.{subst, arith, append-nil, length-append, get_or}
use Rattle.std.specs.Prelude.{slice_get, is_some}
use Rattle.tj_base.specs.ForkOrder.{Name}
use Rattle.tj_base.specs.declared.cause.Cause.{Cause}
use Rattle.tj_base.specs.declared.cell.Sort.{Sort}
use Rattle.tj_base.specs.declared.cell.Sort.TheVariants as sort
use Rattle.tj_body.specs.Programs.{Program, Rules, AreLawful, root_task}
use Rattle.tj_body.specs.History.{Assignment, after_ask, after_join, after_look, after_stage, hand_all, history}
use Rattle.tj_body.specs.History.{next_child}
use Rattle.tj_body.specs.History.{next_name, point_after, reference, to_task}
use Rattle.tj_body.specs.Rounds.{family, given, tasks, last_round, IsFull}
use Rattle.tj_body.specs.Points.{IsIn, IsProper, IsWithin, HasEnded, HasStopped}
use Rattle.tj_body.specs.RoundPoints.{IsNamed, IsOfRounds}
use Rattle.tj_body.specs.Inner.AskSteps.{IsAskStep, fails, ends, makes, forks, sets, gets, joins, prints, join_of}
use Rattle.tj_body.specs.declared.ask.Ask.{Ask}
use Rattle.tj_body.specs.declared.ask.Ask.TheVariants as ask
use Rattle.tj_body.specs.declared.point.Value.TheVariants as value
use Rattle.tj_body.specs.declared.point.Entry.{Entry}
use Rattle.tj_body.specs.declared.point.Entry.TheVariants as entry
use Rattle.tj_body.specs.declared.point.PointStage.{PointStage}
use Rattle.tj_body.specs.declared.point.PointStage.TheVariants as stage
use Rattle.tj_body.specs.declared.point.Point.{Point}
use Rattle.tj_body.specs.declared.point.Reference.{Reference}
use Rattle.tj_body.specs.declared.point.Task.{Task}
use Rattle.tj_body.proofs.Lists.{from_flat_map, in_flat_map, to_map}
use Rattle.tj_body.proofs.Histories.Points.{stopped}
use Rattle.tj_body.proofs.RoundPoints.{references_are_named}
use Rattle.tj_body.proofs.Rounds.InOrder.{cell_in}
use Rattle.tj_body.proofs.Rounds.Rests.{point_name}
use Rattle.tj_body.proofs.Rounds.Rises.{tasks_within}
use Rattle.tj_body.proofs.Rounds.Settles.{is_last}
use Rattle.tj_body.proofs.Histories.AskSteps.{is_ask_step}
use Rattle.tj_body.proofs.Histories.Good.{task_proper}
use Rattle.tj_mean.specs.Acts.{AreActsOf, acts_by, ask_acts, fork_acts, join_acts, line_of, meant_lines, stage_acts}
use Rattle.tj_mean.specs.Acts.{step_acts}
use Rattle.tj_mean.specs.ActLines.{CanReach, root_begins, child_begins, forks as reach_fork, waits, answered}
use Rattle.tj_mean.specs.ActLines.{HasAct, act_count, acts_of}
use Rattle.tj_mean.specs.declared.act.Act.{Act}
use Rattle.tj_mean.specs.declared.act.Act.TheVariants as act
use Rattle.tj_mean.specs.declared.act.ActLine.{ActLine}
use Rattle.tj_mean.proofs.Lists.Elements.{get_in, get_less, in_snoc}
use Rattle.tj_mean.proofs.NotedActs.EndedTasks.{ended_in, task_of_entry}
use Rattle.tj_mean.proofs.NotedActs.LineIndexes.{acts_at}
use Rattle.tj_mean.proofs.Lists.Ends.{get_begins, get_last}
use Rattle.tj_mean.proofs.Lists.NameOrder.{in_unpermuted}
use Rattle.tj_mean.proofs.NotedActs.NotedAsks.{other_body}
use Rattle.tj_mean.proofs.NotedActs.SeenActs.{acts_begin, acts_seen, all_acts, seen}

-- what can be reached after one act more can be reached before
one_less : (lines : List ActLine) (t : Name) (n m : ℕ) → CanReach lines t m → m ≡ suc n → CanReach lines t n
one_less lines _ n _ root_begins e = absurd (omega arith)
one_less lines _ n _ (child_begins t c m h r) e = absurd (omega arith)
one_less lines _ n _ (reach_fork t c m h r) e = subst (CanReach lines t) (let z : m ≡ n = omega arith in z) r
one_less lines _ n _ (waits t u m h r) e = subst (CanReach lines t) (let z : m ≡ n = omega arith in z) r
one_less lines _ n _ (answered t u m h r all) e = subst (CanReach lines t) (let z : m ≡ n = omega arith in z) r

-- and so after any number fewer
reach_less : (lines : List ActLine) (t : Name) (d n : ℕ) → CanReach lines t (d + n) → CanReach lines t n
reach_less lines t zero n r = subst (CanReach lines t) (let z : 0 + n ≡ n = omega arith in z) r
reach_less lines t (suc d) n r =
    reach_less lines t d n (one_less lines t (d + n) (suc d + n) r (omega arith))

module _ {B : Type 0} (program : Program B) (obeys : AreLawful program.rules)
    (proper : IsProper program.rules (root_task program.root)) (calm : program.rules.strict ≡ false) (N : ℕ)
    (fits : ¬ IsFull program N) (lines : List ActLine) (are : AreActsOf program N lines) where
  abbrev V : ℕ → Assignment
  V n = given program n

  abbrev W : Assignment
  W = given program (last_round N)

  abbrev rules : Rules B
  rules = program.rules

  -- each round's assignment is within that of the meaning, and its tasks are tasks of it
  within : (m : ℕ) → IsWithin (V m) W
  within m = ((is_last program N fits).0 m).1

  in_meaning : (m : ℕ) (t : Task B) → IsIn t (tasks program m) → IsIn t (tasks program (last_round N))
  in_meaning m t i = ((is_last program N fits).0 m).0 t i

  proper_at : (m : ℕ) (t : Task B) → IsIn t (tasks program m) → IsProper rules t
  proper_at m t i = task_proper program obeys proper m t i

  -- the acts of a task's line are those of its history
  pub acts_are : (m : ℕ) (t : Task B) → IsIn t (tasks program m) → acts_of lines t.name ≡ acts_by rules W t
  acts_are m t i =
      let there = in_unpermuted (meant_lines program N) lines are.same_lines
      (line_of rules W t)
      (to_map (line_of rules W) t (tasks program (last_round N)) (in_meaning m t i)) in
      let p = get_in lines (line_of rules W t) there in
      acts_at lines are.in_name_order p.0 (line_of rules W t) p.1

  -- what a task has done under the assignment of a round, each join answered as in the meaning
  abbrev done : ℕ → Task B → ℕ → List Act
  done m t k = acts_seen rules W t (V m) k

  -- these are its first acts
  pub has_act : (m n : ℕ) (t : Task B) (k i : ℕ) (a : Act) → IsIn t (tasks program n)
      → slice_get (done m t k) i ≡ Some a → HasAct lines t.name i a
  has_act m n t k i a there h =
      let s = seen rules W t (V m) (within m) k in
      let b = acts_begin rules W t obeys (proper_at n t there) s.steps in
      ap (λ (l : List Act). slice_get l i) (acts_are n t there)
      ∙ get_begins (done m t k) (acts_by rules W t) (b.0, b.1 ∙ ap (λ l. l ++ b.0) (sym s.acts)) i a h

  -- the task waits for the join that is its last act
  pub record IsAtJoin (t : Task B) (p : Point B) (acts : List Act) : Type 0 where
    pub earlier : List Act
    pub joined : Name
    pub spare : Bool
    pub at_join : p.stage ≡ stage.Waits joined spare
    pub is_task : IsNamed program sort.Task joined
    pub acts_so_far : acts ≡ earlier ++ act.Join joined (is_some (W joined)) ∷ []
    pub reached : CanReach lines t.name (length earlier)

  -- what the task has done can be worked off, but for a join that it waits for
  abbrev pub Reaches : Task B → Point B → List Act → Type 0
  Reaches t p acts = CanReach lines t.name (length acts) ⊎ IsAtJoin t p acts

  -- so it is for each task of round m + 1 under the assignment of round m
  abbrev pub RoundReached : ℕ → Type 0
  RoundReached m = (t : Task B) → IsIn t (tasks program (suc m)) → (k : ℕ)
      → Reaches t (point_after rules (V m) k t) (done m t k)

  -- all acts of each task whose result has an entry in round m can be worked off
  abbrev pub EndedReached : ℕ → Type 0
  EndedReached m = (n : ℕ) (u : Task B) (e : Entry) → IsIn u (tasks program n) → V m u.name ≡ Some e
      → CanReach lines u.name (act_count lines u.name)

  -- in the first round no result has an entry
  none_ended : EndedReached 0
  none_ended n u e i h = absurd (cc)

  -- what ended under an assignment has done all its acts
  ended_reached : (m : ℕ) → RoundReached m → EndedReached (suc m)
  ended_reached m round n u e i h =
      let there = task_of_entry program n m u e i h in
      let ended = ended_in program m u e there h in
      let k = 2 * suc (rules.left u.body) in
      let s = seen rules W u (V m) (within m) k in
      let stops : HasEnded (point_after rules W s.steps u) = subst HasEnded (sym s.point) ended in
      let all = s.acts ∙ all_acts rules W u obeys (proper_at (suc m) u there) s.steps (inl stops) in
      let count : length (done m u k) ≡ act_count lines u.name =
      ap (λ (l : List Act). length l) (all ∙ sym (acts_are (suc m) u there)) in
      by k ended (round u there k) count where
        by : (k : ℕ) → HasEnded (point_after rules (V m) k u)
            → Reaches u (point_after rules (V m) k u) (done m u k)
            → length (done m u k) ≡ act_count lines u.name → CanReach lines u.name (act_count lines u.name)
        by k ended (inl r) count = subst (CanReach lines u.name) count r
        by k ended (inr j) count =
            let z : stage.Closed ended.0 ≡ stage.Waits j.joined j.spare = sym ended.1 ∙ j.at_join in absurd (cc)

  module _ (m : ℕ) (told : EndedReached m) (t : Task B) (there : IsIn t (tasks program (suc m))) where
    abbrev point : ℕ → Point B
    point k = point_after rules (V m) k t

    -- no act more
    idle : (p : Point B) (acts : List Act) → CanReach lines t.name (length acts) → Reaches t p (acts ++ [])
    idle p acts r = inl (subst (λ (l : List Act). CanReach lines t.name (length l)) (sym (append-nil acts)) r)

    -- one act more that can be worked off
    one_more : (p : Point B) (acts : List Act) (a : Act) → CanReach lines t.name (suc (length acts))
        → Reaches t p (acts ++ a ∷ [])
    one_more p acts a r =
        let e = length-append acts (a ∷ []) in
        inl (subst (CanReach lines t.name) (let z : suc (length acts) ≡ length (acts ++ a ∷ []) = omega arith in z) r)

    -- the act of the next step is the next of the task's acts
    act_next : (k : ℕ) (a : Act) → step_acts rules W (point k) ≡ a ∷ []
        → HasAct lines t.name (length (done m t k)) a
    act_next k a e = has_act m (suc m) t (suc k) (length (done m t k)) a there
        (ap (λ l. slice_get (done m t k ++ l) (length (done m t k))) e ∙ get_last (done m t k) a)

    -- a reference is to a task where its sort says so, and what stands for a place too many is to a task
    named_at : (references : List Reference) (x : Name) → IsNamed program sort.Task x
        → ((r : Reference) → IsIn r references → IsNamed program r.sort r.name) → (i : ℕ)
        → IsNamed program (get_or references i (to_task x)).sort (get_or references i (to_task x)).name
    named_at [] x own each i = own
    named_at (r ∷ rs) x own each zero = each r (inl refl)
    named_at (r ∷ rs) x own each (suc i) = named_at rs x own (λ y j. each y (inr j)) i

    pub reference_named : (k i : ℕ) → IsNamed program (reference (point k) i).sort (reference (point k) i).name
    reference_named k i =
        let of_rounds : IsOfRounds program (point k) = (t, (suc m, there), (m, (k, refl))) in
        let own : IsNamed program sort.Task (point k).name =
        (t, (suc m, there), sym (point_name program obeys proper m t (point k) (k, refl))) in
        named_at (point k).references (point k).name own
        (λ r j. references_are_named program obeys proper (point k) r of_rounds j) i

    -- a fork is worked off, or it is no act
    after_fork_ask : (k : ℕ) (b : B) (pass hand : List ℕ) → CanReach lines t.name (length (done m t k))
        → (o : Result (List Name) Cause) → hand_all (point k).holds (map (reference (point k)) hand) ≡ o
        → step_acts rules W (point k) ≡ ask_acts W (ask.Fork b pass hand) (point k) → (p : Point B)
        → Reaches t p (done m t k ++ ask_acts W (ask.Fork b pass hand) (point k))
    after_fork_ask k b pass hand r (Ok left) e s p =
        let c = next_name (point k) in
        let one : ask_acts W (ask.Fork b pass hand) (point k) ≡ act.Fork c ∷ [] = ap (fork_acts c) e in
        subst (λ l. Reaches t p (done m t k ++ l)) (sym one)
        (one_more p (done m t k) (act.Fork c)
        (reach_fork t.name c (length (done m t k)) (act_next k (act.Fork c) (s ∙ one)) r))
    after_fork_ask k b pass hand r (Err c) e s p =
        subst (λ l. Reaches t p (done m t k ++ l)) (sym (ap (fork_acts (next_name (point k))) e))
        (idle p (done m t k) r)

    -- a join of a task waits, and one of a promise is no act
    after_join_ask : (k : ℕ) (spare : Bool) (i : ℕ) (next : Point B) → CanReach lines t.name (length (done m t k))
        → (o : Sort) → (reference (point k) i).sort ≡ o
        → Reaches t (after_join rules.strict spare (reference (point k) i).sort (reference (point k) i).name next)
        (done m t k ++ join_acts W (reference (point k) i).sort (reference (point k) i).name)
    after_join_ask k spare i next r sort.Task e =
        let q = (reference (point k) i).name in
        inr (record {
          earlier = done m t k;
          joined = q;
          spare = spare;
          at_join = ap (λ z. (after_join rules.strict spare z q next).stage) e
              ∙ ap (λ b. (after_join b spare sort.Task q next).stage) calm;
          is_task = subst (λ z. IsNamed program z q) e (reference_named k i);
          acts_so_far = ap (λ z. done m t k ++ join_acts W z q) e;
          reached = r;
        })
    after_join_ask k spare i next r sort.Promise e =
        let q = (reference (point k) i).name in
        subst (λ l. Reaches t (after_join rules.strict spare (reference (point k) i).sort q next) (done m t k ++ l))
        (sym (ap (λ z. join_acts W z q) e))
        (idle (after_join rules.strict spare (reference (point k) i).sort q next) (done m t k) r)

    -- an ask
    after_asking : (k : ℕ) (next : Point B) → next.references ≡ (point k).references → next.name ≡ (point k).name
        → CanReach lines t.name (length (done m t k)) → (a : Ask B)
        → step_acts rules W (point k) ≡ ask_acts W a (point k) → (p : Point B)
        → ((spare : Bool) (i : ℕ) → a ≡ join_of spare i
        → p ≡ after_join rules.strict spare (reference (point k) i).sort (reference (point k) i).name next)
        → Reaches t p (done m t k ++ ask_acts W a (point k))
    after_asking k next rs n r (ask.Fork b pass hand) s p j =
        after_fork_ask k b pass hand r (hand_all (point k).holds (map (reference (point k)) hand)) refl s p
    after_asking k next rs n r (ask.Join i) s p j =
        subst (λ z. Reaches t z (done m t k ++ ask_acts W (ask.Join i) (point k))) (sym (j false i refl))
        (after_join_ask k false i next r (reference (point k) i).sort refl)
    after_asking k next rs n r (ask.JoinOr i) s p j =
        subst (λ z. Reaches t z (done m t k ++ ask_acts W (ask.JoinOr i) (point k))) (sym (j true i refl))
        (after_join_ask k true i next r (reference (point k) i).sort refl)
    after_asking k next rs n r q s p j = idle p (done m t k) r

    -- a wait
    after_waiting : (k : ℕ) (q : Name) (spare : Bool) → (point k).stage ≡ stage.Waits q spare
        → Reaches t (point k) (done m t k) → (o : Option Entry) → V m q ≡ o → (p : Point B)
        → (V m q ≡ None → p ≡ point k) → Reaches t p (done m t k ++ [])
    after_waiting k q spare e r None v p stays =
        subst (λ l. Reaches t p l) (sym (append-nil (done m t k)))
        (subst (λ z. Reaches t z (done m t k)) (sym (stays v)) r)
    after_waiting k q spare e (inl r) (Some x) v p stays = idle p (done m t k) r
    after_waiting k q spare e (inr j) (Some x) v p stays =
        let q_is : j.joined ≡ q = ap cell_in (sym j.at_join ∙ e) in
        let v2 : V m j.joined ≡ Some x = ap (V m) q_is ∙ v in
        let has : is_some (W j.joined) ≡ true = ap (λ o. is_some o) (within m j.joined x v2) in
        let acts : done m t k ≡ j.earlier ++ act.Join j.joined true ∷ [] =
        j.acts_so_far ∙ ap (λ b. j.earlier ++ act.Join j.joined b ∷ []) has in
        let h = has_act m (suc m) t k (length j.earlier) (act.Join j.joined true) there
        (ap (λ (l : List Act). slice_get l (length j.earlier)) acts ∙ get_last j.earlier (act.Join j.joined true)) in
        let u = j.is_task in
        let all = subst (λ z. CanReach lines z (act_count lines z)) u.2
        (told u.1.0 u.0 x u.1.1 (ap (V m) u.2 ∙ v2)) in
        let r = answered t.name j.joined (length j.earlier) h j.reached all in
        let l1 = ap (λ (l : List Act). length l) acts in
        let l2 = length-append j.earlier (act.Join j.joined true ∷ []) in
        idle p (done m t k)
        (subst (CanReach lines t.name) (let z : suc (length j.earlier) ≡ length (done m t k) = omega arith in z) r)

    -- what a join makes of a point
    joined : (spare : Bool) (i : ℕ) (p next : Point B) → p ≡ after_ask rules.strict (join_of spare i) next
        → p ≡ after_join rules.strict spare (reference next i).sort (reference next i).name next
    joined true i p next e = e
    joined false i p next e = e

    -- a step
    after_one : (k : ℕ) → Reaches t (point k) (done m t k) → (st : PointStage) → (point k).stage ≡ st
        → Reaches t (after_stage rules (V m) st (point k)) (done m t k ++ stage_acts rules W st (point k))
    after_one k r (stage.Closed c) e = subst (λ l. Reaches t (point k) l) (sym (append-nil (done m t k))) r
    after_one k r (stage.Waits q spare) e =
        after_waiting k q spare e r (V m q) refl (after_look spare q (V m q) (point k))
        (λ n. ap (λ o. after_look spare q o (point k)) n)
    after_one k (inl r) (stage.Answered a) e =
        let next : Point B = record (point k) { body = rules.then (point k).body a } in
        after_asking k next refl refl r (rules.asks (point k).body a)
        (ap (λ z. stage_acts rules W z (point k)) e)
        (after_ask rules.strict (rules.asks (point k).body a) next)
        (λ spare i j. joined spare i (after_ask rules.strict (rules.asks (point k).body a) next) next
        (ap (λ x. after_ask rules.strict x next) j))
    after_one k (inr j) (stage.Answered a) e =
        let z : stage.Answered a ≡ stage.Waits j.joined j.spare = sym e ∙ j.at_join in absurd (cc)

    -- what a task that has begun has done can be worked off
    points_reached : CanReach lines t.name 0 → (k : ℕ) → Reaches t (point k) (done m t k)
    points_reached begun zero = inl begun
    points_reached begun (suc k) = after_one k (points_reached begun k) (point k).stage refl

    -- where an act stands its task can be worked off up to it
    up_to : (k i : ℕ) (a : Act) → Reaches t (point k) (done m t k) → slice_get (done m t k) i ≡ Some a
        → CanReach lines t.name i
    up_to k i a (inl r) h =
        let less = get_less (done m t k) i a h in
        reach_less lines t.name (length (done m t k) - i) i
        (subst (CanReach lines t.name)
        (let z : length (done m t k) ≡ (length (done m t k) - i) + i = omega arith in z) r)
    up_to k i a (inr j) h =
        let less = get_less (done m t k) i a h in
        let last = act.Join j.joined (is_some (W j.joined)) in
        let l1 = ap (λ (l : List Act). length l) j.acts_so_far in
        let l2 = length-append j.earlier (last ∷ []) in
        reach_less lines t.name (length j.earlier - i) i
        (subst (CanReach lines t.name)
        (let z : length j.earlier ≡ (length j.earlier - i) + i = omega arith in z) j.reached)

    -- a look leaves the children as they are
    look_keeps : (spare : Bool) (q : Name) (o : Option Entry) (p : Point B)
        → (after_look spare q o p).children ≡ p.children
    look_keeps spare q None p = refl
    look_keeps true q (Some entry.Broken) p = refl
    look_keeps false q (Some entry.Broken) p = refl
    look_keeps spare q (Some (entry.Value (value.Num i))) p = refl
    look_keeps spare q (Some (entry.Value (value.Ref r))) p = refl

    -- a child was there before an ask, or the ask is its fork
    ask_forks : (p : Point B) (c : Task B) (a : Ask B) (p' : Point B) → IsAskStep rules.strict p a p'
        → IsIn c p'.children → IsIn c p.children ⊎ (ask_acts W a p ≡ act.Fork c.name ∷ [])
    ask_forks p c _ _ (fails a why) i = inl i
    ask_forks p c _ _ (ends v) i = inl i
    ask_forks p c _ _ makes i = inl i
    ask_forks p c _ _ (forks b pass hand left e) i =
        ⊎_elim (λ x. inl x)
        (λ x. inr (ap (fork_acts (next_name p)) e ∙ ap (λ (d : Task B). act.Fork d.name ∷ []) (sym x)))
        (in_snoc p.children c (next_child b (map (reference p) pass) (map (λ k. (reference p k).name) hand) p) i)
    ask_forks p c _ _ (sets k v s o) i = inl i
    ask_forks p c _ _ (gets spare k s) i = inl i
    ask_forks p c _ _ (joins spare k s o) i = inl i
    ask_forks p c _ _ (prints n) i = inl i

    step_forks : (k : ℕ) (c : Task B) (st : PointStage) → (point k).stage ≡ st
        → IsIn c (after_stage rules (V m) st (point k)).children
        → IsIn c (point k).children ⊎ (stage_acts rules W st (point k) ≡ act.Fork c.name ∷ [])
    step_forks k c (stage.Closed e) s i = inl i
    step_forks k c (stage.Waits q spare) s i =
        inl (subst (IsIn c) (look_keeps spare q (V m q) (point k)) i)
    step_forks k c (stage.Answered a) s i =
        let next : Point B = record (point k) { body = rules.then (point k).body a } in
        let q = rules.asks (point k).body a in
        subst (λ l. IsIn c (point k).children ⊎ (l ≡ act.Fork c.name ∷ []))
        (other_body W q (point k) (rules.then (point k).body a))
        (ask_forks next c q _ (is_ask_step rules.strict next q) i)

    -- each child that was forked has its act
    fork_done : (k : ℕ) (c : Task B) → IsIn c (point k).children
        → (i : ℕ) × (slice_get (done m t k) i ≡ Some (act.Fork c.name))
    fork_done zero c i = absurd i
    fork_done (suc k) c i = by (λ j. fork_done k c j) (step_forks k c (point k).stage refl i) where
      by : (IsIn c (point k).children → (i : ℕ) × (slice_get (done m t k) i ≡ Some (act.Fork c.name)))
          → IsIn c (point k).children ⊎ (step_acts rules W (point k) ≡ act.Fork c.name ∷ [])
          → (i : ℕ) × (slice_get (done m t (suc k)) i ≡ Some (act.Fork c.name))
      by earlier (inl j) =
          let r = earlier j in (
            r.0,
            get_begins (done m t k) (done m t (suc k)) (step_acts rules W (point k), refl) r.0
                (act.Fork c.name) r.1,
          )
      by earlier (inr e) = (
        length (done m t k),
        ap (λ l. slice_get (done m t k ++ l) (length (done m t k))) e ∙ get_last (done m t k) (act.Fork c.name),
      )

    -- a child of a task that has begun can begin
    child_reached : CanReach lines t.name 0 → (c : Task B) → IsIn c (history rules (V m) t).children
        → CanReach lines c.name 0
    child_reached begun c i =
        let k = 2 * suc (rules.left t.body) in
        let f = fork_done k c i in
        child_begins t.name c.name f.0 (has_act m (suc m) t k f.0 (act.Fork c.name) there f.1)
        (up_to k f.0 (act.Fork c.name) (points_reached begun k) f.1)

  module _ (m : ℕ) (told : EndedReached m) where
    -- all that come from a task that can begin can
    family_reached : (d : ℕ) (r : Task B)
        → ((y : Task B) → IsIn y (family rules (V m) d r) → IsIn y (tasks program (suc m)))
        → CanReach lines r.name 0 → (y : Task B) → IsIn y (family rules (V m) d r) → CanReach lines y.name 0
    family_reached zero r sub begun y (inl e) = subst (λ (z : Task B). CanReach lines z.name 0) (sym e) begun
    family_reached zero r sub begun y (inr i) = absurd i
    family_reached (suc d) r sub begun y (inl e) = subst (λ (z : Task B). CanReach lines z.name 0) (sym e) begun
    family_reached (suc d) r sub begun y (inr i) =
        let children = (history rules (V m) r).children in
        let x = from_flat_map (family rules (V m) d) y children i in
        let below = λ (z : Task B) (j : IsIn z (family rules (V m) d x.0)). sub z
        (inr (in_flat_map (family rules (V m) d) x.0 z children x.1 j)) in
        family_reached d x.0 below (child_reached m told r (sub r (inl refl)) begun x.0 x.1) y x.2

    -- so it is in each round
    round_reached : RoundReached m
    round_reached t i k =
        points_reached m told t i
        (family_reached (suc m) (root_task program.root) (λ y j. j) root_begins t i) k

  pub all_ended : (m : ℕ) → EndedReached m
  all_ended zero = none_ended
  all_ended (suc m) = ended_reached m (round_reached m (all_ended m))

  module _ (t : Task B) (there : IsIn t (tasks program (suc (last_round N)))) where
    abbrev in_last : List Act → Type 0
    in_last acts = CanReach lines t.name (length acts)

    -- a join that is the last act of a history that waits isn't answered
    last_join : (k : ℕ) (q : Name) (spare : Bool) → (point_after rules W k t).stage ≡ stage.Waits q spare
        → W q ≡ None → IsAtJoin t (point_after rules W k t) (done (last_round N) t k)
        → in_last (done (last_round N) t k)
    last_join k q spare e none j =
        let n = last_round N in
        let q_is : j.joined ≡ q = ap cell_in (sym j.at_join ∙ e) in
        let unanswered : is_some (W j.joined) ≡ false = ap (λ x. is_some (W x)) q_is ∙ ap (λ o. is_some o) none in
        let acts : done n t k ≡ j.earlier ++ act.Join j.joined false ∷ [] =
        j.acts_so_far ∙ ap (λ b. j.earlier ++ act.Join j.joined b ∷ []) unanswered in
        let h = has_act n (suc n) t k (length j.earlier) (act.Join j.joined false) there
        (ap (λ (l : List Act). slice_get l (length j.earlier)) acts ∙ get_last j.earlier (act.Join j.joined false)) in
        let r = waits t.name j.joined (length j.earlier) h j.reached in
        let l1 = ap (λ (l : List Act). length l) acts in
        let l2 = length-append j.earlier (act.Join j.joined false ∷ []) in
        subst (CanReach lines t.name) (let z : suc (length j.earlier) ≡ length (done n t k) = omega arith in z) r

    -- where a task of the meaning has stopped, what it has done can be worked off
    stopped_reached : (k : ℕ) → HasStopped W (point_after rules W k t)
        → Reaches t (point_after rules W k t) (done (last_round N) t k) → in_last (done (last_round N) t k)
    stopped_reached k stops (inl r) = r
    stopped_reached k (inl c) (inr j) =
        let z : stage.Closed c.0 ≡ stage.Waits j.joined j.spare = sym c.1 ∙ j.at_join in absurd (cc)
    stopped_reached k (inr w) (inr j) = last_join k w.0 w.1 w.2 w.3 j

  -- all acts of each task of the meaning can be worked off
  pub all_reached : (t : Task B) → IsIn t (tasks program (last_round N))
      → CanReach lines t.name (act_count lines t.name)
  all_reached t i =
      let n = last_round N in
      let there = tasks_within program n (suc n) (omega arith) t i in
      let k = 2 * suc (rules.left t.body) in
      let s = seen rules W t W (within n) k in
      let stops = stopped rules obeys W t (proper_at n t i) in
      let all = s.acts ∙ all_acts rules W t obeys (proper_at n t i) s.steps
      (subst (HasStopped W) (sym s.point) stops) in
      let count : length (done n t k) ≡ act_count lines t.name =
      ap (λ (l : List Act). length l) (all ∙ sym (acts_are n t i)) in
      subst (CanReach lines t.name) count (stopped_reached t there k stops (round_reached n (all_ended n) t there k))
