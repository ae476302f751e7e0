-- What a task of a meaning forks or joins is a task of it.
use Rattle.std.proofs.Common.{◌≡◌, ℕ, zero, suc, List, [], ◌∷◌, map, Some, Result, Ok, Err, inl, inr}
use Rattle.std.proofs.Common.{⊎_elim}
use Rattle.std.proofs.Common.{refl, sym, subst, false}
use Rattle.std.specs.Prelude.{slice_get}
use Rattle.tj_base.specs.ForkOrder.{Name}
use Rattle.tj_base.specs.declared.cause.Cause.{Cause}
use Rattle.tj_base.specs.declared.cell.Sort.{Sort}
use Rattle.tj_base.specs.declared.cell.Sort.TheVariants as sort
use Rattle.tj_body.specs.Programs.{Program, Rules, AreLawful, root_task}
use Rattle.tj_body.specs.History.{Assignment, after_ask, after_stage, after_try_fork, hand_all, next_child, next_name}
use Rattle.tj_body.specs.History.{point_after, reference}
use Rattle.tj_body.specs.Rounds.{given, tasks, IsFull}
use Rattle.tj_body.specs.Points.{IsIn, IsProper}
use Rattle.tj_body.specs.RoundPoints.{IsNamed}
use Rattle.tj_body.specs.declared.ask.Ask.{Ask}
use Rattle.tj_body.specs.declared.ask.Ask.TheVariants as ask
use Rattle.tj_body.specs.declared.point.PointStage.{PointStage}
use Rattle.tj_body.specs.declared.point.PointStage.TheVariants as stage
use Rattle.tj_body.specs.declared.point.Point.{Point}
use Rattle.tj_body.specs.declared.point.Reference.{Reference}
use Rattle.tj_body.specs.declared.point.Task.{Task}
use Rattle.tj_body.proofs.Histories.Grows.{grows}
use Rattle.tj_body.proofs.Lists.{in_begins, in_right}
use Rattle.tj_mean.specs.Acts.{AreActsOf, acts_within, ask_acts, fork_acts, join_acts, stage_acts}
use Rattle.tj_mean.specs.declared.act.Act.{Act}
use Rattle.tj_mean.specs.declared.act.Act.TheVariants as act
use Rattle.tj_mean.specs.declared.act.ActLine.{ActLine}
use Rattle.tj_mean.proofs.Lists.Ends.{get_either}
use Rattle.tj_mean.proofs.NotedActs.NotedAsks.{other_body}
use Rattle.tj_mean.proofs.NotedActs.ReachedActs.{all_ended, reference_named}

module _ {B : Type 0} (program : Program B) (obeys : AreLawful program.rules)
    (proper : IsProper program.rules (root_task program.root)) (calm : program.rules.strict ≡ false) (N : ℕ)
    (fits : ¬ IsFull program N) (lines : List ActLine) (are : AreActsOf program N lines) (m : ℕ) (t : Task B)
    (there : IsIn t (tasks program (suc m))) where
  abbrev V : Assignment
  V = given program m

  abbrev rules : Rules B
  rules = program.rules

  abbrev point : ℕ → Point B
  point k = point_after rules V k t

  -- the act is the fork of a child that is there, or a join of a task of some round
  abbrev pub Tells : Point B → Act → Type 0
  Tells p (act.Fork c) = (d : Task B) × IsIn d p.children × (d.name ≡ c)
  Tells p (act.Join u answered) = IsNamed program sort.Task u

  fork_tells : (p : Point B) (b : B) (passed : List Reference) (handed : List Name) (a : Act)
      → (o : Result (List Name) Cause) → IsIn a (fork_acts (next_name p) o)
      → Tells (after_try_fork b passed handed o p) a
  fork_tells p b passed handed a (Ok left) (inl e) =
      let c = next_child b passed handed p in
      subst (λ z. Tells (after_try_fork b passed handed (Ok left) p) z) (sym e)
      (c, in_right c p.children (c ∷ []) (inl refl), refl)
  fork_tells p b passed handed a (Ok left) (inr i) = absurd i
  fork_tells p b passed handed a (Err c) i = absurd i

  join_tells : (p : Point B) (W : Assignment) (a : Act) (s : Sort) (u : Name) → IsNamed program s u
      → IsIn a (join_acts W s u) → Tells p a
  join_tells p W a sort.Task u named (inl e) = subst (λ z. Tells p z) (sym e) named
  join_tells p W a sort.Task u named (inr i) = absurd i
  join_tells p W a sort.Promise u named i = absurd i

  named : (k i : ℕ) → IsNamed program (reference (point k) i).sort (reference (point k) i).name
  named k i = reference_named program obeys proper calm N fits lines are m
      (all_ended program obeys proper calm N fits lines are m) t there k i

  ask_tells : (k : ℕ) (next : Point B)
      → ((i : ℕ) → IsNamed program (reference next i).sort (reference next i).name) → (a : Act) (q : Ask B)
      → IsIn a (ask_acts V q next) → Tells (after_ask rules.strict q next) a
  ask_tells k next each a (ask.Fork b pass hand) i =
      fork_tells next b (map (reference next) pass) (map (λ j. (reference next j).name) hand) a
      (hand_all next.holds (map (reference next) hand)) i
  ask_tells k next each a (ask.Join j) i =
      join_tells (after_ask rules.strict (ask.Join j) next) V a (reference next j).sort (reference next j).name
      (each j) i
  ask_tells k next each a (ask.JoinOr j) i =
      join_tells (after_ask rules.strict (ask.JoinOr j) next) V a (reference next j).sort (reference next j).name
      (each j) i
  ask_tells k next each a q i = absurd i

  stage_tells : (k : ℕ) (a : Act) (st : PointStage) → IsIn a (stage_acts rules V st (point k))
      → Tells (after_stage rules V st (point k)) a
  stage_tells k a (stage.Answered r) i =
      let next : Point B = record (point k) { body = rules.then (point k).body r } in
      let q = rules.asks (point k).body r in
      ask_tells k next (λ j. named k j) a q
      (subst (IsIn a) (sym (other_body V q (point k) (rules.then (point k).body r))) i)
  stage_tells k a (stage.Waits q spare) i = absurd i
  stage_tells k a (stage.Closed c) i = absurd i

  -- what was told stays
  tells_on : (k : ℕ) (a : Act) → Tells (point k) a → Tells (point (suc k)) a
  tells_on k (act.Fork c) x =
      (x.0, in_begins x.0 (point k).children (point (suc k)).children (grows rules V (point k)).0 x.1, x.2)
  tells_on k (act.Join u answered) x = x

  -- so it is of each act
  pub acts_tell : (k n : ℕ) (a : Act) → slice_get (acts_within rules V k t) n ≡ Some a → Tells (point k) a
  acts_tell zero n a h = absurd (cc)
  acts_tell (suc k) n a h =
      ⊎_elim (λ e. tells_on k a (acts_tell k n a e)) (λ i. stage_tells k a (point k).stage i)
      (get_either (acts_within rules V k t) (stage_acts rules V (point k).stage (point k)) n a h)
