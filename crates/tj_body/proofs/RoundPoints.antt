-- Points in rounds.
use Rattle.std.proofs.Common.{◌≡◌, ℕ, zero, suc, ◌+◌, ◌<◌, ◌≤◌, inl, inr, List, ◌++◌, map}
use Rattle.std.proofs.Common.{Some, refl, sym, ap, ◌∙◌, subst, arith}
use native.Mathlib.Decide.{dec_le}
use mathlib.Core.Logic.{dite}
use Rattle.tj_base.specs.ForkOrder.{Name, child}
use Rattle.tj_body.specs.Asks.{IsPlaced}
use Rattle.tj_body.specs.Programs.{Program, AreLawful, root_task}
use Rattle.tj_body.specs.History.{Assignment, after_read, after_ask}
use Rattle.tj_body.specs.Rounds.{given, tasks}
use Rattle.tj_body.specs.Points.{IsIn, IsProper, IsGood, IsGoodAt, MayAnswer, IsPointOf, IsSomeTask}
use Rattle.tj_body.specs.RoundPoints.{InRounds, IsOfRounds, HasMade, PointsStay, TasksStart, PointsAsk, PointsRead}
use Rattle.tj_body.specs.RoundPoints.{WritesBecome, ThingsInRounds, EntriesAreOne, PointsAreGood, AsksArePlaced}
use Rattle.tj_body.specs.RoundPoints.{ReferencesAreNamed, ThingsAreMade, StepsExtend}
use Rattle.tj_body.specs.declared.point.Task.{Task}
use Rattle.tj_body.specs.declared.point.Point.{Point}
use Rattle.tj_body.proofs.Lists.{in_left, in_right, in_map, to_map}
use Rattle.tj_body.proofs.Counts.{is, times, times_map, total, total_append, total_le}
use Rattle.tj_body.proofs.Counts.{times_of_in, in_of_times, at_most_one}
use Rattle.tj_body.proofs.Counts.{distinct_of_times}
use Rattle.tj_body.proofs.Histories.Prefixes.{begins, under, under_is, numbered_once}
use Rattle.tj_body.proofs.Histories.Accounts.{numbered, fair}
use Rattle.tj_body.proofs.Histories.Grows.{extends, takes, reads}
use Rattle.tj_body.proofs.Histories.Good.{good, task_proper}
use Rattle.tj_body.proofs.Histories.Points.{asks_on, point_up}
use Rattle.tj_body.proofs.Rounds.Rises.{within, tasks_within, entry_cell}
use Rattle.tj_body.proofs.Rounds.Keeps.{reads_later, task_cell, written, promised, forked}
use Rattle.tj_body.proofs.References.{has_named}

-- the things made are those with the numbers 1 to made
in_numbered : (x : Name) (m : ℕ) (q : Name) → IsIn q (numbered x m) → (k : ℕ) × (k < m) × (q ≡ child x (suc k))
in_numbered x zero q i = absurd i
in_numbered x (suc m) q (inl e) = (m, omega arith, e)
in_numbered x (suc m) q (inr i) = let r = in_numbered x m q i in (r.0, omega arith, r.2)

to_numbered : (x : Name) (m k : ℕ) → k < m → IsIn (child x (suc k)) (numbered x m)
to_numbered x zero k l = absurd (omega arith)
to_numbered x (suc m) k l =
    dite (dec_le m k)
    (λ h. let e : k ≡ m = omega arith in inl (ap (λ z. child x (suc z)) e))
    (λ h. inr (to_numbered x m k (omega arith)))

abbrev names_of : {B : Type 0} → List (Task B) → List Name
names_of l = map (λ c. c.name) l

module _ {B : Type 0} (program : Program B) where
  abbrev V : ℕ → Assignment
  V n = given program n

  -- a point under one round is one under each later round
  pub points_stay : PointsStay program
  points_stay n m t p l h = point_up program.rules (V n) (V m) (within program n m l) t p h

  -- the task and the point stand in one round
  abbrev Together : Point B → Type 0
  Together p = (n : ℕ) × (t : Task B) × IsIn t (tasks program (suc n)) × IsPointOf program.rules (V n) t p

  together : (p : Point B) → IsOfRounds program p → Together p
  together p h =
      let n = h.1.0 + h.2.0 in (
        n,
        h.0,
        tasks_within program h.1.0 (suc n) (omega arith) h.0 h.1.1,
        points_stay h.2.0 n h.0 p (omega arith) h.2.1,
      )

  pub name_in_rounds : (t : Task B) → IsSomeTask program t → InRounds program t.name
  name_in_rounds t s =
      (suc s.0, task_cell program s.0 t (tasks_within program s.0 (suc s.0) (omega arith) t s.1))

  pub tasks_start : TasksStart program
  tasks_start = (
    (suc zero, inl refl),
    λ t s. (name_in_rounds t s, (t, s, (0, (0, refl)))),
  )

  pub points_ask : PointsAsk program
  points_ask p a h e = (h.0, h.1, (h.2.0, asks_on program.rules (V h.2.0) h.0 p a h.2.1 e))

  pub points_read : PointsRead program
  points_read p q spare e h s b =
      let k = h.2.0 + b.0 in
      (h.0, h.1, (k, reads_later program h.2.0 b.0 k h.0 p q spare e (omega arith) (omega arith) h.2.1 s b.1))

  pub entries_are_one : EntriesAreOne program
  entries_are_one q d e a b =
      let k = a.0 + b.0 in
      let x : Some d ≡ Some e = sym (within program a.0 k (omega arith) q d a.1)
      ∙ within program b.0 k (omega arith) q e b.1 in
      ((cc), (a.0, entry_cell program a.0 q d a.1))

  pub steps_extend : StepsExtend program
  steps_extend = (
    (λ ask p. extends p (after_ask program.rules.strict ask p) (takes program.rules.strict ask p)),
    (λ p q spare e. extends p (after_read spare q e p) (reads spare q e p)),
  )

  module _ (obeys : AreLawful program.rules) (proper : IsProper program.rules (root_task program.root)) where
    pub writes_become : WritesBecome program
    writes_become p q e h w = let o = together p h in
        (suc o.0, written program obeys proper o.0 o.1 p o.2 o.3 q e w)

    pub things_in_rounds : ThingsInRounds program
    things_in_rounds p h = let o = together p h in (
      (λ q i. (suc o.0, promised program obeys proper o.0 o.1 p o.2 o.3 q i)),
      (λ c i. (suc (suc o.0), forked program obeys proper o.0 o.1 p o.2 o.3 c i)),
    )

    pub points_are_good : PointsAreGood program
    points_are_good p h =
        let t_proper = task_proper program obeys proper h.1.0 h.0 h.1.1 in
        subst (IsGood program.rules) (sym h.2.1.1) (good program.rules obeys (V h.2.0) h.0 t_proper h.2.1.0)

    pub asks_are_placed : AsksArePlaced program
    asks_are_placed p a h e =
        let m : MayAnswer program.rules a p =
        subst (λ z. IsGoodAt program.rules z p) e (points_are_good p h).at_stage in
        let n = obeys p.body a m.fits in
        subst (λ k. IsPlaced program.rules.places program.rules.awaits program.rules.left k
        (program.rules.asks p.body a)) (n.adds_places ∙ m.all_places) n.placed

    pub references_are_named : ReferencesAreNamed program
    references_are_named p r h i =
        let o = together p h in
        (has_named program obeys proper o.0 o.1 o.2 o.3.0).1 r
        (subst (λ (z : Point B). IsIn r z.references) o.3.1 i)

    -- the account of the things made
    made_as : (q : Name) (p : Point B) → IsOfRounds program p
        → times q (names_of p.children ++ p.promises) ≡ times q (numbered p.name p.made)
    made_as q p h =
        let a = total_append (is q) (names_of p.children) p.promises in
        let b = times_map (λ (c : Task B). c.name) q p.children in
        let c = subst (λ (z : Point B). total (λ (c : Task B). is q c.name) z.children + times q z.promises
        ≡ times q (numbered z.name z.made)) (sym h.2.1.1)
        (fair q (is q) program.rules (V h.2.0) h.2.1.0 h.0).1 in
        omega arith

    pub things_are_made : ThingsAreMade program
    things_are_made p h = ((λ q. (made q, thing q)), distinct_of_times all once) where
      all : List Name
      all = names_of p.children ++ p.promises

      to_all : (q : Name) → HasMade p q → IsIn q all
      to_all q (inl i) = in_right q (names_of p.children) p.promises i
      to_all q (inr c) = in_left q (names_of p.children) p.promises
          (subst (λ z. IsIn z (names_of p.children)) c.2 (to_map (λ (c : Task B). c.name) c.0 p.children c.1))

      made : (q : Name) → HasMade p q → (k : ℕ) × (k < p.made) × (q ≡ child p.name (suc k))
      made q m =
          let a = times_of_in q all (to_all q m) in
          let b = made_as q p h in
          in_numbered p.name p.made q (in_of_times q (numbered p.name p.made) (omega arith))

      thing : (q : Name) → (k : ℕ) × (k < p.made) × (q ≡ child p.name (suc k)) → HasMade p q
      thing q k =
          let i = subst (λ z. IsIn z (numbered p.name p.made)) (sym k.2) (to_numbered p.name p.made k.0 k.1) in
          let a = times_of_in q (numbered p.name p.made) i in
          let b = made_as q p h in
          let c = total_append (is q) (names_of p.children) p.promises in
          dite (dec_le 1 (times q p.promises)) (λ l. inl (in_of_times q p.promises l))
          (λ l. let j = in_of_times q (names_of p.children) (omega arith) in
          let r = in_map (λ (c : Task B). c.name) q p.children j in
          inr (r.0, r.1, sym r.2))

      once : (q : Name) → times q all ≤ 1
      once q =
          let a = made_as q p h in
          let b = total_le (is q) (under q) (λ x. let u = under_is q x in omega arith) (numbered p.name p.made) in
          let c = numbered_once q p.name p.made in
          let d = under_is q p.name in
          let e = at_most_one (begins p.name q) in
          omega arith
