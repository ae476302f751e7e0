-- In a meaning that isn't full, whoever owns what a task waits for waits too, so waits lead to a cycle.
use Rattle.std.proofs.Common.{◌≡◌, ℕ, zero, suc, ◌+◌, ◌*◌, ◌<◌, ◌≤◌, ◌⊎◌, inl, inr, ⊎_elim, Bool, true, false}
use Rattle.std.proofs.Common.{List, [], ◌∷◌, map, length, Option, Some, None, refl, sym, ap}
use Rattle.std.proofs.Common.{◌∙◌, subst, arith, length-append}
use native.Mathlib.Decide.{dec_le}
use mathlib.Core.Logic.{dite}
use Rattle.std.specs.Bool.{Decides}
use Rattle.std.specs.List.{flat_map}
use Rattle.tj_base.specs.Cycles.{LeadsToOne, TellsWhetherOn, Reaches, IsOnCycle}
use Rattle.tj_base.specs.ForkOrder.{Name}
use Rattle.tj_base.proofs.Ways.{reach_after, round_least}
use Rattle.tj_body.specs.Names.{same}
use Rattle.tj_body.specs.Programs.{Rules, Program, AreLawful, root_task}
use Rattle.tj_body.specs.History.{Assignment, owned, owned_in, history}
use Rattle.tj_body.specs.Rounds.{family, writes_by, cells_by, given, tasks, cells, last_round, meaning, IsFull}
use Rattle.tj_body.specs.Points.{IsIn, IsProper}
use Rattle.tj_body.specs.Laws.{AreDistinct}
use Rattle.tj_body.specs.RoundPoints.{InRounds, IsNamed}
use Rattle.tj_body.specs.WaitGraph.{Waits, Owns, WaitsFor}
use Rattle.tj_base.specs.declared.cell.Sort.{Sort}
use Rattle.tj_base.specs.declared.cell.Sort.TheVariants as sort
use Rattle.tj_body.specs.declared.point.Entry.{Entry}
use Rattle.tj_body.specs.declared.point.Close.{Close}
use Rattle.tj_body.specs.declared.point.PointStage.{PointStage}
use Rattle.tj_body.specs.declared.point.PointStage.TheVariants as stage
use Rattle.tj_body.specs.declared.point.Task.{Task}
use Rattle.tj_body.specs.declared.point.Point.{Point}
use Rattle.tj_body.proofs.Lists.{sub_length, sub_self, flat_map_sub, in_flat_map, in_map, to_map}
use Rattle.tj_body.proofs.Counts.{is, times, total, total_some, total_flat_map, times_of_in, in_of_times, same_is}
use Rattle.tj_body.proofs.Counts.{same_self, entry_of_wrote, fewer, at_least, times_of_distinct}
use Rattle.tj_body.proofs.Rounds.Families.{uses, beyond, used_exactly, same_name}
use Rattle.tj_body.proofs.Rounds.Rises.{family_sub, tasks_within, of_entries, one_of_all, owners_apart}
use Rattle.tj_body.proofs.Rounds.Settles.{within_self, at_most_limit, last_given, last_tasks, last_cell}
use Rattle.tj_body.proofs.References.{WaitsNamed, waits_named}
use Rattle.tj_body.proofs.RoundPoints.{name_in_rounds, things_in_rounds}
use Rattle.tj_body.proofs.Rounds.InOrder.{cell_in, stops, no_entry}

module _ {B : Type 0} (rules : Rules B) (V : Assignment) (q : Name) where
  abbrev family_of : ℕ → Task B → List (Task B)
  family_of d t = family rules V d t

  abbrev past : ℕ → Task B → ℕ
  past d t = beyond rules V q d t

  -- nothing is handed beyond a family to which one generation more adds nothing
  none_beyond : (d : ℕ) (t : Task B) → length (family_of (suc d) t) ≤ length (family_of d t) → past d t ≡ 0
  none_beyond zero t h = none (history rules V t).children (omega arith) where
    none : (l : List (Task B)) → length (flat_map (family_of zero) l) ≤ 0
        → total (λ (c : Task B). times q c.handed) l ≡ 0
    none [] e = refl
    none (x ∷ xs) e = absurd (omega arith)
  none_beyond (suc d) t h = all (none_beyond d) (history rules V t).children (omega arith) where
    all : ((x : Task B) → length (family_of (suc d) x) ≤ length (family_of d x) → past d x ≡ 0)
        → (l : List (Task B)) → length (flat_map (family_of (suc d)) l) ≤ length (flat_map (family_of d) l)
        → total (past d) l ≡ 0
    all rec [] e = refl
    all rec (x ∷ xs) e =
        let grown = family_sub rules V V (within_self rules V) d (suc d) (omega arith) in
        let a = length-append (family_of (suc d) x) (flat_map (family_of (suc d)) xs) in
        let b = length-append (family_of d x) (flat_map (family_of d) xs) in
        let c = sub_length (family_of d x) (family_of (suc d) x) (grown x) in
        let f = sub_length (flat_map (family_of d) xs) (flat_map (family_of (suc d)) xs)
        (flat_map_sub (family_of d) (family_of (suc d)) grown xs xs (sub_self xs)) in
        let r = rec x (omega arith) in
        let s = all rec xs (omega arith) in
        omega arith

not_both : (o : Option Entry) (e : Entry) → o ≡ None → o ≡ Some e → ⊥
not_both o e p q = let z : None ≡ Some e = sym p ∙ q in cc

-- who has ended owns nothing
ends_owning_none : (st : PointStage) (x q : Name) (holds : List Name) → IsIn q (owned_in st x holds)
    → (e : Close) → st ≡ stage.Closed e → ⊥
ends_owning_none st x q holds i e c = subst (λ z. IsIn q (owned_in z x holds)) c i

module _ {B : Type 0} (program : Program B) (obeys : AreLawful program.rules)
    (proper : IsProper program.rules (root_task program.root)) (N : ℕ) (fits : ¬ IsFull program N) where
  abbrev V : ℕ → Assignment
  V n = given program n

  abbrev last : ℕ
  last = last_round N

  abbrev all : List (Task B)
  all = tasks program last

  abbrev points : List (Point B)
  points = meaning program N

  abbrev history_of : Task B → Point B
  history_of t = history program.rules (V last) t

  few : length (cells program last) ≤ N
  few = at_most_limit program N fits

  is_last : suc (2 * N) ≡ last
  is_last = omega arith

  same_given : V (2 * N) ≡ V last
  same_given = sym (last_given program N few last (omega arith))

  abbrev round : List (Task B)
  round = tasks program (suc (2 * N))

  -- one generation more adds nothing to the round
  settled : family program.rules (V (2 * N)) (suc (suc (2 * N))) (root_task program.root) ≡ round
  settled =
      ap (λ U. family program.rules U (suc (suc (2 * N))) (root_task program.root))
      (sym (last_given program N few (suc (2 * N)) (omega arith)))
      ∙ last_tasks program N few (suc (2 * N)) (omega arith)

  same_at : (q : Name) → V (suc (2 * N)) q ≡ V last q
  same_at q =
      ap (λ (U : Assignment). U q) (last_given program N few (suc (2 * N)) (omega arith))
      ∙ ap (λ (U : Assignment). U q) same_given

  -- what a task of the round uses and has no entry, it owns
  owns : (q : Name) (t : Task B) → IsIn t round → V last q ≡ None → 1 ≤ uses program.rules (V (2 * N)) q t
      → IsIn q (owned (history program.rules (V (2 * N)) t))
  owns q t i no_value many =
      let W = V (2 * N) in
      let H = owned (history program.rules W t) in
      in_of_times q H (dite (dec_le 1 (times q H)) (λ l. l)
      (λ l. let w = entry_of_wrote q (writes_by program.rules W t) (omega arith) in
      let e = of_entries program (suc (2 * N)) q w.0
      (in_flat_map (writes_by program.rules W) t (q, w.0) round i w.1) in
      absurd (not_both (V (suc (2 * N)) q) w.0 (same_at q ∙ no_value) e)))

  -- a cell without an entry has an owner
  owner : (q : Name) → IsIn q (cells program (suc (2 * N))) → V last q ≡ None
      → (t : Task B) × IsIn t round × IsIn q (owned (history program.rules (V (2 * N)) t))
  owner q i no_value =
      let W = V (2 * N) in
      let a = used_exactly program.rules W q (suc (2 * N)) (root_task program.root) in
      let s = ap (λ (l : List (Task B)). length l) settled in
      let b = none_beyond program.rules W q (suc (2 * N)) (root_task program.root) (omega arith) in
      let c = times_of_in q (cells program (suc (2 * N))) i in
      let d = total_flat_map (is q) (cells_by program.rules W) round in
      let x = total_some (uses program.rules W q) round (omega arith) in
      (x.0, x.1, owns q x.0 x.1 no_value x.2)

  task_of : (p : Point B) → IsIn p points → (t : Task B) × IsIn t all × (p ≡ history_of t)
  task_of p i = in_map history_of p all i

  -- what a task waits for is a cell
  cell_waited : (p : Point B) (q : Name) (spare : Bool) → IsIn p points → p.stage ≡ stage.Waits q spare
      → IsIn q (cells program (suc (2 * N)))
  cell_waited p q spare i e =
      let r = task_of p i in
      let there = tasks_within program last (suc last) (omega arith) r.0 r.1 in
      let w : WaitsNamed (IsNamed program) (stage.Waits q spare) =
      subst (WaitsNamed (IsNamed program)) (ap (λ (z : Point B). z.stage) (sym r.2) ∙ e)
      (waits_named program obeys proper last r.0 there (2 * suc (program.rules.left r.0.body))) in
      let c = in_rounds w.0 q w.1 in
      subst (λ n. IsIn q (cells program n)) (sym is_last) (last_cell program N few c.0 q c.1) where
        in_rounds : (s : Sort) (x : Name) → IsNamed program s x → InRounds program x
        in_rounds sort.Task x n = subst (InRounds program) n.2 (name_in_rounds program n.0 n.1)
        in_rounds sort.Promise x n = (things_in_rounds program obeys proper n.0 n.1).0 x n.2

  -- the owner of a cell that a task waits for
  owner_of : (x q : Name) → Waits points x q → (u : Point B) × IsIn u points × IsIn q (owned u)
  owner_of x q w =
      let n = no_entry program obeys proper N fits w.0 q w.1 w.2 w.4 in
      let o = owner q (cell_waited w.0 q w.1 w.2 w.4) n in (
        history_of o.0,
        to_map history_of o.0 all (subst (λ n. IsIn o.0 (tasks program n)) is_last o.1),
        subst (λ U. IsIn q (owned (history program.rules U o.0))) same_given o.2,
      )

  -- who owns something waits
  owner_waits : (u : Point B) (q : Name) → IsIn u points → IsIn q (owned u) → (r : Name) × Waits points u.name r
  owner_waits u q i o =
      ⊎_elim (λ c. absurd (ends_owning_none u.stage u.name q u.holds o c.0 c.1))
      (λ w. (w.0, (u, w.1, i, refl, w.2))) (stops program obeys proper N u i)

  pub owners_wait : (x q : Name) → Waits points x q
      → (V last q ≡ None) × ((y r : Name) × Owns points y q × Waits points y r)
  owners_wait x q w =
      let o = owner_of x q w in
      let r = owner_waits o.0 q o.1 o.2 in
      (no_entry program obeys proper N fits w.0 q w.1 w.2 w.4, (o.0.name, r.0, (o.0, o.1, refl, o.2), r.1))

  -- a history is told by its name
  one_point : (p u : Point B) → IsIn p points → IsIn u points → p.name ≡ u.name → p ≡ u
  one_point p u i j e =
      let r = task_of p i in
      let s = task_of u j in
      let n = sym (ap (λ (z : Point B). z.name) r.2 ∙ same_name program.rules (V last) r.0) ∙ e
      ∙ (ap (λ (z : Point B). z.name) s.2 ∙ same_name program.rules (V last) s.0) in
      r.2 ∙ ap history_of (one_of_all program last last r.0 s.0 r.1 s.1 n) ∙ sym s.2

  one_owner : (p u : Point B) (q : Name) → IsIn p points → IsIn u points → IsIn q (owned p) → IsIn q (owned u) → p ≡ u
  one_owner p u q i j a b =
      let r = task_of p i in
      let s = task_of u j in
      let o = owners_apart program last last r.0 s.0 q (omega arith) r.1 s.1
      (subst (λ z. IsIn q (owned z)) r.2 a) (subst (λ z. IsIn q (owned z)) s.2 b) in
      r.2 ∙ ap history_of o.0 ∙ sym s.2

  -- a task waits for one other at most
  one_way : LeadsToOne (WaitsFor points)
  one_way a b c x y =
      let w = x.1 in
      let v = y.1 in
      let p = one_point w.0 v.0 w.2 v.2 (w.3 ∙ sym v.3) in
      let q : x.0 ≡ y.0 = ap cell_in (sym w.4 ∙ ap (λ (z : Point B). z.stage) p ∙ v.4) in
      let o = one_owner x.2.0 y.2.0 y.0 x.2.1 y.2.1 (subst (λ z. IsIn z (owned x.2.0)) q x.2.3) y.2.3 in
      sym x.2.2 ∙ ap (λ (z : Point B). z.name) o ∙ y.2.2

  goes_on : (x q : Name) → Waits points x q → (y : Name) × WaitsFor points x y × ((r : Name) × Waits points y r)
  goes_on x q w =
      let o = owners_wait x q w in
      (o.1.0, (q, w, o.1.2), (o.1.1, o.1.3))

  abbrev NoneOf : Name → List (Point B) → Type 0
  NoneOf x l = (p : Point B) (q : Name) (spare : Bool) → IsIn p l → p.name ≡ x → ¬ (p.stage ≡ stage.Waits q spare)

  -- whether a task of this name waits
  waits_or_not : (x : Name) (l : List (Point B)) → ((p : Point B) → IsIn p l → IsIn p points)
      → ((q : Name) × Waits points x q)
      ⊎ NoneOf x l
  waits_or_not x [] h = inr (λ p q spare i. absurd i)
  waits_or_not x (p ∷ ps) h =
      ⊎_elim (λ w. inl w)
      (λ none. by (same p.name x) refl p.stage refl none) (waits_or_not x ps (λ u i. h u (inr i))) where
        or_first : ((q : Name) (spare : Bool) → p.name ≡ x → ¬ (p.stage ≡ stage.Waits q spare)) → NoneOf x ps
            → NoneOf x (p ∷ ps)
        or_first f none u q spare (inl e) n s =
            f q spare (ap (λ (z : Point B). z.name) (sym e) ∙ n) (ap (λ (z : Point B). z.stage) (sym e) ∙ s)
        or_first f none u q spare (inr i) n s = none u q spare i n s

        by : (b : Bool) → same p.name x ≡ b → (st : PointStage) → p.stage ≡ st → NoneOf x ps
            → ((q : Name) × Waits points x q) ⊎ NoneOf x (p ∷ ps)
        by false e st s none =
            inr (or_first (λ q spare n. let z : true ≡ false = sym (subst (λ y. same p.name y ≡ true) n
            (same_self p.name)) ∙ e in absurd (cc)) none)
        by true e (stage.Waits q spare) s none = inl (q, (p, spare, h p (inl refl), same_is p.name x e, s))
        by true e (stage.Answered a) s none =
            inr
            (or_first (λ q spare n k. let z : stage.Answered a ≡ stage.Waits q spare = sym s ∙ k in absurd (cc)) none)
        by true e (stage.Closed c) s none =
            inr (or_first (λ q spare n k. let z : stage.Closed c ≡ stage.Waits q spare = sym s ∙ k in absurd (cc)) none)

  tells : TellsWhetherOn (WaitsFor points)
  tells x =
      ⊎_elim (λ w. let g = goes_on x w.0 w.1 in inl (g.0, g.1))
      (λ none. inr (λ b l. none l.1.0 l.0 l.1.1 l.1.2 l.1.3 l.1.4)) (waits_or_not x points (λ p i. i))

  told_apart : (a b : Name) → Decides (same a b) (a ≡ b)
  told_apart a b = (same_is a b, λ e. subst (λ z. same a z ≡ true) e (same_self a))

  abbrev names : List Name
  names = map (λ (p : Point B). p.name) points

  -- the way on from a task that waits: the tasks seen lead to it, and it comes back to one of them at last
  walk : (n : ℕ) (seen : List Name) → AreDistinct seen → ((z : Name) → IsIn z seen → IsIn z names) → (x q : Name)
      → ((z : Name) → IsIn z seen → (k : ℕ) × Reaches (WaitsFor points) z (suc k) x) → Waits points x q
      → length names < n + length seen
      → (y : Name) × (k : ℕ) × Reaches (WaitsFor points) x k y × IsOnCycle (WaitsFor points) y
  walk zero seen once inside x q lead w l =
      let f = fewer seen names
      (λ z. at_least z seen names (times_of_distinct z seen once) (inside z)) in
      absurd (omega arith)
  walk (suc n) seen once inside x q lead w l =
      dite (dec_le 1 (times x seen))
      (λ i. let b = lead x (in_of_times x seen i) in
      (x, 0, refl, round_least (WaitsFor points) one_way tells same told_apart x (suc b.0) (omega arith) b.1))
      (λ i. let g = goes_on x q w in
      let fresh : ¬ IsIn x seen = λ j. let t = times_of_in x seen j in omega arith in
      let r = walk n (x ∷ seen) (fresh, once) inside_more g.0 g.2.0 (lead_more g.0 g.1) g.2.1 (omega arith) in
      (r.0, suc r.1, reach_after (WaitsFor points) x g.0 r.1 r.0 g.1 r.2, r.3)) where
        inside_more : (z : Name) → IsIn z (x ∷ seen) → IsIn z names
        inside_more z (inl e) =
            subst (λ y. IsIn y names) (w.3 ∙ sym e) (to_map (λ (p : Point B). p.name) w.0 points w.2)
        inside_more z (inr j) = inside z j

        lead_more : (y : Name) → WaitsFor points x y → (z : Name) → IsIn z (x ∷ seen)
            → (k : ℕ) × Reaches (WaitsFor points) z (suc k) y
        lead_more y s z (inl e) = (0, (x, e, s))
        lead_more y s z (inr j) = let b = lead z j in (suc b.0, (x, b.1, s))

  pub waits_lead : (x q : Name) → Waits points x q
      → (y : Name) × (k : ℕ) × Reaches (WaitsFor points) x k y × IsOnCycle (WaitsFor points) y
  waits_lead x q w = walk (suc (length names)) [] tt (λ z i. absurd i) x q (λ z i. absurd i) w (omega arith)
