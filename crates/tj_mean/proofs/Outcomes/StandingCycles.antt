-- Wherever a task of a meaning waits, its outcome has a cycle.
use Rattle.std.proofs.Common.{◌≡◌, ℕ, zero, suc, ◌+◌, ◌<◌, inl, inr, true, List, [], ◌∷◌, map, length, get_or}
use Rattle.std.proofs.Common.{refl, sym, ap, ◌∙◌, subst, arith}
use Rattle.std.specs.List.{AllByRecursion}
use Rattle.tj_base.specs.Cycles as graph
use Rattle.tj_base.specs.ForkOrder.{Name}
use Rattle.tj_base.proofs.Ways.{cycle_leads, reach_plus}
use Rattle.tj_base.proofs.CyclesOn.{on_cycle_moves}
use Rattle.tj_base.proofs.CycleLists.{returns_are_cycles, cycles_return, at_index, reached_contained}
use Rattle.tj_body.specs.Names.{same, at_most, in_order}
use Rattle.tj_body.specs.NameLaws.{AreInOrder}
use Rattle.tj_body.specs.Points.{IsIn}
use Rattle.tj_body.specs.WaitGraph as points
use Rattle.tj_body.specs.declared.point.Point.{Point}
use Rattle.tj_body.proofs.Lists.{to_map, in_map}
use Rattle.tj_body.proofs.NameLaws.{ordered_is_one, ordered_has_same}
use Rattle.tj_mean.specs.OutcomeLaws.{HasCycleWhereWaits}
use Rattle.tj_mean.specs.Outcomes.{AreTold, AreApart, Leads, Waits, Owns, IsCycle, IsOutcome, first_task}
use Rattle.tj_mean.specs.declared.outcome.Link.{Link}
use Rattle.tj_mean.specs.declared.outcome.Outcome.{Outcome}
use Rattle.tj_mean.specs.declared.outcome.TaskLine.{TaskLine}
use Rattle.tj_mean.specs.declared.stopped.Stopped.{Stopped}
use Rattle.tj_mean.proofs.Lists.Elements.{in_contains, all_of_in}
use Rattle.tj_mean.proofs.Outcomes.Indexes.{same_names, at_most_self, names_lead}
use Rattle.tj_mean.proofs.Lists.NameOrder.{in_permuted}
use Rattle.tj_mean.proofs.Outcomes.ToldOutcomes.{told_name, told_owned, told_waits, told_of, of_told, told_wait}

-- the first of names in order is the least
first_least : (x q : Name) (xs : List Name) → AllByRecursion (λ y. at_most x y ≡ true) xs → IsIn q (x ∷ xs)
    → at_most x q ≡ true
first_least x q xs h (inl e) = subst (λ z. at_most x z ≡ true) (sym e) (at_most_self x)
first_least x q [] h (inr i) = absurd i
first_least x q (y ∷ ys) h (inr (inl e)) = subst (λ z. at_most x z ≡ true) (sym e) h.0
first_least x q (y ∷ ys) h (inr (inr i)) = first_least x q ys h.1 (inr i)

-- the least of some names
least_of : (l : List Name) (a : Name) → IsIn a l
    → (z : Name) × IsIn z l × ((x : Name) → IsIn x l → at_most z x ≡ true)
least_of l a i = by (in_order l) refl where
  by : (m : List Name) → in_order l ≡ m → (z : Name) × IsIn z l × ((x : Name) → IsIn x l → at_most z x ≡ true)
  by [] e = absurd (subst (IsIn a) e ((ordered_has_same a l).1 i))
  by (z ∷ zs) e = (
    z,
    (ordered_has_same z l).0 (subst (IsIn z) (sym e) (inl refl)),
    λ x j. first_least z x zs (subst AreInOrder e (ordered_is_one l).1).0
        (subst (IsIn x) e ((ordered_has_same x l).1 j)),
  )

-- what stands at an index is an element
contains_in : {A : Type 0} (xs : List A) (k : ℕ) (x : A) → k < length xs → get_or xs k x ≡ x → IsIn x xs
contains_in [] k x l e = absurd (omega arith)
contains_in (y ∷ ys) zero x l e = inl (sym e)
contains_in (y ∷ ys) (suc k) x l e = inr (contains_in ys k x (omega arith) e)

-- the first task of links has the first of their names
first_named : (c : List Link) → first_task c ≡ get_or (map (λ (l : Link). l.task) c) 0 []
first_named [] = refl
first_named (l ∷ ls) = refl

module _ (ss : List Stopped) (apart : AreApart ss) where
  -- each task leads to one at most
  abbrev one : graph.LeadsToOne (Leads ss)
  one = names_lead ss apart

  -- links of tasks with these names, which wait
  links_for : (zs : List Name) → ((x : Name) → IsIn x zs → (q : Name) × Waits ss x q)
      → (c : List Link) × (map (λ (l : Link). l.task) c ≡ zs)
      × ((l : Link) → IsIn l c → Waits ss l.task l.cell)
  links_for [] h = ([], refl, λ l i. absurd i)
  links_for (z ∷ zs) h =
      let q = h z (inl refl) in
      let r = links_for zs (λ x i. h x (inr i)) in
      let link : Link = record { task = z; cell = q.0 } in
      (link ∷ r.0, ap (λ l. z ∷ l) r.1, each link q.1 r.0 r.2)
    where
      each : (k : Link) → Waits ss k.task k.cell → (ls : List Link)
          → ((l : Link) → IsIn l ls → Waits ss l.task l.cell)
          → (l : Link) → IsIn l (k ∷ ls) → Waits ss l.task l.cell
      each k w ls g l (inl e) = subst (λ (m : Link). Waits ss m.task m.cell) (sym e) w
      each k w ls g l (inr i) = g l i

  -- a cycle of names whose first is the least is one of links
  linked : (z : Name) (bs : List Name) → graph.IsCycle (Leads ss) same (z ∷ bs)
      → ((x : Name) → IsIn x (z ∷ bs) → at_most z x ≡ true) → (c : List Link) × IsCycle ss c
  linked z bs cycle least =
      let c = links_for (z ∷ bs) (λ x i.
      let l = cycle_leads (Leads ss) x (length (z ∷ bs))
      (cycles_return (Leads ss) one same same_names (z ∷ bs) x cycle (in_contains (z ∷ bs) x i)) in
      (l.1.0, l.1.1)) in
      let first : first_task c.0 ≡ z = first_named c.0 ∙ ap (λ l. get_or l 0 []) c.1 in (
        c.0,
        record {
          tasks = subst (graph.IsCycle (Leads ss) same) (sym c.1) cycle;
          cells = all_of_in (λ (l : Link). Waits ss l.task l.cell) c.0 c.2;
          least = all_of_in (λ (l : Link). at_most (first_task c.0) l.task ≡ true) c.0 (λ l i.
              subst (λ f. at_most f l.task ≡ true) (sym first)
              (least l.task (subst (IsIn l.task) c.1 (to_map (λ (m : Link). m.task) l c.0 i))));
        },
      )

  -- the k-th name of a cycle is reached from its first by k steps
  reach_at : (y : Name) (bs : List Name) → graph.IsCycle (Leads ss) same (y ∷ bs) → (x : Name) (k : ℕ)
      → k < length (y ∷ bs) → get_or (y ∷ bs) k x ≡ x → graph.Reaches (Leads ss) y k x
  reach_at y bs cycle x k l e = subst (graph.Reaches (Leads ss) y k) e (at_index (Leads ss) y y bs cycle.1 k x l)

  -- the names of a cycle from another one of its names on
  from_name : (y : Name) (bs : List Name) → graph.IsCycle (Leads ss) same (y ∷ bs) → (z : Name) → IsIn z (y ∷ bs)
      → (cs : List Name) × graph.IsCycle (Leads ss) same (z ∷ cs) × ((x : Name) → IsIn x (z ∷ cs) → IsIn x (y ∷ bs))
  from_name y bs cycle z j =
      let at = in_contains (y ∷ bs) z j in
      let on = cycles_return (Leads ss) one same same_names (y ∷ bs) z cycle at in
      let r = returns_are_cycles (Leads ss) one same same_names z (length (y ∷ bs)) on in (
        r.0,
        r.1,
        λ x i.
            let k = in_contains (z ∷ r.0) x i in
            let way = reach_plus (Leads ss) y at.0 z k.0 x (reach_at y bs cycle z at.0 at.1 at.2)
            (reach_at z r.0 r.1 x k.0 k.1 k.2) in
            let m = reached_contained (Leads ss) one same same_names y bs cycle (k.0 + at.0) x way in
            contains_in (y ∷ bs) m.0 x m.1 m.2,
      )

  -- where a task is on a cycle, that cycle stands from its least name on
  stands : (y : Name) → graph.IsOnCycle (Leads ss) y → (c : List Link) × IsCycle ss c
  stands y (n, on) =
      let r = returns_are_cycles (Leads ss) one same same_names y n on in
      let z = least_of (y ∷ r.0) y (inl refl) in
      let t = from_name y r.0 r.1 z.0 z.1 in
      linked z.0 t.0 t.1 (λ x i. z.2 x (t.2 x i))

module _ {B : Type 0} (ps : List (Point B)) (ss : List Stopped) (told : AreTold ps ss) where
  -- a task that waits is told to wait
  wait_told : (x q : Name) → points.Waits ps x q → Waits ss x q
  wait_told x q (p, spare, i, n, e) =
      let s = of_told ps ss told p i in (s.0, s.1, told_name p s.0 s.2 ∙ n, told_wait p s.0 q spare e s.2)

  -- what a task owns it is told to own
  own_told : (y q : Name) → points.Owns ps y q → Owns ss y q
  own_told y q (p, i, n, j) =
      let s = of_told ps ss told p i in
      (s.0, s.1, told_name p s.0 s.2 ∙ n, subst (IsIn q) (sym (told_owned p s.0 s.2)) j)

  -- so a task that waits for another leads to it
  lead_told : (x y : Name) → points.WaitsFor ps x y → Leads ss x y
  lead_told x y (q, w, o) = (q, wait_told x q w, own_told y q o)

  -- and where one is on a cycle of waits, a cycle stands
  told_stands : AreApart ss → (y : Name) → graph.IsOnCycle (points.WaitsFor ps) y
      → (c : List Link) × IsCycle ss c
  told_stands apart y on = stands ss apart y
      (on_cycle_moves (points.WaitsFor ps) (Leads ss) (λ a b c l m. lead_told a b l)
      (λ a b c l m. one ss apart a b c (lead_told a b l) (lead_told a c m)) (one ss apart) y on)

-- a cycle stands where a task of the outcome of such histories waits
pub has_cycle_where_waits : {B : Type 0} (ps : List (Point B)) → ((ss : List Stopped) → AreTold ps ss → AreApart ss)
    → ((x q : Name) → points.Waits ps x q → (y : Name) × graph.IsOnCycle (points.WaitsFor ps) y)
    → (o : Outcome) → IsOutcome ps o → HasCycleWhereWaits o
has_cycle_where_waits ps apart leads o (ss, told, x) l q i e none =
    let lines = map (λ (s : Stopped). s.line) ss in
    let s = in_map (λ (s : Stopped). s.line) l ss (in_permuted lines o.lines x.lines l i) in
    let p = told_of ps ss told s.0 s.1 in
    let w = told_waits p.0 s.0 q p.2 (sym (ap (λ (z : TaskLine). z.ending) s.2) ∙ e) in
    let on = leads p.0.name q (p.0, w.0, p.1, refl, w.1) in
    let c = told_stands ps ss told (apart ss told) on.0 on.1 in
    subst (IsIn c.0) none ((x.cycles.0 c.0).1 c.1)
