-- Cycles of indexes, each from its least index on, are the cycles of the wait graph.
use Rattle.std.proofs.Common.{◌≡◌, ◌↔◌, ℕ, zero, suc, ◌+◌, ◌<◌, ◌≤◌, ◌⊎◌, inl, inr, true, nat_eq, List, [], ◌∷◌, ◌++◌}
use Rattle.std.proofs.Common.{Option, Some, None, map, length, refl, sym, ap, ◌∙◌, subst, arith}
use Rattle.std.specs.Prelude.{slice_index_or}
use Rattle.std.specs.List.{All, AllByRecursion}
use Rattle.std.specs.List.Sorted.{IsStrictlySortedBy}
use Rattle.std.specs.declared.cmp.Ordering.TheVariants.{Less}
use Rattle.std.proofs.lemmas.Bool.Decides.{Decides-eqb}
use Rattle.std.proofs.lemmas.Map.Made.{is_member-Decides}
use Rattle.std.proofs.lemmas.Map.Steps.{length-le_from_distinct_below}
use native.Mathlib.Decide.{dec_le}
use mathlib.Core.Logic.{dite}
use Rattle.tj_base.specs.Cycles as graph
use Rattle.tj_base.specs.ForkOrder.{Name}
use Rattle.tj_base.proofs.Ways.{cycle_leads}
use Rattle.tj_base.proofs.CycleLists.{first_round, returns_are_cycles, cycles_return, reached_contained, cycle_one}
use Rattle.tj_base.proofs.CycleImages.{cycle_list_to, cycle_list_from}
use Rattle.tj_body.specs.Names.{same, at_most}
use Rattle.tj_body.specs.Points.{IsIn}
use Rattle.tj_body.proofs.Lists.{in_map, to_map}
use Rattle.tj_mean.specs.Outcomes.{Ascend, AreApart, AreCycles, IsCycle, Leads, Waits, first_task}
use Rattle.tj_mean.specs.Inner.Indexes.{IsLeastCycle}
use Rattle.tj_mean.specs.WaitIndexes.{Next, AreNext, link_at, waited}
use Rattle.tj_mean.specs.declared.outcome.Ending.TheVariants as ending
use Rattle.tj_mean.specs.declared.outcome.Link.{Link}
use Rattle.tj_mean.specs.declared.stopped.Stopped.{Stopped}
use Rattle.tj_mean.proofs.Lists.NameOrder.{order}
use Rattle.tj_mean.proofs.Lists.Maps.{map_map}
use Rattle.tj_mean.proofs.Lists.Elements.{some_is, in_get, get_less, in_contains, all_of_in, in_of_all, in_snoc, in_left, in_right}
use Rattle.tj_mean.proofs.Outcomes.Indexes.{same_names, name_at, There, link_is, names_lead, waits_at, index_of, names_ascend}
use Rattle.tj_mean.proofs.Outcomes.Indexes.{names_at_most, indexes_at_most, next_leads, next_there, indexes_are_names}

-- one index more that isn't less than the first
pub all_greater : (first : ℕ) (ps : List ℕ) (p : ℕ) → All (λ q. first ≤ q) ps → first ≤ p
    → All (λ q. first ≤ q) (ps ++ p ∷ [])
all_greater first ps p a l = all_of_in (λ q. first ≤ q) (ps ++ p ∷ []) (λ q i. by q (in_snoc ps q p i)) where
  by : (q : ℕ) → IsIn q ps ⊎ (q ≡ p) → first ≤ q
  by q (inl i) = in_of_all (λ z. first ≤ z) ps a q i
  by q (inr e) = subst (λ z. first ≤ z) (sym e) l

module _ (next : List (Option ℕ)) where
  -- an index leads to one
  pub one : graph.LeadsToOne (Next next)
  one i j k p q = some_is j k (sym p ∙ q)

  pub index_less : (os : List (Option ℕ)) (i j : ℕ) → slice_index_or os i None ≡ Some j → i < length os
  index_less [] i j e = absurd (cc)
  index_less (o ∷ os) zero j e = omega arith
  index_less (o ∷ os) (suc i) j e = let r = index_less os i j e in omega arith

  -- a cycle has no more indexes than there are
  pub cycle_fits : (first n : ℕ) → graph.IsOnCycleOf (Next next) first n → n ≤ length next
  cycle_fits first n c =
      let x = returns_are_cycles (Next next) one nat_eq Decides-eqb first n c in
      subst (λ m. m ≤ length next) x.2 (length-le_from_distinct_below (first ∷ x.0) (length next) x.1.0
      (λ q h.
      let w = (is_member-Decides Decides-eqb (first ∷ x.0) q).0 h in
      let l = cycle_leads (Next next) q (length (first ∷ x.0))
      (cycles_return (Next next) one nat_eq Decides-eqb (first ∷ x.0) q x.1 w) in
      index_less next q l.0 l.1))

  -- the first index of a cycle is on one
  pub first_on : (first : ℕ) (ps : List ℕ) → IsLeastCycle next first ps → graph.IsOnCycle (Next next) first
  first_on first [] c = absurd c.cycle
  first_on first (p ∷ ps) c = subst (λ z. graph.IsOnCycle (Next next) z) c.cycle.0
      (suc (length ps), first_round (Next next) one nat_eq Decides-eqb p ps c.cycle.1)

  -- and what it reaches isn't less
  pub reaches_greater : (first : ℕ) (ps : List ℕ) → IsLeastCycle next first ps → (k z : ℕ)
      → graph.Reaches (Next next) first k z → first ≤ z
  reaches_greater first [] c k z r = absurd c.cycle
  reaches_greater first (p ∷ ps) c k z r =
      let h = reached_contained (Next next) one nat_eq Decides-eqb p ps c.cycle.1 k z
      (subst (λ y. graph.Reaches (Next next) y k z) (sym c.cycle.0) r) in
      subst (λ y. first ≤ y) h.2 (c.least h.0 z h.1)

  -- from an index there is one cycle
  pub one_cycle : (first : ℕ) (ps qs : List ℕ) → IsLeastCycle next first ps → IsLeastCycle next first qs → ps ≡ qs
  one_cycle first [] qs c d = absurd c.cycle
  one_cycle first (p ∷ ps) [] c d = absurd d.cycle
  one_cycle first (p ∷ ps) (q ∷ qs) c d =
      let e : q ≡ p = d.cycle.0 ∙ sym c.cycle.0 in
      let same_rest = cycle_one (Next next) one nat_eq Decides-eqb p ps qs c.cycle.1
      (subst (λ z. graph.IsCycle (Next next) nat_eq (z ∷ qs)) e d.cycle.1) in
      λ i. sym e i ∷ same_rest i

module _ (tasks : List Stopped) (next : List (Option ℕ)) where
  -- the links of a cycle from its least index on
  abbrev pub IsLinked : ℕ → List Link → Type 0
  IsLinked first c = (ps : List ℕ) × IsLeastCycle next first ps × (c ≡ map (link_at tasks) ps)

  -- the list has the links of all cycles from indexes less than n, in the order of these
  pub record Found (cs : List (List Link)) (n : ℕ) : Type 0 where
    pub all : (c : List Link) → IsIn c cs ↔ ((f : ℕ) × (f < n) × IsLinked f c)
    pub ascend : Ascend (map first_task cs)

module _ (tasks : List Stopped) (apart : AreApart tasks)
    (in_order : Ascend (map (λ (s : Stopped). s.line.name) tasks)) (next : List (Option ℕ))
    (are : AreNext tasks tasks next) where
  -- each index of a cycle leads on
  leads_on : (first : ℕ) (ps : List ℕ) → IsLeastCycle next first ps → (p : ℕ) → IsIn p ps
      → (j : ℕ) × Next next p j
  leads_on first [] c p i = absurd i
  leads_on first (q ∷ qs) c p i = cycle_leads (Next next) p (length (q ∷ qs))
      (cycles_return (Next next) (one next) nat_eq Decides-eqb (q ∷ qs) p c.cycle.1 (in_contains (q ∷ qs) p i))

  -- so it is there
  there : (first : ℕ) (ps : List ℕ) → IsLeastCycle next first ps → (p : ℕ) → IsIn p ps → There tasks p
  there first ps c p i =
      let j = leads_on first ps c p i in
      let s = next_leads tasks apart in_order next are p j.0 j.1 in get_less tasks p s.0 s.1

  to_cycle : (first : ℕ) (ps : List ℕ) → IsLeastCycle next first ps → IsCycle tasks (map (link_at tasks) ps)
  to_cycle first [] c = absurd c.cycle
  to_cycle first (q ∷ qs) c =
      let first_there = there first (q ∷ qs) c q (inl refl) in
      record {
        tasks = subst (λ names. graph.IsCycle (Leads tasks) same (name_at tasks q ∷ names))
            (sym (map_map (link_at tasks) (λ (l : Link). l.task) qs))
            (cycle_list_to (name_at tasks) (There tasks) (Next next) (Leads tasks)
            (indexes_are_names tasks apart in_order next are) (one next) (names_lead tasks apart)
            nat_eq Decides-eqb same same_names q qs first_there c.cycle.1);
        cells = all_of_in (λ (l : Link). Waits tasks l.task l.cell) (map (link_at tasks) (q ∷ qs)) (λ l i.
            let p = in_map (link_at tasks) l (q ∷ qs) i in
            let j = leads_on first (q ∷ qs) c p.0 p.1 in
            let s = next_leads tasks apart in_order next are p.0 j.0 j.1 in
            subst (λ (m : Link). Waits tasks m.task m.cell) (sym (link_is tasks p.0 s.0 s.1) ∙ sym p.2)
            (s.0, in_get tasks p.0 s.0 s.1, refl, s.2.2 ∙ ap ending.Waits (sym (ap waited s.2.2))));
        least = all_of_in (λ (l : Link). at_most (name_at tasks q) l.task ≡ true) (map (link_at tasks) (q ∷ qs))
            (λ l i.
            let p = in_map (link_at tasks) l (q ∷ qs) i in
            subst (λ (m : Link). at_most (name_at tasks q) m.task ≡ true) (sym p.2)
            (names_at_most tasks apart in_order q p.0 first_there (there first (q ∷ qs) c p.0 p.1)
            (subst (λ z. z ≤ p.0) (sym c.cycle.0) (in_of_all (λ z. first ≤ z) (q ∷ qs) c.least p.0 p.1))));
      }

  -- a link is that of the index whose name it has
  link_is_at : (p : ℕ) → There tasks p → (l : Link) → name_at tasks p ≡ l.task → Waits tasks l.task l.cell
      → l ≡ link_at tasks p
  link_is_at p h l e w =
      let cell = waits_at tasks apart in_order p l.cell h (subst (λ x. Waits tasks x l.cell) (sym e) w) in
      λ i. record { task = sym e i; cell = sym cell i }

  -- links whose tasks are those of indexes, each with the cell that its task waits for
  links_of : (a z : ℕ) (bs : List ℕ) → graph.LeadsAlong (Next next) a bs z → (ls : List Link)
      → map (name_at tasks) bs ≡ map (λ (l : Link). l.task) ls
      → ((l : Link) → IsIn l ls → Waits tasks l.task l.cell) → ls ≡ map (link_at tasks) bs
  links_of a z [] w [] e h = refl
  links_of a z [] w (l ∷ ls) e h = absurd (cc)
  links_of a z (b ∷ bs) w [] e h = absurd (cc)
  links_of a z (b ∷ bs) w (l ∷ ls) e h =
      let head : name_at tasks b ≡ l.task = ap (λ (xs : List Name). first_name xs) e in
      let tail : map (name_at tasks) bs ≡ map (λ (m : Link). m.task) ls = ap (λ (xs : List Name). rest xs) e in
      let is = link_is_at b (next_there tasks apart in_order next are a b w.0) l head (h l (inl refl)) in
      let more = links_of b z bs w.1 ls tail (λ m i. h m (inr i)) in
      λ i. is i ∷ more i
    where
      first_name : List Name → Name
      first_name [] = []
      first_name (x ∷ xs) = x

      rest : List Name → List Name
      rest [] = []
      rest (x ∷ xs) = xs

  -- each cycle of the wait graph has these links
  of_cycle : (c : List Link) → IsCycle tasks c → (first : ℕ) × There tasks first × IsLinked tasks next first c
  of_cycle [] c = absurd c.tasks
  of_cycle (l ∷ ls) c =
      let waits = in_of_all (λ (m : Link). Waits tasks m.task m.cell) (l ∷ ls) c.cells in
      let at = index_of tasks apart in_order l.task l.cell (waits l (inl refl)) in
      let p = at.0 in
      let r = cycle_list_from (name_at tasks) (There tasks) (Next next) (Leads tasks)
      (indexes_are_names tasks apart in_order next are) (one next) (names_lead tasks apart)
      nat_eq Decides-eqb same same_names p (map (λ (m : Link). m.task) ls) at.1
      (subst (λ x. graph.IsCycle (Leads tasks) same (x ∷ map (λ (m : Link). m.task) ls)) (sym at.2) c.tasks) in
      let head = link_is_at p at.1 l at.2 (waits l (inl refl)) in
      let tail = links_of p p r.0 r.1.1 ls r.2 (λ m i. waits m (inr i)) in
      let linked : (l ∷ ls) ≡ map (link_at tasks) (p ∷ r.0) = λ i. head i ∷ tail i in
      let cycle : graph.IsCycleFrom (Next next) nat_eq p (p ∷ r.0) = (refl, r.1) in
      let on : (q : ℕ) → IsIn q (p ∷ r.0) → There tasks q = λ q i.
      let j = cycle_leads (Next next) q (length (p ∷ r.0))
      (cycles_return (Next next) (one next) nat_eq Decides-eqb (p ∷ r.0) q r.1 (in_contains (p ∷ r.0) q i)) in
      let s = next_leads tasks apart in_order next are q j.0 j.1 in get_less tasks q s.0 s.1 in
      let least : All (λ q. p ≤ q) (p ∷ r.0) = all_of_in (λ q. p ≤ q) (p ∷ r.0) (λ q i.
      indexes_at_most tasks apart in_order p q at.1 (on q i)
      (subst (λ x. at_most x (name_at tasks q) ≡ true) (sym at.2)
      (in_of_all (λ (m : Link). at_most l.task m.task ≡ true) (l ∷ ls) c.least (link_at tasks q)
      (subst (IsIn (link_at tasks q)) (sym linked) (to_map (link_at tasks) q (p ∷ r.0) i))))) in
      (p, at.1, (p ∷ r.0, record { cycle = cycle; least = least }, linked))

  -- the name of the first of the links
  linked_name : (first : ℕ) (c : List Link) → IsLinked tasks next first c → first_task c ≡ name_at tasks first
  linked_name first c ([], k, e) = absurd k.cycle
  linked_name first c (p ∷ ps, k, e) = ap first_task e ∙ ap (name_at tasks) k.cycle.0

  linked_there : (first : ℕ) (c : List Link) → IsLinked tasks next first c → There tasks first
  linked_there first c ([], k, e) = absurd k.cycle
  linked_there first c (p ∷ ps, k, e) = subst (There tasks) k.cycle.0 (there first (p ∷ ps) k p (inl refl))

  pub found_none : (cs : List (List Link)) → cs ≡ [] → Found tasks next cs 0
  unfolding IsStrictlySortedBy
  found_none cs e = record {
    all = λ c. (λ i. absurd (subst (λ l. IsIn c l) e i), λ h. let z = h.1 in absurd (omega arith));
    ascend = subst (λ l. Ascend (map first_task l)) (sym e) tt;
  }

  -- there is no cycle from the next index
  pub found_on : (cs : List (List Link)) (n : ℕ) → Found tasks next cs n → ((ps : List ℕ) → ¬ IsLeastCycle next n ps)
      → Found tasks next cs (n + 1)
  found_on cs n a never = record {
    all = λ c. (
      λ i. let r = (a.all c).0 i in let z = r.1 in (r.0, omega arith, r.2),
      λ h. let z = h.1 in dite (dec_le (suc h.0) n) (λ l. (a.all c).1 (h.0, omega arith, h.2))
          (λ l. let e : h.0 ≡ n = omega arith in
          absurd (never h.2.0 (subst (λ f. IsLeastCycle next f h.2.0) e h.2.1))),
    );
    ascend = a.ascend;
  }

  all_snoc : (x : Name) (cs : List (List Link)) (d : List Link) → AllByRecursion (λ y. order x y ≡ Less)
      (map first_task cs)
      → order x (first_task d) ≡ Less → AllByRecursion (λ y. order x y ≡ Less) (map first_task (cs ++ d ∷ []))
  all_snoc x [] d a h = (h, tt)
  all_snoc x (c ∷ cs) d a h = (a.0, all_snoc x cs d a.1 h)

  ascend_snoc : (cs : List (List Link)) (d : List Link) → Ascend (map first_task cs)
      → ((c : List Link) → IsIn c cs → order (first_task c) (first_task d) ≡ Less)
      → Ascend (map first_task (cs ++ d ∷ []))
  unfolding IsStrictlySortedBy
  ascend_snoc [] d a h = (tt, tt)
  ascend_snoc (c ∷ cs) d a h =
      (all_snoc (first_task c) cs d a.0 (h c (inl refl)), ascend_snoc cs d a.1 (λ e i. h e (inr i)))

  -- there is one from the next index
  pub found_more : (cs : List (List Link)) (n : ℕ) (ps : List ℕ) (d : List Link) → Found tasks next cs n → IsLeastCycle
      next n ps
      → d ≡ map (link_at tasks) ps → Found tasks next (cs ++ d ∷ []) (n + 1)
  found_more cs n ps d a k e = record {
    all = λ c. (
      λ i. by c (in_snoc cs c d i),
      λ h. let z = h.1 in dite (dec_le (suc h.0) n) (λ l. in_left cs c d ((a.all c).1 (h.0, omega arith, h.2)))
          (λ l. let f : h.0 ≡ n = omega arith in
          in_right cs c d (h.2.2 ∙ ap (λ qs. map (link_at tasks) qs)
          (one_cycle next n h.2.0 ps (subst (λ m. IsLeastCycle next m h.2.0) f h.2.1) k) ∙ sym e)),
    );
    ascend = ascend_snoc cs d a.ascend (λ c i.
        let r = (a.all c).0 i in
        subst (λ x. order x (first_task d) ≡ Less) (sym (linked_name r.0 c r.2))
        (subst (λ y. order (name_at tasks r.0) y ≡ Less) (sym (linked_name n d (ps, k, e)))
        (names_ascend tasks apart in_order r.0 n (linked_there r.0 c r.2) (linked_there n d (ps, k, e)) r.1)));
  } where
    by : (c : List Link) → IsIn c cs ⊎ (c ≡ d) → (f : ℕ) × (f < n + 1) × IsLinked tasks next f c
    by c (inl i) = let r = (a.all c).0 i in let z = r.1 in (r.0, omega arith, r.2)
    by c (inr q) = (n, omega arith, (ps, k, q ∙ e))

  -- the links of all cycles of indexes are all cycles
  pub all_found : (cs : List (List Link)) (n : ℕ) → Found tasks next cs n → length tasks ≤ n → AreCycles tasks cs
  all_found cs n a l = (
    λ c. (
      λ i. let r = (a.all c).0 i in subst (IsCycle tasks) (sym r.2.2) (to_cycle r.0 r.2.0 r.2.1),
      λ h. let w = of_cycle c h in let z = w.1 in (a.all c).1 (w.0, omega arith, w.2),
    ),
    a.ascend,
  )
