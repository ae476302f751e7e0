-- No task is a member of two cycles of one wait graph, nor twice of one.
use Rattle.std.proofs.Common.{◌≡◌, ℕ, zero, suc, ◌+◌, ◌-◌, ◌<◌, ◌≤◌, true, false, List, [], ◌∷◌, map, length}
use Rattle.std.proofs.Common.{get_or}
use Rattle.std.proofs.Common.{refl, sym, ap, subst, ◌∙◌, arith, inl, inr}
use Rattle.std.specs.List.{AllByRecursion, IsDistinct, flat_map}
use Rattle.std.specs.List.Sorted.{IsStrictlySortedBy}
use Rattle.std.specs.Cmp.Lexicographic.{slice_cmp, nat_list_cmp_total}
use Rattle.std.specs.Ordering.{is_le, nat_cmp, ordering_reverse}
use Rattle.std.proofs.Common.{Less, Equal, Greater, Ordering}
use native.Mathlib.Decide.{dec_le}
use mathlib.Core.Logic.{dite}
use Rattle.tj_base.specs.ForkOrder.{Name}
use Rattle.tj_base.specs.Cycles as graph
use Rattle.tj_base.proofs.CycleLists.{at_index, cycles_return, reached_contained}
use Rattle.tj_base.proofs.Ways.{reach_one, reach_plus, reach_split}
use Rattle.tj_body.specs.Laws.{AreDistinct}
use Rattle.tj_body.specs.Names.{at_most, same}
use Rattle.tj_body.specs.Points.{IsIn}
use Rattle.tj_body.proofs.Counts.{in_of_times, is, name_of_is, same_self, times, times_map, times_of_distinct, total}
use Rattle.tj_body.proofs.Counts.{total_append, total_some}
use Rattle.tj_body.proofs.Lists.{from_flat_map, in_map, to_map}
use Rattle.tj_mean.proofs.Lists.Elements.{in_contains, in_of_all}
use Rattle.tj_mean.proofs.Lists.NameOrder.{same_of_equal}
use Rattle.tj_mean.proofs.Outcomes.Indexes.{names_lead, same_names}
use Rattle.tj_mean.specs.Outcomes.{AreApart, Ascend, IsCycle, Leads, first_task}
use Rattle.tj_mean.specs.declared.outcome.Link.{Link}
use Rattle.tj_mean.specs.declared.stopped.Stopped.{Stopped}

contains_in : {A : Type 0} (xs : List A) (k : ℕ) (x : A) → k < length xs → get_or xs k x ≡ x → IsIn x xs
contains_in [] k x l e = absurd (omega arith)
contains_in (y ∷ ys) zero x l e = inl (sym e)
contains_in (y ∷ ys) (suc k) x l e = inr (contains_in ys k x (omega arith) e)

-- names that a test finds distinct are
not_later : (x : Name) (xs : List Name) → AllByRecursion (λ y. same x y ≡ false) xs → ¬ IsIn x xs
not_later x [] all i = i
not_later x (y ∷ ys) all (inl e) =
    let yes : same x y ≡ true = subst (λ z. same x z ≡ true) e (same_self x) in let no = all.0 in absurd (cc)
not_later x (y ∷ ys) all (inr i) = not_later x ys all.1 i

distinct_names : (xs : List Name) → IsDistinct same xs → AreDistinct xs
unfolding IsDistinct
distinct_names [] d = tt
distinct_names (x ∷ xs) d = (not_later x xs d.0, distinct_names xs d.1)

abbrev order : Name → Name → Ordering
order x y = slice_cmp nat_cmp x y

-- two names that come before each other are one
both_first : (x y : Name) → at_most x y ≡ true → at_most y x ≡ true → x ≡ y
both_first x y a b = by (order x y) refl where
  by : (o : Ordering) → order x y ≡ o → x ≡ y
  by Equal e = same_of_equal x y e
  by Less e =
      let back : order y x ≡ Greater = nat_list_cmp_total.antisymm y x ∙ ap ordering_reverse e in
      let no : at_most y x ≡ false = ap is_le back in absurd (cc)
  by Greater e = let no : at_most x y ≡ false = ap is_le e in absurd (cc)

-- what comes before all of these is none of them
pub not_before : (x z : Name) (xs : List Name) → AllByRecursion (λ y. order x y ≡ Less) xs → IsIn z xs → x ≡ z → ⊥
not_before x z [] all i e = i
not_before x z (y ∷ ys) all (inl f) e =
    let less : order x y ≡ Less = all.0 in
    let back : order y x ≡ Greater = nat_list_cmp_total.antisymm y x ∙ ap ordering_reverse less in
    let same : order y x ≡ order x y = ap (λ w. order y w) (e ∙ f) ∙ ap (λ w. order w y) (sym (e ∙ f)) in
    differ (sym less ∙ sym same ∙ back)
  where
    differ : Less ≡ Greater → ⊥
    differ e = absurd (cc)
not_before x z (y ∷ ys) all (inr i) e = not_before x z ys all.1 i e

-- how often a task stands among links
abbrev pub tasks_named : Name → List Link → ℕ
tasks_named x links = total (λ (l : Link). is x l.task) links

module _ (ss : List Stopped) (apart : AreApart ss) where
  -- each task leads to one at most
  abbrev one : graph.LeadsToOne (Leads ss)
  one = names_lead ss apart

  abbrev Reaches : Name → ℕ → Name → Type 0
  Reaches = graph.Reaches (Leads ss)

  module _ (y : Name) (bs : List Name) (cycle : graph.IsCycle (Leads ss) same (y ∷ bs)) where
    -- a name of a cycle is reached from its first
    from_first : (x : Name) → IsIn x (y ∷ bs) → (k : ℕ) × (k < length (y ∷ bs)) × Reaches y k x
    from_first x i =
        let at = in_contains (y ∷ bs) x i in
        (at.0, at.1, subst (Reaches y at.0) at.2 (at_index (Leads ss) y y bs cycle.1 at.0 x at.1))

    -- and its first from it
    to_first : (x : Name) → IsIn x (y ∷ bs) → (k : ℕ) × Reaches x k y
    to_first x i =
        let at = from_first x i in
        let round = cycles_return (Leads ss) one same same_names (y ∷ bs) y cycle (in_contains (y ∷ bs) y (inl refl)) in
        let less = at.1 in
        let parts : length (y ∷ bs) ≡ (length (y ∷ bs) - at.0) + at.0 = omega arith in
        let split = reach_split (Leads ss) y at.0 (length (y ∷ bs) - at.0) y
        (subst (λ n. Reaches y n y) parts round.round) in
        let here = reach_one (Leads ss) one y at.0 split.0 x split.1 at.2 in
        (length (y ∷ bs) - at.0, subst (λ w. Reaches w (length (y ∷ bs) - at.0) y) here split.2)

    -- what is reached from a name of it is one of it
    stays_on : (x z : Name) (k : ℕ) → IsIn x (y ∷ bs) → Reaches x k z → IsIn z (y ∷ bs)
    stays_on x z k i way =
        let at = from_first x i in
        let m = reached_contained (Leads ss) one same same_names y bs cycle (k + at.0) z
        (reach_plus (Leads ss) y at.0 x k z at.2 way) in
        contains_in (y ∷ bs) m.0 z m.1 m.2

  -- a cycle that shares a name with another has all names of it
  pub shares : (y : Name) (bs : List Name) (w : Name) (ds : List Name) → graph.IsCycle (Leads ss) same (y ∷ bs)
      → graph.IsCycle (Leads ss) same (w ∷ ds) → (x z : Name) → IsIn x (y ∷ bs) → IsIn x (w ∷ ds) → IsIn z (w ∷ ds)
      → IsIn z (y ∷ bs)
  shares y bs w ds c d x z i j k =
      let back = to_first w ds d x j in
      let on = from_first w ds d z k in
      stays_on y bs c x z (on.0 + back.0) i (reach_plus (Leads ss) x back.0 w on.0 z back.1 on.2)

  -- the names of the tasks of a cycle
  abbrev tasks_of : List Link → List Name
  tasks_of c = map (λ (l : Link). l.task) c

  -- the first name of a cycle comes before each of it
  first_least : (c : List Link) → IsCycle ss c → (z : Name) → IsIn z (tasks_of c) → at_most (first_task c) z ≡ true
  first_least c is z i =
      let l = in_map (λ (l : Link). l.task) z c i in
      subst (λ w. at_most (first_task c) w ≡ true) (sym l.2)
      (in_of_all (λ (l : Link). at_most (first_task c) l.task ≡ true) c is.least l.0 l.1)

  -- cycles that share a task begin with one name
  first_same : (c d : List Link) → IsCycle ss c → IsCycle ss d → (x : Name) → IsIn x (tasks_of c)
      → IsIn x (tasks_of d) → first_task c ≡ first_task d
  first_same [] d is other x i j = absurd i
  first_same (k ∷ ks) [] is other x i j = absurd j
  first_same (k ∷ ks) (m ∷ ms) is other x i j =
      both_first k.task m.task
      (first_least (k ∷ ks) is m.task
      (shares k.task (tasks_of ks) m.task (tasks_of ms) is.tasks other.tasks x m.task i j (inl refl)))
      (first_least (m ∷ ms) other k.task
      (shares m.task (tasks_of ms) k.task (tasks_of ks) other.tasks is.tasks x k.task j i (inl refl)))

  -- no task is twice on one cycle
  once_on : (c : List Link) → IsCycle ss c → (x : Name) → times x (tasks_of c) ≤ 1
  once_on [] is x = omega arith
  once_on (k ∷ ks) is x = times_of_distinct x (tasks_of (k ∷ ks)) (distinct_names (tasks_of (k ∷ ks)) is.tasks.0)

  -- nor on two
  pub once_on_all : (cs : List (List Link)) → ((c : List Link) → IsIn c cs → IsCycle ss c)
      → Ascend (map first_task cs) → (x : Name) → tasks_named x (flat_map (λ c. c) cs) ≤ 1
  unfolding IsStrictlySortedBy
  once_on_all [] are asc x = omega arith
  once_on_all (c ∷ cs) are asc x =
      let f : Link → ℕ = λ l. is x l.task in
      let rest = flat_map (λ (c : List Link). c) cs in
      let whole = total_append f c rest in
      let here = once_on c (are c (inl refl)) x in
      let same = times_map (λ (l : Link). l.task) x c in
      let others = once_on_all cs (λ d i. are d (inr i)) asc.1 x in
      dite (dec_le 1 (tasks_named x c))
      (λ some. dite (dec_le 1 (tasks_named x rest))
      (λ more. absurd (clash some more)) (λ none. omega (arith, none)))
      (λ none. omega (arith, none))
    where
      clash : 1 ≤ tasks_named x c → 1 ≤ tasks_named x (flat_map (λ c. c) cs) → ⊥
      clash some more =
          let l = total_some (λ (l : Link). is x l.task) (flat_map (λ c. c) cs) more in
          let d = from_flat_map (λ (c : List Link). c) l.0 cs l.1 in
          let named = name_of_is x l.0.task l.2 in
          let on : IsIn x (tasks_of d.0) =
          subst (λ z. IsIn z (tasks_of d.0)) (sym named) (to_map (λ (l : Link). l.task) l.0 d.0 d.2) in
          let here : IsIn x (tasks_of c) =
          in_of_times x (tasks_of c) (subst (λ n. 1 ≤ n) (sym (times_map (λ (l : Link). l.task) x c)) some) in
          not_before (first_task c) (first_task d.0) (map first_task cs) asc.0 (to_map first_task d.0 cs d.1)
          (first_same c d.0 (are c (inl refl)) (are d.0 (inr d.1)) x here on)
