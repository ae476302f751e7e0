-- Tasks in name order, and the wait graph by their indexes: an index leads to another as the names do.
use Rattle.std.proofs.Common.{◌≡◌, ◌↔◌, ℕ, zero, suc, ◌<◌, ◌≤◌, inl, inr, true, false, List, [], ◌∷◌, ◌++◌, map, length}
use Rattle.std.proofs.Common.{Option, Some, None, refl, sym, ap, ◌∙◌, subst, arith}
use Rattle.std.specs.Bool.{Decides}
use Rattle.std.specs.Prelude.{slice_get, slice_index_or, IfSome, IsNone}
use Rattle.std.specs.List.{AllByRecursion}
use Rattle.std.specs.List.Sorted.{IsStrictlySortedBy}
use Rattle.std.specs.Option.{option_map_or}
use Rattle.std.specs.Cmp.Lexicographic.{texts_ties, nat_list_cmp_total}
use Rattle.std.specs.Ordering.{is_eq, is_le}
use Rattle.std.specs.declared.cmp.Ordering.{Ordering}
use Rattle.std.specs.declared.cmp.Ordering.TheVariants.{Less, Equal, Greater}
use native.Mathlib.Decide.{dec_le}
use mathlib.Core.Logic.{dite}
use Rattle.tj_base.specs.Cycles.{LeadsToOne}
use Rattle.tj_base.specs.ForkOrder.{Name}
use Rattle.tj_base.proofs.CycleImages.{AreImages}
use Rattle.tj_body.specs.Names.{same, has, at_most}
use Rattle.tj_body.specs.Laws.{AreDistinct}
use Rattle.tj_body.specs.Points.{IsIn}
use Rattle.tj_body.proofs.Lists.{to_map}
use Rattle.tj_body.proofs.Counts.{same_self, same_is, has_of_times, times_of_in}
use Rattle.tj_mean.specs.Outcomes.{Ascend, AreApart, Leads, Waits, owned_by}
use Rattle.tj_mean.specs.WaitIndexes.{Next, AreNext, LeadsTo, link_of, link_at, waited}
use Rattle.tj_mean.specs.declared.outcome.Ending.TheVariants as ending
use Rattle.tj_mean.specs.declared.outcome.Link.{Link}
use Rattle.tj_mean.specs.declared.stopped.Stopped.{Stopped}
use Rattle.tj_mean.proofs.Lists.NameOrder.{order}
use Rattle.tj_mean.proofs.Lists.Elements.{some_is, in_get, get_in, get_less, get_there, in_of_has}

-- the test of two names tells whether they are equal
pub same_names : (x y : Name) → Decides (same x y) (x ≡ y)
same_names x y = (same_is x y, λ e. subst (λ z. same x z ≡ true) e (same_self x))

pub not_less : (x : Name) → order x x ≡ Less → ⊥
not_less x e =
    let h : is_eq (order x x) ≡ true = sym (texts_ties x x) ∙ same_self x in
    let z : false ≡ true = sym (ap is_eq e) ∙ h in absurd (cc)

-- a name is at most itself
pub at_most_self : (x : Name) → at_most x x ≡ true
at_most_self x = by (order x x) refl where
  by : (o : Ordering) → order x x ≡ o → is_le o ≡ true
  by Greater e = let z : false ≡ true = sym (ap is_eq e) ∙ (sym (texts_ties x x) ∙ same_self x) in absurd (cc)
  by o e = refl

all_less : (y : Name) (ss : List Stopped)
    → AllByRecursion (λ z. order y z ≡ Less) (map (λ (s : Stopped). s.line.name) ss)
    → (u : Stopped) → IsIn u ss → order y u.line.name ≡ Less
all_less y [] h u i = absurd i
all_less y (t ∷ ts) h u (inl e) = subst (λ (z : Stopped). order y z.line.name ≡ Less) (sym e) h.0
all_less y (t ∷ ts) h u (inr i) = all_less y ts h.1 u i

-- of two indexes the greater one has the greater name
pub ascends_at : (ss : List Stopped) → Ascend (map (λ (s : Stopped). s.line.name) ss) → (i j : ℕ) (s u : Stopped)
    → slice_get ss i ≡ Some s → slice_get ss j ≡ Some u → i < j → order s.line.name u.line.name ≡ Less
unfolding IsStrictlySortedBy
ascends_at [] a i j s u x y l = absurd (cc)
ascends_at (t ∷ ts) a zero zero s u x y l = absurd (omega arith)
ascends_at (t ∷ ts) a zero (suc j) s u x y l =
    subst (λ (z : Stopped). order z.line.name u.line.name ≡ Less) (some_is t s x)
    (all_less t.line.name ts a.0 u (in_get ts j u y))
ascends_at (t ∷ ts) a (suc i) zero s u x y l = absurd (omega arith)
ascends_at (t ∷ ts) a (suc i) (suc j) s u x y l = ascends_at ts a.1 i j s u x y (omega arith)

-- a task has one of the names
named : (ss : List Stopped) (s : Stopped) → IsIn s ss → IsIn s.line.name (map (λ (t : Stopped). t.line.name) ss)
named ss s i = to_map (λ (t : Stopped). t.line.name) s ss i

-- a name is of one task
same_task : (ss : List Stopped) → AreDistinct (map (λ (s : Stopped). s.line.name) ss) → (s u : Stopped) → IsIn s ss
    → IsIn u ss → s.line.name ≡ u.line.name → s ≡ u
same_task [] d s u i j e = absurd i
same_task (t ∷ ts) d s u (inl a) (inl b) e = a ∙ sym b
same_task (t ∷ ts) d s u (inl a) (inr j) e = absurd (d.0
    (subst (λ n. IsIn n (map (λ (z : Stopped). z.line.name) ts))
    (sym e ∙ ap (λ (z : Stopped). z.line.name) a) (named ts u j)))
same_task (t ∷ ts) d s u (inr i) (inl b) e = absurd (d.0
    (subst (λ n. IsIn n (map (λ (z : Stopped). z.line.name) ts))
    (e ∙ ap (λ (z : Stopped). z.line.name) b) (named ts s i)))
same_task (t ∷ ts) d s u (inr i) (inr j) e = same_task ts d.1 s u i j e

-- each name leads to one at most
pub names_lead : (tasks : List Stopped) → AreApart tasks → LeadsToOne (Leads tasks)
names_lead tasks apart x y z (q, (s, i, n, e), (u, j, m, o)) (q', (s', i', n', e'), (u', j', m', o')) =
    let same_wait = ap (λ (w : Stopped). w.line.ending) (same_task tasks apart.names s s' i i' (n ∙ sym n')) in
    let cell : q ≡ q' = ap waited (sym e ∙ same_wait ∙ e') in
    sym m ∙ ap (λ (w : Stopped). w.line.name)
    (apart.owners u u' q' j j' (subst (λ c. IsIn c (owned_by u)) cell o) o') ∙ m'

-- what the list of next indexes says of a task
module _ (tasks : List Stopped) where
  next_get : (ts : List Stopped) (os : List (Option ℕ)) (k : ℕ) (s : Stopped) → AreNext tasks ts os
      → slice_get ts k ≡ Some s → (p : ℕ) → (slice_index_or os k None ≡ Some p) ↔ LeadsTo tasks s p
  next_get [] os k s n g = absurd (cc)
  next_get (t ∷ ts) [] k s n g = absurd n
  next_get (t ∷ ts) (o ∷ os) zero s n g = λ p. subst (λ z. (o ≡ Some p) ↔ LeadsTo tasks z p) (some_is t s g) (n.0 p)
  next_get (t ∷ ts) (o ∷ os) (suc k) s n g = next_get ts os k s n.1 g

  next_task : (ts : List Stopped) (os : List (Option ℕ)) (k p : ℕ) → AreNext tasks ts os
      → slice_index_or os k None ≡ Some p → (s : Stopped) × (slice_get ts k ≡ Some s)
  next_task [] [] k p n g = absurd (cc)
  next_task [] (o ∷ os) k p n g = absurd n
  next_task (t ∷ ts) [] k p n g = absurd n
  next_task (t ∷ ts) (o ∷ os) zero p n g = (t, refl)
  next_task (t ∷ ts) (o ∷ os) (suc k) p n g = next_task ts os k p n.1 g

  pub next_length : (ts : List Stopped) (os : List (Option ℕ)) → AreNext tasks ts os → length os ≡ length ts
  next_length [] [] n = refl
  next_length [] (o ∷ os) n = absurd n
  next_length (t ∷ ts) [] n = absurd n
  next_length (t ∷ ts) (o ∷ os) n = ap suc (next_length ts os n.1)

  pub next_more : (ts : List Stopped) (os : List (Option ℕ)) (t : Stopped) (o : Option ℕ) → AreNext tasks ts os
      → ((p : ℕ) → (o ≡ Some p) ↔ LeadsTo tasks t p) → AreNext tasks (ts ++ t ∷ []) (os ++ o ∷ [])
  next_more [] [] t o n h = (h, tt)
  next_more [] (x ∷ os) t o n h = absurd n
  next_more (y ∷ ts) [] t o n h = absurd n
  next_more (y ∷ ts) (x ∷ os) t o n h = (n.0, next_more ts os t o n.1 h)

  -- the name of the task with this index
  abbrev pub name_at : ℕ → Name
  name_at p = (link_at tasks p).task

  -- the index is that of a task
  abbrev pub There : ℕ → Type 0
  There p = p < length tasks

  pub link_is : (p : ℕ) (s : Stopped) → slice_get tasks p ≡ Some s → link_at tasks p ≡ link_of s
  link_is p s g = ap (λ o. option_map_or link_of o (record { task = []; cell = [] })) g

  name_is : (p : ℕ) (s : Stopped) → slice_get tasks p ≡ Some s → name_at p ≡ s.line.name
  name_is p s g = ap (λ (l : Link). l.task) (link_is p s g)

  module _ (apart : AreApart tasks) (in_order : Ascend (map (λ (s : Stopped). s.line.name) tasks)) where
    -- a task has one index
    pub one_index : (i j : ℕ) (s u : Stopped) → slice_get tasks i ≡ Some s → slice_get tasks j ≡ Some u
        → s.line.name ≡ u.line.name → i ≡ j
    one_index i j s u x y e =
        dite (dec_le (suc i) j)
        (λ l. absurd (not_less u.line.name
        (subst (λ n. order n u.line.name ≡ Less) e (ascends_at tasks in_order i j s u x y (omega arith)))))
        (λ l. dite (dec_le (suc j) i)
        (λ m. absurd (not_less s.line.name
        (subst (λ n. order n s.line.name ≡ Less) (sym e) (ascends_at tasks in_order j i u s y x (omega arith)))))
        (λ m. omega arith))

    -- the index has the cell that its name waits for
    pub waits_at : (p : ℕ) (q : Name) → There p → Waits tasks (name_at p) q → (link_at tasks p).cell ≡ q
    waits_at p q h (s, i, n, e) =
        let t = get_there tasks p h in
        let is = same_task tasks apart.names t.0 s (in_get tasks p t.0 t.1) i (sym (name_is p t.0 t.1) ∙ sym n) in
        ap (λ (l : Link). l.cell) (link_is p t.0 t.1) ∙ ap (λ (w : Stopped). waited w.line.ending) is ∙ ap waited e

    -- the index of a task with this name
    pub index_of : (x q : Name) → Waits tasks x q → (p : ℕ) × There p × (name_at p ≡ x)
    index_of x q (s, i, n, e) =
        let g = get_in tasks s i in (g.0, get_less tasks g.0 s g.1, name_is g.0 s g.1 ∙ n)

    -- the less of two indexes has the less name
    pub names_ascend : (i j : ℕ) → There i → There j → i < j → order (name_at i) (name_at j) ≡ Less
    names_ascend i j h k l =
        let s = get_there tasks i h in
        let u = get_there tasks j k in
        subst (λ x. order x (name_at j) ≡ Less) (sym (name_is i s.0 s.1))
        (subst (λ y. order s.0.line.name y ≡ Less) (sym (name_is j u.0 u.1))
        (ascends_at tasks in_order i j s.0 u.0 s.1 u.1 l))

    -- so it is at most the other
    pub names_at_most : (i j : ℕ) → There i → There j → i ≤ j → at_most (name_at i) (name_at j) ≡ true
    names_at_most i j h k l = dite (dec_le (suc i) j)
        (λ m. ap is_le (names_ascend i j h k m))
        (λ m. let e : i ≡ j = omega arith in
        subst (λ p. at_most (name_at i) (name_at p) ≡ true) e (at_most_self (name_at i)))

    -- and only then
    pub indexes_at_most : (i j : ℕ) → There i → There j → at_most (name_at i) (name_at j) ≡ true → i ≤ j
    indexes_at_most i j h k a = dite (dec_le i j) (λ l. l)
        (λ m. let e = names_ascend j i k h (omega arith) in absurd (after (order (name_at i) (name_at j)) refl a e))
      where
        after : (o : Ordering) → order (name_at i) (name_at j) ≡ o → is_le o ≡ true → order (name_at j) (name_at i)
            ≡ Less
            → ⊥
        after Less e h l = not_less (name_at i) (nat_list_cmp_total.trans (name_at i) (name_at j) (name_at i) e l)
        after Equal e h l =
            let q = same_is (name_at i) (name_at j) (texts_ties (name_at i) (name_at j) ∙ ap is_eq e) in
            not_less (name_at j) (subst (λ x. order (name_at j) x ≡ Less) q l)
        after Greater e h l = absurd (cc)

    module _ (next : List (Option ℕ)) (are : AreNext tasks tasks next) where
      -- where an index leads, and that its task waits
      pub next_leads : (i j : ℕ) → Next next i j → (s : Stopped) × (slice_get tasks i ≡ Some s) × LeadsTo tasks s j
      next_leads i j e =
          let s = next_task tasks next i j are e in (s.0, s.1, (next_get tasks next i s.0 are s.1 j).0 e)

      pub next_there : (i j : ℕ) → Next next i j → There j
      next_there i j e = let l = (next_leads i j e).2 in get_less tasks j l.1 l.3

      -- the names of the indexes that are there lead as the indexes do
      pub indexes_are_names : AreImages name_at There (Next next) (Leads tasks)
      indexes_are_names = record {
        stay = next_there;
        steps = λ i j e.
            let s = next_leads i j e in
            let l = s.2 in (
              l.0,
              (s.0, in_get tasks i s.0 s.1, sym (name_is i s.0 s.1), l.2),
              (l.1, in_get tasks j l.1 l.3, sym (name_is j l.1 l.3), in_of_has l.0 (owned_by l.1) l.4),
            );
        back = λ i h y (q, (s, k, n, e), (u, m, v, o)).
            let t = get_there tasks i h in
            let is = same_task tasks apart.names t.0 s (in_get tasks i t.0 t.1) k (sym (name_is i t.0 t.1) ∙ sym n) in
            let g = get_in tasks u m in (
              g.0,
              (next_get tasks next i t.0 are t.1 g.0).1 (
                q,
                u,
                subst (λ (z : Stopped). z.line.ending ≡ ending.Waits q) (sym is) e,
                g.1,
                has_of_times q (owned_by u) (times_of_in q (owned_by u) o),
              ),
              name_is g.0 u g.1 ∙ v,
            );
        apart = λ i j h k e.
            let s = get_there tasks i h in
            let u = get_there tasks j k in
            one_index i j s.0 u.0 s.1 u.1 (sym (name_is i s.0 s.1) ∙ e ∙ name_is j u.0 u.1);
      }

    -- the index of the owner is the one index that a task leads to
    pub led : (t : Stopped) (q : Name) (o : Option ℕ) → t.line.ending ≡ ending.Waits q
        → IfSome o (λ p. (s : Stopped) × (slice_get tasks p ≡ Some s) × (has q (owned_by s) ≡ true))
        → (IsNone o → (p : ℕ) (s : Stopped) → slice_get tasks p ≡ Some s → has q (owned_by s) ≡ false)
        → (p : ℕ) → (o ≡ Some p) ↔ LeadsTo tasks t p
    led t q None w some none p = (
      λ e. absurd (cc),
      λ h.
          let c : q ≡ h.0 = ap waited (sym w ∙ h.2) in
          let f = none refl p h.1 h.3 in
          let g = subst (λ z. has z (owned_by h.1) ≡ true) (sym c) h.4 in
          let z : false ≡ true = sym f ∙ g in absurd (cc),
    )
    led t q (Some x) w some none p = (
      λ e. let s = subst (λ n. slice_get tasks n ≡ Some some.0) (some_is x p e) some.1 in (q, some.0, w, s, some.2),
      λ h.
          let c : q ≡ h.0 = ap waited (sym w ∙ h.2) in
          let g = subst (λ z. has z (owned_by h.1) ≡ true) (sym c) h.4 in
          let u = apart.owners some.0 h.1 q (in_get tasks x some.0 some.1) (in_get tasks p h.1 h.3)
          (in_of_has q (owned_by some.0) some.2) (in_of_has q (owned_by h.1) g) in
          ap Some (one_index x p some.0 h.1 some.1 h.3 (ap (λ (z : Stopped). z.line.name) u)),
    )
