-- What a listener has heard after one call more.
use Rattle.std.proofs.Common.{◌≡◌, ◌≢◌, ◌⊎◌, ◌<◌, ℕ, Bool, true, false, ◌&&◌, ◌||◌, ◌+◌, List, [], ◌∷◌, ◌++◌}
use Rattle.std.proofs.Common.{None, Some, Result, Ok, Err, IfOk, IfErr}
use Rattle.std.proofs.Common.{zero, suc, ◌≤◌, arith, length, get_or, take, refl, sym, ap, ◌∙◌, subst, inl, inr}
use Rattle.std.proofs.lemmas.List.{take_more}
use Rattle.std.specs.List.{list_any}
use Rattle.tj_base.specs.ForkOrder.{Name}
use Rattle.tj_base.specs.declared.memory.Oom.{Oom}
use Rattle.tj_body.proofs.Counts.{same_is, same_self}
use Rattle.tj_body.specs.Names.{same}
use Rattle.tj_body.specs.Points.{IsIn}
use Rattle.tj_mean.specs.declared.outcome.Link.{Link}
use Rattle.tj_mean.specs.declared.outcome.Outcome.{Outcome}
use Rattle.tj_told.specs.Hearing.{HasHeard, Hears, IsStoppedBy}
use Rattle.tj_told.specs.ToldNews.{AddsTo, AreApart, AreOf, AreTold, IsBrokenIn, IsCycleOf}
use Rattle.tj_told.specs.ToldNews.{is_value, same_cycle, same_link, tells_cycle}
use Rattle.tj_base.specs.declared.value.Shown.{Shown}
use Rattle.tj_told.specs.declared.listener.Goes.{Goes}
use Rattle.tj_told.specs.declared.listener.Goes.TheVariants as goes
use Rattle.tj_told.specs.declared.news.News.{News}
use Rattle.tj_told.specs.declared.news.News.TheVariants as news

both_true : (a b : Bool) → (a && b) ≡ true → (a ≡ true) × (b ≡ true)
both_true true true e = (refl, refl)
both_true true false e = absurd (cc)
both_true false b e = absurd (cc)

link_is : (a b : Link) → same_link a b ≡ true → a ≡ b
link_is a b e =
    let h = both_true (same a.task b.task) (same a.cell b.cell) e in
    let t = same_is a.task b.task h.0 in let c = same_is a.cell b.cell h.1 in
    λ i. record { task = t i; cell = c i }

link_self : (a : Link) → same_link a a ≡ true
link_self a = ap (λ z. z && same a.cell a.cell) (same_self a.task) ∙ same_self a.cell

cycle_is : (a b : List Link) → same_cycle a b ≡ true → a ≡ b
cycle_is [] [] e = refl
cycle_is [] (y ∷ ys) e = absurd (cc)
cycle_is (x ∷ xs) [] e = absurd (cc)
cycle_is (x ∷ xs) (y ∷ ys) e =
    let h = both_true (same_link x y) (same_cycle xs ys) e in
    let l = link_is x y h.0 in let r = cycle_is xs ys h.1 in
    λ i. l i ∷ r i

cycle_self : (a : List Link) → same_cycle a a ≡ true
cycle_self [] = refl
cycle_self (x ∷ xs) = ap (λ z. z && same_cycle xs xs) (link_self x) ∙ cycle_self xs

-- what was told is this cycle where the test says so
told_is : (c : List Link) (n : News) → tells_cycle c n ≡ true → n ≡ news.Cycle c
told_is c (news.Cycle d) e = ap (λ z. news.Cycle z) (sym (cycle_is c d e))
told_is c (news.Broken q) e = absurd (cc)
told_is c (news.Value q v) e = absurd (cc)

-- the test tells whether a cycle is among what was told
pub is_in : (c : List Link) (ns : List News) → list_any (tells_cycle c) ns ≡ true → IsIn (news.Cycle c) ns
is_in c [] e = absurd (cc)
is_in c (n ∷ ns) e = by (tells_cycle c n) refl (λ t. is_in c ns t)
  where
    by : (b : Bool) → tells_cycle c n ≡ b → (list_any (tells_cycle c) ns ≡ true → IsIn (news.Cycle c) ns)
        → IsIn (news.Cycle c) (n ∷ ns)
    by true f more = inl (sym (told_is c n f))
    by false f more = inr (more (sym (ap (λ z. z || list_any (tells_cycle c) ns) f) ∙ e))

in_is : (c : List Link) (ns : List News) → IsIn (news.Cycle c) ns → list_any (tells_cycle c) ns ≡ true
in_is c [] i = absurd i
in_is c (n ∷ ns) (inl e) =
    ap (λ z. z || list_any (tells_cycle c) ns) (subst (λ z. tells_cycle c z ≡ true) e (cycle_self c))
in_is c (n ∷ ns) (inr i) = by (tells_cycle c n) refl (in_is c ns i)
  where
    by : (b : Bool) → tells_cycle c n ≡ b → list_any (tells_cycle c) ns ≡ true
        → list_any (tells_cycle c) (n ∷ ns) ≡ true
    by true f more = ap (λ z. z || list_any (tells_cycle c) ns) f
    by false f more = ap (λ z. z || list_any (tells_cycle c) ns) f ∙ more

pub not_in : (c : List Link) (ns : List News) → list_any (tells_cycle c) ns ≡ false → ¬ IsIn (news.Cycle c) ns
not_in c ns e i = let t = in_is c ns i in let z : true ≡ false = sym t ∙ e in absurd (cc)

module _ {A : Type 0} where
  pub in_snoc : (x y : A) (ys : List A) → IsIn x (ys ++ y ∷ []) → (x ≡ y) ⊎ IsIn x ys
  in_snoc x y [] (inl e) = inl e
  in_snoc x y [] (inr i) = absurd i
  in_snoc x y (z ∷ zs) (inl e) = inr (inl e)
  in_snoc x y (z ∷ zs) (inr i) = by (in_snoc x y zs i)
    where
      by : (x ≡ y) ⊎ IsIn x zs → (x ≡ y) ⊎ IsIn x (z ∷ zs)
      by (inl e) = inl e
      by (inr j) = inr (inr j)

  snoc_left : (x y : A) (ys : List A) → IsIn x ys → IsIn x (ys ++ y ∷ [])
  snoc_left x y [] i = absurd i
  snoc_left x y (z ∷ zs) (inl e) = inl e
  snoc_left x y (z ∷ zs) (inr i) = inr (snoc_left x y zs i)

  snoc_last : (y : A) (ys : List A) → IsIn y (ys ++ y ∷ [])
  snoc_last y [] = inl refl
  snoc_last y (z ∷ zs) = inr (snoc_last y zs)

  apart_on : (x : A) (ys : List A) → AreApart ys → ¬ IsIn x ys → AreApart (ys ++ x ∷ [])
  apart_on x [] a n = (λ i. i, tt)
  apart_on x (y ∷ ys) a n = (λ i. by (in_snoc y x ys i), apart_on x ys a.1 (λ i. n (inr i)))
    where
      by : (y ≡ x) ⊎ IsIn y ys → ⊥
      by (inl e) = n (inl (sym e))
      by (inr j) = a.0 j

module _ {T : Type 0} (tells : T → News → Goes → T → Type 0) where
  heard_on : (ns : List News) (s m : T) (n : News) (t : T) → HasHeard tells ns s m → tells m n goes.On t
      → HasHeard tells (ns ++ n ∷ []) s t
  heard_on [] s m n t e h = (t, subst (λ z. tells z n goes.On t) (sym e) h, refl)
  heard_on (d ∷ ns) s m n t e h = (e.0, e.1, heard_on ns e.0 m n t e.2 h)

  -- one more, that was none of those before
  module _ (n : News) (before now : List News) (at last s : T) (new : ¬ IsIn n before)
      (is : now ≡ before ++ n ∷ []) (h : Hears tells before s at) where
    apart : AreApart now
    apart = subst (λ z. AreApart z) (sym is) (apart_on n before h.apart new)

    hears_on : tells at n goes.On last → Hears tells now s last
    hears_on t = record {
      calls = subst (λ z. HasHeard tells z s last) (sym is) (heard_on before s at n last h.calls t);
      apart = apart;
    }

    stopped_by : tells at n goes.Stop last → IsStoppedBy tells now s last
    stopped_by t = record {
      before = before;
      last = n;
      at = at;
      all = is;
      calls = h.calls;
      stops = t;
      apart = apart;
    }

  -- what a call leaves, by its answer
  module _ (n : News) (before now : List News) (at last s : T) (new : ¬ IsIn n before)
    where
      pub told_goes : (r : Result Goes Oom) → IfOk r (λ _. now ≡ before ++ n ∷ []) → IfOk r (λ g. tells at n g last)
          → IfErr r (λ _. last ≡ at) → IfErr r (λ _. now ≡ before) → Hears tells before s at → r ≢ Ok goes.Stop
          → Hears tells now s last
      told_goes (Ok goes.On) e t f g h w = hears_on n before now at last s new e h t
      told_goes (Ok goes.Stop) e t f g h w = absurd (w refl)
      told_goes (Err x) e t f g h w =
          subst (λ z. Hears tells z s last) (sym g) (subst (λ z. Hears tells before s z) (sym f) h)

      pub told_stops : (r : Result Goes Oom) → IfOk r (λ _. now ≡ before ++ n ∷ []) → IfOk r (λ g. tells at n g last)
          → Hears tells before s at → r ≡ Ok goes.Stop → IsStoppedBy tells now s last
      told_stops (Ok goes.On) e t h f = absurd (cc)
      told_stops (Ok goes.Stop) e t h f = stopped_by n before now at last s new e h t
      told_stops (Err x) e t h f = absurd (cc)

-- what was heard is of the state and of what was told alone
pub hears_same : {T : Type 0} (tells : T → News → Goes → T → Type 0) (before now : List News) (s at last : T)
    → now ≡ before → last ≡ at → Hears tells before s at → Hears tells now s last
hears_same tells before now s at last e f h =
    subst (λ z. Hears tells z s last) (sym e) (subst (λ z. Hears tells before s z) (sym f) h)

-- what was told already is added to nothing
pub adds_none : (n : News) (ns : List News) → IsIn n ns → AddsTo n ns ns
adds_none n ns i = record { is = i; kept = λ d j. j; only = λ d j. inr j }

adds_one : (n : News) (before now : List News) → now ≡ before ++ n ∷ [] → AddsTo n before now
adds_one n before now e = subst (AddsTo n before) (sym e) (record {
  is = snoc_last n before;
  kept = λ d j. snoc_left d n before j;
  only = λ d j. in_snoc d n before j;
})

pub adds_if : (n : News) (before now : List News) (r : Result Goes Oom) → IfOk r (λ _. now ≡ before ++ n ∷ [])
    → IfOk r (λ _. AddsTo n before now)
adds_if n before now (Ok g) e = adds_one n before now e
adds_if n before now (Err f) e = tt

-- the cycles so far, and one more
pub all_so_far : (cs : List (List Link)) (told now : List News) (i : ℕ) (c : List Link) → i < length cs
    → c ≡ get_or cs i c → AddsTo (news.Cycle c) told now
    → ((d : List Link) → IsIn d (take i cs) → IsIn (news.Cycle d) told) → (d : List Link)
    → IsIn d (take (i + 1) cs) → IsIn (news.Cycle d) now
all_so_far cs told now i c later is a all d j =
    by (in_snoc d c (take i cs) (subst (λ z. IsIn d z) (take_more cs i c later
    ∙ ap (λ z. take i cs ++ z ∷ []) (sym is)) j))
  where
    by : (d ≡ c) ⊎ IsIn d (take i cs) → IsIn (news.Cycle d) now
    by (inl e) = subst (λ z. IsIn (news.Cycle z) now) (sym e) a.is
    by (inr k) = a.kept (news.Cycle d) (all d k)

-- an item of the list is in it
pub item_in : (cs : List (List Link)) (i : ℕ) (c : List Link) → i < length cs → c ≡ get_or cs i c → IsIn c cs
item_in [] i c later is = let f : ⊥ = omega (arith, later) in absurd f
item_in (x ∷ xs) zero c later is = inl is
item_in (x ∷ xs) (suc i) c later is =
    let l : suc i < suc (length xs) = later in inr (item_in xs i c (omega (arith, l)) is)

-- the list so far is all of it at its end
pub in_take : (cs : List (List Link)) (i : ℕ) (d : List Link) → length cs ≤ i → IsIn d cs → IsIn d (take i cs)
in_take [] i d l k = absurd k
in_take (c ∷ cs) zero d l k = let m : suc (length cs) ≤ 0 = l in let f : ⊥ = omega (arith, m) in absurd f
in_take (c ∷ cs) (suc i) d l (inl e) = inl e
in_take (c ∷ cs) (suc i) d l (inr k) =
    let m : suc (length cs) ≤ suc i = l in inr (in_take cs i d (omega (arith, m)) k)

-- only the cycles, and what was told before, are told after one of them
pub only_so_far : (early told now : List News) (cs : List (List Link)) (c : List Link) → IsIn c cs
    → ((d : News) → IsIn d now → (d ≡ news.Cycle c) ⊎ IsIn d told)
    → ((d : News) → IsIn d told → IsIn d early ⊎ IsCycleOf cs d) → (d : News)
    → IsIn d now → IsIn d early ⊎ IsCycleOf cs d
only_so_far early told now cs c i adds only d j = by (adds d j)
  where
    by : (d ≡ news.Cycle c) ⊎ IsIn d told → IsIn d early ⊎ IsCycleOf cs d
    by (inl e) = inr (c, i, e)
    by (inr k) = only d k

-- news of a cycle is of that cycle alone, and no news of a broken cell
abbrev cycle_in : News → List Link → List Link
cycle_in (news.Cycle c) d = c
cycle_in (news.Broken q) d = d
cycle_in (news.Value q v) d = d

pub same_told : (c d : List Link) → news.Cycle c ≡ news.Cycle d → c ≡ d
same_told c d e = ap (λ n. cycle_in n c) e

pub not_cycle : (q : Name) (d : List Link) → news.Broken q ≡ news.Cycle d → ⊥
not_cycle q d e = absurd (cc)

-- a value is neither
pub not_value : (q : Name) (v : Shown) (d : List Link) → news.Value q v ≡ news.Cycle d → ⊥
not_value q v d e = absurd (cc)

pub value_not_broken : (q p : Name) (v : Shown) → news.Value q v ≡ news.Broken p → ⊥
value_not_broken q p v e = absurd (cc)

-- where no value was told, this one wasn't
pub value_new : (q : Name) (v : Shown) (ns : List News) → list_any is_value ns ≡ false → ¬ IsIn (news.Value q v) ns
value_new q v [] e i = absurd i
value_new q v (n ∷ ns) e i = by n (is_value n) refl e i (λ f j. value_new q v ns f j)
  where
    by : (m : News) (b : Bool) → is_value m ≡ b → (b || list_any is_value ns) ≡ false
        → (news.Value q v ≡ m) ⊎ IsIn (news.Value q v) ns
        → (list_any is_value ns ≡ false → IsIn (news.Value q v) ns → ⊥) → ⊥
    by m true f g j more = absurd (cc)
    by m false f g (inl h) more = let z : true ≡ false = ap is_value h ∙ f in absurd (cc)
    by m false f g (inr j) more = more g j

-- a value that was told in the end was told early, since at rest only cycles are told
pub value_early : (early told : List News) (cycles : List (List Link))
    → ((d : News) → IsIn d told → IsIn d early ⊎ IsCycleOf cycles d) → (q : Name) (v : Shown)
    → IsIn (news.Value q v) told → IsIn (news.Value q v) early
value_early early told cycles only q v i = by (only (news.Value q v) i)
  where
    by : IsIn (news.Value q v) early ⊎ IsCycleOf cycles (news.Value q v) → IsIn (news.Value q v) early
    by (inl j) = j
    by (inr k) = absurd (not_value q v k.0 k.2)

-- what was told early is so by the outcome, and later only its cycles were told
pub told_of : (early told : List News) (o : Outcome) → ((c : List Link) → IsIn (news.Cycle c) early → IsIn c o.cycles)
    → ((q : Name) → IsIn (news.Broken q) early → IsBrokenIn o q)
    → ((d : News) → IsIn d told → IsIn d early ⊎ IsCycleOf o.cycles d) → AreOf told o
told_of early told o cycles broken only = record {
  cycles = λ c i. cycle c (only (news.Cycle c) i);
  broken = λ q i. one q (only (news.Broken q) i);
}
  where
    cycle : (c : List Link) → IsIn (news.Cycle c) early ⊎ IsCycleOf o.cycles (news.Cycle c) → IsIn c o.cycles
    cycle c (inl i) = cycles c i
    cycle c (inr k) = subst (λ z. IsIn z o.cycles) (sym (same_told c k.0 k.2)) k.1

    one : (q : Name) → IsIn (news.Broken q) early ⊎ IsCycleOf o.cycles (news.Broken q) → IsBrokenIn o q
    one q (inl i) = broken q i
    one q (inr k) = absurd (not_cycle q k.0 k.2)

-- with an outcome all of its cycles were told
pub all_told : (told : List News) (o : Outcome) → AreOf told o
    → ((c : List Link) → IsIn c o.cycles → IsIn (news.Cycle c) told) → AreTold told o
all_told told o of all = record { only = of.cycles; all = all; broken = of.broken }

-- an answer On isn't Stop
pub on_no_stop : (r : Result Goes Oom) (g : Goes) → r ≡ Ok g → g ≡ goes.On → r ≢ Ok goes.Stop
on_no_stop r g e i f =
    let on : r ≡ Ok goes.On = e ∙ ap (λ (z : Goes). Ok z) i in
    let z : Ok goes.On ≡ Ok goes.Stop = sym on ∙ f in absurd (cc)

-- whatever comes of the call, only that one is new
pub only_added : (n : News) (before now : List News) (r : Result Goes Oom)
    → IfOk r (λ z. now ≡ before ++ n ∷ []) → IfErr r (λ z. now ≡ before) → (d : News) → IsIn d now
    → (d ≡ n) ⊎ IsIn d before
only_added n before now (Ok x) h k d i = in_snoc d n before (subst (IsIn d) h i)
only_added n before now (Err x) h k d i = inr (subst (IsIn d) k i)

-- nothing is watched where there is no name
pub some_none : (q : Name) → None ≡ Some q → ⊥
some_none q e = absurd (cc)
