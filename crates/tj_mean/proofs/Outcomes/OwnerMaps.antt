-- The map of owners, cell by cell and task by task.
use Rattle.std.proofs.Common.{◌≡◌, ℕ, zero, suc, ◌+◌, ◌<◌, Bool, true, false, cond, ◌||◌, List, [], ◌∷◌}
use Rattle.std.proofs.Common.{Option, Some, None, map, take, refl, sym, ap, ◌∙◌, subst, arith}
use Rattle.std.specs.Prelude.{◌↔◌, slice_get, IfSome, IsNone}
use native.Mathlib.Decide.{ℕ_discrete}
use mathlib.Core.Logic.{dite}
use Rattle.tj_base.specs.ForkOrder.{Name}
use Rattle.tj_body.specs.Names.{has}
use Rattle.tj_mean.specs.Inner.Owners.{AreOwners, owner_in}
use Rattle.tj_mean.specs.Outcomes.{AreApart, Ascend, owned_by}
use Rattle.tj_mean.specs.WaitIndexes.{LeadsTo}
use Rattle.tj_mean.specs.declared.name_map.NameMap.{NameMap}
use Rattle.tj_mean.specs.declared.outcome.Ending.TheVariants as ending
use Rattle.tj_mean.specs.declared.stopped.Stopped.{Stopped}
use Rattle.tj_mean.proofs.Lists.Elements.{some_is}
use Rattle.tj_mean.proofs.Outcomes.Indexes.{led}

-- one cell more of those that have this owner
pub cond_more : (a b : Bool) (x y z w : Option ℕ) → z ≡ cond a x y → w ≡ cond b x z → w ≡ cond (a || b) x y
cond_more true true x y z w e f = f
cond_more true false x y z w e f = f ∙ e
cond_more false true x y z w e f = f
cond_more false false x y z w e f = f ∙ e

get_taken : {A : Type 0} (xs : List A) (n p : ℕ) (x : A) → slice_get (take n xs) p ≡ Some x
    → (p < n) × (slice_get xs p ≡ Some x)
get_taken [] zero p x e = absurd (cc)
get_taken [] (suc n) p x e = absurd (cc)
get_taken (y ∷ ys) zero p x e = absurd (cc)
get_taken (y ∷ ys) (suc n) zero x e = (omega arith, e)
get_taken (y ∷ ys) (suc n) (suc p) x e = let r = get_taken ys n p x e in let l = r.0 in (omega arith, r.1)

taken_get : {A : Type 0} (xs : List A) (n p : ℕ) (x : A) → p < n → slice_get xs p ≡ Some x
    → slice_get (take n xs) p ≡ Some x
taken_get [] n p x l e = absurd (cc)
taken_get (y ∷ ys) zero p x l e = absurd (omega arith)
taken_get (y ∷ ys) (suc n) zero x l e = e
taken_get (y ∷ ys) (suc n) (suc p) x l e = taken_get ys n p x (omega arith) e

-- no task owns a cell
pub owners_none : (m : NameMap ℕ) → ((q : Name) → owner_in m q ≡ None) → AreOwners [] m
owners_none m none = record {
  owns = λ q p e. let z : None ≡ Some p = sym (none q) ∙ e in absurd (cc);
  none = λ q e p s g. absurd (cc);
}

-- one task more
pub owners_more : (tasks : List Stopped) (i : ℕ) (t : Stopped) (m n : NameMap ℕ) → slice_get tasks i ≡ Some t
    → AreOwners (take i tasks) m
    → ((q : Name) → owner_in n q ≡ cond (has q (owned_by t)) (Some i) (owner_in m q))
    → AreOwners (take (i + 1) tasks) n
owners_more tasks i t m n at o is = record {
  owns = λ q p e. owns q p (has q (owned_by t)) refl e;
  none = λ q e p s g. none q (has q (owned_by t)) refl e p s g;
}
  where
    told : (q : Name) (b : Bool) → has q (owned_by t) ≡ b → owner_in n q ≡ cond b (Some i) (owner_in m q)
    told q b h = is q ∙ ap (λ c. cond c (Some i) (owner_in m q)) h

    owns : (q : Name) (p : ℕ) (b : Bool) → has q (owned_by t) ≡ b → owner_in n q ≡ Some p
        → (s : Stopped) × (slice_get (take (i + 1) tasks) p ≡ Some s) × (has q (owned_by s) ≡ true)
    owns q p true h e =
        let same : i ≡ p = some_is i p (sym (told q true h) ∙ e) in
        (t, taken_get tasks (i + 1) p t (omega arith) (subst (λ k. slice_get tasks k ≡ Some t) same at), h)
    owns q p false h e =
        let r = o.owns q p (sym (told q false h) ∙ e) in
        let g = get_taken tasks i p r.0 r.1 in
        let l = g.0 in (r.0, taken_get tasks (i + 1) p r.0 (omega arith) g.1, r.2)

    none : (q : Name) (b : Bool) → has q (owned_by t) ≡ b → owner_in n q ≡ None → (p : ℕ) (s : Stopped)
        → slice_get (take (i + 1) tasks) p ≡ Some s → has q (owned_by s) ≡ false
    none q true h e p s g = let z : Some i ≡ None = sym (told q true h) ∙ e in absurd (cc)
    none q false h e p s g =
        let r = get_taken tasks (i + 1) p s g in
        let l = r.0 in
        dite (ℕ_discrete p i)
        (λ d. let same : t ≡ s = some_is t s (sym at ∙ subst (λ k. slice_get tasks k ≡ Some s) d r.1) in
        subst (λ (z : Stopped). has q (owned_by z) ≡ false) same h)
        (λ d. o.none q (sym (told q false h) ∙ e) p s (taken_get tasks i p s (omega (arith, d)) r.1))

-- the task with this index owns the cell
abbrev OwnsAt : List Stopped → Name → ℕ → Type 0
OwnsAt tasks q p = (s : Stopped) × (slice_get tasks p ≡ Some s) × (has q (owned_by s) ≡ true)

-- a task leads to the owner of the cell that it waits for
pub owner_leads : (tasks : List Stopped) → AreApart tasks → Ascend (map (λ (s : Stopped). s.line.name) tasks)
    → (m : NameMap ℕ) → AreOwners tasks m → (t : Stopped) (q : Name) (o : Option ℕ)
    → t.line.ending ≡ ending.Waits q → o ≡ owner_in m q → (p : ℕ) → (o ≡ Some p) ↔ LeadsTo tasks t p
owner_leads tasks apart in_order m are t q o w e =
    led tasks apart in_order t q o w (subst (λ x. IfSome x (OwnsAt tasks q)) (sym e) (found (owner_in m q) refl))
    (λ n. are.none q (missed (owner_in m q) (subst IsNone e n)))
  where
    missed : (x : Option ℕ) → IsNone x → x ≡ None
    missed None n = refl
    missed (Some p) n = absurd (cc)

    found : (x : Option ℕ) → owner_in m q ≡ x → IfSome x (OwnsAt tasks q)
    found None g = tt
    found (Some p) g = are.owns q p g
