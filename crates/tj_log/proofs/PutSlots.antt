-- What lies in a slot is what the last step on it put there.
use Rattle.std.proofs.Common.{◌≡◌, ◌≢◌, ◌⊎◌, ⊎_elim, ℕ, zero, suc, List, [], ◌∷◌, map, sym, ap, ◌∙◌, inl, inr}
use mathlib.Core.Option.{Option, some, none, some-injective, some-ne-none}
use lib.ListN.{get_elem?}
use Rattle.atomic_table.specs.Table.{State, Act, keeps, takes, gives, chain, homes_after}
use Rattle.atomic_table.proofs.Lists.{at_set}
use Rattle.tj_log.specs.Runs.{Terms, Past, begins, steps, splits, joins, first_of, Came, IsPlain}
use Rattle.tj_log.specs.Laws.{AreAsPut, Gives, IsLastPut, LeavesSlot}

module _ {S : Type 0} where
  -- at first each slot is at home
  laid : (xs : List S) (k : ℕ) (y : S) → get_elem? (map some xs) k ≡ some (some y) → get_elem? xs k ≡ some y
  laid [] k y e = absurd (some-ne-none (some y) (sym e))
  laid (x ∷ xs) zero y e = some-injective (some x) (some y) e
  laid (x ∷ xs) (suc k) y e = laid xs k y e

  -- what lies at home after a step was given by it, or lay there before
  put_or_left : (hs : List (Option S)) (c : List (ℕ × S)) (a : Act S) (k : ℕ) (y : S) → IsPlain a
      → get_elem? (homes_after hs c a) k ≡ some (some y)
      → Gives k y c a ⊎ (LeavesSlot k c a × (get_elem? hs k ≡ some (some y)))
  put_or_left hs c keeps k y p e = inr (tt, e)
  put_or_left hs c (takes j x) k y p e = ⊎_elim
      (λ (t : (k ≡ j) × (none ≡ some y)). absurd (some-ne-none y (sym t.1)))
      (λ (t : (k ≢ j) × (get_elem? hs k ≡ some (some y))). inr t) (at_set hs j k none (some y) e)
  put_or_left hs [] gives k y p e = inr (tt, e)
  put_or_left hs (x ∷ xs) gives k y p e = ⊎_elim
      (λ (t : (k ≡ x.0) × (some x.1 ≡ some y)). inl (λ i. (sym t.0 i, some-injective x.1 y t.1 i)))
      (λ (t : (k ≢ x.0) × (get_elem? hs k ≡ some (some y))). inr t) (at_set hs x.0 k (some x.1) (some y) e)
  put_or_left hs c (chain a b) k y p e = absurd p

module _ {S V : Type 0} (terms : Terms S V) where
  put : (xs : List S) (k : ℕ) (y : S) (now : State S V) (past : Past S V) → Came terms now past
      → (first_of now past).homes ≡ map some xs → get_elem? now.homes k ≡ some (some y) → IsLastPut k y xs past
  put xs k y now begins c f h = laid xs k y (ap (λ (l : List (Option S)). get_elem? l k) (sym f) ∙ h)
  put xs k y now (steps past s id e slots act) c f h = ⊎_elim (λ (t : Gives k y slots act). inl t)
      (λ (t : LeavesSlot k slots act × (get_elem? s.homes k ≡ some (some y))).
      inr (t.0, put xs k y s past c.2 f t.1))
      (put_or_left s.homes slots act k y c.1.plain
      (ap (λ (z : State S V). get_elem? z.homes k) (sym c.1.after) ∙ h))
  put xs k y now (splits past s id) c f h =
      put xs k y s past c.2 f (ap (λ (z : State S V). get_elem? z.homes k) (sym c.1.after) ∙ h)
  put xs k y now (joins past s a b) c f h =
      put xs k y s past c.2 f (ap (λ (z : State S V). get_elem? z.homes k) (sym c.1.after) ∙ h)

  pub as_put : AreAsPut terms
  as_put = record {
    at_home = λ now past run k y h.
        put run.slots k y now past run.came (ap (λ (z : State S V). z.homes) run.start) h;
    taken = λ now s past id e slots k y run.
        put run.slots k y s past run.came.2 (ap (λ (z : State S V). z.homes) run.start) run.came.1.may;
  }
