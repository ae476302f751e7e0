-- Where no log has a step, nothing was done: the words and the slots are the first ones.
use Rattle.std.proofs.Common.{◌≡◌, ℕ, zero, suc, length, arith, eqb, eq-eqb, ne_eqb, List, [], ◌∷◌, ◌++◌, sym, refl}
use Rattle.std.proofs.Common.{ap, ◌∙◌}
use Rattle.std.proofs.lemmas.Bool.{cond-true, cond-false}
use mathlib.Core.Option.{some, some-injective, some-ne-none}
use lib.ListN.{get_elem?}
use Rattle.atomic_table.specs.Table.{State}
use Rattle.tj_log.specs.declared.entry.Logged.{Logged}
use Rattle.tj_log.specs.Runs.{Terms, Past, begins, steps, splits, joins, log_of, took_of, first_of, Came, Kept}
use Rattle.tj_log.specs.Runs.{entries_at}
use Rattle.tj_log.specs.Logs.{earlier}
use Rattle.tj_log.specs.Laws.{FreshIsFirst, HasOpened, NothingIsLogged}

some_is_none : {A : Type 0} (e : A) (l : List A) → e ∷ l ≡ [] → ⊥
some_is_none {A = A} e l p = let q : suc (length l) ≡ 0 = ap (λ (z : List A). length z) p in omega arith

pub more_is_none : {A : Type 0} (l : List A) (e : A) (m : List A) → l ++ e ∷ m ≡ [] → ⊥
more_is_none [] e m p = some_is_none e m p
more_is_none (x ∷ xs) e m p = some_is_none x (xs ++ e ∷ m) p

module _ {S V : Type 0} (terms : Terms S V) where
  still : (now : State S V) (past : Past S V) → Came terms now past → ((j : ℕ) → log_of j past ≡ [])
      → ((j : ℕ) → took_of j past ≡ [])
      → (now.words ≡ (first_of now past).words) × (now.homes ≡ (first_of now past).homes)
  still now begins c l t = (refl, refl)
  still now (steps past s id e slots act) c l t =
      absurd (some_is_none e (log_of id past) (sym (cond-true (eqb id id) _ _ (eq-eqb id id refl)) ∙ l id))
  still now (splits past s id) c l t = let r = still s past c.2 l t in (
    ap (λ x. x.words) c.1.after ∙ r.0,
    ap
        (λ x. x.homes) c.1.after ∙ r.1,
  )
  still now (joins past s a b) c l t = absurd (more_is_none (took_of a past) (log_of b past) (took_of b past)
      (sym (cond-true (eqb a a) _ (took_of a past) (eq-eqb a a refl))
      ∙ (sym (cond-false (eqb a b) [] _ (ne_eqb a b (λ e. c.1.apart (sym e)))) ∙ t a)))

  pub unmoved : (s : State S (Logged V)) → Kept terms s → NothingIsLogged s → HasOpened terms s
  unmoved s k n =
      let r = still _ k.past k.run.came (λ j. sym (k.logs j) ∙ n.0 j) (λ j. sym (k.tooks j) ∙ n.1 j) in (
        k.run.words,
        k.run.slots,
        k.run.opens,
        r.0 ∙ ap (λ x. x.words) k.run.start,
        r.1 ∙ ap (λ x. x.homes) k.run.start,
      )

  -- the log of the only seat is all there is
  one_alone : {A : Type 0} (f : Logged V → List A) (vs : List (Logged V)) (id : ℕ) (v : Logged V) → length vs ≡ 1
      → get_elem? vs id ≡ some v → f v ≡ [] → (j : ℕ) → entries_at f vs j ≡ []
  one_alone f [] id v one at e j = refl
  one_alone f (x ∷ []) zero v one at e zero = ap f (some-injective x v at) ∙ e
  one_alone f (x ∷ []) zero v one at e (suc j) = refl
  one_alone f (x ∷ []) (suc id) v one at e j = absurd (some-ne-none v (sym at))
  one_alone f (x ∷ y ∷ xs) id v one at e j = absurd (omega arith)

  pub fresh_first : FreshIsFirst terms
  fresh_first s seat k at f = let v : Logged V = record {
    own = seat.me.0;
    log = seat.log;
    took = seat.took;
    lone = seat.lone;
    slots = at.0;
    befores = earlier seat.befores seat.took_befores;
  } in
      let one = k.lone seat.id v at.1 f.2 in
      unmoved s k (
        one_alone (λ x. x.log) s.views seat.id v one at.1 f.0,
        one_alone (λ x. x.took) s.views seat.id v one at.1 f.1,
      )
