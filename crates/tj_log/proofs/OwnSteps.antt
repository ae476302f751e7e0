-- Each entry of a log is a step of the run, and each log that was taken in was that of a seat of the run.
use Rattle.std.proofs.Common.{◌≡◌, ◌⊎◌, ⊎_elim, ℕ, cond, eqb, eq-eqb, ne_eqb, List, [], ◌∷◌, ◌++◌, sym, length, suc}
use Rattle.std.proofs.Common.{Bool, true, false, refl, ap, ◌∙◌, inl, inr, subst₂}
use Rattle.std.proofs.lemmas.Bool.{cond-true, cond-false}
use mathlib.Core.Logic.{dite}
use native.Mathlib.Decide.{ℕ_discrete}
use lib.ListN.{get_elem?}
use Rattle.atomic_table.specs.Table.{State}
use Rattle.tj_log.specs.declared.entry.Entry.{Entry}
use Rattle.tj_log.specs.Runs.{Terms, Past, begins, steps, splits, joins, log_of, took_of, Came, IsRun}
use Rattle.tj_log.specs.Runs.{before, befores_of, took_befores_of}
use Rattle.tj_log.specs.Laws.{AreWith, HasLog, IsMade, LogsAreOfRuns, StandsIn}
use Rattle.tj_log.proofs.Unmoved.{more_is_none}

module _ {A : Type 0} where
  abbrev first_or : A → List A → A
  first_or d [] = d
  first_or d (x ∷ xs) = x

  abbrev others : List A → List A
  others [] = []
  others (x ∷ xs) = xs

  first_is : (x y : A) (xs ys : List A) → x ∷ xs ≡ y ∷ ys → x ≡ y
  first_is x y xs ys p = ap (λ (l : List A). first_or x l) p

  others_are : (x y : A) (xs ys : List A) → x ∷ xs ≡ y ∷ ys → xs ≡ ys
  others_are x y xs ys p = ap (λ (l : List A). others l) p

  -- where e stands in a list that begins with x
  heads : (x : A) (xs ys : List A) (e : A) (zs : List A) → x ∷ xs ≡ ys ++ e ∷ zs
      → ((x ≡ e) × (xs ≡ zs) × (0 ≡ length ys))
      ⊎ ((ws : List A) × (xs ≡ ws ++ e ∷ zs) × (suc (length ws) ≡ length ys))
  heads x xs [] e zs p = inl (first_is x e xs zs p, others_are x e xs zs p, refl)
  heads x xs (y ∷ ys) e zs p = inr (ys, others_are x y xs (ys ++ e ∷ zs) p, refl)

module _ {V : Type 0} where
  -- what each of the logs has with its views is so of both lists
  pub with_both : (P : List Entry → List V → Type 0) (xs ys : List (List Entry)) (us vs : List (List V))
      → AreWith P xs us → AreWith P ys vs → AreWith P (xs ++ ys) (us ++ vs)
  with_both P [] ys [] vs p q = q
  with_both P [] ys (u ∷ us) vs p q = absurd p
  with_both P (x ∷ xs) ys [] vs p q = absurd p
  with_both P (x ∷ xs) ys (u ∷ us) vs p q = (p.0, with_both P xs ys us vs p.1 q)

  pub with_more : (P Q : List Entry → List V → Type 0) → ((log : List Entry) (views : List V) → P log views → Q log views)
      → (xs : List (List Entry)) (us : List (List V)) → AreWith P xs us → AreWith Q xs us
  with_more P Q f [] [] p = tt
  with_more P Q f [] (u ∷ us) p = absurd p
  with_more P Q f (x ∷ xs) [] p = absurd p
  with_more P Q f (x ∷ xs) (u ∷ us) p = (f x u p.0, with_more P Q f xs us p.1)

  -- what is so of either choice is so of what is chosen
  pub with_chosen : (P : List Entry → List V → Type 0) (t : Bool) (xs ys : List (List Entry)) (us vs : List (List V))
      → AreWith P xs us → AreWith P ys vs → AreWith P (cond t xs ys) (cond t us vs)
  with_chosen P true xs ys us vs p q = p
  with_chosen P false xs ys us vs p q = q

module _ {S V : Type 0} where
  -- what is of a run is of a longer one
  made_on : (now z : State S V) (more past : Past S V) (j : ℕ) (newer more_newer : List Entry) (e : Entry)
      (older : List Entry)
      → ((s : State S V) (came : Past S V) → StandsIn s came z past → StandsIn s came now more)
      → (m : IsMade z past j newer e older) (since : List V)
      → befores_of j more ≡ since ++ m.view ∷ befores_of j m.came → length since ≡ length more_newer
      → IsMade now more j more_newer e older
  made_on now z more past j newer more_newer e older f m since views as_many = record {
    before = m.before;
    came = m.came;
    slots = m.slots;
    act = m.act;
    after = m.after;
    stands = f _ _ m.stands;
    log = m.log;
    view = m.view;
    at = m.at;
    since = since;
    views = views;
    as_many = as_many;
  }

  logged_on : (now z : State S V) (more past : Past S V) (log : List Entry) (views : List V)
      → ((s : State S V) (came : Past S V) → StandsIn s came z past → StandsIn s came now more)
      → HasLog z past log views → HasLog now more log views
  logged_on now z more past log views f h = record {
    at = h.at;
    came = h.came;
    seat = h.seat;
    stands = f _ _ h.stands;
    is = h.is;
    views_are = h.views_are;
  }

  stands_itself : (z : State S V) (q : Past S V) → StandsIn z q z q
  stands_itself z begins = (refl, refl)
  stands_itself z (steps q y id e slots act) = inl (refl, refl)
  stands_itself z (splits q y id) = inl (refl, refl)
  stands_itself z (joins q y c d) = inl (refl, refl)

  -- each log that a seat has taken in was that of a seat
  taken_logs : (now : State S V) (past : Past S V) (j : ℕ)
      → AreWith (HasLog now past) (took_of j past) (took_befores_of j past)
  taken_logs now begins j = tt
  taken_logs now (steps past s id x slots act) j =
      with_more (HasLog s past) _ (λ log vs h. logged_on now s _ past log vs (λ a b c. inr c) h) _ _
      (taken_logs s past j)
  taken_logs now (splits past s id) j =
      with_more (HasLog s past) _ (λ log vs h. logged_on now s _ past log vs (λ a b c. inr c) h) _ _
      (taken_logs s past j)
  taken_logs now (joins past s a b) j = let has = HasLog now (joins past s a b) in
      let more = λ (i : ℕ). with_more (HasLog s past) has
      (λ log vs h. logged_on now s (joins past s a b) past log vs (λ x y c. inr c) h) _ _ (taken_logs s past i) in
      with_chosen has (eqb j b) [] _ [] _ tt (with_chosen has (eqb j a) _ _ _ _
      (with_both has (took_of a past) (log_of b past ∷ took_of b past) (took_befores_of a past)
      (befores_of b past ∷ took_befores_of b past) (more a) (
        record { at = s; came = past; seat = b; stands = inr (stands_itself s past); is = refl; views_are = refl },
        more b,
      )) (more j))

module _ {S V : Type 0} (terms : Terms S V) where
  own_step : (now : State S V) (past : Past S V) → Came terms now past → (j : ℕ) (newer : List Entry) (e : Entry)
      (older : List Entry) → log_of j past ≡ newer ++ e ∷ older → IsMade now past j newer e older
  own_step now begins c j newer e older p = absurd (more_is_none newer e older (sym p))
  own_step now (steps past s id x slots act) c j newer e older p = dite (ℕ_discrete j id)
      (λ is. ⊎_elim
      (λ (t : (x ≡ e) × (log_of j past ≡ older) × (0 ≡ length newer)). record {
        before = s;
        came = past;
        slots = slots;
        act = act;
        after = now;
        stands = inl (refl, λ i. steps past s (is i) (sym t.0 i) slots act);
        log = t.1;
        view = c.1.view;
        at = ap (λ (k : ℕ). get_elem? s.views k) is ∙ c.1.at;
        since = [];
        views = mine is;
        as_many = t.2;
      })
      (λ (t : (ws : List Entry) × (log_of j past ≡ ws ++ e ∷ older) × (suc (length ws) ≡ length newer)).
      let m = own_step s past c.2 j t.0 e older t.1 in
      made_on now s _ past j t.0 newer e older (λ a b d. inr d) m (c.1.view ∷ m.since)
      (mine is ∙ ap (λ (l : List V). c.1.view ∷ l) m.views) (ap suc m.as_many ∙ t.2))
      (heads x (log_of j past) newer e older (sym (cond-true (eqb j id) _ _ (eq-eqb j id is)) ∙ p)))
      (λ ne. let m = own_step s past c.2 j newer e older (sym (cond-false (eqb j id) _ _ (ne_eqb j id ne)) ∙ p) in
      made_on now s _ past j newer newer e older (λ a b d. inr d) m m.since
      (cond-false (eqb j id) _ _ (ne_eqb j id ne) ∙ m.views) m.as_many)
    where
      mine : j ≡ id → befores_of j (steps past s id x slots act) ≡ c.1.view ∷ befores_of j past
      mine is = cond-true (eqb j id) _ _ (eq-eqb j id is) ∙ ap (λ z. before z (befores_of j past)) c.1.at
  own_step now (splits past s id) c j newer e older p = let m = own_step s past c.2 j newer e older p in
      made_on now s _ past j newer newer e older (λ a b d. inr d) m m.since m.views m.as_many
  own_step now (joins past s a b) c j newer e older p = dite (ℕ_discrete j b)
      (λ is. absurd (more_is_none newer e older (sym p ∙ cond-true (eqb j b) _ _ (eq-eqb j b is))))
      (λ ne. let m = own_step s past c.2 j newer e older (sym (cond-false (eqb j b) _ _ (ne_eqb j b ne)) ∙ p) in
      made_on now s _ past j newer newer e older (λ x y d. inr d) m m.since
      (cond-false (eqb j b) _ _ (ne_eqb j b ne) ∙ m.views) m.as_many)

  earlier_run : (now s : State S V) (past came : Past S V) → IsRun terms now past → StandsIn s came now past
      → IsRun terms s came
  earlier_run now s begins came run t = subst₂ (λ x y. IsRun terms x y) (sym t.0) (sym t.1) run
  earlier_run now s (steps past z id e slots act) came run t = ⊎_elim
      (λ (q : (s ≡ now) × (came ≡ steps past z id e slots act)).
      subst₂ (λ x y. IsRun terms x y) (sym q.0) (sym q.1) run)
      (λ (q : StandsIn s came z past). earlier_run z s past came (record {
        holds = run.came.0;
        came = run.came.2;
        words = run.words;
        slots = run.slots;
        opens = run.opens;
        start = run.start;
      }) q) t
  earlier_run now s (splits past z id) came run t = ⊎_elim
      (λ (q : (s ≡ now) × (came ≡ splits past z id)). subst₂ (λ x y. IsRun terms x y) (sym q.0) (sym q.1) run)
      (λ (q : StandsIn s came z past). earlier_run z s past came (record {
        holds = run.came.0;
        came = run.came.2;
        words = run.words;
        slots = run.slots;
        opens = run.opens;
        start = run.start;
      }) q) t
  earlier_run now s (joins past z a b) came run t = ⊎_elim
      (λ (q : (s ≡ now) × (came ≡ joins past z a b)). subst₂ (λ x y. IsRun terms x y) (sym q.0) (sym q.1) run)
      (λ (q : StandsIn s came z past). earlier_run z s past came (record {
        holds = run.came.0;
        came = run.came.2;
        words = run.words;
        slots = run.slots;
        opens = run.opens;
        start = run.start;
      }) q) t

  pub logs_of_runs : LogsAreOfRuns terms
  logs_of_runs = record {
    own = λ now past run j newer e older p. own_step now past run.came j newer e older p;
    taken = taken_logs;
    earlier = earlier_run;
  }
