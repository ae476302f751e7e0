-- In the run of a table a slot that a seat has in hand is out: so what is given back wasn't at home.
use Rattle.std.proofs.Common.{◌≡◌, ◌≢◌, ◌⊎◌, ◌∙◌, ℕ, zero, suc, Bool, true, false, cond, eqb, eqb-true, eq-eqb, List}
use Rattle.std.proofs.Common.{[], ◌∷◌, set, refl, sym, ap, subst, inl, inr, ⊎_elim}
use mathlib.Core.Logic.{dite}
use mathlib.Core.Option.{Option, none, some, some-injective, some-ne-none}
use native.Mathlib.Decide.{ℕ_discrete}
use lib.ListN.{get_elem?}
use Rattle.atomic_table.specs.Table.{Act, State, Valid, carried_after, chain, gives, homes_after, keeps, takes}
use Rattle.atomic_table.proofs.Lists.{set_else}
use Rattle.tj_body.specs.Points.{IsIn}
use Rattle.tj_log.specs.Logs.{numbers}
use Rattle.tj_log.specs.Runs.{Came, IsPlain, Past, Terms, begins, joins, slots_of, splits, steps}
use Rattle.tj_log.specs.declared.entry.Entry.{Entry}
use Rattle.tj_log.proofs.OwnSteps.{logs_of_runs}
use Rattle.tj_words.specs.CallLaws.StepLogs.{table_terms}
use Rattle.tj_words.specs.Words.Lists.{AreApart}
use Rattle.tj_laws.specs.SlotsInHand.{AreOut, HandsAreApart, RecordsStayHome}

-- what is put in place of an element stands there
pub put_there : {A : Type 0} (l : List A) (i : ℕ) (a b : A) → get_elem? l i ≡ some a → get_elem? (set l i b) i ≡ some b
put_there [] i a b e = absurd (some-ne-none a (sym e))
put_there (x ∷ xs) zero a b e = refl
put_there (x ∷ xs) (suc i) a b e = put_there xs i a b e

-- a slot isn't out and at home
not_both : {S : Type 0} (o : Option (Option S)) (y : S) → o ≡ some none → o ≡ some (some y) → ⊥
not_both o y e f = some-ne-none y (sym (some-injective none (some y) (sym e ∙ f)))

-- nothing stands in a list that is emptied
in_emptied : (b : Bool) (l : List ℕ) (k : ℕ) → IsIn k (cond b [] l) → IsIn k l
in_emptied true l k i = absurd i
in_emptied false l k i = i

apart_emptied : (b : Bool) (l : List ℕ) → AreApart l → AreApart (cond b [] l)
apart_emptied true l h = tt
apart_emptied false l h = h

-- what holds of the seat's new slots, and of those of each other seat, holds of each
at_seat : (F : List ℕ → Type 0) (j id : ℕ) (new old : List ℕ) → (j ≡ id → F new) → (j ≢ id → F old)
    → F (cond (eqb j id) new old)
at_seat F j id new old f g = by (eqb j id) refl where
  by : (b : Bool) → eqb j id ≡ b → F (cond b new old)
  by true e = f (eqb-true j id e)
  by false e = g (λ q. let z : true ≡ false = sym (eq-eqb j id q) ∙ e in absurd (cc))

module _ {S V : Type 0} (s now : State S V) (past : Past S V) (id : ℕ) (h : AreOut s past) where
  -- the slots after a step that leaves the seat these
  abbrev slots_then : List ℕ → ℕ → List ℕ
  slots_then new j = cond (eqb j id) new (slots_of j past)

  -- the seats are so after a step of this seat that leaves it these slots
  record AreOutThen (new : List ℕ) : Type 0 where
    out_then : (j k : ℕ) → IsIn k (slots_then new j) → get_elem? now.homes k ≡ some none
    one_then : (i j k : ℕ) → IsIn k (slots_then new i) → IsIn k (slots_then new j) → i ≡ j
    apart_then : (j : ℕ) → AreApart (slots_then new j)

  -- where the seat has the same slots, or fewer
  fewer : (new : List ℕ) → AreApart new → ((k : ℕ) → IsIn k new → IsIn k (slots_of id past))
      → ((j k : ℕ) → IsIn k (slots_of j past) → (j ≡ id → IsIn k new) → get_elem? now.homes k ≡ some none)
      → AreOutThen new
  fewer new apart among homes = record {
    out_then = λ j k. at_seat (λ l. IsIn k l → get_elem? now.homes k ≡ some none) j id new (slots_of j past)
        (λ e i. homes id k (among k i) (λ z. i)) (λ n i. homes j k i (λ z. absurd (n z)));
    one_then = λ i j k a b. h.one i j k (old i k a) (old j k b);
    apart_then = λ j. at_seat AreApart j id new (slots_of j past) (λ e. apart) (λ n. h.apart j);
  }
    where
      old : (j k : ℕ) → IsIn k (slots_then new j) → IsIn k (slots_of j past)
      old j k = at_seat (λ l. IsIn k l → IsIn k (slots_of j past)) j id new (slots_of j past)
          (λ e i. subst (λ z. IsIn k (slots_of z past)) (sym e) (among k i)) (λ n i. i)

  -- where it takes one more
  taken : (x : ℕ) (y : S) → get_elem? s.homes x ≡ some (some y) → now.homes ≡ set s.homes x none
      → AreOutThen (x ∷ slots_of id past)
  taken x y there after = record {
    out_then = λ j k. at_seat (λ l. IsIn k l → get_elem? now.homes k ≡ some none) j id (x ∷ slots_of id past)
        (slots_of j past) (λ e i. homes k (⊎_elim (λ q. inl q) (λ q. inr (h.out id k q)) i))
        (λ n i. homes k (inr (h.out j k i)));
    one_then = λ i j k. at_seat (λ l. IsIn k l → IsIn k (slots_then (x ∷ slots_of id past) j) → i ≡ j) i id
        (x ∷ slots_of id past) (slots_of i past)
        (λ e a. at_seat (λ l. IsIn k l → i ≡ j) j id (x ∷ slots_of id past) (slots_of j past)
        (λ f b. e ∙ sym f) (λ n b. e ∙ h.one id j k (mine k j a b) b))
        (λ m a. at_seat (λ l. IsIn k l → i ≡ j) j id (x ∷ slots_of id past) (slots_of j past)
        (λ f b. h.one i id k a (mine k i b a) ∙ sym f) (λ n b. h.one i j k a b));
    apart_then = λ j. at_seat AreApart j id (x ∷ slots_of id past) (slots_of j past)
        (λ e. ((λ i. not_both (get_elem? s.homes x) y (h.out id x i) there), h.apart id)) (λ n. h.apart j);
  }
    where
      homes : (k : ℕ) → (k ≡ x) ⊎ (get_elem? s.homes k ≡ some none) → get_elem? now.homes k ≡ some none
      homes k q = ap (λ l. get_elem? l k) after ∙ dite (ℕ_discrete k x)
          (λ e. subst (λ z. get_elem? (set s.homes x none) z ≡ some none) (sym e)
          (put_there s.homes x (some y) none there))
          (λ n. set_else s.homes x k none n ∙ ⊎_elim (λ e. absurd (n e)) (λ o. o) q)

      -- what another seat has isn't the slot that is taken
      mine : (k j : ℕ) → IsIn k (x ∷ slots_of id past) → IsIn k (slots_of j past) → IsIn k (slots_of id past)
      mine k j (inl e) b = absurd (not_both (get_elem? s.homes x) y
          (subst (λ z. get_elem? s.homes z ≡ some none) e (h.out j k b)) there)
      mine k j (inr i) b = i

  -- by what the step does with the slots
  after_act : (has : List (ℕ × S)) (act : Act S) → numbers has ≡ slots_of id past → Valid s.homes has act → IsPlain act
      → now.homes ≡ homes_after s.homes has act → AreOutThen (numbers (carried_after has act))
  after_act has keeps had valid plain after = fewer (numbers has) (subst AreApart (sym had) (h.apart id))
      (λ k i. subst (IsIn k) had i) (λ j k i m. ap (λ l. get_elem? l k) after ∙ h.out j k i)
  after_act has (takes x y) had valid plain after =
      subst (λ l. AreOutThen (x ∷ l)) (sym had) (taken x y valid after)
  after_act [] gives had valid plain after = fewer [] tt (λ k i. absurd i)
      (λ j k i m. ap (λ l. get_elem? l k) after ∙ h.out j k i)
  after_act (x ∷ xs) gives had valid plain after =
      let whole : AreApart (x.0 ∷ numbers xs) = subst AreApart (sym had) (h.apart id) in
      fewer (numbers xs) whole.1 (λ k i. subst (IsIn k) had (inr i))
      (λ j k i m. ap (λ l. get_elem? l k) after
      ∙ (set_else s.homes x.0 k (some x.1) (λ e.
      let q : IsIn k (slots_of id past) = subst (IsIn k) had (inl e) in
      whole.0 (subst (λ z. IsIn z (numbers xs)) e (m (h.one j id k i q))))
      ∙ h.out j k i))
  after_act has (chain a b) had valid plain after = absurd plain

module _ {S V : Type 0} (terms : Terms S V) where
  -- so it is at each moment of a run
  pub out_in_run : (now : State S V) (past : Past S V) → Came terms now past → AreOut now past
  out_in_run now begins c = record { out = λ j k i. absurd i; one = λ i j k a b. absurd a; apart = λ j. tt }
  out_in_run now (steps past s id e has act) c =
      let t = after_act s now past id (out_in_run s past c.2) has act c.1.slots c.1.may c.1.plain
      (ap (λ (z : State S V). z.homes) c.1.after) in
      record { out = t.out_then; one = t.one_then; apart = t.apart_then }
  out_in_run now (splits past s id) c =
      let h = out_in_run s past c.2 in record {
        out = λ j k i. ap (λ (z : State S V). get_elem? z.homes k) c.1.after ∙ h.out j k i;
        one = h.one;
        apart = h.apart;
      }
  out_in_run now (joins past s a b) c =
      let h = out_in_run s past c.2 in record {
        out = λ j k i. ap (λ (z : State S V). get_elem? z.homes k) c.1.after
            ∙ h.out j k (in_emptied (eqb j b) (slots_of j past) k i);
        one = λ i j k p q. h.one i j k (in_emptied (eqb i b) (slots_of i past) k p)
            (in_emptied (eqb j b) (slots_of j past) k q);
        apart = λ j. apart_emptied (eqb j b) (slots_of j past) (h.apart j);
      }

  -- and what lies at home stays there, or the step takes it
  stays_home : (x t : State S V) (came : Past S V) (id : ℕ) (e : Entry) (has : List (ℕ × S)) (act : Act S)
      → Came terms t (steps came x id e has act) → (k : ℕ) (y : S) → get_elem? x.homes k ≡ some (some y)
      → (act ≡ takes k y) ⊎ (get_elem? t.homes k ≡ some (some y))
  stays_home x t came id e has act c k y there =
      by has act c.1.slots c.1.may c.1.plain (ap (λ (z : State S V). z.homes) c.1.after) where
        h : AreOut x came
        h = out_in_run x came c.2

        by : (has : List (ℕ × S)) (act : Act S) → numbers has ≡ slots_of id came → Valid x.homes has act → IsPlain act
            → t.homes ≡ homes_after x.homes has act → (act ≡ takes k y) ⊎ (get_elem? t.homes k ≡ some (some y))
        by has keeps had valid plain after = inr (ap (λ l. get_elem? l k) after ∙ there)
        by has (takes j z) had valid plain after = dite (ℕ_discrete k j)
            (λ q. let same : some z ≡ some y = some-injective (some z) (some y)
            (sym valid ∙ (ap (get_elem? x.homes) (sym q) ∙ there)) in
            let one : z ≡ y = some-injective z y same in
            inl (λ i. takes (sym q i) (one i)))
            (λ n. inr (ap (λ l. get_elem? l k) after ∙ (set_else x.homes j k none n ∙ there)))
        by [] gives had valid plain after = inr (ap (λ l. get_elem? l k) after ∙ there)
        by (w ∷ ws) gives had valid plain after = inr (ap (λ l. get_elem? l k) after
            ∙ (set_else x.homes w.0 k (some w.1) (λ q. not_both (get_elem? x.homes k) y
            (h.out id k (subst (IsIn k) had (inl q))) there)
            ∙ there))
        by has (chain a b) had valid plain after = absurd plain

pub hands_apart : (B : Type 0) → HandsAreApart B
hands_apart B program key s run t came stands = let terms = table_terms program key in
    out_in_run terms t came ((logs_of_runs terms).earlier s t run.past came run.logged stands).came

pub records_stay : (B : Type 0) → RecordsStayHome B
records_stay B program key s run x t came id e slots act stands = let terms = table_terms program key in
    stays_home terms x t came id e slots act
    ((logs_of_runs terms).earlier s t run.past (steps came x id e slots act) run.logged stands).came
