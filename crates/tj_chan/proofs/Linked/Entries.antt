-- What all that is left of a channel tells of its items.
use Rattle.std.proofs.Common.{◌≡◌, ℕ, ◌≤◌, Bool, true, false, cond, ◌||◌, nat_lt, ◌⊎◌, inl}
use Rattle.std.proofs.Common.{inr, ⊎_elim, List, [], ◌∷◌, ◌++◌, length, Option, Some, None, refl, sym, ap, ◌∙◌}
use Rattle.std.proofs.Common.{subst, arith, ltb-true, ltb-false, pos}
use Rattle.std.proofs.lemmas.Option.{slice_get_past, slice_get-get_or}
use native.Mathlib.Decide.{dec_le}
use mathlib.Core.Logic.{dite}
use Rattle.std.specs.Prelude.{ℤ, slice_get}
use Rattle.std.specs.List.{flat_map}
use Rattle.tj_body.specs.Points.{IsIn}
use Rattle.tj_chan.specs.Channels.{Channel, ChannelState}
use Rattle.tj_chan.specs.Channels.{is_same}
use Rattle.tj_chan.specs.ChannelRounds.{later_of, untouched, state_in}
use Rattle.tj_chan.proofs.Lists.Runs.{Found, to_come, cut_off, value_of, found_by, found_in}
use Rattle.tj_chan.proofs.Lists.Apart.{true_false}

-- h is what was found on one of the sides, and to come only where both are
abbrev pub IsFoundOf : Found → Found → Found → Type 0
IsFoundOf h f g = ((h ≡ f) ⊎ (h ≡ g)) × (h ≡ to_come → (f ≡ to_come) × (g ≡ to_come))

pub no_value : (v : ℤ) → ¬ (value_of v ≡ to_come)
no_value v e = cc

pub no_cut : ¬ (cut_off ≡ to_come)
no_cut e = cc

-- where there is nothing, the list has ended
pub none_past : (l : List ℤ) (i : ℕ) → slice_get l i ≡ None → length l ≤ i
none_past l i e = dite (dec_le (length l) i) (λ a. a)
    (λ a. let s = slice_get-get_or l i (pos 0) (omega arith) in absurd (cc))

neither_there : (a b : Bool) → IsFoundOf (found_by (a || b) None) (found_by a None) (found_by b None)
neither_there true b = (inl refl, λ e. absurd (no_cut e))
neither_there false true = (inr refl, λ e. absurd (no_cut e))
neither_there false false = (inl refl, λ e. (refl, refl))

swapped : (h f g : Found) → IsFoundOf h f g → IsFoundOf h g f
swapped h f g p = (⊎_elim (λ e. inr e) (λ e. inl e) p.0, λ e. let q = p.1 e in (q.1, q.0))

-- what the longer of two lists tells, if where neither has a value the same is so
longer_found : (z c d : Bool) (long short : List ℤ) (i : ℕ) → length short ≤ length long
    → IsFoundOf (found_by z None) (found_by c None) (found_by d None)
    → IsFoundOf (found_by z (slice_get long i)) (found_by c (slice_get long i)) (found_by d (slice_get short i))
longer_found z c d long short i l n = by (slice_get long i) refl where
  by : (o : Option ℤ) → slice_get long i ≡ o
      → IsFoundOf (found_by z o) (found_by c o) (found_by d (slice_get short i))
  by (Some v) e = (inl refl, λ h. absurd (no_value v h))
  by None e = let p = none_past long i e in let s = slice_get_past short i (omega arith) in
      subst (λ o. IsFoundOf (found_by z None) (found_by c None) (found_by d o)) (sym s) n

-- the later of two states
later_found : (a b : ChannelState) (i : ℕ) → IsFoundOf (found_in (later_of a b) i) (found_in a i) (found_in b i)
later_found a b i = by (nat_lt (length a.sent) (length b.sent)) refl where
  by : (z : Bool) → nat_lt (length a.sent) (length b.sent) ≡ z
      → IsFoundOf (found_by (a.is_cut || b.is_cut) (slice_get (cond z b.sent a.sent) i)) (found_in a i) (found_in b i)
  by true e = let l = ltb-true (length a.sent) (length b.sent) e in
      swapped _ _ _ (longer_found _ b.is_cut a.is_cut b.sent a.sent i (omega arith)
      (swapped _ _ _ (neither_there a.is_cut b.is_cut)))
  by false e = longer_found _ a.is_cut b.is_cut a.sent b.sent i (ltb-false (length a.sent) (length b.sent) e)
      (neither_there a.is_cut b.is_cut)

pub untouched_found : (i : ℕ) → found_in untouched i ≡ to_come
untouched_found i = ap (found_by false) (slice_get_past [] i (omega arith))

-- What all that is left of a channel tells of its item i: what one tells, and nothing only where all tell nothing.
pub record IsFoundAmong (ws : List (Channel × ChannelState)) (c : Channel) (i : ℕ) : Type 0 where
  pub one : (found_in (state_in ws c) i ≡ to_come) ⊎ ((w : Channel × ChannelState) × IsIn w ws
      × (is_same c w.0 ≡ true) × (found_in (state_in ws c) i ≡ found_in w.1 i))
  pub none : found_in (state_in ws c) i ≡ to_come → (w : Channel × ChannelState) → IsIn w ws → is_same c w.0 ≡ true
      → found_in w.1 i ≡ to_come

-- so of this state, where these are left
abbrev AreToldBy : List (Channel × ChannelState) → Channel → ℕ → ChannelState → Type 0
AreToldBy ws c i s = ((found_in s i ≡ to_come) ⊎ ((v : Channel × ChannelState) × IsIn v ws
    × (is_same c v.0 ≡ true) × (found_in s i ≡ found_in v.1 i)))
    × (found_in s i ≡ to_come → (v : Channel × ChannelState) → IsIn v ws → is_same c v.0 ≡ true
    → found_in v.1 i ≡ to_come)

pub state_found : (ws : List (Channel × ChannelState)) (c : Channel) (i : ℕ) → IsFoundAmong ws c i
state_found [] c i = record { one = inl (untouched_found i); none = λ e w j. absurd j }
state_found (w ∷ ws) c i = by (state_found ws c i) (is_same c w.0) refl where
  told : IsFoundAmong ws c i → (b : Bool) → is_same c w.0 ≡ b
      → AreToldBy (w ∷ ws) c i (cond b (later_of w.1 (state_in ws c)) (state_in ws c))
  told r true s = (
    ⊎_elim (λ e. inr (w, inl refl, s, e))
        (λ e. ⊎_elim (λ z. inl (e ∙ z)) (λ z. inr (z.0, inr z.1, z.2, e ∙ z.3)) r.one) l.0,
    λ e v j t. at (l.1 e) v t j,
  ) where
    l : IsFoundOf (found_in (later_of w.1 (state_in ws c)) i) (found_in w.1 i) (found_in (state_in ws c) i)
    l = later_found w.1 (state_in ws c) i

    at : (found_in w.1 i ≡ to_come) × (found_in (state_in ws c) i ≡ to_come) → (v : Channel × ChannelState)
        → is_same c v.0 ≡ true → IsIn v (w ∷ ws) → found_in v.1 i ≡ to_come
    at e v t (inl q) = subst (λ (x : Channel × ChannelState). found_in x.1 i ≡ to_come) (sym q) e.0
    at e v t (inr q) = r.none e.1 v q t
  told r false s = (⊎_elim (λ z. inl z) (λ z. inr (z.0, inr z.1, z.2, z.3)) r.one, λ e v j t. at e v t j) where
    at : found_in (state_in ws c) i ≡ to_come → (v : Channel × ChannelState) → is_same c v.0 ≡ true → IsIn v (w ∷ ws)
        → found_in v.1 i ≡ to_come
    at e v t (inl q) =
        absurd (true_false (is_same c w.0) (subst (λ (x : Channel × ChannelState). is_same c x.0 ≡ true) q t) s)
    at e v t (inr q) = r.none e v q t

  by : IsFoundAmong ws c i → (b : Bool) → is_same c w.0 ≡ b → IsFoundAmong (w ∷ ws) c i
  by r b s = let t = told r (is_same c w.0) refl in record { one = t.0; none = t.1 }

-- lists of lists that are the same for each element
pub same_lists : {A B : Type 0} (f g : A → List B) (l : List A) → ((x : A) → IsIn x l → f x ≡ g x)
    → flat_map f l ≡ flat_map g l
same_lists f g [] h = refl
same_lists f g (x ∷ xs) h =
    let a = h x (inl refl) in let b = same_lists f g xs (λ y j. h y (inr j)) in λ i. a i ++ b i
