-- The asks of two tasks that meet, and of the root that forks them: a body for tests. It is told by who asks (0 is the
-- root) and by how many asks have been given.
use Rattle.std.proofs.Common.{◌≡◌, ◌≢◌, ◌⊎◌, inl, inr, ⊎_elim, ℕ, zero, suc, ◌+◌, ◌-◌, ◌<◌, ◌≤◌, [], pos, refl, sym, ap}
use Rattle.std.proofs.Common.{◌∙◌, subst, arith}
use Rattle.tj_base.specs.declared.value.Pay.TheVariants as pay
use Rattle.tj_body.specs.Asks.{Await, awaited, begin, place, nothing, Ends, Fits, IsForked, IsFresh, IsPlaced, Obeys}
use Rattle.tj_body.specs.Asks.{new_places}
use Rattle.tj_body.specs.declared.ask.Answer.{Answer}
use Rattle.tj_body.specs.declared.ask.Answer.TheVariants as answer
use Rattle.tj_body.specs.declared.ask.Ask.{Ask}
use Rattle.tj_body.specs.declared.ask.Ask.TheVariants as ask

-- the root forks two tasks; each task ends with 0
abbrev pub asks_at : {B : Type 0} → (ℕ → B) → ℕ → ℕ → Ask B
asks_at kid zero zero = ask.Fork (kid 1) [] []
asks_at kid zero (suc zero) = ask.Fork (kid 2) [] []
asks_at kid zero (suc (suc n)) = ask.End (pay.Num (pos 0))
asks_at kid (suc who) n = ask.End (pay.Num (pos 0))

-- what is awaited then
abbrev pub awaits_at : ℕ → ℕ → Await
awaits_at who zero = begin
awaits_at zero (suc zero) = place
awaits_at zero (suc (suc zero)) = place
awaits_at zero (suc (suc (suc n))) = nothing
awaits_at (suc who) (suc n) = nothing

-- a task has one place at first, and the root one more after each fork
abbrev pub places_at : ℕ → ℕ
places_at zero = 1
places_at (suc n) = suc n

-- an ask that is awaited is one of the first three
pub few_asks : (who n k : ℕ) (a : Answer) → Fits (awaits_at who n) k a → n ≤ 2
few_asks who zero k a h = omega arith
few_asks zero (suc zero) k a h = omega arith
few_asks zero (suc (suc zero)) k a h = omega arith
few_asks zero (suc (suc (suc n))) k a h = absurd h
few_asks (suc who) (suc n) k a h = absurd h

-- the last ask
pub task_ends : {B : Type 0} (kid : ℕ → B) (who n : ℕ) → who ≢ 0 → asks_at kid who n ≡ ask.End (pay.Num (pos 0))
task_ends kid zero n h = absurd (h refl)
task_ends kid (suc who) n h = refl

pub root_ends : {B : Type 0} (kid : ℕ → B) (who n : ℕ) → n ≢ 0 → n ≢ 1
    → asks_at kid who n ≡ ask.End (pay.Num (pos 0))
root_ends kid zero zero h k = absurd (h refl)
root_ends kid zero (suc zero) h k = absurd (k refl)
root_ends kid zero (suc (suc n)) h k = refl
root_ends kid (suc who) n h k = refl

-- an answer to the first ask adds no place, and one that is a new place adds one
begins_same : (k : ℕ) (a : Answer) → Fits begin k a → new_places a ≡ 0
begins_same k answer.Start h = refl
begins_same k (answer.Local n) h = absurd h
begins_same k answer.Done h = absurd h
begins_same k (answer.Num i) h = absurd h
begins_same k (answer.RefAt n) h = absurd h
begins_same k answer.Lost h = absurd h

place_more : (k : ℕ) (a : Answer) → Fits place k a → new_places a ≡ 1
place_more k answer.Start h = absurd h
place_more k (answer.Local n) h = refl
place_more k answer.Done h = absurd h
place_more k (answer.Num i) h = absurd h
place_more k (answer.RefAt n) h = absurd h
place_more k answer.Lost h = absurd h

-- the laws of one ask, by what is asked
module _ {B : Type 0} (who step : B → ℕ) (kid : B → ℕ → B) (then : B → Answer → B)
    (who_then : (b : B) (a : Answer) → who (then b a) ≡ who b)
    (step_then : (b : B) (a : Answer) → step (then b a) ≡ suc (step b))
    (kid_begins : (b : B) (n : ℕ) → step (kid b n) ≡ 0) where
  abbrev places : B → ℕ
  places b = places_at (step b)

  abbrev awaits : B → Await
  awaits b = awaits_at (who b) (step b)

  abbrev left : B → ℕ
  left b = 3 - step b

  abbrev asks : B → Answer → Ask B
  asks b a = asks_at (kid b) (who b) (step b)

  -- a kid has asked nothing yet
  fresh : (b : B) (n : ℕ) → IsFresh places awaits left 1 (kid b n)
  fresh b n = record {
    has_places = ap places_at (kid_begins b n);
    begins = ap (λ k. awaits_at (who (kid b n)) k) (kid_begins b n);
    ends = omega arith;
  }

  forks : (b : B) (n k : ℕ) → IsForked places awaits left (kid b n) k [] []
  forks b n k = record { passed = tt; handed = tt; few = omega arith; fresh = fresh b n }

  -- what holds of the ask of this number
  record IsNextAt (b : B) (w n : ℕ) (a : Answer) : Type 0 where
    falls : Ends (asks_at (kid b) w n) ⊎ (3 - suc n < 3 - n)
    awaits_answer : awaits_at w (suc n) ≡ awaited (asks_at (kid b) w n)
    adds_places : places_at (suc n) ≡ places_at n + new_places a
    placed : IsPlaced places awaits left (places_at (suc n)) (asks_at (kid b) w n)

  next_at : (b : B) (w n : ℕ) (a : Answer) → Fits (awaits_at w n) (places_at n) a → IsNextAt b w n a
  next_at b zero zero a h = record {
    falls = inr (omega arith);
    awaits_answer = refl;
    adds_places = ap (λ m. 1 + m) (sym (begins_same 1 a h));
    placed = forks b 1 1;
  }
  next_at b zero (suc zero) a h = record {
    falls = inr (omega arith);
    awaits_answer = refl;
    adds_places = ap (λ m. 1 + m) (sym (place_more 1 a h));
    placed = forks b 2 2;
  }
  next_at b zero (suc (suc zero)) a h = record {
    falls = inl tt;
    awaits_answer = refl;
    adds_places = ap (λ m. 2 + m) (sym (place_more 2 a h));
    placed = tt;
  }
  next_at b zero (suc (suc (suc n))) a h = absurd h
  next_at b (suc w) zero a h = record {
    falls = inl tt;
    awaits_answer = refl;
    adds_places = ap (λ m. 1 + m) (sym (begins_same 1 a h));
    placed = tt;
  }
  next_at b (suc w) (suc n) a h = absurd h

  pub obeys_at : (b : B) (a : Answer) → Obeys places awaits left asks then b a
  obeys_at b a f = let h = next_at b (who b) (step b) a f in let e = step_then b a in record {
    falls = ⊎_elim inl (λ l. inr (subst (λ n. 3 - n < 3 - step b) (sym e) l)) h.falls;
    awaits_answer = ap (λ w. awaits_at w (step (then b a))) (who_then b a)
        ∙ (ap (λ n. awaits_at (who b) n) e ∙ h.awaits_answer);
    adds_places = ap places_at e ∙ h.adds_places;
    placed = subst (λ n. IsPlaced places awaits left n (asks b a)) (sym (ap places_at e)) h.placed;
  }
