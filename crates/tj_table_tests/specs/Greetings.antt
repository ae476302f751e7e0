-- The asks of a task that prints a number and ends with it: a body for tests. It is told by how many asks it has given.
use Rattle.std.proofs.Common.{◌≡◌, ◌⊎◌, inl, inr, ℕ, zero, suc, ◌+◌, ◌-◌, ◌<◌, refl, arith}
use Rattle.std.specs.Prelude.{ℤ}
use Rattle.tj_base.specs.declared.value.Pay.TheVariants as pay
use Rattle.tj_body.specs.Asks.{Await, awaited, begin, done, nothing, Ends, Fits, IsPlaced, new_places}
use Rattle.tj_body.specs.declared.ask.Answer.{Answer}
use Rattle.tj_body.specs.declared.ask.Answer.TheVariants as answer
use Rattle.tj_body.specs.declared.ask.Ask.{Ask}
use Rattle.tj_body.specs.declared.ask.Ask.TheVariants as ask

-- it prints the number, and then ends with it
abbrev pub greets_at : {B : Type 0} → ℤ → ℕ → Ask B
greets_at i zero = ask.Emit i
greets_at i (suc n) = ask.End (pay.Num i)

-- what is awaited then
abbrev pub greeting_awaits : ℕ → Await
greeting_awaits zero = begin
greeting_awaits (suc zero) = done
greeting_awaits (suc (suc n)) = nothing

module _ {B : Type 0} (places : B → ℕ) (awaits : B → Await) (left : B → ℕ) where
  -- what holds of the ask of this number
  pub record IsGreetingAt (i : ℤ) (n : ℕ) (a : Answer) : Type 0 where
    pub falls : Ends {B = B} (greets_at i n) ⊎ (2 - suc n < 2 - n)
    pub awaits_answer : greeting_awaits (suc n) ≡ awaited {B = B} (greets_at i n)
    pub adds_places : 1 ≡ 1 + new_places a
    pub placed : IsPlaced places awaits left 1 (greets_at i n)

  -- the laws of one ask
  pub greeting_obeys : (i : ℤ) (n : ℕ) (a : Answer) → Fits (greeting_awaits n) 1 a → IsGreetingAt i n a
  greeting_obeys i zero answer.Start h =
      record { falls = inr (omega arith); awaits_answer = refl; adds_places = refl; placed = tt }
  greeting_obeys i zero (answer.Local k) h = absurd h
  greeting_obeys i zero answer.Done h = absurd h
  greeting_obeys i zero (answer.Num j) h = absurd h
  greeting_obeys i zero (answer.RefAt k) h = absurd h
  greeting_obeys i zero answer.Lost h = absurd h
  greeting_obeys i (suc zero) answer.Done h =
      record { falls = inl tt; awaits_answer = refl; adds_places = refl; placed = tt }
  greeting_obeys i (suc zero) answer.Start h = absurd h
  greeting_obeys i (suc zero) (answer.Local k) h = absurd h
  greeting_obeys i (suc zero) (answer.Num j) h = absurd h
  greeting_obeys i (suc zero) (answer.RefAt k) h = absurd h
  greeting_obeys i (suc zero) answer.Lost h = absurd h
  greeting_obeys i (suc (suc n)) a h = absurd h
