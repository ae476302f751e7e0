-- What holds of an ask for each answer that a body awaits.
use Rattle.std.proofs.Common.{sym, subst}
use Rattle.std.specs.Prelude.{ℕ, ℤ}
use Rattle.tj_body.specs.Asks.{Await, begin, place, done, cell, cell_or, nothing, Fits}
use Rattle.tj_body.specs.declared.ask.Answer.{Answer}
use Rattle.tj_body.specs.declared.ask.Answer.TheVariants as answer

-- it holds for each answer that is awaited where the task has n places
abbrev pub Holds : Await → ℕ → (Answer → Type 0) → Type 0
Holds begin n P = P answer.Start
Holds place n P = P (answer.Local n)
Holds done n P = P answer.Done
Holds cell n P = ((i : ℤ) → P (answer.Num i)) × P (answer.RefAt n)
Holds cell_or n P = ((i : ℤ) → P (answer.Num i)) × P (answer.RefAt n) × P answer.Lost
Holds nothing n P = Unit {0}

-- so it holds for an answer that fits
pub for_each : (w : Await) (n : ℕ) (P : Answer → Type 0) → Holds w n P → (a : Answer) → Fits w n a → P a
for_each begin n P h answer.Start f = h
for_each begin n P h a f = absurd f
for_each place n P h (answer.Local k) f = subst (λ k. P (answer.Local k)) (sym f) h
for_each place n P h a f = absurd f
for_each done n P h answer.Done f = h
for_each done n P h a f = absurd f
for_each cell n P h (answer.Num i) f = h.0 i
for_each cell n P h (answer.RefAt k) f = subst (λ k. P (answer.RefAt k)) (sym f) h.1
for_each cell n P h a f = absurd f
for_each cell_or n P h (answer.Num i) f = h.0 i
for_each cell_or n P h (answer.RefAt k) f = subst (λ k. P (answer.RefAt k)) (sym f) h.1
for_each cell_or n P h answer.Lost f = h.2
for_each cell_or n P h a f = absurd f
for_each nothing n P h a f = absurd f
