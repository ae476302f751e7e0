-- The laws of a body that another one wraps: a body for tests. A wrapped ask forks a wrapped body.
use Rattle.std.proofs.Common.{◌≡◌, ℕ, false, refl, sym, ap}
use Rattle.tj_body.specs.Asks.{Await, Obeys}
use Rattle.tj_body.specs.Programs.{rules_of}
use Rattle.tj_body.specs.SeenAs.{ask_as}
use Rattle.tj_body.proofs.SeenAs.{obeys_seen}
use Rattle.tj_body.specs.declared.ask.Answer.{Answer}
use Rattle.tj_body.specs.declared.ask.Ask.{Ask}
use Rattle.tj_body.specs.declared.ask.Ask.TheVariants as ask

module _ {B C : Type 0} (wrapped : B → C) (inner : C → B) (unwraps : (b : B) → inner (wrapped b) ≡ b) where
  -- a wrapped ask, seen without its wrapping, is the ask
  unwrapped : (a : Ask B) → a ≡ ask_as inner (ask_as wrapped a)
  unwrapped (ask.Fork b pass hand) = ap (λ c. ask.Fork c pass hand) (sym (unwraps b))
  unwrapped a = refl

  module _ (places : B → ℕ) (awaits : B → Await) (left : B → ℕ) (asks : B → Answer → Ask B) (then : B → Answer → B) where
    -- the laws of one ask are those of the body inside
    pub obeys_of : (next : C → Answer → C) → ((c : C) (a : Answer) → inner (next c a) ≡ then (inner c) a)
        → ((b : B) (a : Answer) → Obeys places awaits left asks then b a) → (c : C) (a : Answer)
        → Obeys (λ d. places (inner d)) (λ d. awaits (inner d)) (λ d. left (inner d))
        (λ d e. ask_as wrapped (asks (inner d) e)) next c a
    obeys_of next same obeys c a = obeys_seen inner
        (rules_of (λ d. places (inner d)) (λ d. awaits (inner d)) (λ d. left (inner d))
        (λ d e. ask_as wrapped (asks (inner d) e)) next false)
        (rules_of places awaits left asks then false) (record {
          strict = refl;
          places = λ b. refl;
          awaits = λ b. refl;
          left = λ b. refl;
          asks = λ b d. unwrapped (asks (inner b) d);
          then = λ b d. sym (same b d);
        }) c a (obeys (inner c) a)
