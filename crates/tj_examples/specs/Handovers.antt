-- The body of a task that hands a promise to a child: what it asks at each step, and that this obeys the laws.
use Rattle.std.proofs.Common.{inl, inr, ℕ, refl, arith}
use Rattle.std.specs.Prelude.{pos, [], ◌∷◌}
use Rattle.tj_base.specs.declared.value.Pay.TheVariants as pay
use Rattle.tj_base.specs.declared.cause.Trouble.TheVariants as trouble
use Rattle.tj_body.specs.Asks.{Await, begin, place, done, cell, nothing, IsNext, Obeys}
use Rattle.tj_body.specs.declared.ask.Answer.{Answer}
use Rattle.tj_body.specs.declared.ask.Answer.TheVariants as answer
use Rattle.tj_body.specs.declared.ask.Ask.{Ask}
use Rattle.tj_body.specs.declared.ask.Ask.TheVariants as ask
use Rattle.tj_examples.specs.declared.handover.Handover.{Handover}
use Rattle.tj_examples.specs.declared.handover.Handover.TheVariants.{Begin, Fork, Get, End, Set, Leave, Over}
use Rattle.tj_examples.specs.EachAnswer.{Holds, for_each}

-- how a task stands before a step: its places, what it awaits, and how many asks it gives before its last one
pub record Standing : Type 0 where
  pub places : ℕ
  pub awaits : Await
  pub left : ℕ

-- how it stands before each step
abbrev pub standing : Handover → Standing
standing (Begin i) = record { places = 1; awaits = begin; left = 3 }
standing (Fork i) = record { places = 1; awaits = place; left = 2 }
standing Get = record { places = 2; awaits = place; left = 1 }
standing End = record { places = 3; awaits = cell; left = 0 }
standing (Set i) = record { places = 2; awaits = begin; left = 1 }
standing Leave = record { places = 2; awaits = done; left = 0 }
standing (Over n) = record { places = n; awaits = nothing; left = 0 }

-- how many places its task has
abbrev pub places : Handover → ℕ
places b = (standing b).places

-- what it is to be answered
abbrev pub awaits : Handover → Await
awaits b = (standing b).awaits

-- how many asks it gives before its last one
abbrev pub left : Handover → ℕ
left b = (standing b).left

-- what it asks
abbrev pub asks : Handover → Answer → Ask Handover
asks (Begin i) a = ask.New
asks (Fork i) a = ask.Fork (Set i) (1 ∷ []) (1 ∷ [])
asks Get a = ask.Get 1
asks End (answer.Num i) = ask.End (pay.Num i)
asks End a = ask.Fail trouble.Kind
asks (Set i) a = ask.Set 1 (pay.Num i)
asks Leave a = ask.End (pay.Num (pos 0))
asks (Over n) a = ask.Fail trouble.Kind

-- what it is from then on
abbrev pub then : Handover → Answer → Handover
then (Begin i) a = Fork i
then (Fork i) a = Get
then Get a = End
then End (answer.Num i) = Over 3
then End a = Over 4
then (Set i) a = Leave
then Leave a = Over 2
then (Over n) a = Over n

-- the laws hold of each step, for each answer that it awaits
steps_obey : (b : Handover) → Holds (awaits b) (places b) (IsNext places awaits left asks then b)
steps_obey (Begin i) =
    record { falls = inr (omega arith); awaits_answer = refl; adds_places = refl; placed = tt }
steps_obey (Fork i) = record {
  falls = inr (omega arith);
  awaits_answer = refl;
  adds_places = refl;
  placed = record {
    passed = (omega arith, tt);
    handed = (omega arith, tt);
    few = omega arith;
    fresh = record { has_places = refl; begins = refl; ends = omega arith };
  };
}
steps_obey Get =
    record { falls = inr (omega arith); awaits_answer = refl; adds_places = refl; placed = omega arith }
steps_obey End = (
  λ i. record { falls = inl tt; awaits_answer = refl; adds_places = refl; placed = tt },
  record { falls = inl tt; awaits_answer = refl; adds_places = refl; placed = tt },
)
steps_obey (Set i) = record {
  falls = inr (omega arith);
  awaits_answer = refl;
  adds_places = refl;
  placed = (omega arith, tt);
}
steps_obey Leave = record { falls = inl tt; awaits_answer = refl; adds_places = refl; placed = tt }
steps_obey (Over n) = tt

-- the laws of one ask
pub obeys : (b : Handover) (a : Answer) → Obeys places awaits left asks then b a
obeys b a = for_each (awaits b) (places b) (IsNext places awaits left asks then b) (steps_obey b) a
