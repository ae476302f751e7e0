-- What a body awaits, and what the laws of a body say of one ask.
use Rattle.std.specs.Prelude.{◌≡◌, ◌⊎◌, ℕ, suc, ◌+◌, ◌<◌, ◌≤◌, ◌^◌, List, length}
use Rattle.std.specs.List.{AllByRecursion}
use Rattle.tj_base.specs.declared.value.Pay.{Pay}
use Rattle.tj_base.specs.declared.value.Pay.TheVariants as pay
use Rattle.tj_body.specs.declared.ask.Answer.{Answer}
use Rattle.tj_body.specs.declared.ask.Answer.TheVariants as answer
use Rattle.tj_body.specs.declared.ask.Ask.{Ask}
use Rattle.tj_body.specs.declared.ask.Ask.TheVariants as ask

-- What sort of answer a body is to be given: the first one, a new place, word that it is done, a cell's value,
-- that or word that the cell is broken, and none after its last ask.
pub data Await : Type 0 where
  begin : Await
  place : Await
  done : Await
  cell : Await
  cell_or : Await
  nothing : Await

-- the answer is one that is awaited where the task has n places: a new place is the next one
abbrev pub Fits : Await → ℕ → Answer → Type 0
Fits begin n answer.Start = Unit {0}
Fits place n (answer.Local k) = k ≡ n
Fits done n answer.Done = Unit {0}
Fits cell n (answer.Num i) = Unit {0}
Fits cell n (answer.RefAt k) = k ≡ n
Fits cell_or n (answer.Num i) = Unit {0}
Fits cell_or n (answer.RefAt k) = k ≡ n
Fits cell_or n answer.Lost = Unit {0}
Fits w n a = ⊥

-- how many places the answer adds
abbrev pub new_places : Answer → ℕ
new_places answer.Start = 0
new_places (answer.Local k) = 1
new_places answer.Done = 0
new_places (answer.Num i) = 0
new_places (answer.RefAt k) = 1
new_places answer.Lost = 0

-- what a body awaits after the ask
abbrev pub awaited : {B : Type 0} → Ask B → Await
awaited ask.New = place
awaited (ask.Fork b pass hand) = place
awaited (ask.Set k v) = done
awaited (ask.Get k) = cell
awaited (ask.Join k) = cell
awaited (ask.GetOr k) = cell_or
awaited (ask.JoinOr k) = cell_or
awaited (ask.Emit i) = done
awaited (ask.End v) = nothing
awaited (ask.Fail t) = nothing

-- no answer is awaited any more
abbrev pub AwaitsNothing : Await → Type 0
AwaitsNothing nothing = Unit {0}
AwaitsNothing w = ⊥

-- the ask is a body's last one
abbrev pub Ends : {B : Type 0} → Ask B → Type 0
Ends x = AwaitsNothing (awaited x)

-- the place of the value, if it is a reference, is one of n
abbrev pub IsPaid : ℕ → Pay → Type 0
IsPaid n (pay.Num i) = Unit {0}
IsPaid n (pay.Ref k) = k < n

-- a fork passes at most so many places
abbrev pub most_passed : ℕ
most_passed = 2 ^ 20

-- a body that has asked nothing yet has at most so much left
abbrev pub most_left : ℕ
most_left = 2 ^ 30

module _ {B : Type 0} (places : B → ℕ) (awaits : B → Await) (left : B → ℕ) where
  -- a body or a chatter has asked nothing yet, is that of a task with n places, and has at most so much left
  pub record IsFreshWithin (most n : ℕ) (b : B) : Type 0 where
    pub has_places : places b ≡ n
    pub begins : awaits b ≡ begin
    pub ends : left b ≤ most

  module _ {A Q : Type 0} (after : Q → Await) (added : A → ℕ) (IsAllowed : ℕ → Q → Type 0) (asks : B → A → Q)
      (then : B → A → B) where
    -- what holds of the ask that a body or a chatter gives for the answer, and of it from then on: what it awaits after
    -- the ask, how many places the answer has added, and that the ask is allowed with that many places
    pub record IsNextOf (b : B) (a : A) : Type 0 where
      pub falls : AwaitsNothing (after (asks b a)) ⊎ (left (then b a) < left b)
      pub awaits_answer : awaits (then b a) ≡ after (asks b a)
      pub adds_places : places (then b a) ≡ places b + added a
      pub placed : IsAllowed (places (then b a)) (asks b a)

module _ {B : Type 0} (places : B → ℕ) (awaits : B → Await) (left : B → ℕ) where
  -- the body has asked nothing yet, and is that of a task with n places
  abbrev pub IsFresh : ℕ → B → Type 0
  IsFresh n b = IsFreshWithin places awaits left most_left n b

  -- the body of a fork that passes these places has one place more than they are
  pub record IsForked (b : B) (n : ℕ) (pass hand : List ℕ) : Type 0 where
    pub passed : AllByRecursion (λ k. k < n) pass
    pub handed : AllByRecursion (λ k. k < n) hand
    pub few : length pass ≤ most_passed
    pub fresh : IsFresh (suc (length pass)) b

  -- each place of the ask is one of n, and the body of a fork is fit for its task
  abbrev pub IsPlaced : ℕ → Ask B → Type 0
  IsPlaced n ask.New = Unit {0}
  IsPlaced n (ask.Fork b pass hand) = IsForked b n pass hand
  IsPlaced n (ask.Set k v) = (k < n) × IsPaid n v
  IsPlaced n (ask.Get k) = k < n
  IsPlaced n (ask.Join k) = k < n
  IsPlaced n (ask.GetOr k) = k < n
  IsPlaced n (ask.JoinOr k) = k < n
  IsPlaced n (ask.Emit i) = Unit {0}
  IsPlaced n (ask.End v) = IsPaid n v
  IsPlaced n (ask.Fail t) = Unit {0}

  module _ (asks : B → Answer → Ask B) (then : B → Answer → B) where
    -- what holds of the ask that the body gives for the answer, and of the body from then on
    abbrev pub IsNext : B → Answer → Type 0
    IsNext b a = IsNextOf places awaits left awaited new_places IsPlaced asks then b a

    -- the laws of one ask, where the answer is one that the body awaits
    abbrev pub Obeys : B → Answer → Type 0
    Obeys b a = Fits (awaits b) (places b) a → IsNext b a
