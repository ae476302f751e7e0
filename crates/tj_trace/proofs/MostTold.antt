-- What is told of the statement that made most, from what was found.
use Rattle.std.proofs.Common.{◌≡◌, ℕ, suc, ◌<◌, Bool, List, [], Option, Some, None, take, refl, sym, ap, ◌∙◌, subst}
use Rattle.std.specs.Prelude.{IfNone, IfSome}
use Rattle.tj_body.specs.Asks.{IsFresh}
use Rattle.tj_body.specs.Programs.{Program, program_of}
use Rattle.tj_body.specs.Rounds.{IsFull}
use Rattle.tj_eval.specs.Stands.{PlacedState, placed_awaits, placed_left, placed_places}
use Rattle.tj_mean.specs.FirstFull.{IsFirstFull}
use Rattle.tj_trace.specs.Inner.RoundMakers.{round_makers}
use Rattle.tj_trace.specs.Logs.{Logged, logged, logged_asks, logged_awaits, logged_left, logged_places}
use Rattle.tj_trace.specs.Logs.{logged_program, logged_then}
use Rattle.tj_trace.specs.MostMade.{IsMostMade}
use Rattle.tj_trace.specs.MostOf.{IsMostOf}
use Rattle.tj_trace.specs.declared.line.Maker.{Maker}
use Rattle.tj_trace.specs.declared.most.Most.{Most}
use Rattle.tj_trace.proofs.MostFound.{most_is_made, some_made}
use Rattle.tj_trace.proofs.Told.{logged_fresh}

-- the program of a body with its notes
abbrev pub noted_program : Bool → Logged → Program Logged
noted_program strict x =
    program_of logged_places logged_awaits logged_left logged_asks logged_then strict x

-- what holds of what is there holds of it under another description
if_some : (P Q : Most → Type 0) → ((m : Most) → P m → Q m) → (o : Option Most) → IfSome o P → IfSome o Q
if_some P Q f None h = tt
if_some P Q f (Some m) h = f m h

if_none : (P Q : Type 0) → (P → Q) → (o : Option Most) → IfNone o P → IfNone o Q
if_none P Q f None h = f h
if_none P Q f (Some m) h = tt

module _ (strict : Bool) (root : PlacedState) (noting : Logged) (is : noting ≡ logged root) where
  -- what was shown of the body that notes is so of the root's program
  pub of_root : (P : Program Logged → Type 0) → P (noted_program strict noting) → P (logged_program strict root)
  of_root P h = subst (λ x. P (noted_program strict x)) is h

  -- what is so of the root's program is so of that of the body that notes
  pub to_noting : (P : Program Logged → Type 0) → P (logged_program strict root) → P (noted_program strict noting)
  to_noting P h = subst (λ x. P (noted_program strict x)) (sym is) h

  -- it has noted nothing
  pub notes_nothing : noting ≡ logged noting.placed
  notes_nothing = subst (λ x. x ≡ logged x.placed) (sym is) refl

  module _ (fresh : IsFresh placed_places placed_awaits placed_left 1 root) where
    -- it is fresh
    pub noting_fresh : IsFresh logged_places logged_awaits logged_left 1 noting
    noting_fresh = subst (IsFresh logged_places logged_awaits logged_left 1) (sym is) (logged_fresh root fresh)

    module _ (N k : ℕ) (full : IsFirstFull (noted_program strict noting) N k) (n : ℕ) (after : k ≡ suc n)
        (makers : List Maker) (are : makers ≡ take N (round_makers (noted_program strict noting) k))
        (seen : List Maker) (same : seen ≡ makers) where
      first : IsFirstFull (noted_program strict noting) N (suc n)
      first = subst (λ j. IsFirstFull (noted_program strict noting) N j) after full

      seen_are : seen ≡ take N (round_makers (noted_program strict noting) (suc n))
      seen_are = same ∙ are ∙ ap (λ j. take N (round_makers (noted_program strict noting) j)) after

      -- the statement that stands most often among them is the one that is meant
      pub most_told : (o : Option Most) → IfSome o (IsMostOf seen)
          → IfSome o (IsMostMade (logged_program strict root) N)
      most_told = if_some (IsMostOf seen) (IsMostMade (logged_program strict root) N)
          (λ m h. of_root (λ p. IsMostMade p N m)
          (most_is_made strict noting noting_fresh notes_nothing N n first seen seen_are m h))

      -- there is such a statement
      pub some_told : 0 < N → (o : Option Most) → IfNone o (seen ≡ [])
          → IfNone o (¬ IsFull (logged_program strict root) N)
      some_told positive = if_none (seen ≡ []) (¬ IsFull (logged_program strict root) N)
          (λ e. absurd (some_made strict noting noting_fresh notes_nothing N n first seen seen_are positive e))
