-- Acts and their steps, index by index.
use Rattle.std.proofs.Common.{◌≡◌, ℕ, zero, suc, List, [], ◌∷◌, ◌++◌, Some, length, refl, ap, subst}
use Rattle.std.proofs.Common.{◌+◌, ◌<◌, get_or, sym, take, ◌∙◌}
use Rattle.std.proofs.lemmas.List.{take_more}
use Rattle.std.proofs.lemmas.Option.{slice_get_read}
use Rattle.std.specs.Prelude.{slice_get}
use Rattle.tj_mean.specs.declared.act.Act.{Act}
use Rattle.tj_mean.specs.declared.act.ActLine.{ActLine}
use Rattle.tj_mean.proofs.Lists.Elements.{some_is}
use Rattle.tj_known.specs.Inner.Steps.{AreSteps, AreThere, IsStep, IsThere}
use Rattle.tj_known.specs.declared.step.Step.{Step}

module _ (lines : List ActLine) where
  -- each act has its step
  pub step_at : (acts : List Act) (steps : List Step) → AreSteps lines acts steps → (n : ℕ) (a : Act)
      → slice_get acts n ≡ Some a → (s : Step) × (slice_get steps n ≡ Some s) × IsStep lines a s
  step_at [] [] are n a h = absurd (cc)
  step_at [] (s ∷ ss) are n a h = absurd are
  step_at (b ∷ bs) [] are n a h = absurd are
  step_at (b ∷ bs) (s ∷ ss) are zero a h = (s, refl, subst (λ x. IsStep lines x s) (some_is b a h) are.0)
  step_at (b ∷ bs) (s ∷ ss) are (suc n) a h = step_at bs ss are.1 n a h

  -- each step is one of an act
  pub act_at : (acts : List Act) (steps : List Step) → AreSteps lines acts steps → (n : ℕ) (s : Step)
      → slice_get steps n ≡ Some s → (a : Act) × (slice_get acts n ≡ Some a) × IsStep lines a s
  act_at [] [] are n s h = absurd (cc)
  act_at [] (r ∷ rs) are n s h = absurd are
  act_at (b ∷ bs) [] are n s h = absurd are
  act_at (b ∷ bs) (r ∷ rs) are zero s h = (b, refl, subst (λ x. IsStep lines b x) (some_is r s h) are.0)
  act_at (b ∷ bs) (r ∷ rs) are (suc n) s h = act_at bs rs are.1 n s h

  -- there are as many steps as acts
  pub steps_count : (acts : List Act) (steps : List Step) → AreSteps lines acts steps → length steps ≡ length acts
  steps_count [] [] are = refl
  steps_count [] (s ∷ ss) are = absurd are
  steps_count (b ∷ bs) [] are = absurd are
  steps_count (b ∷ bs) (s ∷ ss) are = ap suc (steps_count bs ss are.1)

  -- one act more has one step more
  pub steps_more : (acts : List Act) (steps : List Step) (a : Act) (s : Step) → AreSteps lines acts steps
      → IsStep lines a s → AreSteps lines (acts ++ a ∷ []) (steps ++ s ∷ [])
  steps_more [] [] a s are is = (is, tt)
  steps_more [] (r ∷ rs) a s are is = absurd are
  steps_more (b ∷ bs) [] a s are is = absurd are
  steps_more (b ∷ bs) (r ∷ rs) a s are is = (are.0, steps_more bs rs a s are.1 is)

-- what each of the acts has
pub there_at : (lines : List ActLine) (acts : List Act) → AreThere lines acts → (n : ℕ) (a : Act)
    → slice_get acts n ≡ Some a → IsThere lines a
there_at lines [] are n a h = absurd (cc)
there_at lines (b ∷ bs) are zero a h = subst (λ x. IsThere lines x) (some_is b a h) are.0
there_at lines (b ∷ bs) are (suc n) a h = there_at lines bs are.1 n a h

-- it is so where it is so at each index
pub there_all : (lines : List ActLine) (acts : List Act)
    → ((n : ℕ) (a : Act) → slice_get acts n ≡ Some a → IsThere lines a) → AreThere lines acts
there_all lines [] at = tt
there_all lines (b ∷ bs) at = (at zero b refl, there_all lines bs (λ n a h. at (suc n) a h))

-- the steps of the acts up to one more
pub more_steps : (lines : List ActLine) (acts : List Act) (i : ℕ) (a : Act) → i < length acts → a ≡ get_or acts i a
    → (steps : List Step) (s : Step) → AreSteps lines (take i acts) steps → IsStep lines a s
    → AreSteps lines (take (i + 1) acts) (steps ++ s ∷ [])
more_steps lines acts i a less at steps s are is =
    subst (λ as_. AreSteps lines as_ (steps ++ s ∷ []))
    (sym (take_more acts i a less ∙ ap (λ z. take i acts ++ z ∷ []) (sym at)))
    (steps_more lines (take i acts) steps a s are is)

-- an act that stands at an index has a line
pub act_there : (lines : List ActLine) (acts : List Act) (i : ℕ) (a : Act) → AreThere lines acts → i < length acts
    → a ≡ get_or acts i a → IsThere lines a
act_there lines acts i a are less at = there_at lines acts are i a (slice_get_read acts (length acts) i a refl less at)
