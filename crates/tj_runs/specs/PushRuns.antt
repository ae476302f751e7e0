-- A push that succeeds lengthens the very chain that was found: a chain that begins as its seat has found it is that
-- chain still, so none was taken and built again in between.
use Rattle.std.specs.Prelude.{◌≡◌, ℕ, suc, ◌<◌, Bool, ◌∷◌}
use mathlib.Core.Option.{some}
use lib.ListN.{get_elem?}
use Rattle.tj_body.specs.Programs.{Program}
use Rattle.tj_words.specs.declared.head.Head.{Head}
use Rattle.tj_words.specs.declared.table.Key.{Key}
use Rattle.tj_words.specs.declared.view.Found.{Found}
use Rattle.tj_words.specs.declared.view.View.{View}
use Rattle.tj_words.specs.Words.Heads.{head_in}
use Rattle.tj_words.specs.Words.Lists.{All}
use Rattle.tj_words.specs.Words.Offsets.{word, head_at}
use Rattle.tj_words.specs.Calls.ChainSteps.{HasPushBehind}
use Rattle.tj_words.specs.LawParts.Chains.{head_of}
use Rattle.tj_words.specs.CallLaws.RestedRuns.{IsCallStep, Ruled}
use Rattle.tj_words.specs.CallLaws.StepCalls as call

module _ {B : Type 0} (program : Bool → B → Program B) (key : Key B) where
  -- each chain of p that the seat has found and that begins as the head of p does now is the chain of p now
  abbrev pub AreFoundStill : (u : Ruled program key) → ℕ → View B → Type 0
  AreFoundStill u p v = All (λ (f : Found). f.cell ≡ p → head_of f.chain ≡ head_in (word u.now.words (head_at p))
      → u.rule.law.chains.line p ≡ f.chain) v.found

  -- a call by which a seat adds task t to the chain of p, where it has that to come, and the exchange succeeds
  pub record Pushes (u w : Ruled program key) (p t : ℕ) (behind : Head) : Type 0 where
    pub made : IsCallStep program key u.now w.now
    pub is : made.call ≡ call.pushes p
    pub asks : head_in made.operands.first ≡ behind
    pub adds : made.operands.second ≡ suc t
    pub small : t < key.cells
    pub has : HasPushBehind t p behind made.seat.0
    pub succeeds : word u.now.words (head_at p) ≡ made.operands.first

module _ (B : Type 0) where
  -- at each moment a chain that begins as a seat has found it is that chain, where it isn't shut
  abbrev pub FoundChainsStand : Type 0
  FoundChainsStand = (program : Bool → B → Program B) (key : Key B) (u : Ruled program key) (id p : ℕ) (v : View B)
      → get_elem? u.now.views id ≡ some v → AreFoundStill program key u p v

  -- a push that succeeds makes the chain longer by its task, and that chain is each one that its seat had found with
  -- the head for which it asked
  abbrev pub PushesLengthen : Type 0
  PushesLengthen = (program : Bool → B → Program B) (key : Key B) (u w : Ruled program key) (p t : ℕ) (behind : Head)
      → (e : Pushes program key u w p t behind)
      → (w.rule.law.chains.line p ≡ t ∷ u.rule.law.chains.line p)
      × All (λ (f : Found). f.cell ≡ p → head_of f.chain ≡ behind → w.rule.law.chains.line p ≡ t ∷ f.chain)
      e.made.seat.0.found
