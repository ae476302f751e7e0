-- Which ends can take from which others' queues, where each end has a queue of its own and some that it reaches.
use Rattle.std.specs.Prelude.{List, Contains, AllPairs}

module _ {X D : Type 0} (queue : X → D) (reach : X → List D) where
  -- each of the two can take from the other's queue
  pub record Meets (a b : X) : Type 0 where
    pub there : Contains (reach a) (queue b)
    pub back : Contains (reach b) (queue a)

  -- each end can take from each other's queue
  abbrev pub AllMeet : List X → Type 0
  AllMeet ends = AllPairs Meets ends
