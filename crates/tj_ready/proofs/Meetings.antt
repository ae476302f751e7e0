-- Ends that can take from all queues meet.
use Rattle.std.proofs.Common.{ℕ, ◌≡◌, ◌<◌, List, All, Contains, length, map, get_or, sym, ◌∙◌, subst, arith}
use Rattle.std.proofs.lemmas.List.{get_or-map, length-map}
use Rattle.tj_ready.specs.Meetings.{AllMeet}

module _ {X D : Type 0} (queue : X → D) (reach : X → List D) where
  -- an end reaches the queue of each
  reaches : (ends : List X) (end : X) (i : ℕ) (d : X) → i < length ends → reach end ≡ map queue ends
      → Contains (reach end) (queue (get_or ends i d))
  reaches ends end i d less is =
      let size = length-map ends queue in
      let in' : i < length (map queue ends) = omega arith in
      subst (λ r. Contains r (queue (get_or ends i d))) (sym is)
      (i, in', get_or-map queue ends i d (queue (get_or ends i d)) less)

  -- each end can take from all of their queues, so each two meet
  pub ends_meet : (ends : List X) (all : List D) → map queue ends ≡ all → All (λ end. reach end ≡ all) ends
      → AllMeet queue reach ends
  ends_meet ends all own reached i j d less in' =
      let first : i < length ends = omega arith in
      record {
        there = reaches ends (get_or ends i d) j d in' (reached i d first ∙ sym own);
        back = reaches ends (get_or ends j d) i d first (reached j d in' ∙ sym own);
      }
