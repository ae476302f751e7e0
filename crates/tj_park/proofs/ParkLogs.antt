-- The steps of a park in the log of its seat, one after the other.
use Rattle.std.proofs.Common.{◌≡◌, ◌≢◌, ℕ, Bool, true, false, [], ◌∷◌, sym, subst, Option, None}
use Rattle.tj_cells.proofs.CallLogs.{grows_by, makes_one}
use Rattle.tj_cells.specs.CallLogs.{Grows, Makes, MakesClosed, Seat, once_entry, owner_entry}
use Rattle.tj_words.specs.Words.Values.{tag_word}
use Rattle.tj_words.specs.declared.offsets.Once.TheVariants as once
use Rattle.tj_words.specs.declared.head.Head.{Head}
use Rattle.tj_record.specs.declared.record.Fill.{Fill}
use Rattle.tj_words.specs.declared.head.Head.TheVariants as head
use Rattle.tj_park.specs.ParkLogs.{MakesJoin, MakesPush, MakesPushes, adds, fails, finds_shut, head_load, next_store}
use Rattle.tj_park.specs.ParkLogs.{push_entry}

module _ {B : Type 0} where
  -- a cell was closed, which makes the log longer
  pub closed_grows : (p : ℕ) (o : Option Fill) (u v : Seat B) → MakesClosed p o u v → Grows u v
  closed_grows p o u v h = grows_by u v
      (once_entry p once.Tag (tag_word o) ∷ once_entry p once.Bits h.0 ∷ owner_entry p None ∷ []) h.2

  module _ (t q : ℕ) (old : Seat B) where
    -- whatever pushes follow from now on, together with the steps so far they are a join
    abbrev pub IsJoining : Head → Seat B → Type 0
    IsJoining found now = (added : Bool) (new : Seat B) → MakesPushes t q added found now new
        → MakesJoin t q added old new

    -- the head was loaded
    pub joining_loaded : (found : Head) (now : Seat B) → Makes (head_load q found ∷ []) old now → IsJoining found now
    joining_loaded found now h added new m = (found, now, h, m)

    -- it is shut
    pub joining_shut : (found : Head) (now : Seat B) → IsJoining found now → found ≡ head.Shut
        → MakesJoin t q false old now
    joining_shut found now j e =
        j false now (subst (λ h. MakesPushes t q false h now now) (sym e) (finds_shut now))

    module _ (asked found : Head) (now next new : Seat B) (j : IsJoining asked now)
        (stored : Makes (next_store t asked ∷ []) now next)
        (pushed : Makes (push_entry t q asked found ∷ []) next new) where
      made : MakesPush t q asked found now new
      made = makes_one now next new (next_store t asked ∷ []) (push_entry t q asked found) stored pushed

      -- a push has added the task
      pub joining_added : found ≡ asked → MakesJoin t q true old new
      joining_added e = j true new (adds asked now new (subst (λ h. MakesPush t q asked h now new) e made))

      -- it has failed
      pub joining_failed : found ≢ asked → IsJoining found new
      joining_failed ne added last m = j added last (fails added asked found now new last ne made m)
