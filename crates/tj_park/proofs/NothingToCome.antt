-- A view that has what another view has to do has as little to come.
use Rattle.tj_park.proofs.Prelude.{View, [], ◌≡◌}
use Rattle.tj_words.specs.SeatViews.Views.{IsIdle}
use Rattle.tj_park.specs.Records.{HasNothingToCome}

module _ {B : Type 0} where
  -- the second view, with what is to come of the first
  abbrev pub comes_as : View B → View B → View B
  comes_as v w = record w { hand = v.hand; dues = v.dues; pushes = v.pushes; shuts = v.shuts; rest = v.rest }

  pub nothing_same : (v w : View B) → HasNothingToCome v → HasNothingToCome (comes_as v w)
  nothing_same v w h = record { hand = h.hand; dues = h.dues; pushes = h.pushes; shuts = h.shuts; rest = h.rest }

  -- with no task and no token it is idle
  pub idle_same : (v w : View B) → HasNothingToCome v → w.tasks ≡ [] → w.tokens ≡ 0 → w.cleared ≡ 0
      → IsIdle (comes_as v w)
  idle_same v w h none no_token not_cleared = record {
    tasks = none;
    tokens = no_token;
    cleared = not_cleared;
    hand = h.hand;
    dues = h.dues;
    pushes = h.pushes;
    shuts = h.shuts;
    rest = h.rest;
  }
