-- Seats of workers between their turns: they may be merged, steps that change no word leave them free, and halves of
-- them are free.
use Rattle.tj_run.proofs.Prelude.{AreCells, IsCell, IsFree, IsWorkers, KnowsMore, Laid, Reference, SeatMe, View, []}
use Rattle.tj_run.proofs.Prelude.{arith, first_view, least_lot, left_half, nothing_same, refl, saw_rest, some-ne-none}
use Rattle.tj_run.proofs.Prelude.{suc, sym, to_task, zero, ℕ, ◌*◌, ◌<◌, ◌∙◌, ◌∷◌, ◌≡◌, ◌≤◌}
use Rattle.tj_words.specs.declared.view.Noted.{Noted}
use Rattle.tj_words.specs.SeatViews.Views.{IsIdle, noted_step, right_half}
use Rattle.tj_run.specs.Leaving.{HasRested}
use Rattle.tj_park.proofs.NothingToCome.{comes_as, idle_same}

-- the root alone is a cell of each table
pub root_alone : (cells : ℕ) → 0 < cells → AreCells cells (to_task [] ∷ [])
root_alone cells some_cells = record { few = omega arith; apart = λ c d y z a b e. by c d y z a b }
  where
    by : (c d : ℕ) (y z : Reference) → IsCell (to_task [] ∷ []) c y → IsCell (to_task [] ∷ []) d z → c ≡ d
    by zero zero y z a b = refl
    by (suc c) d y z a b = absurd (some-ne-none y (sym a))
    by zero (suc d) y z a b = absurd (some-ne-none z (sym b))

module _ {B : Type 0} (laid : Laid B) where
  -- the second view, with what makes the first a worker's but for its lot and tokens
  abbrev pub works_as : View B → View B → View B
  works_as v w = record (comes_as v w) { about = v.about; born = v.born; refused = v.refused; cleared = v.cleared }

  -- with a lot and no token it is a worker's too
  pub workers_same : (v w : View B) → IsWorkers laid v → least_lot ≤ w.lot → w.tokens ≡ 0
      → IsWorkers laid (works_as v w)
  workers_same v w h lot no_token = record {
    of_table = h.of_table;
    lot = lot;
    refused = h.refused;
    tokens = no_token;
    cleared = h.cleared;
    nothing = nothing_same v (works_as v w) h.nothing;
    cells = h.cells;
  }

  -- a free seat that has noted a step more is free
  pub free_noted : (step : Noted) (n : ℕ) (me : SeatMe B) → IsFree laid me → IsFree laid (noted_step step n me.0, me.1)
  free_noted step n me f = let w = f.worker in record {
    worker = workers_same me.0 (noted_step step n me.0) w w.lot w.tokens;
    tasks = f.tasks;
    slots = f.slots;
  }

  -- it may be merged
  pub free_idle : (me : SeatMe B) → IsFree laid me → IsIdle me.0
  free_idle me f = let w = f.worker in idle_same me.0 me.0 w.nothing f.tasks w.tokens w.cleared

  -- where it has loaded LIVE as 0 it has rested
  pub free_rested : (me : SeatMe B) → IsFree laid me → HasRested me.0 (saw_rest me.0, me.1)
  free_rested me f = let w = f.worker in record {
    rested = refl;
    idle = idle_same me.0 (saw_rest me.0) w.nothing f.tasks w.tokens w.cleared;
    slots = f.slots;
    lot = refl;
    about = refl;
  }

  -- the first half of a free seat is free, where its lot is large enough
  pub free_left : (me : SeatMe B) → 2 * least_lot ≤ me.0.lot → IsFree laid me
      → IsFree laid (left_half me.0, me.1)
  free_left me room f = let w = f.worker in record {
    worker = workers_same me.0 (left_half me.0) w (omega arith) w.tokens;
    tasks = f.tasks;
    slots = f.slots;
  }

  -- and so is the second half
  pub free_right : (me : SeatMe B) → IsFree laid me → IsFree laid (right_half me.0, [])
  free_right me f = let w = f.worker in record {
    worker = record {
      of_table = w.of_table;
      lot = omega arith;
      refused = refl;
      tokens = refl;
      cleared = refl;
      nothing = record { hand = refl; dues = refl; pushes = refl; shuts = refl; rest = refl };
      cells = w.cells;
    };
    tasks = refl;
    slots = refl;
  }

  -- the first seat of a table is free
  pub free_first : 0 < laid.cells → IsFree laid (first_view laid.cells laid.root.value laid.strict, [])
  free_first some_cells = record {
    worker = record {
      of_table = refl;
      lot = omega arith;
      refused = refl;
      tokens = refl;
      cleared = refl;
      nothing = record { hand = refl; dues = refl; pushes = refl; shuts = refl; rest = refl };
      cells = root_alone laid.cells some_cells;
    };
    tasks = refl;
    slots = refl;
  }

module _ {B : Type 0} (u v : View B) (k : KnowsMore u v) where
  -- what has rested since a later view has since an earlier one
  pub rested_since : (me : SeatMe B) → HasRested v me → HasRested u me
  rested_since me h = record {
    rested = h.rested;
    idle = h.idle;
    slots = h.slots;
    lot = h.lot ∙ k.lot;
    about = h.about ∙ k.about;
  }
