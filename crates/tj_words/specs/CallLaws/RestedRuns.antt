-- Runs of a table by its calls, once a seat has loaded LIVE as 0: LIVE stays 0, and no TAG is written any more. So a
-- cell whose TAG is 0 then never gets a value.
use Rattle.std.specs.Prelude.{◌≡◌, ◌≢◌, ◌⊎◌, ℕ, Bool, true, List, [], ◌∷◌, ◌++◌, set, Option}
use mathlib.Core.Option.{some}
use lib.ListN.{get_elem?}
use Rattle.atomic_table.specs.Table.{State, Step, Act}
use Rattle.tj_body.specs.Programs.{Program}
use Rattle.tj_words.specs.declared.offsets.Once.TheVariants.{Tag}
use Rattle.tj_record.specs.declared.record.Rec.{Rec}
use Rattle.tj_words.specs.declared.table.Key.{Key}
use Rattle.tj_words.specs.declared.view.View.{View}
use Rattle.tj_words.specs.CallLaws.CallSteps.{MakesWith}
use Rattle.tj_words.specs.Law.{Rule}
use Rattle.tj_words.specs.Words.Offsets.{word, live_at, once_at}
use Rattle.tj_words.specs.SeatViews.SeatSteps.{SeatMe}
use Rattle.tj_words.specs.CallLaws.StepCalls.{StepCall, place_of, told_by}
use Rattle.tj_words.specs.SeatViews.Views.{both, left_half, right_half, spent}

module _ {B : Type 0} where
  -- some seat has loaded LIVE as 0
  abbrev pub HasRested : State (Option (Rec B)) (View B) → Type 0
  HasRested s = (id : ℕ) × (v : View B) × (get_elem? s.views id ≡ some v) × (v.rested ≡ true)

  -- a seat is split
  pub record IsSplit (s t : State (Option (Rec B)) (View B)) : Type 0 where
    pub id : ℕ
    pub view : View B
    pub at : get_elem? s.views id ≡ some view
    pub after : t ≡ record {
      words = s.words;
      homes = s.homes;
      views = set s.views id (left_half view) ++ right_half view ∷ [];
    }

  -- a seat takes another one in
  pub record IsMerge (s t : State (Option (Rec B)) (View B)) : Type 0 where
    pub id : ℕ
    pub other : ℕ
    pub view : View B
    pub taken : View B
    pub at : get_elem? s.views id ≡ some view
    pub apart : other ≢ id
    pub other_at : get_elem? s.views other ≡ some taken
    pub after : t ≡ record {
      words = s.words;
      homes = s.homes;
      views = set (set s.views id (both view taken)) other spent;
    }

  -- LIVE, and TAG of a cell
  abbrev pub live_in : State (Option (Rec B)) (View B) → ℕ
  live_in s = word s.words live_at

  -- TAG of a cell
  abbrev pub tag_at : State (Option (Rec B)) (View B) → ℕ → ℕ
  tag_at s c = word s.words (once_at c Tag)

  module _ (program : Bool → B → Program B) (key : Key B) where
    -- a table under its rule
    pub record Ruled : Type 0 where
      pub now : State (Option (Rec B)) (View B)
      pub rule : Rule program key now

    -- a step call of a seat, with what it does with the slots
    pub record IsCallStep (s t : State (Option (Rec B)) (View B)) : Type 0 where
      pub call : StepCall
      pub act : Act (Option (Rec B))
      pub id : ℕ
      pub number : ℕ
      pub seat : SeatMe B
      pub seat_after : SeatMe B
      pub operands : Step (Option (Rec B))
      pub makes : MakesWith act id (place_of call) number seat seat_after s t
      pub told : told_by program key.cells call number operands seat (word s.words (place_of call)) seat_after

    -- what may become of a table in one step
    abbrev pub IsTableStep : State (Option (Rec B)) (View B) → State (Option (Rec B)) (View B) → Type 0
    IsTableStep s t = IsCallStep s t ⊎ (IsSplit s t ⊎ IsMerge s t)

    -- these moments come one after the other
    abbrev pub AreMoments : Ruled → List Ruled → Type 0
    AreMoments u [] = Unit {0}
    AreMoments u (w ∷ ws) = IsTableStep u.now w.now × AreMoments w ws

    -- the last of them
    abbrev pub last_moment : Ruled → List Ruled → Ruled
    last_moment u [] = u
    last_moment u (w ∷ ws) = last_moment w ws

-- where a seat has loaded LIVE as 0, LIVE is 0 at each moment from then on, and each TAG stays as it is
abbrev pub RestStays : Type 0 → Type 0
RestStays B = (program : Bool → B → Program B) (key : Key B) (u : Ruled program key) (later : List (Ruled program key))
    → AreMoments program key u later → HasRested u.now
    → (live_in (last_moment program key u later).now ≡ 0)
    × ((c : ℕ) → tag_at (last_moment program key u later).now c ≡ tag_at u.now c)

-- so where such a seat loads TAG of a cell as 0, the cell never gets a value
abbrev pub NoValueComes : Type 0 → Type 0
NoValueComes B = (program : Bool → B → Program B) (key : Key B) (u : Ruled program key)
    (later : List (Ruled program key)) → AreMoments program key u later → (id c : ℕ) (v : View B)
    → get_elem? u.now.views id ≡ some v → v.rested ≡ true
    → tag_at u.now c ≡ 0 → tag_at (last_moment program key u later).now c ≡ 0
