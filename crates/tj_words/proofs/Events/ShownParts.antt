-- What the core state is shown by, cell by cell, and which of it a step changes.
use Rattle.tj_words.proofs.Prelude.{CellState, Contents, CoreState, Custody, Hand, Phase, Rec, Reference, blank}
use Rattle.tj_words.proofs.Prelude.{drawn_in, hand_in, held_of, home_of, made_by, making, owner_shown, put}
use Rattle.tj_words.proofs.Prelude.{reference_of, stage_shown, total}
use Rattle.std.specs.Prelude.{ℕ, suc, Option, Some, ◌+◌, cond, nat_lt, List}

-- all of the contents by which the core state is shown, what belongs to a cell by its number
pub record Parts (B : Type 0) : Type 0 where
  pub drawn : ℕ
  pub hand : ℕ → Option Hand
  pub making : ℕ → ℕ
  pub own : ℕ → Option ℕ
  pub phase : ℕ → Phase
  pub held : ℕ → Option (Custody B)
  pub home : ℕ → Option (Rec B)
  pub others : ℕ
  pub cleared : ℕ

module _ {B : Type 0} where
  -- those parts of the contents
  abbrev pub parts_of : ℕ → Contents B → Parts B
  parts_of cells x = record {
    drawn = drawn_in cells x;
    hand = hand_in x.seats.hands;
    making = making x.seats.hands;
    own = x.words.own;
    phase = x.words.phase;
    held = held_of x;
    home = home_of x;
    others = x.words.others;
    cleared = total x.seats.cleared;
  }

  module _ (born : List Reference) (maker : ℕ → ℕ) where
    -- the cell that these parts show
    abbrev pub cell_by : Parts B → ℕ → CellState
    cell_by x c = record {
      maker = maker c;
      name = (reference_of born c).name;
      made = made_by (x.held c) (x.home c) + x.making c;
      owner = owner_shown c (x.hand c) (x.own c);
      stage = stage_shown c (x.hand c) (x.own c) (x.phase c) (x.held c) (x.home c);
    }

    -- the core state that these parts show
    abbrev pub shown_by : Parts B → CoreState
    shown_by x = record {
      count = x.drawn;
      cells = λ c. cond (nat_lt c x.drawn) (cell_by x c) blank;
      others = x.others;
      cleared = x.cleared;
    }

  -- the same but for task t: its phase, what a seat has for it, and its record at home
  abbrev pub moved_parts : Parts B → ℕ → Phase → Option (Custody B) → Option (Rec B) → Parts B
  moved_parts x t p held home = record x {
    phase = put x.phase t p;
    held = put x.held t held;
    home = put x.home t home;
  }

  -- the same but for the owner of p, and what a seat has for t
  abbrev pub owned_parts : Parts B → ℕ → Option ℕ → ℕ → Option (Custody B) → Parts B
  owned_parts x p o t k = record x { own = put x.own p o; held = put x.held t k }

  -- the next cell is drawn by t into this hand, with what a seat has for t and for the cell
  abbrev pub drawn_parts : Parts B → ℕ → Hand → Option (Custody B) → Option (Custody B) → Parts B
  drawn_parts x t h k new = record x {
    drawn = suc x.drawn;
    hand = put x.hand x.drawn (Some h);
    making = put x.making t 1;
    held = put (put x.held t k) x.drawn new;
  }
