-- Lists of rows, of which some name one of the lists by its number: what a table of asks and one of channels share.
use Rattle.std.specs.Prelude.{ℕ, Bool, nat_lt, nat_le, ◌&&◌, List, [], ◌∷◌, length, get_or}
use Rattle.std.specs.List.{list_all}

module _ {R : Type 0} (most : ℕ) (is_row : ℕ → R → Bool) where
  -- the list is one of a table with so many lists
  abbrev pub is_list_of : ℕ → List R → Bool
  is_list_of lists rows = nat_le (length rows) most && list_all (is_row lists) rows

  -- the lists are those of a table
  abbrev pub are_table : List (List R) → Bool
  are_table lists = list_all (is_list_of (length lists)) lists

  -- whether the lists are those of a table, there is such a list, and so many of its rows may have been given
  abbrev pub is_reading : List (List R) → ℕ → ℕ → Bool
  is_reading lists list row =
      are_table lists && nat_lt list (length lists) && nat_le row (length (get_or lists list []))

-- what is asked for each of these answers, by one that becomes another with each
abbrev pub asks_given : {B A Q : Type 0} → (B → A → Q) → (B → A → B) → B → List A → List Q
asks_given asks then b [] = []
asks_given asks then b (a ∷ rest) = asks b a ∷ asks_given asks then (then b a) rest
