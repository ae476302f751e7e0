-- Where bytes of a text stand in its lines.
use Rattle.std.specs.Prelude.{ℕ, ◌≡◌, ◌+◌, ◌-◌, List, [], ◌∷◌, ◌++◌, codes, length, map, slice_get, take, Some}
use Rattle.std.specs.List.{slice_range}
use Rattle.tj_lex.specs.Bytes.{line_feed}
use Rattle.tj_lex.specs.declared.place.Place.{Place}
use Rattle.tj_faults.specs.Carets.{below, caret_in, lines_of}

-- these lines, each with its line feed
abbrev pub with_feeds : List (List ℕ) → List ℕ
with_feeds [] = []
with_feeds (l ∷ ls) = l ++ line_feed ∷ with_feeds ls

-- The bytes from `start` up to `stop` stand in the line of a position, from its column on, and a caret that is told for
-- this position stands below the first of them.
pub record StandsInLine (text : List ℕ) (at : Place) (start stop : ℕ) : Type 0 where
  pub front : List ℕ
  pub rest : List ℕ
  pub line : slice_get (lines_of text) (at.line - 1) ≡ Some (front ++ slice_range text start stop ++ rest)
  pub in_front : take start text ≡ with_feeds (take (at.line - 1) (lines_of text)) ++ front
  pub column : at.column ≡ length front + 1
  pub told : caret_in (lines_of text) (Some at)
      ≡ (front ++ slice_range text start stop ++ rest) ++ codes "\n" ++ map below front ++ codes "^\n"
