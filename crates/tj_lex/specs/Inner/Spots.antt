-- How far a text has been read.
use Rattle.std.specs.Prelude.{ℕ, ◌≡◌, ◌<◌, ◌≤◌, List, [], ◌∷◌, ◌++◌, length, take, drop}
use Rattle.std.specs.List.{slice_range}
use Rattle.tj_lex.specs.declared.gap.Spot.{Spot}
use Rattle.tj_lex.specs.Bytes.{line_feed}
use Rattle.tj_lex.specs.Positions.{position_after}
use Rattle.tj_lex.specs.Tokens.{IsGap}

-- the spot stands within the text, or at its end, and its position is that of its index
pub record IsSpot (text : List ℕ) (spot : Spot) : Type 0 where
  pub within : spot.next ≤ length text
  pub position : spot.at ≡ position_after (take spot.next text)

-- from one index to another there are blanks and comments; at the end a comment may lack its line feed
pub record AreApart (text : List ℕ) (start stop : ℕ) : Type 0 where
  pub in_order : start ≤ stop
  pub before_more : stop < length text → IsGap (slice_range text start stop)
  pub at_end : stop ≡ length text → IsGap (drop start text ++ line_feed ∷ [])
