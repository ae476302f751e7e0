-- How a spot moves along a text.
use Rattle.std.proofs.Common.{◌≡◌, ℕ, ◌+◌, ◌<◌, ◌≤◌, ◌∙◌, ap, sym, arith, true, List, [], ◌∷◌, ◌++◌, length, take, drop, get_or}
use Rattle.std.specs.List.{list_all}
use Rattle.std.proofs.lemmas.List.{take_more, length-take, length-take-le, length-drop}
use Rattle.tj_lex.specs.declared.gap.Spot.{Spot}
use Rattle.tj_lex.specs.Bytes.{line_feed, stays_on_line}
use Rattle.tj_lex.specs.Positions.{position_after}
use Rattle.tj_lex.specs.Inner.Spots.{IsSpot}
use Rattle.tj_lex.proofs.Stretches.{take-split}
use Rattle.tj_lex.proofs.Lines.{position_is, line-feed, column-feed, line-along, column-along, line-small, column-small}

-- a spot's line and column are at most one more than its index
pub line-spot : (text : List ℕ) (spot : Spot) → IsSpot text spot → spot.at.line ≤ spot.next + 1
line-spot text spot h =
    let same = ap (λ at. at.line) h.position in
    omega (arith, same, line-small (take spot.next text), length-take spot.next text)

pub column-spot : (text : List ℕ) (spot : Spot) → IsSpot text spot → spot.at.column ≤ spot.next + 1
column-spot text spot h =
    let same = ap (λ at. at.column) h.position in
    omega (arith, same, column-small (take spot.next text), length-take spot.next text)

-- behind bytes that stay on the line
pub IsSpot-along : (text : List ℕ) (spot after : Spot) (n : ℕ) → IsSpot text spot → spot.next + n ≤ length text
    → list_all stays_on_line (take n (drop spot.next text)) ≡ true
    → after.next ≡ spot.next + n → after.at.line ≡ spot.at.line → after.at.column ≡ spot.at.column + n
    → IsSpot text after
IsSpot-along text spot after n h within stays next line column =
    let before = take spot.next text in
    let more = take n (drop spot.next text) in
    let read : take after.next text ≡ before ++ more = ap (λ i. take i text) next ∙ take-split spot.next n text in
    let size : length more ≡ n = length-take-le n (drop spot.next text) (omega (arith, length-drop spot.next text)) in
    let same_line : after.at.line ≡ (position_after (before ++ more)).line =
    line ∙ ap (λ at. at.line) h.position ∙ sym (line-along before more stays) in
    let same_column : after.at.column ≡ (position_after (before ++ more)).column =
    omega (arith, column, ap (λ at. at.column) h.position, column-along before more stays, size) in
    record {
      within = omega arith;
      position = position_is after.at _ _ same_line same_column ∙ ap position_after (sym read);
    }

-- behind a line feed
pub IsSpot-feed : (text : List ℕ) (spot after : Spot) → IsSpot text spot → spot.next < length text
    → get_or text spot.next 0 ≡ line_feed
    → after.next ≡ spot.next + 1 → after.at.line ≡ spot.at.line + 1 → after.at.column ≡ 1 → IsSpot text after
IsSpot-feed text spot after h inside feed next line column =
    let before = take spot.next text in
    let read : take after.next text ≡ before ++ line_feed ∷ [] =
    ap (λ i. take i text) next ∙ take_more text spot.next 0 inside ∙ ap (λ b. before ++ b ∷ []) feed in
    let same_line : after.at.line ≡ (position_after (before ++ line_feed ∷ [])).line =
    omega (arith, line, ap (λ at. at.line) h.position, line-feed before) in
    let same_column : after.at.column ≡ (position_after (before ++ line_feed ∷ [])).column =
    column ∙ sym (column-feed before) in
    record {
      within = omega arith;
      position = position_is after.at _ _ same_line same_column ∙ ap position_after (sym read);
    }
