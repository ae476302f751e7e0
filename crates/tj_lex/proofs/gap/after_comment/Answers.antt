use Rattle.std.proofs.Common.{◌≡◌, ◌+◌, ◌-◌, ◌<◌, ◌≤◌, ℕ, List, length, take, drop, ap, ◌∙◌, sym, arith, get_or}
use Rattle.std.specs.List.{prefix_len}
use Rattle.std.proofs.lemmas.List.{take_rest, length-drop}
use Rattle.std.proofs.lemmas.List.Sums.{prefix_len-le-length}
use Rattle.tj_lex.specs.declared.gap.Spot.{Spot}
use Rattle.tj_lex.specs.Bytes.{stays_on_line}
use Rattle.tj_lex.specs.Inner.Spots.{IsSpot}
use Rattle.tj_lex.proofs.Moves.{column-spot, IsSpot-along, IsSpot-feed}
use Rattle.tj_lex.proofs.Gaps.{AreApart-comment, AreApart-last, feed-behind}
use Rattle.tj_lex.proofs.Stretches.{list_all-prefix}
use Rattle.tj_lex.proofs.gap.after_comment.Goals as goal

-- how many bytes of the line are left
len_is : (text : List ℕ) (a n : ℕ) → n ≡ prefix_len stays_on_line (take (length text - a) (drop a text))
    → prefix_len stays_on_line (drop a text) ≡ n
len_is text a n e = sym (ap (prefix_len stays_on_line) (take_rest text a)) ∙ sym e

pub along-end-requires-clause-column : goal.along-end-requires-clause-column
along-end-requires-clause-column c =
    omega (arith, column-spot c.args.text.now c.args.spot c.requires.spot, c.line_len.ensures.within)

-- the spot at the end of the line
at_end : (text : List ℕ) (spot end : Spot) (n : ℕ) → IsSpot text spot → spot.next < length text
    → prefix_len stays_on_line (drop spot.next text) ≡ n
    → end.next ≡ spot.next + n → end.at.line ≡ spot.at.line → end.at.column ≡ spot.at.column + n → IsSpot text end
at_end text spot end n h more len next line column =
    let within : spot.next + n ≤ length text =
    omega (arith, prefix_len-le-length stays_on_line (drop spot.next text), length-drop spot.next text) in
    IsSpot-along text spot end n h within
    (rw len at (list_all-prefix stays_on_line (drop spot.next text))) next line column

pub returns-then-end-text-clause-spot : goal.returns-then-end-text-clause-spot
returns-then-end-text-clause-spot c =
    let text = c.args.text.now in
    let end = c.along-end.result in
    let len = len_is text c.args.spot.next _ c.line_len.ensures.len in
    let e = c.along-end.ensures in
    let spot = at_end text c.args.spot end _ c.requires.spot c.requires.some len e.next e.line e.column in
    let feed = ap (λ i. get_or text i 0) e.next ∙ feed-behind text c.args.spot.next _ len (omega arith) in
    let f = c.on_next_line.ensures in
    IsSpot-feed text end c.on_next_line.result spot c.if-end-text.true feed f.next f.line f.column

pub returns-then-end-text-clause-comment : goal.returns-then-end-text-clause-comment
returns-then-end-text-clause-comment c =
    let text = c.args.text.now in
    let len = len_is text c.args.spot.next _ c.line_len.ensures.len in
    let next : c.on_next_line.result.next ≡ c.args.spot.next + c.line_len.result + 1 = omega arith in
    rw next (AreApart-comment text c.args.spot.next _ c.requires.comment (omega arith) len)

pub returns-else-end-text-clause-spot : goal.returns-else-end-text-clause-spot
returns-else-end-text-clause-spot c =
    let text = c.args.text.now in
    let len = len_is text c.args.spot.next _ c.line_len.ensures.len in
    let e = c.along-end.ensures in
    at_end text c.args.spot c.along-end.result _ c.requires.spot c.requires.some len e.next e.line e.column

pub returns-else-end-text-clause-comment : goal.returns-else-end-text-clause-comment
returns-else-end-text-clause-comment c =
    let text = c.args.text.now in
    let len = len_is text c.args.spot.next _ c.line_len.ensures.len in
    let bound = prefix_len-le-length stays_on_line (drop c.args.spot.next text) in
    let size = length-drop c.args.spot.next text in
    let all : prefix_len stays_on_line (drop c.args.spot.next text) ≡ length text - c.args.spot.next = omega arith in
    let next : c.along-end.result.next ≡ length text = omega arith in
    rw next (AreApart-last text c.args.spot.next c.requires.some c.requires.comment all)
