-- A fork that is placed passes few enough places.
use Rattle.std.proofs.Common.{◌≡◌, ◌≤◌, ◌&&◌, ℕ, true, nat_le, length, arith, leb-true}
use Rattle.std.specs.Cmp.{second_so}
use Rattle.tj_body.specs.Asks.{most_passed}
use Rattle.tj_body.specs.Table.{are_below}
use Rattle.tj_task.specs.Asked.{is_placed, passed}
use Rattle.tj_task.specs.declared.turn.Turn.{Turn}
use Rattle.tj_task.specs.declared.turn.Turn.TheVariants as turn

pub few_if : {T : Type 0} (n : ℕ) (x : Turn T) → is_placed n x ≡ true → length (passed x) ≤ most_passed
few_if n (turn.ForkWith c pass hand t) e = let few = nat_le (length pass) most_passed in
    leb-true (length pass) most_passed (second_so (are_below n pass && are_below n hand) few e)
few_if n x e = omega arith
