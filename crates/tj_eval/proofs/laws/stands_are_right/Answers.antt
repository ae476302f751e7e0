use Rattle.std.proofs.Common.{◌≡◌, refl}
use Rattle.tj_eval.proofs.StandExample.{in_loop, own_numbers}
use Rattle.tj_eval.proofs.Stands.{right_in_rounds}
use Rattle.tj_eval.proofs.laws.stands_are_right.Goals as goal

pub returns : goal.returns
returns c = right_in_rounds

looked : (in_loop ≡ in_loop) × (own_numbers ≡ own_numbers)
looked = (refl, refl)
