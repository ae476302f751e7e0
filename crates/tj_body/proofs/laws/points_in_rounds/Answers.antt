use Rattle.std.proofs.Common.{Bool}
use Rattle.tj_body.specs.Programs.{Program, program_of}
use Rattle.tj_body.proofs.Proper.{root_proper}
use Rattle.tj_body.proofs.RoundPoints.{points_stay, tasks_start, points_ask, points_read, writes_become}
use Rattle.tj_body.proofs.RoundPoints.{things_in_rounds, entries_are_one, points_are_good, asks_are_placed}
use Rattle.tj_body.proofs.RoundPoints.{references_are_named, things_are_made, steps_extend}
use Rattle.tj_body.proofs.laws.points_in_rounds.Goals as goal

pub returns : goal.returns
returns g c =
    let b = g.B.Body in
    let o = (g.met.B.Body g.world.𝓛 g.world.𝓜 g.world.𝓡 ((λ s x. x), (λ x. x), (λ x. x), λ x. x)).obeys in
    let of : Bool → g.row.B.Denot → Program g.row.B.Denot =
    program_of b.places b.awaits b.left b.asks b.then in record {
      later = λ s r f. points_stay (of s r);
      start = λ s r f. tasks_start (of s r);
      ask = λ s r f. points_ask (of s r);
      read = λ s r f. points_read (of s r);
      written = λ s r f. writes_become (of s r) o (root_proper (of s r) f);
      things = λ s r f. things_in_rounds (of s r) o (root_proper (of s r) f);
      one_entry = λ s r f. entries_are_one (of s r);
      good = λ s r f. points_are_good (of s r) o (root_proper (of s r) f);
      placed = λ s r f. asks_are_placed (of s r) o (root_proper (of s r) f);
      references = λ s r f. references_are_named (of s r) o (root_proper (of s r) f);
      made = λ s r f. things_are_made (of s r) o (root_proper (of s r) f);
      extended = λ s r f. steps_extend (of s r);
    }
