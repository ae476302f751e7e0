use Rattle.tj_words.proofs.Prelude.{arith}
use Rattle.tj_words.proofs.Seating.Splitting.{rule_splits}
use Rattle.tj_words.proofs.table.Laid.split.Goals as goal

pub split_seat-other-requires : goal.split_seat-other-requires
split_seat-other-requires g c = let a = c.args in (
  c.requires.table,
  omega (arith, a.self.now.words),
  rule_splits _ a.self.now.table.shared.key a.seat.id a.seat.me.0 c.requires.room,
)
