use Rattle.tj_words.proofs.Prelude.{arith}
use Rattle.tj_words.proofs.Seating.Merging.{rule_joins}
use Rattle.tj_words.proofs.table.Laid.merge.Goals as goal

pub join_seat-requires : goal.join_seat-requires
join_seat-requires g c = let a = c.args in (
  c.requires.table,
  c.requires.other_table,
  c.requires.slots.1,
  omega (arith, a.self.now.words),
  rule_joins _ a.self.now.table.shared.key a.a.id a.a.me.0 a.b.id a.b.me.0 c.requires.idle c.requires.other_idle,
  (c.requires.idle, c.requires.other_idle),
)
