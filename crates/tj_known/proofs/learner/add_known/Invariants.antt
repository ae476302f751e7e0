use Rattle.std.proofs.Common.{◌≡◌, ◌<◌, ◌≤◌, ◌||◌, ℕ, length}
use Rattle.tj_known.specs.Inner.Learners.{has_index}
use Rattle.tj_known.proofs.learner.add_known.Given as goal

-- what is told is added up to here
abbrev pub invariant-loop-index : goal.invariant-loop-index
invariant-loop-index l = record {
  wide : length l.row.items ≡ length l.initial.row.items;
  behind : (i : ℕ) → i < l.index
      → has_index l.row.items i ≡ (has_index l.initial.row.items i || has_index l.told i);
  ahead : (i : ℕ) → l.index ≤ i → has_index l.row.items i ≡ has_index l.initial.row.items i;
}
