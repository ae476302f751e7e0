use Rattle.std.proofs.Common.{◌≡◌, ◌≤◌, ◌∷◌, ◌-◌, replicate, vec_capacity, vec_len, Some, None}
use Rattle.tj_words.specs.LawParts.FirstState.{root_record}
use Rattle.tj_words.proofs.table.slots_at_first.Given as goal

-- the slots so far are the first of those wanted, and there is room for the others
abbrev pub invariant-loop-i : goal.invariant-loop-i
invariant-loop-i g l = record {
  so_far : l.slots.items ≡ Some (root_record l.fn.root) ∷ replicate (l._i - 1) None;
  some : 1 ≤ l._i;
  length : vec_len l.slots ≡ l._i;
  room : l.fn.cells ≤ vec_capacity l.slots;
}
