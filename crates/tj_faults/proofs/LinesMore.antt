-- One step of what goes on for so many lines.
use Rattle.std.proofs.Common.{◌≡◌, ◌<◌, ◌-◌, ℕ, zero, suc, List, ap, sym, arith}
use Rattle.tj_faults.specs.Carets.{behind_lines, next_line}

-- one line more
pub one_line : (n : ℕ) (text : List ℕ) → 0 < n → behind_lines n text ≡ behind_lines (n - 1) (next_line text)
one_line zero text some = search (arith, some)
one_line (suc n) text some = let same : suc n - 1 ≡ n = omega arith in
    ap (λ k. behind_lines k (next_line text)) (sym same)
