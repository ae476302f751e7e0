-- The generated text is short.
use Rattle.tj_modes.proofs.Prelude.{[], ap, arith, codes, flat_map, flat_map-append, suc, zero, ℕ, ◌++◌, ◌<◌, ◌≤◌}
use Rattle.std.proofs.Common.{◌*◌, length, decimal, lit≤, length-append}
use Rattle.std.proofs.lemmas.Fmt.{length-decimal-le}
use Rattle.tj_gen.specs.Script.{head_lines, step_lines, steps_lines, tail_lines, ended, script_text}
use Rattle.tj_gen.proofs.Lines.{step_pieces, script_parts}

step_short : (i : ℕ) → i ≤ 4000 → length (flat_map ended (step_lines i)) ≤ 60
step_short i h =
    let digits : length (decimal i) ≤ 4 = length-decimal-le 4 i (omega arith) (omega arith) (omega arith) in
    let a = codes "  q = new;\n  t = fork node(" in
    let b = codes ", p, own q);\n  p = q;\n" in
    let whole = ap length (step_pieces [] (decimal i)) in
    omega (arith, whole, length-append (a ++ decimal i) b, length-append a (decimal i), digits)

steps_short : (size : ℕ) → size ≤ 4000 → length (flat_map ended (steps_lines size)) ≤ 60 * size
steps_short zero h = lit≤ tt
steps_short (suc i) h =
    let front = flat_map ended (steps_lines i) in
    let last = flat_map ended (step_lines (suc i)) in
    let whole = ap length (flat_map-append ended (steps_lines i) (step_lines (suc i))) in
    omega (arith, whole, length-append front last, steps_short i (omega arith), step_short (suc i) h)

pub short : (size : ℕ) → size ≤ 4000 → length (script_text size) < 300000
short size h =
    let head = flat_map ended head_lines in
    let steps = flat_map ended (steps_lines size) in
    let tail = flat_map ended tail_lines in
    let head_short : length head ≤ 100 = lit≤ tt in
    let tail_short : length tail ≤ 200 = lit≤ tt in
    let whole = ap length (script_parts size) in
    let both = length-append (head ++ steps) tail in
    let front = length-append head steps in
    omega (arith, whole, both, front, steps_short size h, head_short, tail_short)
