-- The text of a generated script, line by line.
use Rattle.std.specs.Prelude.{ℕ, zero, suc, List, [], ◌∷◌, ◌++◌, codes, decimal}
use Rattle.std.specs.List.{flat_map}

-- what stands before the steps
abbrev pub head_lines : List (List ℕ)
head_lines =
    codes "task main() {" ∷
    codes "  let a = new;" ∷
    codes "  let p = a;" ∷
    codes "  let q = 0;" ∷
    codes "  let t = 0;" ∷ []

-- the i-th step forks a task that waits for the promise p and owns the next one, q
abbrev pub step_lines : ℕ → List (List ℕ)
step_lines i =
    codes "  q = new;" ∷
    (codes "  t = fork node(" ++ decimal i ++ codes ", p, own q);") ∷
    codes "  p = q;" ∷ []

-- steps 1 to size
abbrev pub steps_lines : ℕ → List (List ℕ)
steps_lines zero = []
steps_lines (suc i) = steps_lines i ++ step_lines (suc i)

-- what stands after the steps
abbrev pub tail_lines : List (List ℕ)
tail_lines =
    codes "  set a = 0;" ∷
    codes "  let v = get p;" ∷
    codes "  print v;" ∷
    codes "  return v;" ∷
    codes "}" ∷
    codes "task node(i, p, q) {" ∷
    codes "  let v = get p;" ∷
    codes "  set q = v + i;" ∷
    codes "  return i;" ∷
    codes "}" ∷ []

-- a line and its line feed
abbrev pub ended : List ℕ → List ℕ
ended line = line ++ 10 ∷ []

-- the whole script of this size
abbrev pub script_text : ℕ → List ℕ
script_text size = flat_map ended (head_lines ++ steps_lines size ++ tail_lines)
