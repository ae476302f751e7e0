-- The names of a meaning's tasks.
use Rattle.std.proofs.Common.{◌≡◌, ℕ, suc, ◌*◌, ◌≤◌, List, [], ◌∷◌, map, ap, arith}
use Rattle.std.specs.List.{flat_map}
use Rattle.tj_base.specs.ForkOrder.{Name}
use Rattle.tj_body.specs.History.{Assignment, history}
use Rattle.tj_body.specs.Laws.{AreDistinct}
use Rattle.tj_body.specs.Programs.{Program}
use Rattle.tj_body.specs.Rounds.{cells_by, given, tasks, cells, last_round, meaning}
use Rattle.tj_body.specs.declared.point.Task.{Task}
use Rattle.tj_body.specs.declared.point.Point.{Point}
use Rattle.tj_body.proofs.Counts.{is, times, total_append, distinct_of_times}
use Rattle.tj_body.proofs.Rounds.Families.{same_name}
use Rattle.tj_body.proofs.Rounds.Rises.{once_name}

module _ {B : Type 0} (program : Program B) (N : ℕ) where
  abbrev last_given : Assignment
  last_given = given program (last_round N)

  name_times : (U : Assignment) (q : Name) (l : List (Task B))
      → times q (map (λ (p : Point B). p.name) (map (history program.rules last_given) l))
      ≤ times q (flat_map (cells_by program.rules U) l)
  name_times U q [] = omega arith
  name_times U q (x ∷ xs) =
      let h = name_times U q xs in
      let n = ap (λ z. is q z) (same_name program.rules last_given x) in
      let a = total_append (is q) (history program.rules U x).promises (flat_map (cells_by program.rules U) xs) in
      omega arith

  -- no two histories of a meaning have one name
  pub meaning_distinct : AreDistinct (map (λ (p : Point B). p.name) (meaning program N))
  meaning_distinct = distinct_of_times (map (λ (p : Point B). p.name) (meaning program N))
      (λ q. let a = name_times (given program (2 * N)) q (tasks program (last_round N)) in
      let z : suc (2 * N) ≡ last_round N = omega arith in
      let b = once_name program (last_round N) q in
      let c = ap (λ k. times q (flat_map (cells_by program.rules (given program (2 * N))) (tasks program k))) z in
      let d = ap (λ k. times q (cells program k)) z in
      omega arith)
