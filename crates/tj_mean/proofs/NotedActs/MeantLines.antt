-- The lines that are noted under the entries at rest are those of the meaning, and their names are distinct.
use Rattle.std.proofs.Common.{◌≡◌, ℕ, suc, ◌*◌, ◌≤◌, List, [], ◌∷◌, map, ap, ◌∙◌, subst, arith}
use Rattle.std.specs.List.{flat_map}
use Rattle.std.specs.List.Sorted.{IsPermutation}
use Rattle.tj_base.specs.ForkOrder.{Name}
use Rattle.tj_body.specs.Programs.{Program, Rules}
use Rattle.tj_body.specs.History.{Assignment, history}
use Rattle.tj_body.specs.Laws.{AreDistinct}
use Rattle.tj_body.specs.Rounds.{cells_by, given, tasks, last_round}
use Rattle.tj_body.specs.declared.point.Task.{Task}
use Rattle.tj_body.proofs.Counts.{is, times, total_append, distinct_of_times}
use Rattle.tj_body.proofs.Rounds.Rises.{once_name}
use Rattle.tj_mean.specs.Acts.{AreActsOf, line_of, meant_lines}
use Rattle.tj_mean.specs.ActLines.{names_of}
use Rattle.tj_mean.specs.Inner.ToldOrder.{AreEntriesOf}
use Rattle.tj_mean.specs.Outcomes.{Ascend}
use Rattle.tj_mean.specs.declared.act.ActLine.{ActLine}

module _ {B : Type 0} (rules : Rules B) (V : Assignment) where
  -- each task's name is one of its cells
  lines_few : (W : Assignment) (q : Name) (l : List (Task B))
      → times q (names_of (map (line_of rules W) l)) ≤ times q (flat_map (cells_by rules V) l)
  lines_few W q [] = omega arith
  lines_few W q (x ∷ xs) =
      let h = lines_few W q xs in
      let a = total_append (is q) (history rules V x).promises (flat_map (cells_by rules V) xs) in
      omega arith

module _ {B : Type 0} (program : Program B) where
  -- no two lines of a round have one name
  pub lines_distinct : (W : Assignment) (n : ℕ)
      → AreDistinct (names_of (map (line_of program.rules W) (tasks program (suc n))))
  lines_distinct W n =
      distinct_of_times (names_of (map (line_of program.rules W) (tasks program (suc n))))
      (λ q. let a = lines_few program.rules (given program n) W q (tasks program (suc n)) in
      let b = once_name program (suc n) q in omega arith)

  -- the lines of the round after that of the entries at rest
  lines_meant : (N : ℕ) → given program (2 * N) ≡ given program (last_round N)
      → map (line_of program.rules (given program (2 * N))) (tasks program (suc (2 * N))) ≡ meant_lines program N
  lines_meant N same =
      let next : suc (2 * N) ≡ last_round N = omega arith in
      ap (λ V. map (line_of program.rules V) (tasks program (suc (2 * N)))) same
      ∙ ap (λ k. map (line_of program.rules (given program (last_round N))) (tasks program k)) next

  -- and in name order they are those of the meaning
  pub are_acts : (N : ℕ) (V : Assignment) (noted sorted : List ActLine) → AreEntriesOf program N V
      → noted ≡ map (line_of program.rules (given program (2 * N))) (tasks program (suc (2 * N)))
      → IsPermutation noted sorted → Ascend (names_of sorted) → AreActsOf program N sorted
  are_acts N V noted sorted entries e same ascend = record {
    same_lines = subst (λ lines. IsPermutation lines sorted) (e ∙ lines_meant N entries.assigned) same;
    in_name_order = ascend;
  }
