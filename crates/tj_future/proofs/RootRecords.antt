-- The root is one of the closed cells, and a task.
use Rattle.std.proofs.Common.{◌≢◌, ◌≡◌, ◌<◌, List, [], length, subst}
use Rattle.tj_base.specs.declared.cell.Sort.TheVariants as sort
use Rattle.tj_body.specs.History.{to_task}
use Rattle.tj_body.specs.declared.point.Reference.{Reference}
use Rattle.tj_words.specs.declared.closed.RestCell.{RestCell}
use Rattle.tj_words.specs.AtRest.ClosedCells.{AreNamed, IsPromise}
use Rattle.tj_words.specs.LawParts.ShownState.{phase_sort}
use Rattle.tj_words.proofs.Stores.SeatLists.{inside}

-- a task is no promise
apart : sort.Task ≢ sort.Promise
apart e = absurd (cc)

-- the root is a cell
pub root_inside : (cells : List RestCell) (born : List Reference) → AreNamed cells born → 0 < length cells
root_inside cells born n = subst (λ k. 0 < k) n.all (inside born 0 (to_task []) n.root)

-- and a task
pub root_no_promise : (cells : List RestCell) (born : List Reference) → AreNamed cells born → IsPromise cells 0 → ⊥
root_no_promise cells born n p =
    apart (subst (λ x. sort.Task ≡ phase_sort x) p.2 (n.sorts 0 p.0 (to_task []) p.1 n.root))
