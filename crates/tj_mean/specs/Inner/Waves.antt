-- The tasks of a round, gone through wave by wave.
use Rattle.std.specs.Prelude.{◌≡◌, ◌⊎◌, ℕ, suc, ◌+◌, ◌<◌, ◌≤◌, List, [], ◌∷◌, ◌++◌, map, length, get_or, slice_set}
use Rattle.std.specs.Prelude.{Some}
use Rattle.tj_base.specs.ForkOrder.{Name}
use Rattle.tj_body.specs.History.{Assignment, start}
use Rattle.tj_body.specs.Points.{HasStopped, IsIn, IsPointOf}
use Rattle.tj_body.specs.Programs.{Program, Rules}
use Rattle.tj_body.specs.Rounds.{cells, given, tasks}
use Rattle.tj_body.specs.declared.point.Entry.{Entry}
use Rattle.tj_body.specs.declared.point.Task.{Task}
use Rattle.tj_body.specs.declared.point.Point.{Point}
use Rattle.tj_body.proofs.Counts.{is, times, total}
use Rattle.tj_mean.specs.Inner.Agendas.{IsAgendaOf, IsAhead}
use Rattle.tj_mean.specs.Inner.KeptPoints.{AreKept}
use Rattle.tj_mean.specs.Inner.Reached.{Reaches, emptied}
use Rattle.tj_mean.specs.declared.agenda.Agenda.{Agenda}

module _ {B : Type 0} where
  -- the cells of the tasks: their results and the promises that they have made
  abbrev pub cells_of : List (Point B) → ℕ
  cells_of [] = 0
  cells_of (p ∷ ps) = suc (length p.promises) + cells_of ps

  -- how many promises the tasks have made
  abbrev pub promised_by : List (Point B) → ℕ
  promised_by qs = total (λ p. length p.promises) qs

  -- the task with this index has gone on from its point to where it stops; its children begin if their names have at
  -- most n + 1 numbers, else they come later, and are kept unless more than N are
  pub record IsTakenUp (rules : Rules B) (V : Assignment) (N n at : ℕ) (qs rest : List (Point B))
      (kept kept' : List (Task B)) (writes writes' : List (Name × Entry)) : Type 0 where
    pub end : Point B
    pub reached : (d : Point B) → Reaches rules V (get_or qs at d) end
    pub stopped : HasStopped V end
    pub written : writes' ≡ writes ++ end.writes
    pub children : ((length end.name ≤ n) × (rest ≡ slice_set qs at (emptied end) ++ map start end.children)
        × (kept' ≡ kept))
        ⊎ ((n < length end.name) × (rest ≡ slice_set qs at (emptied end))
        × ((kept' ≡ kept ++ end.children) ⊎ ((N < length kept) × (kept' ≡ kept))))

  -- of the tasks that come later all are kept, or more than N
  abbrev pub AreKeptLater : ℕ → List (Task B) → List (Task B) → Type 0
  AreKeptLater N kept later = (kept ≡ later) ⊎ ((N < length kept) × (N < length later))

module _ {B : Type 0} (program : Program B) where
  -- what stands in the middle of a wave that comes to round n + 1: the kept points stand for points of tasks of that
  -- round, of which each child is there, or comes later if its name is longer than the round is deep; and all that was
  -- written since the wave began is told
  pub record IsWave (n : ℕ) (E : Assignment) (qs : List (Point B)) (later : List (Task B))
      (writes : List (Name × Entry)) : Type 0 where
    pub whole : List (Point B)
    pub kept : AreKept qs whole
    pub assigned : E ≡ given program n
    pub of_round : (p : Point B) → IsIn p whole
        → (t : Task B) × IsIn t (tasks program (suc n)) × IsPointOf program.rules (given program n) t p
    pub named : (q : Name) → times q (map (λ p. p.name) whole) + times q (map (λ c. c.name) later)
        ≡ is q [] + total (λ p. times q (map (λ c. c.name) p.children)) whole
    pub later_there : (c : Task B) → IsIn c later → (length c.name ≡ suc (suc n))
        × ((p : Point B) × IsIn p whole × IsIn c p.children)
    pub written : (p : Point B) (q : Name) (e : Entry) → IsIn p whole → IsIn (q, e) p.writes
        → IsIn (q, e) writes ⊎ (given program n q ≡ Some e)
    pub writes_there : (q : Name) (e : Entry) → IsIn (q, e) writes → (p : Point B) × IsIn p whole × IsIn (q, e) p.writes

  -- what stands in the middle of a wave of which these tasks are kept for later, with the agenda of those that are
  -- still to be taken up, where so many promises may still be made
  pub record IsWaveAt (N n : ℕ) (E : Assignment) (a : Agenda) (left : ℕ) (qs : List (Point B)) (kept : List (Task B))
      (writes : List (Name × Entry)) : Type 0 where
    pub later : List (Task B)
    pub wave : IsWave n E qs later writes
    pub are_kept : AreKeptLater N kept later
    pub agenda : IsAgendaOf E a qs
    pub counted : promised_by qs + left ≡ N

  -- what stands where the wave has come to round n + 1, which has at most N cells
  pub record IsWaveDone (N n : ℕ) (E : Assignment) (a : Agenda) (left : ℕ) (qs : List (Point B)) (kept : List (Task B))
      (writes : List (Name × Entry)) : Type 0 where
    pub at : IsWaveAt N n E a left qs kept writes
    pub none_ahead : (i : ℕ) → i < length qs → ¬ IsAhead a i
    pub fits : length (cells program (suc n)) ≤ N
