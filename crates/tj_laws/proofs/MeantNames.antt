-- A cycle of waits by closed words is, by the names of its tasks, one of the meaning: as tj_words shows it of the
-- cycles that have alarmed, here of each.
use Rattle.std.proofs.Common.{◌∷◌, ℕ, nat_eq, List, [], map}
use Rattle.tj_base.proofs.CycleImages.{cycle_list_to}
use Rattle.tj_base.specs.Cycles as graph
use Rattle.tj_body.specs.Names.{same}
use Rattle.tj_body.specs.Programs.{Program}
use Rattle.tj_body.specs.WaitGraph as meant
use Rattle.tj_body.specs.declared.point.Reference.{Reference}
use Rattle.tj_words.specs.AtRest.ClosedCells.{Leads}
use Rattle.tj_words.specs.AtRest.ClosedCells as closed
use Rattle.tj_words.specs.AtRest.RestMeaning.{AreWordsOf}
use Rattle.tj_words.specs.declared.closed.RestCell.{RestCell}
use Rattle.tj_words.proofs.Meaning.MeantCycles.{There, image, named, one_led, one_meant, ps, same_cells, same_names}
use Rattle.tj_words.proofs.Meaning.MeantCycles.{waiter_there}
use Rattle.tj_laws.specs.OwnMoments.{ClosedCyclesAreMeant}

module _ {B : Type 0} (program : Program B) (N : ℕ) (shown : List RestCell) (born : List Reference)
    (words : AreWordsOf program N born shown) where
  pub cycle_meant : (tasks : List ℕ) → closed.IsCycle shown tasks
      → graph.IsCycle (meant.WaitsFor (ps program N shown born words)) same
      (map (named program N shown born words) tasks)
  cycle_meant [] c = absurd c
  cycle_meant (t ∷ ts) c = let f = first_leads t ts c.1 in
      cycle_list_to (named program N shown born words) (There program N shown born words) (Leads shown)
      (meant.WaitsFor (ps program N shown born words)) (image program N shown born words)
      (one_led program N shown born words) (one_meant program N shown born words) nat_eq
      (same_cells program N shown born words) same (same_names program N shown born words) t ts
      (waiter_there program N shown born words t f.1.0 f.1.1) c
    where
      first_leads : (t : ℕ) (us : List ℕ) → graph.LeadsAlong (Leads shown) t us t → (u : ℕ) × Leads shown t u
      first_leads t [] l = (t, l)
      first_leads t (u ∷ us) l = (u, l.0)

pub closed_cycles_meant : (B : Type 0) → ClosedCyclesAreMeant B
closed_cycles_meant B program N shown born words tasks c = cycle_meant program N shown born words tasks c
