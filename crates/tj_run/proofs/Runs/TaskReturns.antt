-- What an end answers of its seat since a later view, it answers since an earlier one.
use Rattle.std.proofs.Common.{OnOk}
use Rattle.tj_run.proofs.Prelude.{Err, IfErr, IsLeft, KnowsMore, Lacks, Laid, Ok, Result, SeatMe, View, Why}
use Rattle.tj_run.proofs.Seats.WorkersSteps.{lacks_since, left_on}

module _ {A B : Type 0} (u v : View B) (k : KnowsMore u v) where
  -- its task has left the worker
  pub lefts_on : (laid : Laid B) (m : SeatMe B) (r : Result A Why) → OnOk r (IsLeft laid v m) → OnOk r (IsLeft laid u m)
  lefts_on laid m (Ok a) h = left_on laid u v k m h
  lefts_on laid m (Err why) h = tt

  -- or the run is to stop
  pub lack_on : (w : View B) (r : Result A Why) → IfErr r (λ (z : Why). Lacks z v w) → IfErr r (λ (z : Why). Lacks z u w)
  lack_on w (Ok a) h = tt
  lack_on w (Err why) h = lacks_since why u v w k h
