-- A worker's post at a table, and what stays of it over a call, whatever that answers.
use Rattle.std.specs.Prelude.{◌≡◌, ℕ, IfErr, Result}
use Rattle.tj_words.specs.SeatViews.SeatSteps.{IsSeatOf}
use Rattle.tj_record.specs.declared.record.Rec.{Rec}
use Rattle.tj_words.specs.declared.table.Laid.{Laid}
use Rattle.tj_run.specs.declared.post.Post.{Post}
use Rattle.tj_run.specs.declared.why.Why.{Why}
use Rattle.tj_run.specs.Inner.Going.{Lacks}

module _ {B P R : Type 0} (limit : P → ℕ) where
  -- the seat is one of the table, and the end is of a pool for as many cells
  abbrev pub IsPostOf : Laid B → Post B P R → Type 0
  IsPostOf laid post = IsSeatOf laid post.seat × (limit post.pool ≡ laid.cells)

  -- the seat is of the same table as before, and the end of a pool for as many cells
  abbrev pub IsSamePost : Post B P R → Post B P R → Type 0
  IsSamePost old new = (new.seat.table_id ≡ old.seat.table_id) × (limit new.pool ≡ limit old.pool)

  -- and if the run is to stop, what the seat has seen shows why
  abbrev pub Stays : {A : Type 0} → Post B P R → Post B P R → Result A Why → Type 0
  Stays old new result = IsSamePost old new × IfErr result (λ why. Lacks why old.seat.me.0 new.seat.me.0)

  -- and the body of the task's record is as it was
  abbrev pub StaysAsked : {A : Type 0} → Post B P R → Post B P R → Rec B → Rec B → Result A Why → Type 0
  StaysAsked old new r s result = (s.body ≡ r.body) × Stays old new result
