-- What became of a cell by its name, at rest.
use Rattle.std.specs.Prelude.{◌≡◌, ℕ, Option, Some, None}
use Rattle.tj_base.specs.ForkOrder.{Name}
use Rattle.tj_body.specs.Points.{IsIn}
use Rattle.tj_body.specs.Programs.{Program}
use Rattle.tj_body.specs.Rounds.{cells, given, last_round}
use Rattle.tj_body.specs.declared.point.Entry.{Entry}
use Rattle.tj_body.specs.declared.point.Entry.TheVariants as entry
use Rattle.tj_mean.specs.Outcomes.{shown_of}
use Rattle.tj_report.specs.declared.named_values.Became.{Became}
use Rattle.tj_report.specs.declared.named_values.Became.TheVariants as became

-- what became of a cell for which the meaning has this
abbrev pub became_of : Option Entry → Became
became_of None = became.Open
became_of (Some entry.Broken) = became.Broken
became_of (Some (entry.Value v)) = became.Value (shown_of v)

-- this became of the cell of that name in the meaning with so many cells, and there is none where it has no such cell
abbrev pub IsOfName : {B : Type 0} → Program B → ℕ → Name → Option Became → Type 0
IsOfName program N q None = ¬ IsIn q (cells program (last_round N))
IsOfName program N q (Some b) = IsIn q (cells program (last_round N))
    × (b ≡ became_of (given program (last_round N) q))
