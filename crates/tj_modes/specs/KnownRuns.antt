-- What `known` tells of a run's meaning: that it is full, or its joins, each with whether its task knew the joined one.
use Rattle.std.specs.Prelude.{ℕ, Bool, List}
use Rattle.std.specs.List.{list_any}
use Rattle.tj_mean.specs.Acts.{AreActsOf}
use Rattle.tj_mean.specs.declared.act.ActLine.{ActLine}
use Rattle.tj_known.specs.KnownLines.{AreTold, KnownAreAlong, joins_in}
use Rattle.tj_known.specs.KnownTexts.{is_against, known_text}
use Rattle.tj_known.specs.declared.known.KnownLine.{KnownLine}
use Rattle.tj_modes.specs.Runs.{Start, NeedsMore, status_of}
use Rattle.tj_modes.specs.Texts.{full_line}
use Rattle.tj_command.specs.declared.status.Status.{Status}
use Rattle.tj_command.specs.declared.status.Status.TheVariants.{Full}

-- some join is against the fork order
abbrev pub has_against : List KnownLine → Bool
has_against joins = list_any (λ (k : KnownLine). is_against k.how) joins

-- what is told of the joins of the program's meaning, in the order of its tasks and of their acts
pub record AreJoinsOf (start : Start) (joins : List KnownLine) : Type 0 where
  pub lines : List ActLine
  pub acts : AreActsOf start.program start.cells lines
  pub told : AreTold lines (joins_in lines) joins

-- what `known` gives: that the meaning is full, or the text of its joins, which is marked where one is against the order
pub data IsKnownOf (start : Start) : Status → List ℕ → Type 0 where
  needs_more : NeedsMore start → IsKnownOf start Full (full_line start.cells)
  tells : (joins : List KnownLine) → ¬ NeedsMore start → AreJoinsOf start joins
      → IsKnownOf start (status_of (has_against joins)) (known_text joins)

-- in a meaning that isn't full, each known join is along the fork order
abbrev pub KnownJoinsOfMeaningAreAlong : Start → Type 0
KnownJoinsOfMeaningAreAlong start =
    ¬ NeedsMore start → (joins : List KnownLine) → AreJoinsOf start joins → KnownAreAlong joins
