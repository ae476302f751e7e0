-- The law of the acts of a meaning.
use Rattle.std.specs.Prelude.{◌≡◌, ℕ, false, List}
use Rattle.tj_body.specs.Programs.{Program}
use Rattle.tj_body.specs.Rounds.{IsFull}
use Rattle.tj_mean.specs.Acts.{AreActsOf}
use Rattle.tj_mean.specs.ActLines.{AreActLines}
use Rattle.tj_mean.specs.declared.act.ActLine.{ActLine}

-- in a meaning without the strict rule that isn't full, forks are of own children with rising numbers, what is forked
-- or joined is a task of it, and there is an order in which all acts can be worked off
abbrev pub ActsCanBeWorkedOff : {B : Type 0} → Program B → Type 0
ActsCanBeWorkedOff program = program.rules.strict ≡ false → (N : ℕ) → ¬ IsFull program N
    → (lines : List ActLine) → AreActsOf program N lines → AreActLines lines
