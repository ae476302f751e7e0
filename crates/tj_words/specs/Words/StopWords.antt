-- The words that end a run, and what they stand for.
use Rattle.std.specs.Prelude.{ℕ, cond, nat_eq, Option, Some, None}
use Rattle.tj_words.specs.declared.stop.Stop.{Stop}
use Rattle.tj_words.specs.declared.stop.Stop.TheVariants.{Full, Memory}

-- the word of STOP that says why a run is to end
abbrev pub stop_word : Stop → ℕ
stop_word Full = 1
stop_word Memory = 2

-- what the word STOP says: it is 0 as long as the run goes on
abbrev pub stop_in : ℕ → Option Stop
stop_in word = cond (nat_eq word 0) None (cond (nat_eq word 1) (Some Full) (Some Memory))
