-- Which stops of a reading are the first fault of the tokens.
use Rattle.std.specs.Prelude.{◌≡◌, ℕ, List, ◌∷◌, ◌++◌, length}
use Rattle.tj_lex.specs.declared.token.Token.{Token}
use Rattle.tj_lex.specs.declared.place.Place.{Place}
use Rattle.tj_syntax.specs.declared.fault.ParseFault.{ParseFault}
use Rattle.tj_syntax.specs.declared.fault.ParseFault.TheVariants as faults
use Rattle.tj_syntax.specs.declared.fault.Stop.{Stop}
use Rattle.tj_syntax.specs.declared.fault.Stop.TheVariants as stop
use Rattle.tj_syntax.specs.Faults.{fault_of, IsFirstFault}

-- the fault of a stop at a token of this position
abbrev pub fault_at : Stop → Place → ParseFault
fault_at (stop.Expected left) at = faults.Expected at
fault_at (stop.Broken breach left) at = fault_of breach at
fault_at stop.NoMain at = faults.NoMain (record { line = 1; column = 1 })
fault_at (stop.MainParams left) at = faults.MainParams at
fault_at stop.Oom at = faults.Oom

-- so many tokens stand behind the one at which a reading stopped, where it stopped at one
abbrev pub AreLeft : Stop → ℕ → Type 0
AreLeft (stop.Expected left) count = left ≡ count
AreLeft (stop.Broken breach left) count = left ≡ count
AreLeft (stop.MainParams left) count = left ≡ count
AreLeft _ count = Unit {0}

-- the stop is the first fault of the tokens, at the token behind which so many are left
pub record IsFirstStop (tokens : List Token) (s : Stop) : Type 0 where
  pub front : List Token
  pub back : List Token
  pub token : Token
  pub whole : tokens ≡ front ++ token ∷ back
  pub left : AreLeft s (length back)
  pub is_first : IsFirstFault tokens (fault_at s token.at)
