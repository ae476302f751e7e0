-- The numbers of a mode's options, and the command that they make.
use Rattle.std.specs.Prelude.{ℕ, ◌≡◌, List, Option, IfSome, MatchOption}
use Rattle.std.specs.Option.{option_map_or}
use Rattle.std.specs.Str.Parse.{digits_value}
use Rattle.std.specs.List.{All}
use Rattle.tj_modes.specs.CommandLine.{Item, IsAllowed, IsWithin, asked, default, digits_of, number}
use Rattle.tj_modes.specs.declared.command.Command.{Command}
use Rattle.tj_modes.specs.declared.command.Numbers.{Numbers}
use Rattle.tj_modes.specs.declared.mode.Mode.{Mode}
use Rattle.tj_modes.specs.declared.mode.OptionName.{OptionName}
use Rattle.tj_modes.specs.declared.mode.OptionName.TheVariants.{Workers, Cells, Steps, Size}

-- what the words have for an option: nothing, or the digits of a number within its limits
abbrev pub IsFit : Mode → OptionName → Option (List ℕ) → Type 0
IsFit mode name digits = IfSome digits (λ d. IsWithin mode name (digits_value 10 d))

-- the number of an option is given for these digits exactly where they fit
abbrev pub IsNumberOf : Mode → OptionName → Option (List ℕ) → Option ℕ → Type 0
IsNumberOf mode name digits answer = MatchOption answer (IsFit mode name digits → ⊥)
    (λ number. IsFit mode name digits × (number ≡ option_map_or (digits_value 10) digits (default mode name)))

-- the number of each option
abbrev pub number_for : Numbers → OptionName → ℕ
number_for numbers Workers = numbers.workers
number_for numbers Cells = numbers.cells
number_for numbers Steps = numbers.steps
number_for numbers Size = numbers.size

-- each option fits
abbrev pub AllFit : Mode → List Item → Type 0
AllFit mode items = (name : OptionName) → IsFit mode name (digits_of name items)

-- the numbers are those of the items, given or not
abbrev pub HasNumbers : Mode → List Item → Numbers → Type 0
HasNumbers mode items numbers = (name : OptionName) → number_for numbers name ≡ number mode items name

-- numbers are given exactly where each option fits
abbrev pub AreNumbersOf : Mode → List Item → Option Numbers → Type 0
AreNumbersOf mode items answer = MatchOption answer (AllFit mode items → ⊥)
    (λ numbers. AllFit mode items × HasNumbers mode items numbers)

-- a command is given exactly where the mode has all of the items, and is what they ask for
abbrev pub IsAnswerTo : Mode → List Item → Option Command → Type 0
IsAnswerTo mode items answer = MatchOption answer (All (IsAllowed mode) items → ⊥)
    (λ command. All (IsAllowed mode) items × (command ≡ asked mode items))
