-- The form of the command line: a mode, then items in any order, each at most once.
use Rattle.std.specs.Prelude.{ℕ, ◌≡◌, ◌≤◌, Bool, true, false, List, [], ◌∷◌, Option, Some, None, String, string_bytes}
use Rattle.std.specs.Prelude.{codes, if◌then◌else◌, map}
use Rattle.std.specs.List.{All, IsDistinct, flat_map, list_any}
use Rattle.std.specs.Option.{IsSomeAnd, option_map_or}
use Rattle.std.specs.Str.{bytes_eq}
use Rattle.std.specs.Str.Parse.{digits_value}
use Rattle.std.specs.declared.alloc.Global.{Global}
use Rattle.tj_command.specs.declared.limits.TheConstants.{MAX_WORD_CELLS}
pub use Rattle.tj_command.specs.Numerals.{IsShortNumeral}
use Rattle.tj_core.specs.declared.births.TheConstants.{MAX_CORE_CELLS}
use Rattle.tj_eval.specs.declared.body.TheConstants.{MAX_STEPS}
use Rattle.tj_gen.specs.declared.script.TheConstants.{MAX_SIZE}
use Rattle.tj_modes.specs.declared.command.Command.{Command}
use Rattle.tj_modes.specs.declared.command.Command.TheVariants as commands
use Rattle.tj_modes.specs.declared.mode.Mode.{Mode}
use Rattle.tj_modes.specs.declared.mode.Mode.TheVariants as modes
use Rattle.tj_modes.specs.declared.mode.OptionName.{OptionName}
use Rattle.tj_modes.specs.declared.mode.OptionName.TheVariants.{Workers, Cells, Steps, Size}

-- the word of each mode
abbrev pub mode_text : Mode → List ℕ
mode_text modes.Run = codes "run"
mode_text modes.Plan = codes "plan"
mode_text modes.List = codes "list"
mode_text modes.Judge = codes "judge"
mode_text modes.Gen = codes "gen"
mode_text modes.Known = codes "known"
mode_text modes.Relay = codes "relay"
mode_text modes.Watch = codes "watch"

-- the word of each option
abbrev pub option_text : OptionName → List ℕ
option_text Workers = codes "--workers"
option_text Cells = codes "--cells"
option_text Steps = codes "--steps"
option_text Size = codes "--size"

-- what stands behind the mode: an option with the digits of its number, or the flag
pub data Item : Type 0 where
  option : OptionName → List ℕ → Item
  strict : Item

-- the word that an item begins with
abbrev pub first_word : Item → List ℕ
first_word (option name digits) = option_text name
first_word strict = codes "--strict"

-- the words of an item
abbrev pub words_of : Item → List (List ℕ)
words_of (option name digits) = option_text name ∷ digits ∷ []
words_of strict = codes "--strict" ∷ []

-- the greatest number that an option may have in a mode, or none where the mode hasn't the option
abbrev pub greatest : Mode → OptionName → Option ℕ
greatest modes.Run Workers = Some 64
greatest modes.Gen Workers = Some 64
greatest modes.Relay Workers = Some 64
greatest modes.Watch Workers = Some 64
greatest modes.Run Cells = Some MAX_WORD_CELLS
greatest modes.Plan Cells = Some MAX_WORD_CELLS
greatest modes.Judge Cells = Some MAX_CORE_CELLS
greatest modes.Gen Cells = Some MAX_WORD_CELLS
greatest modes.Known Cells = Some 4096
greatest modes.Relay Cells = Some MAX_WORD_CELLS
greatest modes.Watch Cells = Some MAX_WORD_CELLS
greatest modes.Run Steps = Some MAX_STEPS
greatest modes.Plan Steps = Some MAX_STEPS
greatest modes.Gen Steps = Some MAX_STEPS
greatest modes.Known Steps = Some MAX_STEPS
greatest modes.Watch Steps = Some MAX_STEPS
greatest modes.Gen Size = Some MAX_SIZE
greatest modes.Relay Size = Some MAX_SIZE
greatest _ _ = None

-- what stands for an option that is absent
abbrev pub default : Mode → OptionName → ℕ
default _ Workers = 4
default modes.Judge Cells = 256
default _ Cells = 4096
default _ Steps = 100000
default _ Size = 100

-- `--strict` is a flag of `run` and of `plan`
abbrev pub has_flag : Mode → Bool
has_flag modes.Run = true
has_flag modes.Plan = true
has_flag _ = false

-- the number is from 1 to the option's greatest in the mode, which has the option
abbrev pub IsWithin : Mode → OptionName → ℕ → Type 0
IsWithin mode name number = IsSomeAnd (greatest mode name) (λ most. (1 ≤ number) × (number ≤ most))

-- the mode has the item, with 1 to 10 digits for a number within its limits
abbrev pub IsAllowed : Mode → Item → Type 0
IsAllowed mode (option name digits) = IsShortNumeral digits × IsWithin mode name (digits_value 10 digits)
IsAllowed mode strict = has_flag mode ≡ true

-- the words are the mode's and those of items that the mode has, each at most once
pub record IsLine (words : List (String Global)) (mode : Mode) (items : List Item) : Type 0 where
  pub spelled : map string_bytes words ≡ mode_text mode ∷ flat_map words_of items
  pub once : IsDistinct bytes_eq (map first_word items)
  pub allowed : All (IsAllowed mode) items

-- the two are one option
abbrev pub is_same : OptionName → OptionName → Bool
is_same Workers Workers = true
is_same Cells Cells = true
is_same Steps Steps = true
is_same Size Size = true
is_same _ _ = false

-- the digits of an option among the items
abbrev pub digits_of : OptionName → List Item → Option (List ℕ)
digits_of name [] = None
digits_of name (option other digits ∷ items) = if is_same name other then Some digits else digits_of name items
digits_of name (strict ∷ items) = digits_of name items

-- the number of an option, given or not
abbrev pub number : Mode → List Item → OptionName → ℕ
number mode items name = option_map_or (digits_value 10) (digits_of name items) (default mode name)

-- the item is the flag
abbrev pub is_flag : Item → Bool
is_flag strict = true
is_flag _ = false

-- what a mode with these items asks for
abbrev pub asked : Mode → List Item → Command
asked modes.Run items = commands.Run (number modes.Run items Workers) (number modes.Run items Cells)
    (number modes.Run items Steps) (list_any is_flag items)
asked modes.Plan items = commands.Plan (number modes.Plan items Cells) (number modes.Plan items Steps)
    (list_any is_flag items)
asked modes.List items = commands.List
asked modes.Judge items = commands.Judge (number modes.Judge items Cells)
asked modes.Gen items = commands.Gen (number modes.Gen items Size) (number modes.Gen items Workers)
    (number modes.Gen items Cells) (number modes.Gen items Steps)
asked modes.Known items = commands.Known (number modes.Known items Cells) (number modes.Known items Steps)
asked modes.Relay items = commands.Relay (number modes.Relay items Size) (number modes.Relay items Workers)
    (number modes.Relay items Cells)
asked modes.Watch items = commands.Watch (number modes.Watch items Workers) (number modes.Watch items Cells)
    (number modes.Watch items Steps)

-- the words are a mode and its items, and this is what they ask for
abbrev pub IsCommand : List (String Global) → Command → Type 0
IsCommand words command =
    (mode : Mode) × (items : List Item) × IsLine words mode items × (command ≡ asked mode items)

-- the words ask for nothing
abbrev pub HasNoForm : List (String Global) → Type 0
HasNoForm words = (command : Command) → IsCommand words command → ⊥

-- each number of a command is within the limits of its mode
abbrev pub HasLimits : Command → Type 0
HasLimits (commands.Run workers cells steps flag) =
    IsWithin modes.Run Workers workers × IsWithin modes.Run Cells cells × IsWithin modes.Run Steps steps
HasLimits (commands.Plan cells steps flag) = IsWithin modes.Plan Cells cells × IsWithin modes.Plan Steps steps
HasLimits commands.List = Unit {0}
HasLimits (commands.Judge cells) = IsWithin modes.Judge Cells cells
HasLimits (commands.Gen size workers cells steps) = IsWithin modes.Gen Size size
    × IsWithin modes.Gen Workers workers × IsWithin modes.Gen Cells cells × IsWithin modes.Gen Steps steps
HasLimits (commands.Known cells steps) = IsWithin modes.Known Cells cells × IsWithin modes.Known Steps steps
HasLimits (commands.Relay size workers cells) =
    IsWithin modes.Relay Size size × IsWithin modes.Relay Workers workers × IsWithin modes.Relay Cells cells
HasLimits (commands.Watch workers cells steps) =
    IsWithin modes.Watch Workers workers × IsWithin modes.Watch Cells cells × IsWithin modes.Watch Steps steps
