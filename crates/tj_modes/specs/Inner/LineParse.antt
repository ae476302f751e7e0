-- What the parser of command lines is told, and what it finds.
use Rattle.std.specs.Prelude.{ℕ, ◌≡◌, true, List, Some, String, codes, if◌then◌else◌}
use Rattle.std.specs.List.{list_any}
use Rattle.std.specs.declared.alloc.Global.{Global}
use Rattle.clap.specs.Words.{App, Rule, first_value, found_of, new_app, new_rule, one_text, with_rule}
use Rattle.clap.specs.declared.builder.action.ArgAction.TheVariants.{SetTrue}
use Rattle.clap.specs.declared.parser.matches.ArgMatches.{ArgMatches}
use Rattle.tj_modes.specs.CommandLine.{Item, digits_of, is_flag, mode_text}
use Rattle.tj_modes.specs.declared.mode.Mode.{Mode}
use Rattle.tj_modes.specs.declared.mode.OptionName.{OptionName}
use Rattle.tj_modes.specs.declared.mode.OptionName.TheVariants.{Workers, Cells, Steps, Size}
use Rattle.tj_modes.specs.Inner.LineWords.{IsReading}

-- the name of an option without its hyphens
abbrev pub id_of : OptionName → List ℕ
id_of Workers = codes "workers"
id_of Cells = codes "cells"
id_of Steps = codes "steps"
id_of Size = codes "size"

-- a word that has to be there
abbrev pub required_rule : List ℕ → Rule
required_rule name = record (new_rule name) { required = true }

-- an option of one value
abbrev pub option_rule : List ℕ → Rule
option_rule name = record (new_rule name) { long = Some name }

-- an option without a value
abbrev pub flag_rule : List ℕ → Rule
flag_rule name = record (new_rule name) { long = Some name; action = Some SetTrue }

-- a command without help whose words have no program's name before them
abbrev pub bare_app : App
bare_app = let new = new_app (codes "tj") in
    record new { top = record new.top { no_binary_name = true; disable_help_flag = true } }

-- the mode, four options and the flag
abbrev pub line_app : App
line_app = with_rule (with_rule (with_rule (with_rule (with_rule (with_rule bare_app (required_rule (codes "mode")))
    (option_rule (id_of Workers))) (option_rule (id_of Cells))) (option_rule (id_of Steps)))
    (option_rule (id_of Size))) (flag_rule (codes "strict"))

-- the matches have the digits of each option
abbrev pub FindsDigits : ArgMatches → List Item → Type 0
FindsDigits matches items = (name : OptionName) → first_value (found_of matches) (id_of name) ≡ digits_of name items

-- the matches are those of a mode and items
pub record Finds (matches : ArgMatches) (mode : Mode) (items : List Item) : Type 0 where
  pub mode_found : first_value (found_of matches) (codes "mode") ≡ Some (mode_text mode)
  pub digits_found : FindsDigits matches items
  pub flag_found : one_text (found_of matches) (codes "strict")
      ≡ Some (if list_any is_flag items then codes "true" else codes "false")

-- the matches are those of the words, which a mode and items have
abbrev pub AreMatchesOf : List (String Global) → ArgMatches → Type 0
AreMatchesOf words matches =
    (mode : Mode) × (items : List Item) × IsReading words mode items × Finds matches mode items
