-- The form of the command line: items in any order.
use Rattle.std.specs.Prelude.{ℕ, ◌≡◌, Bool, true, false, cond, List, [], ◌∷◌, Option, Some, None, String}
use Rattle.std.specs.Prelude.{codes, map, string_bytes, unwrap_or}
use Rattle.std.specs.List.{flat_map}
use Rattle.std.specs.Str.Parse.{digits_value}
use Rattle.std.specs.declared.alloc.Global.{Global}
use Rattle.tj_command.specs.declared.limits.TheConstants.{MAX_WORD_CELLS}
use Rattle.tj_command.specs.Numerals.{IsShortNumeral, IsUpTo}
use Rattle.tj_eval.specs.declared.body.TheConstants.{MAX_STEPS}
use Rattle.tj_explain.specs.declared.line.Said.{Said}
use Rattle.tj_explain.specs.declared.line.WhyCommand.{WhyCommand}
use Rattle.tj_explain.specs.declared.line_word.Flag.{Flag}
use Rattle.tj_explain.specs.declared.line_word.Flag.TheVariants.{Strict, Short, All, Dot, Json}
use Rattle.tj_explain.specs.declared.line_word.LineWord.{LineWord}
use Rattle.tj_explain.specs.declared.line_word.LineWord.TheVariants.{Numbered, Alone}
use Rattle.tj_explain.specs.declared.line_word.OptionName.{OptionName}
use Rattle.tj_explain.specs.declared.line_word.OptionName.TheVariants.{Cells, Steps}
use Rattle.tj_explain.specs.declared.telling.Telling.{Telling}
use Rattle.tj_explain.specs.declared.telling.Telling.TheVariants as telling

-- the word of each option
abbrev pub word_text : LineWord → List ℕ
word_text (Numbered Cells) = codes "--cells"
word_text (Numbered Steps) = codes "--steps"
word_text (Alone Strict) = codes "--strict"
word_text (Alone Short) = codes "--short"
word_text (Alone All) = codes "--all"
word_text (Alone Dot) = codes "--dot"
word_text (Alone Json) = codes "--json"

-- an item: an option with the digits of its number, or one without a number
pub data Item : Type 0 where
  numbered : OptionName → List ℕ → Item
  alone : Flag → Item

-- the words of an item
abbrev pub words_of : Item → List (List ℕ)
words_of (numbered name digits) = word_text (Numbered name) ∷ digits ∷ []
words_of (alone flag) = word_text (Alone flag) ∷ []

-- the greatest number that an option may have
abbrev pub greatest_of : OptionName → ℕ
greatest_of Cells = MAX_WORD_CELLS
greatest_of Steps = MAX_STEPS

-- what was said of an option, if it was named
abbrev pub number_of : OptionName → Said → Option ℕ
number_of Cells said = said.cells
number_of Steps said = said.steps

-- nothing was said
abbrev pub nothing : Said
nothing = record { cells = None; steps = None; strict = false; short = false; json = false; telling = None }

-- what is said with a number besides
abbrev pub with_number : OptionName → ℕ → Said → Said
with_number Cells n said = record said { cells = Some n }
with_number Steps n said = record said { steps = Some n }

-- what is said with a flag besides
abbrev pub with_flag : Flag → Said → Said
with_flag Strict said = record said { strict = true }
with_flag Short said = record said { short = true }
with_flag All said = record said { telling = Some telling.All }
with_flag Dot said = record said { telling = Some telling.Dot }
with_flag Json said = record said { json = true }

-- what is said with an item besides
abbrev pub with_item : Item → Said → Said
with_item (numbered name digits) said = with_number name (digits_value 10 digits) said
with_item (alone flag) said = with_flag flag said

-- what was said is `--dot`
abbrev pub is_dot : Option Telling → Bool
is_dot None = false
is_dot (Some telling.Dot) = true
is_dot (Some other) = false

-- the flag wasn't said; `--dot` and one of `--all` and `--json` don't stand together
abbrev pub IsNewFlag : Flag → Said → Type 0
IsNewFlag Strict said = said.strict ≡ false
IsNewFlag Short said = said.short ≡ false
IsNewFlag All said = said.telling ≡ None
IsNewFlag Dot said = (said.json ≡ false) × (said.telling ≡ None)
IsNewFlag Json said = (said.json ≡ false) × (is_dot said.telling ≡ false)

-- the item may stand where this was said: a number of 1 to 10 digits is within its limits, and nothing is said twice
abbrev pub MayStand : Item → Said → Type 0
MayStand (numbered name digits) said =
    (number_of name said ≡ None) × IsShortNumeral digits × IsUpTo (greatest_of name) (digits_value 10 digits)
MayStand (alone flag) said = IsNewFlag flag said

-- each item may stand behind those before it
abbrev pub AllMayStand : List Item → Said → Type 0
AllMayStand [] said = Unit {0}
AllMayStand (item ∷ items) said = MayStand item said × AllMayStand items (with_item item said)

-- what is said with items besides
abbrev pub with_items : List Item → Said → Said
with_items [] said = said
with_items (item ∷ items) said = with_items items (with_item item said)

-- what stands for an option that wasn't named
abbrev pub default_of : OptionName → ℕ
default_of Cells = 4096
default_of Steps = 100000

-- how what went wrong is told, where this was said
abbrev pub chosen : Bool → Option Telling → Telling
chosen json said = cond json telling.Json (unwrap_or said telling.Wrong)

-- what is asked for where this was said
abbrev pub asked : Said → WhyCommand
asked said = record {
  limits = record {
    cells = unwrap_or said.cells (default_of Cells);
    steps = unwrap_or said.steps (default_of Steps);
    strict = said.strict;
  };
  telling = chosen said.json said.telling;
  short = said.short;
}

-- the words are those of items, each of which may stand, and this is what they ask for
abbrev pub IsCommand : List (String Global) → WhyCommand → Type 0
IsCommand words command = (items : List Item) × (map string_bytes words ≡ flat_map words_of items)
    × AllMayStand items nothing × (command ≡ asked (with_items items nothing))

-- the words ask for nothing
abbrev pub HasNoForm : List (String Global) → Type 0
HasNoForm words = (command : WhyCommand) → IsCommand words command → ⊥
