-- Words that the parser of command lines gets, and words that are those of a mode and items, of whatever mode.
use Rattle.std.specs.Prelude.{ℕ, ◌≡◌, ◌⊎◌, List, [], ◌∷◌, String, string_bytes, codes, map}
use Rattle.std.specs.List.{All, AllByRecursion, IsDistinct, flat_map}
use Rattle.std.specs.Str.{bytes_eq}
use Rattle.std.specs.declared.alloc.Global.{Global}
use Rattle.tj_modes.specs.CommandLine.{Item, option, strict, IsShortNumeral}
use Rattle.tj_modes.specs.CommandLine.{first_word, mode_text, option_text, words_of}
use Rattle.tj_modes.specs.declared.mode.Mode.{Mode}
use Rattle.tj_modes.specs.declared.mode.OptionName.{OptionName}

-- a word that may stand behind the mode
abbrev pub IsLineWord : List ℕ → Type 0
IsLineWord word =
    ((name : OptionName) × (word ≡ option_text name)) ⊎ (word ≡ codes "--strict") ⊎ IsShortNumeral word

-- the word of a mode, and words that may stand behind it
abbrev pub AreLineWords : List (String Global) → Type 0
AreLineWords [] = ⊥
AreLineWords (first ∷ rest) =
    ((mode : Mode) × (string_bytes first ≡ mode_text mode)) × All (λ word. IsLineWord (string_bytes word)) rest

-- a number is 1 to 10 digits
abbrev pub HasNumeral : Item → Type 0
HasNumeral (option name digits) = IsShortNumeral digits
HasNumeral strict = Unit {0}

-- items of whatever mode, each at most once
pub record AreItems (items : List Item) : Type 0 where
  pub once : IsDistinct bytes_eq (map first_word items)
  pub numerals : AllByRecursion HasNumeral items

-- the words are those of a mode and of items, each at most once
pub record IsReading (words : List (String Global)) (mode : Mode) (items : List Item) : Type 0 where
  pub spelled : map string_bytes words ≡ mode_text mode ∷ flat_map words_of items
  pub are_items : AreItems items

-- the words are those of no mode and items
abbrev pub HasNoReading : List (String Global) → Type 0
HasNoReading words = (mode : Mode) (items : List Item) → IsReading words mode items → ⊥
