-- How the words of the command line are read, one item after the other.
use Rattle.std.specs.Prelude.{ℕ, ◌≡◌, List, Option, MatchOption, String, string_bytes, map}
use Rattle.std.specs.List.{flat_map}
use Rattle.std.specs.Str.Parse.{digits_value}
use Rattle.std.specs.declared.alloc.Global.{Global}
use Rattle.tj_explain.specs.WhyLine.{Item, numbered, alone, AllMayStand, MayStand, with_flag, with_items, with_number}
use Rattle.tj_explain.specs.WhyLine.{words_of}
use Rattle.tj_explain.specs.declared.line.Said.{Said}
use Rattle.tj_explain.specs.declared.line_word.Flag.{Flag}
use Rattle.tj_explain.specs.declared.line_word.OptionName.{OptionName}

-- texts are those of items that may stand where this was said
abbrev pub AreItems : Said → List (List ℕ) → List Item → Type 0
AreItems said texts items = (texts ≡ flat_map words_of items) × AllMayStand items said

-- what words say besides, or none where they aren't those of items that may stand
abbrev pub AreRead : Said → List (String Global) → Option Said → Type 0
AreRead said words answer = MatchOption answer ((items : List Item) → AreItems said (map string_bytes words) items → ⊥)
    (λ new. (items : List Item) × AreItems said (map string_bytes words) items × (new ≡ with_items items said))

-- what is said with a number besides, or none where it may not stand
abbrev pub IsNumberTaken : Said → OptionName → List ℕ → Option Said → Type 0
IsNumberTaken said name digits answer = MatchOption answer (MayStand (numbered name digits) said → ⊥)
    (λ new. MayStand (numbered name digits) said × (new ≡ with_number name (digits_value 10 digits) said))

-- what is said with a flag besides, or none where it may not stand
abbrev pub IsFlagTaken : Said → Flag → Option Said → Type 0
IsFlagTaken said flag answer = MatchOption answer (MayStand (alone flag) said → ⊥)
    (λ new. MayStand (alone flag) said × (new ≡ with_flag flag said))
