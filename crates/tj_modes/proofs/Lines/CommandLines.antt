-- The form of the command line: words are one command at most, and its numbers are within their limits.
use Rattle.tj_modes.proofs.Prelude.{All, All-head, All-tail, Bool, Cells, Command, Global, IsWithin, Item, List, Mode}
use Rattle.tj_modes.proofs.Prelude.{None, Option, OptionName, Size, Some, Steps, Workers, [], ap, arith, asked}
use Rattle.tj_modes.proofs.Prelude.{bytes_eq, codes, digits_value, false, flat_map, is_same, map, mode_text, option}
use Rattle.tj_modes.proofs.Prelude.{refl, strict, subst, sym, true, true≢false, unwrap_or, words_of, ℕ, ◌∙◌, ◌∷◌, ◌≡◌}
use Rattle.std.specs.Prelude.{if◌then◌else◌, String, string_bytes}
use Rattle.std.specs.Option.{option_map_or}
use Rattle.tj_modes.specs.CommandLine.{option_text, default, digits_of, number, IsAllowed, IsCommand, HasLimits}
use Rattle.tj_modes.specs.declared.mode.Mode.TheVariants as modes

abbrev pub Text : Type 0
Text = List ℕ

abbrev pub front : List Text → Text
front [] = []
front (word ∷ rest) = word

abbrev pub behind : List Text → List Text
behind [] = []
behind (word ∷ rest) = rest

abbrev pub is_none : List Text → Bool
is_none [] = true
is_none _ = false

-- ---- each word back to what it is

abbrev mode_of : Text → Option Mode
mode_of word = if bytes_eq word (codes "run") then Some modes.Run
    else if bytes_eq word (codes "plan") then Some modes.Plan
    else if bytes_eq word (codes "list") then Some modes.List
    else if bytes_eq word (codes "judge") then Some modes.Judge
    else if bytes_eq word (codes "gen") then Some modes.Gen
    else if bytes_eq word (codes "known") then Some modes.Known
    else if bytes_eq word (codes "relay") then Some modes.Relay
    else if bytes_eq word (codes "watch") then Some modes.Watch else None

mode_of-text : (mode : Mode) → mode_of (mode_text mode) ≡ Some mode
mode_of-text modes.Run = refl
mode_of-text mode = refl

abbrev name_of : Text → Option OptionName
name_of word = if bytes_eq word (codes "--workers") then Some Workers
    else if bytes_eq word (codes "--cells") then Some Cells
    else if bytes_eq word (codes "--steps") then Some Steps
    else if bytes_eq word (codes "--size") then Some Size else None

name_of-text : (name : OptionName) → name_of (option_text name) ≡ Some name
name_of-text Workers = refl
name_of-text name = refl

-- a word belongs to one mode
pub one_mode : (a b : Mode) → mode_text a ≡ mode_text b → a ≡ b
one_mode a b e = ap (λ o. unwrap_or o a) (sym (mode_of-text a) ∙ ap mode_of e ∙ mode_of-text b)

-- a word belongs to one option
pub one_name : (a b : OptionName) → option_text a ≡ option_text b → a ≡ b
one_name a b e = ap (λ o. unwrap_or o a) (sym (name_of-text a) ∙ ap name_of e ∙ name_of-text b)

abbrev is_some_name : Option OptionName → Bool
is_some_name None = false
is_some_name _ = true

-- no option is spelled as the flag
pub no_flag : (name : OptionName) → option_text name ≡ codes "--strict" → ⊥
no_flag name e = true≢false (ap is_some_name (sym (name_of-text name) ∙ ap name_of e))

-- ---- words are the words of one list of items

same_option : (a b : OptionName) (c d : Text) (xs ys : List Item) → a ≡ b → c ≡ d → xs ≡ ys
    → option a c ∷ xs ≡ option b d ∷ ys
same_option a b c d xs ys names digits rest = λ i. option (names i) (digits i) ∷ rest i

pub one_list : (xs ys : List Item) → flat_map words_of xs ≡ flat_map words_of ys → xs ≡ ys
one_list [] [] e = refl
one_list [] (option name digits ∷ ys) e = absurd (true≢false (ap is_none e))
one_list [] (strict ∷ ys) e = absurd (true≢false (ap is_none e))
one_list (option name digits ∷ xs) [] e = absurd (true≢false (ap is_none (sym e)))
one_list (strict ∷ xs) [] e = absurd (true≢false (ap is_none (sym e)))
one_list (option name digits ∷ xs) (strict ∷ ys) e = absurd (no_flag name (ap front e))
one_list (strict ∷ xs) (option name digits ∷ ys) e = absurd (no_flag name (ap front (sym e)))
one_list (strict ∷ xs) (strict ∷ ys) e = ap (λ items. strict ∷ items) (one_list xs ys (ap behind e))
one_list (option a c ∷ xs) (option b d ∷ ys) e =
    same_option a b c d xs ys (one_name a b (ap front e)) (ap (λ words. front (behind words)) e)
    (one_list xs ys (ap (λ words. behind (behind words)) e))

-- words have one mode and one list of items
pub one_reading : (words : List (String Global)) (a b : Mode) (xs ys : List Item)
    → map string_bytes words ≡ mode_text a ∷ flat_map words_of xs
    → map string_bytes words ≡ mode_text b ∷ flat_map words_of ys
    → (a ≡ b) × (xs ≡ ys)
one_reading words a b xs ys p q = (one_mode a b (ap front (sym p ∙ q)), one_list xs ys (ap behind (sym p ∙ q)))

-- words ask for one command at most
pub one_command : (words : List (String Global)) (a b : Command) → IsCommand words a → IsCommand words b → a ≡ b
one_command words a b p q =
    let same = one_reading words p.0 q.0 p.1 q.1 p.2.spelled q.2.spelled in
    p.3 ∙ (λ i. asked (same.0 i) (same.1 i)) ∙ sym q.3

-- ---- limits

abbrev same_pair : OptionName → OptionName → Option OptionName
same_pair a b = if is_same a b then Some b else None

pub same_names : (a b : OptionName) → is_same a b ≡ true → a ≡ b
same_names Workers Workers e = refl
same_names Cells Cells e = refl
same_names Steps Steps e = refl
same_names Size Size e = refl
same_names a b e = absurd (true≢false (sym e))

module _ (mode : Mode) (name : OptionName) where
  abbrev within_or : Option Text → Type 0
  within_or found = IsWithin mode name (option_map_or (digits_value 10) found (default mode name))

  within_here : (other : OptionName) (digits : Text) (items : List Item) → IsAllowed mode (option other digits)
      → within_or (digits_of name items) → (b : Bool) → is_same name other ≡ b
      → within_or (if b then Some digits else digits_of name items)
  within_here other digits items allowed later true e =
      subst (λ n. IsWithin mode n (digits_value 10 digits)) (sym (same_names name other e)) allowed.1
  within_here other digits items allowed later false e = later

  -- the number of an option that the mode has is within its limits
  pub number_within : (items : List Item) → All (IsAllowed mode) items → IsWithin mode name (default mode name)
      → IsWithin mode name (number mode items name)
  number_within [] all absent = absent
  number_within (strict ∷ items) all absent = number_within items (All-tail (IsAllowed mode) strict items all) absent
  number_within (option other digits ∷ items) all absent =
      within_here other digits items (All-head (IsAllowed mode) (option other digits) items all)
      (number_within items (All-tail (IsAllowed mode) (option other digits) items all) absent) (is_same name other) refl

asked_within : (mode : Mode) (items : List Item) → All (IsAllowed mode) items → HasLimits (asked mode items)
asked_within modes.Run items all = (
  number_within modes.Run Workers items all (omega arith, omega arith),
  number_within modes.Run Cells items all (omega arith, omega arith),
  number_within modes.Run Steps items all (omega arith, omega arith),
)
asked_within modes.Plan items all = (
  number_within modes.Plan Cells items all (omega arith, omega arith),
  number_within modes.Plan Steps items all
      (omega arith, omega arith),
)
asked_within modes.List items all = tt
asked_within modes.Judge items all = number_within modes.Judge Cells items all (omega arith, omega arith)
asked_within modes.Gen items all = (
  number_within modes.Gen Size items all (omega arith, omega arith),
  number_within modes.Gen Workers items all (omega arith, omega arith),
  number_within modes.Gen Cells items all (omega arith, omega arith),
  number_within modes.Gen Steps items all (omega arith, omega arith),
)
asked_within modes.Known items all = (
  number_within modes.Known Cells items all (omega arith, omega arith),
  number_within modes.Known Steps items all (omega arith, omega arith),
)
asked_within modes.Relay items all = (
  number_within modes.Relay Size items all (omega arith, omega arith),
  number_within modes.Relay Workers items all (omega arith, omega arith),
  number_within modes.Relay Cells items all (omega arith, omega arith),
)
asked_within modes.Watch items all = (
  number_within modes.Watch Workers items all (omega arith, omega arith),
  number_within modes.Watch Cells items all (omega arith, omega arith),
  number_within modes.Watch Steps items all (omega arith, omega arith),
)

-- each number of a command is within the limits of its mode
pub within_limits : (words : List (String Global)) (command : Command) → IsCommand words command → HasLimits command
within_limits words command p = subst HasLimits (sym p.3) (asked_within p.0 p.1 p.2.allowed)
