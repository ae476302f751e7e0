-- What the parser finds in the words of a command line.
use Rattle.tj_modes.proofs.Prelude.{AsWritten, Bool, Cells, Item, List, Mode, None, OptionName, Row, Size, Some, Steps}
use Rattle.tj_modes.proofs.Prelude.{Workers, [], ap, ap₂, bytes_eq, digits_of, id_of, is_flag, is_same, map, mode_text}
use Rattle.tj_modes.proofs.Prelude.{option, or_else, refl, strict, sym, take, true, ◌++◌, ◌∙◌, ◌∷◌, ◌≡◌}
use Rattle.std.proofs.Common.{◌||◌, false, drop, codes, append-nil}
use Rattle.std.specs.Prelude.{if◌then◌else◌, option_and_then, slice_get}
use Rattle.std.specs.List.{AllByRecursion, fold, find, list_any}
use Rattle.clap.specs.Walk.{Rule, first_of, has_row, more_values, one_of, with_default, with_values}
use Rattle.clap.specs.Faults.{check_fault, default_fault, given_default_fault, defaults_fault}
use Rattle.clap.specs.declared.parser.matches.ValueSource.TheVariants.{DefaultValue}
use Rattle.tj_modes.proofs.Lines.Walks.{top, row}
use Rattle.tj_modes.proofs.Lines.Reads.{at_none, item_row}

-- ---- what stands for the flag where it is absent

abbrev pub absent_flag : Row
absent_flag = record {
  id = codes "strict";
  values = codes "false" ∷ [];
  count = None;
  source = Some DefaultValue;
  reading = AsWritten;
}

-- the rows that the parser has in the end
abbrev pub final_rows : Mode → List Item → List Row
final_rows mode items = row (codes "mode") (mode_text mode) ∷
    (map item_row items ++ (if list_any is_flag items then [] else absent_flag ∷ []))

either_way : (b : Bool) (rows : List Row) → (if b then rows else rows) ≡ rows
either_way true rows = refl
either_way false rows = refl

-- arguments with a value have no default
abbrev valued_rules : List Rule
valued_rules = take 5 top.rules

abbrev flag_rules : List Rule
flag_rules = drop 5 top.rules

abbrev HasNoDefault : Rule → Type 0
HasNoDefault a = a.defaults ≡ []

none_valued : AllByRecursion HasNoDefault valued_rules
none_valued = (refl, (refl, (refl, (refl, (refl, tt)))))

no_default : (rows : List Row) (a : Rule) → HasNoDefault a → with_default rows a ≡ rows
no_default rows a e = rw e (either_way (has_row a.id rows) rows)

no_defaults : (rows : List Row) (xs rest : List Rule) → AllByRecursion HasNoDefault xs
    → fold with_default rows (xs ++ rest) ≡ fold with_default rows rest
no_defaults rows [] rest none = refl
no_defaults rows (a ∷ xs) rest none = ap (λ r. fold with_default r (xs ++ rest)) (no_default rows a none.0)
    ∙ no_defaults rows xs rest none.1

-- only the flag has a default
with_defaults : (rows : List Row) → fold with_default rows top.rules ≡ (if has_row (codes "strict") rows then rows
    else with_values (codes "strict") AsWritten DefaultValue (codes "false" ∷ []) rows)
with_defaults rows = no_defaults rows valued_rules flag_rules none_valued

strict_row : (items : List Item) → has_row (codes "strict") (map item_row items) ≡ list_any is_flag items
strict_row [] = refl
strict_row (strict ∷ items) = refl
strict_row (option Workers digits ∷ items) = strict_row items
strict_row (option Cells digits ∷ items) = strict_row items
strict_row (option Steps digits ∷ items) = strict_row items
strict_row (option Size digits ∷ items) = strict_row items

pub finals : (mode : Mode) (items : List Item)
    → fold with_default (row (codes "mode") (mode_text mode) ∷ map item_row items) top.rules ≡ final_rows mode items
finals mode items = with_defaults (first ∷ map item_row items) ∙ go (list_any is_flag items) (strict_row items)
  where
    first : Row
    first = row (codes "mode") (mode_text mode)

    go : (b : Bool) → has_row (codes "strict") (map item_row items) ≡ b
        → (if has_row (codes "strict") (first ∷ map item_row items) then first ∷ map item_row items
        else with_values (codes "strict") AsWritten DefaultValue (codes "false" ∷ []) (first ∷ map item_row items))
        ≡ first ∷ (map item_row items ++ (if b then [] else absent_flag ∷ []))
    go true e = rw e (ap (λ rs. first ∷ rs) (sym (append-nil (map item_row items))))
    go false e = rw e (ap (λ rs. first ∷ rs)
        (at_none (codes "strict") (more_values DefaultValue (codes "false" ∷ [])) (absent_flag ∷ [])
        (map item_row items) e))

-- ---- the tests behind the walk

no_default_fault : (rows : List Row) (a : Rule) → HasNoDefault a → default_fault rows a ≡ []
no_default_fault rows a e = rw e (go (has_row a.id rows))
  where
    go : (b : Bool) → (if b || true then [] else given_default_fault a []) ≡ []
    go true = refl
    go false = refl

no_defaults_fault : (rows : List Row) (xs rest : List Rule) → AllByRecursion HasNoDefault xs
    → defaults_fault rows (xs ++ rest) ≡ defaults_fault rows rest
unfolding defaults_fault
no_defaults_fault rows [] rest none = refl
no_defaults_fault rows (a ∷ xs) rest none =
    ap₂ (λ k r. or_else k (defaults_fault r (xs ++ rest))) (no_default_fault rows a none.0) (no_default rows a none.0)
    ∙ no_defaults_fault rows xs rest none.1

flag_default_fault : (rows : List Row) → defaults_fault rows flag_rules ≡ []
unfolding defaults_fault
flag_default_fault rows = go (has_row (codes "strict") rows)
  where
    go : (b : Bool) → or_else (if b || false then [] else []) [] ≡ []
    go true = refl
    go false = refl

pub defaults_pass : (rows : List Row) → defaults_fault rows top.rules ≡ []
defaults_pass rows = no_defaults_fault rows valued_rules flag_rules none_valued ∙ flag_default_fault rows

pub mode_is_there : (mode : Mode) (rows : List Row)
    → check_fault top (row (codes "mode") (mode_text mode) ∷ rows) false ≡ []
mode_is_there mode rows = refl

-- ---- what is found

same_ids : (a b : OptionName) → bytes_eq (id_of b) (id_of a) ≡ is_same a b
same_ids Workers Workers = refl
same_ids a Workers = refl
same_ids a b = refl

pub no_mode : (name : OptionName) → bytes_eq (codes "mode") (id_of name) ≡ false
no_mode Workers = refl
no_mode name = refl

no_strict : (name : OptionName) → bytes_eq (codes "strict") (id_of name) ≡ false
no_strict Workers = refl
no_strict name = refl

never_strict : (name : OptionName) → bytes_eq (id_of name) (codes "strict") ≡ false
never_strict Workers = refl
never_strict name = refl

digits_in : (name : OptionName) (items : List Item) (rest : List Row) → first_of (id_of name) rest ≡ None
    → first_of (id_of name) (map item_row items ++ rest) ≡ digits_of name items
digits_in name [] rest none = none
digits_in name (strict ∷ items) rest none = rw (no_strict name) (digits_in name items rest none)
digits_in name (option other digits ∷ items) rest none = rw (same_ids name other)
    (go (is_same name other) (digits_in name items rest none))
  where
    go : (b : Bool) → first_of (id_of name) (map item_row items ++ rest) ≡ digits_of name items
        → option_and_then (λ (r : Row). slice_get r.values 0) (if b then Some (row (id_of other) digits)
        else find (λ r. bytes_eq r.id (id_of name)) (map item_row items ++ rest))
        ≡ (if b then Some digits else digits_of name items)
    go true e = refl
    go false e = e

no_digits_behind : (name : OptionName) (b : Bool) → first_of (id_of name) (if b then [] else absent_flag ∷ []) ≡ None
no_digits_behind name true = refl
no_digits_behind name false = rw (no_strict name) refl

pub digits_found : (mode : Mode) (items : List Item) (name : OptionName)
    → first_of (id_of name) (final_rows mode items) ≡ digits_of name items
digits_found mode items name = rw (no_mode name)
    (digits_in name items (if list_any is_flag items then [] else absent_flag ∷ [])
    (no_digits_behind name (list_any is_flag items)))

flag_in : (items : List Item) (rest : List Row) → one_of (codes "strict") (map item_row items ++ rest)
    ≡ (if list_any is_flag items then Some (codes "true") else one_of (codes "strict") rest)
flag_in [] rest = refl
flag_in (strict ∷ items) rest = refl
flag_in (option name digits ∷ items) rest = rw (never_strict name) (flag_in items rest)

pub flag_found : (mode : Mode) (items : List Item)
    → one_of (codes "strict") (final_rows mode items)
    ≡ Some (if list_any is_flag items then codes "true" else codes "false")
flag_found mode items = flag_in items (if list_any is_flag items then [] else absent_flag ∷ [])
    ∙ go (list_any is_flag items)
  where
    go : (b : Bool) → (if b then Some (codes "true") else one_of (codes "strict") (if b then [] else absent_flag ∷ []))
        ≡ Some (if b then codes "true" else codes "false")
    go true = refl
    go false = refl
