-- Items that stand at most once each, by their rows and by the words that they begin with.
use Rattle.tj_modes.proofs.Prelude.{AllByRecursion, Cells, Item, List, Mode, Row, Size, Steps, Workers, [], ap₂}
use Rattle.tj_modes.proofs.Prelude.{bytes_eq, codes, false, first_word, has_row, map, mode_text, option, refl, strict}
use Rattle.tj_modes.proofs.Prelude.{sym, true, ◌++◌, ◌||◌, ◌∙◌, ◌∷◌, ◌≡◌}
use Rattle.std.specs.List.{IsDistinct}
use Rattle.std.proofs.lemmas.List.Folds.{list_any-append}
use Rattle.tj_modes.proofs.Lines.Walks.{row}
use Rattle.tj_modes.proofs.Lines.Reads.{both_of, fresh, is_not, item_row, none_of}
use Rattle.tj_modes.proofs.Lines.Finds.{no_mode}

hyphens : (i : Item) → first_word i ≡ 45 ∷ 45 ∷ (item_row i).id
hyphens (option Workers digits) = refl
hyphens (option Cells digits) = refl
hyphens (option Steps digits) = refl
hyphens (option Size digits) = refl
hyphens strict = refl

same_words : (a b : Item) → bytes_eq (first_word a) (first_word b) ≡ bytes_eq (item_row a).id (item_row b).id
same_words a b = ap₂ bytes_eq (hyphens a) (hyphens b)

-- the item has no row among these
abbrev IsNew : List Row → Item → Type 0
IsNew seen i = has_row (item_row i).id seen ≡ false

one_more : (seen : List Row) (x y : Item)
    → has_row (item_row y).id (seen ++ item_row x ∷ [])
    ≡ (has_row (item_row y).id seen || (bytes_eq (item_row x).id (item_row y).id || false))
one_more seen x y = list_any-append (λ r. bytes_eq r.id (item_row y).id) seen (item_row x ∷ [])

-- what is new behind one more row was new before it, and begins with another word
apart : (seen : List Row) (x : Item) (items : List Item) → AllByRecursion (IsNew (seen ++ item_row x ∷ [])) items
    → AllByRecursion (IsNew seen) items × AllByRecursion (λ w. bytes_eq (first_word x) w ≡ false) (map first_word items)
apart seen x [] new = (tt, tt)
apart seen x (y ∷ items) new =
    let parts = none_of _ _ (sym (one_more seen x y) ∙ new.0) in
    let later = apart seen x items new.1 in
    ((parts.0, later.0), (same_words x y ∙ (none_of _ _ parts.1).0, later.1))

together : (seen : List Row) (x : Item) (items : List Item) → AllByRecursion (IsNew seen) items
    → AllByRecursion (λ w. bytes_eq (first_word x) w ≡ false) (map first_word items)
    → AllByRecursion (IsNew (seen ++ item_row x ∷ [])) items
together seen x [] new others = tt
together seen x (y ∷ items) new others = (
  one_more seen x y ∙ ap₂ (λ a b. a || (b || false)) new.0
      (sym (same_words x y) ∙ others.0),
  together seen x items new.1 others.1,
)

pub once_from_fresh : (seen : List Row) (items : List Item) → fresh seen (map item_row items) ≡ true
    → AllByRecursion (IsNew seen) items × IsDistinct bytes_eq (map first_word items)
unfolding IsDistinct
once_from_fresh seen [] e = (tt, tt)
once_from_fresh seen (x ∷ items) e =
    let parts = both_of _ _ e in
    let later = once_from_fresh (seen ++ item_row x ∷ []) items parts.1 in
    let new = apart seen x items later.0 in
    ((is_not _ parts.0, new.0), (new.1, later.1))

pub fresh_from_once : (seen : List Row) (items : List Item) → AllByRecursion (IsNew seen) items
    → IsDistinct bytes_eq (map first_word items)
    → fresh seen (map item_row items) ≡ true
unfolding IsDistinct
fresh_from_once seen [] new once = refl
fresh_from_once seen (x ∷ items) new once =
    rw new.0 (fresh_from_once (seen ++ item_row x ∷ []) items (together seen x items new.1 once.0) once.1)

pub new_behind_mode : (mode : Mode) (items : List Item)
    → AllByRecursion (IsNew (row (codes "mode") (mode_text mode) ∷ [])) items
new_behind_mode mode [] = tt
new_behind_mode mode (option name digits ∷ items) = (rw (no_mode name) refl, new_behind_mode mode items)
new_behind_mode mode (strict ∷ items) = (refl, new_behind_mode mode items)
