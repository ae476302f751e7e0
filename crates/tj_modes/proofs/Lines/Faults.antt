-- The words of a mode and of items, each at most once, have no fault, and words without a fault are such.
use Rattle.tj_modes.proofs.Prelude.{HasNumeral, Item, Kinds, Mode, Row, Text, Walk, [], ap, ap₂, bytes_eq, first_word}
use Rattle.tj_modes.proofs.Prelude.{if◌then◌else◌, is_flag, line_app, map, mode_text, or_else, sym, words_of, ◌≡◌}
use Rattle.std.proofs.Common.{◌∙◌, List, ◌∷◌, codes, false, subst, ◌++◌, Option, Some, None, is_some}
use Rattle.std.specs.List.{AllByRecursion, IsDistinct, flat_map, fold, list_any}
use Rattle.clap.specs.Walk.{nothing_held, walk, walk_from, with_default}
use Rattle.clap.specs.Simple.{matches_of, built, entered}
use Rattle.clap.specs.Faults.{fault_of, check_fault, defaults_fault, entered_fault, settle_fault, walk_fault}
use Rattle.tj_modes.proofs.Lines.Reads.{IsWord, Word, text_of, Ends, PassOn, Passes, are_items, both_empty, item_row}
use Rattle.tj_modes.proofs.Lines.Reads.{takes_items, walk_on}
use Rattle.tj_modes.proofs.Lines.Walks.{the_mode, top, row, stand, first_step, first_fault}
use Rattle.tj_modes.proofs.Lines.Finds.{defaults_pass, final_rows, finals, mode_is_there, absent_flag}
use Rattle.tj_modes.proofs.Lines.Once.{once_from_fresh, fresh_from_once, new_behind_mode}

module _ (mode : Mode) (rest : List Text) where
  abbrev words : List Text
  words = mode_text mode ∷ rest

  abbrev behind_mode : Walk
  behind_mode = stand [] (Some (the_mode, mode_text mode))

  walk_is : walk top.rules [] nothing_held words ≡ walk_on behind_mode rest
  walk_is = ap (λ w. walk_on w rest) (first_step mode)

  fault_is : walk_fault top [] (walk_from nothing_held) words ≡ walk_fault top [] behind_mode rest
  unfolding walk_fault
  fault_is = ap₂ (λ k w. or_else k (walk_fault top [] w rest)) (first_fault mode) (first_step mode)

  -- words that have no fault pass to their end
  pub passes_from : fault_of line_app words ≡ [] → PassOn behind_mode rest
  passes_from e =
      let parts = both_empty _ _ e in
      let later = both_empty _ _ (both_empty _ _ parts.1).1 in
      (sym fault_is ∙ parts.0, subst (λ w. settle_fault top.rules false w.held ≡ []) walk_is later.0)

-- the tests behind a walk that stopped there, with that fault and those rows
abbrev tests : Option (Text × List Text) → Kinds → List Row → Kinds
tests stopped fault rows = or_else (entered_fault (built line_app) stopped)
    (or_else fault (or_else (defaults_fault rows top.rules)
    (check_fault top (fold with_default rows top.rules) (is_some (entered (built line_app) stopped)))))

-- the words of a mode and of items that stand at most once each have no fault, and these are the rows
pub line_found : (mode : Mode) (items : List Item) → AllByRecursion HasNumeral items
    → IsDistinct bytes_eq (map first_word items)
    → (fault_of line_app (mode_text mode ∷ flat_map words_of items) ≡ [])
    × (matches_of line_app (mode_text mode ∷ flat_map words_of items) ≡ final_rows mode items)
line_found mode items digits once = (faults, found)
  where
    first : Row
    first = row (codes "mode") (mode_text mode)

    rest : List Text
    rest = flat_map words_of items

    rows : List Row
    rows = row (codes "mode") (mode_text mode) ∷ map item_row items

    passes : Passes (behind_mode mode rest) rest rows
    passes = takes_items [] (Some (the_mode, mode_text mode)) items digits
        (fresh_from_once (row (codes "mode") (mode_text mode) ∷ []) items (new_behind_mode mode items) once)

    ends : Ends (walk top.rules [] nothing_held (words mode rest)) rows
    ends = subst (λ w. Ends w rows) (sym (walk_is mode rest)) passes.1

    last : tests None [] rows ≡ []
    last = ap₂ (λ k r. or_else k (check_fault top r false)) (defaults_pass rows) (finals mode items)
        ∙ mode_is_there mode (map item_row items ++ (if list_any is_flag items then [] else absent_flag ∷ []))

    faults : fault_of line_app (mode_text mode ∷ flat_map words_of items) ≡ []
    faults = (λ i. or_else ((fault_is mode rest ∙ passes.0) i)
        (tests (ends.not_stopped i) (ends.no_fault i) (ends.rows_are i))) ∙ last

    found : matches_of line_app (mode_text mode ∷ flat_map words_of items) ≡ final_rows mode items
    found = ap (λ r. fold with_default r top.rules) ends.rows_are ∙ finals mode items

-- words that may stand behind a mode and have no fault are those of items that stand at most once each
pub line_read : (mode : Mode) (ks : List Word) → AllByRecursion IsWord ks
    → fault_of line_app (mode_text mode ∷ map text_of ks) ≡ []
    → (items : List Item) × (map text_of ks ≡ flat_map words_of items) × AllByRecursion HasNumeral items
    × IsDistinct bytes_eq (map first_word items)
line_read mode ks d e =
    let found = are_items [] (Some (the_mode, mode_text mode)) ks d (passes_from mode (map text_of ks) e) in
    (found.0, found.1, found.2, (once_from_fresh (row (codes "mode") (mode_text mode) ∷ []) found.0 found.3).1)
