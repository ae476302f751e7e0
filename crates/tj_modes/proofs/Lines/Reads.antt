-- The parser takes exactly the words of items that stand at most once each, and has a row for each of them.
use Rattle.tj_modes.proofs.Prelude.{AllByRecursion, AsWritten, Bool, CommandLine, HasNumeral, IsShortNumeral, Item}
use Rattle.tj_modes.proofs.Prelude.{Kinds, List, None, OptionName, Row, Some, Text, Walk, [], ap, append-nil}
use Rattle.tj_modes.proofs.Prelude.{append_assoc, ap₂, arith, bytes_eq, codes, false, flat_map, fold, has_row, id_of}
use Rattle.tj_modes.proofs.Prelude.{is_ascii_digit, map, option, option_text, or_else, refl, strict, subst, sym, true}
use Rattle.tj_modes.proofs.Prelude.{true≢false, walked, words_of, ℕ, ◌&&◌, ◌++◌, ◌==◌, ◌||◌, ◌∙◌, ◌∷◌, ◌≡◌, ◌≤◌}
use Rattle.std.specs.Prelude.{not}
use Rattle.std.proofs.lemmas.Bool.{eqb-true}
use Rattle.clap.specs.Walk.{at_row, more_values, settled, with_values}
use Rattle.clap.specs.Faults.{settle_fault, turn_fault, walk_fault}
use Rattle.clap.specs.declared.error.kind.ErrorKind.{ErrorKind}
use Rattle.tj_modes.proofs.Lines.Walks.{Unsettled, the_option, id_at, top, row, rows_of, stand, waits, after, added}
use Rattle.tj_modes.proofs.Lines.Walks.{after_is, fault_at, settle_fault_is, repeat_kinds, name_step, name_fault}
use Rattle.tj_modes.proofs.Lines.Walks.{flag_step, flag_fault, number_step, number_fault, stray_fault, name_waits}
use Rattle.tj_modes.proofs.Lines.Walks.{flag_waits, end_waits}
use Rattle.clap.specs.declared.error.kind.ErrorKind.TheVariants as kind

-- ---- rows that are added

pub none_of : (a b : Bool) → (a || b) ≡ false → (a ≡ false) × (b ≡ false)
none_of false b e = (refl, e)
none_of true b e = absurd (true≢false e)

pub both_of : (a b : Bool) → (a && b) ≡ true → (a ≡ true) × (b ≡ true)
both_of true b e = (refl, e)
both_of false b e = absurd (true≢false (sym e))

pub is_not : (a : Bool) → not a ≡ true → a ≡ false
is_not false e = refl
is_not true e = absurd (true≢false (sym e))

pub at_none : (id : Text) (change : Row → List Row) (missing rows : List Row) → has_row id rows ≡ false
    → at_row id change missing rows ≡ rows ++ missing
at_none id change missing [] e = refl
at_none id change missing (r ∷ rows) e =
    let apart = none_of (bytes_eq r.id id) (has_row id rows) e in
    rw apart.0 (ap (λ rs. r ∷ rs) (at_none id change missing rows apart.1))

added_new : (id value : Text) (rows : List Row) → has_row id rows ≡ false
    → added id value rows ≡ rows ++ row id value ∷ []
added_new id value rows e =
    let kept = at_none id (λ _. []) [] rows e ∙ append-nil rows in
    ap (with_values id AsWritten CommandLine (value ∷ [])) kept
    ∙ at_none id (more_values CommandLine (value ∷ [])) (row id value ∷ []) rows e

-- ---- rows with ids of their own

-- no row of the second list has the id of one before it
abbrev pub fresh : List Row → List Row → Bool
fresh seen [] = true
fresh seen (r ∷ rows) = not (has_row r.id seen) && fresh (seen ++ r ∷ []) rows

abbrev pub item_row : Item → Row
item_row (option name digits) = row (id_of name) digits
item_row strict = row (codes "strict") (codes "true")

settles : (rows : List Row) (o : Unsettled) (more : List Row) → fresh rows (rows_of o ++ more) ≡ true
    → (fault_at rows o ≡ []) × (after rows o ≡ rows ++ rows_of o) × (fresh (rows ++ rows_of o) more ≡ true)
settles rows None more e = (refl, sym (append-nil rows), subst (λ r. fresh r more ≡ true) (sym (append-nil rows)) e)
settles rows (Some p) more e =
    let parts = both_of _ _ e in
    let missing : has_row (id_at p.0) rows ≡ false = is_not _ parts.0 in (
      settle_fault_is rows p.0 p.1 ∙ ap repeat_kinds missing,
      after_is rows p.0 p.1
          ∙ added_new (id_at p.0) p.1 rows missing,
      parts.1,
    )

some_kind : {k : Kinds} → kind.ArgumentConflict ∷ k ≡ [] → ⊥
some_kind e = true≢false (ap (λ (l : Kinds). elim l [ [] ↦ false | x ∷ xs ↦ true ]) e)

settled_back : (rows : List Row) (o : Unsettled) → fault_at rows o ≡ []
    → (after rows o ≡ rows ++ rows_of o)
    × ((more : List Row) → fresh (rows ++ rows_of o) more ≡ true → fresh rows (rows_of o ++ more) ≡ true)
settled_back rows None e = (sym (append-nil rows), λ more f. subst (λ r. fresh r more ≡ true) (append-nil rows) f)
settled_back rows (Some p) e = go (has_row (id_at p.0) rows) refl
  where
    go : (b : Bool) → has_row (id_at p.0) rows ≡ b
        → (after rows (Some p) ≡ rows ++ rows_of (Some p))
        × ((more : List Row) → fresh (rows ++ rows_of (Some p)) more ≡ true
        → fresh rows (rows_of (Some p) ++ more) ≡ true)
    go true is = absurd (some_kind (sym (settle_fault_is rows p.0 p.1 ∙ ap repeat_kinds is) ∙ e))
    go false is = (after_is rows p.0 p.1 ∙ added_new (id_at p.0) p.1 rows is, λ more f. rw is f)

-- ---- the walk over the words of items

abbrev pub walk_on : Walk → List Text → Walk
walk_on w words = fold (walked top.rules []) w words

-- the walk ends with these rows
pub record Ends (w : Walk) (rows : List Row) : Type 0 where
  pub no_fault : settle_fault top.rules false w.held ≡ []
  pub rows_are : (settled top.rules w.held).rows ≡ rows
  pub not_stopped : w.stopped ≡ None

-- the words pass, and the walk over them ends with these rows
abbrev pub Passes : Walk → List Text → List Row → Type 0
Passes w words rows = (walk_fault top [] w words ≡ []) × Ends (walk_on w words) rows

passes_on : (w next : Walk) (word : Text) (words : List Text) (rows : List Row) → turn_fault top [] w word ≡ []
    → walked top.rules [] w word ≡ next → Passes next words rows → Passes w (word ∷ words) rows
unfolding walk_fault
passes_on w next word words rows fault step passes = (
  ap₂ or_else fault (ap (λ v. walk_fault top [] v words) step ∙ passes.0),
  subst (λ v. Ends (walk_on v words) rows) (sym step) passes.1,
)

passes_end : (w : Walk) (rows : List Row) → Ends w rows → Passes w [] rows
unfolding walk_fault
passes_end w rows ends = (refl, ends)

-- a number isn't empty, and begins with no hyphen
never_empty : IsShortNumeral [] → ⊥
never_empty d = let some : 1 ≤ 0 = d.some in absurd (omega arith)

starts : (a : ℕ) (rest : Text) → IsShortNumeral (a ∷ rest) → (a == 45) ≡ false
starts a rest d = go (a == 45) refl
  where
    go : (b : Bool) → (a == 45) ≡ b → b ≡ false
    go false e = refl
    go true e = sym (subst (λ n. is_ascii_digit n ≡ true) (eqb-true a 45 e) (both_of _ _ d.decimal).0)

-- the words of items that stand at most once each pass, with a row for each item
pub takes_items : (rows : List Row) (o : Unsettled) (items : List Item) → AllByRecursion HasNumeral items
    → fresh rows (rows_of o ++ map item_row items) ≡ true
    → Passes (stand rows o) (flat_map words_of items) (rows ++ (rows_of o ++ map item_row items))
takes_items rows o [] d e =
    let s = settles rows o [] e in
    passes_end _ _ (record {
      no_fault = s.0;
      rows_are = s.1 ∙ ap (λ r. rows ++ r) (sym (append-nil (rows_of o)));
      not_stopped = refl;
    })
takes_items rows o (option name [] ∷ items) d e = absurd (never_empty d.0)
takes_items rows o (option name (a ∷ rest) ∷ items) d e =
    let mine = row (id_of name) (a ∷ rest) in
    let s = settles rows o (mine ∷ map item_row items) e in
    let now = rows ++ rows_of o in
    passes_on (stand rows o) (waits now name) (option_text name) ((a ∷ rest) ∷ flat_map words_of items) _
    (name_fault rows o name ∙ ap (λ k. or_else k []) s.0) (name_step rows o name ∙ ap (λ r. waits r name) s.1)
    (passes_on (waits now name) (stand now (Some (the_option name, a ∷ rest))) (a ∷ rest) (flat_map words_of items) _
    (number_fault now name a rest (starts a rest d.0)) (number_step now name a rest (starts a rest d.0))
    (subst (Passes (stand now (Some (the_option name, a ∷ rest))) (flat_map words_of items))
    (append_assoc rows (rows_of o) (mine ∷ map item_row items))
    (takes_items now (Some (the_option name, a ∷ rest)) items d.1 s.2)))
takes_items rows o (strict ∷ items) d e =
    let mine = row (codes "strict") (codes "true") in
    let s = settles rows o (mine ∷ map item_row items) e in
    let now = rows ++ rows_of o in
    let parts = both_of _ _ s.2 in
    let missing : has_row (codes "strict") now ≡ false = is_not _ parts.0 in
    passes_on (stand rows o) (stand (now ++ mine ∷ []) None) (codes "--strict") (flat_map words_of items) _
    (flag_fault rows o ∙ ap₂ (λ k r. or_else k (repeat_kinds (has_row (codes "strict") r))) s.0 s.1
    ∙ ap repeat_kinds missing)
    (flag_step rows o ∙ ap (λ r. stand (added (codes "strict") (codes "true") r) None) s.1
    ∙ ap (λ r. stand r None) (added_new (codes "strict") (codes "true") now missing))
    (subst (Passes (stand (now ++ mine ∷ []) None) (flat_map words_of items))
    (append_assoc now (mine ∷ []) (map item_row items) ∙ append_assoc rows (rows_of o) (mine ∷ map item_row items))
    (takes_items (now ++ mine ∷ []) None items d.1 parts.1))

-- ---- words that pass are the words of items

-- a word that may stand behind the mode
pub data Word : Type 0 where
  name : OptionName → Word
  flag : Word
  digits : Text → Word

abbrev pub text_of : Word → Text
text_of (name n) = option_text n
text_of flag = codes "--strict"
text_of (digits d) = d

abbrev pub IsWord : Word → Type 0
IsWord (digits d) = IsShortNumeral d
IsWord _ = Unit {0}

-- the words are those of items that stand at most once each, and not in the rows before them
abbrev pub AreItemsFrom : List Row → Unsettled → List Text → Type 0
AreItemsFrom rows o words = (items : List Item) × (words ≡ flat_map words_of items) × AllByRecursion HasNumeral items
    × (fresh rows (rows_of o ++ map item_row items) ≡ true)

-- the words pass to their end
abbrev pub PassOn : Walk → List Text → Type 0
PassOn w words = (walk_fault top [] w words ≡ []) × (settle_fault top.rules false (walk_on w words).held ≡ [])

pub both_empty : (k l : Kinds) → or_else k l ≡ [] → (k ≡ []) × (l ≡ [])
both_empty [] l e = (refl, e)
both_empty (x ∷ k) l e = absurd (true≢false (ap (λ (l : Kinds). elim l [ [] ↦ false | x ∷ xs ↦ true ]) e))

-- what passes, passes behind its first word too
after_word : (w : Walk) (word : Text) (words : List Text) → PassOn w (word ∷ words)
    → (turn_fault top [] w word ≡ []) × ((next : Walk) → walked top.rules [] w word ≡ next → PassOn next words)
unfolding walk_fault
after_word w word words p =
    let parts = both_empty _ _ p.0 in
    (parts.0, λ next step. subst (λ v. PassOn v words) step (parts.1, p.1))

refused : (x : ErrorKind) (w : Walk) (word : Text) (words : List Text) → turn_fault top [] w word ≡ x ∷ []
    → PassOn w (word ∷ words) → ⊥
refused x w word words is p = true≢false
    (ap (λ (l : Kinds). elim l [ [] ↦ false | x ∷ xs ↦ true ]) (sym is ∙ (after_word w word words p).0))

prepend_option : (rows : List Row) (o : Unsettled) (n : OptionName) (a : ℕ) (rest : Text) (words : List Text)
    → IsShortNumeral (a ∷ rest)
    → ((more : List Row) → fresh (rows ++ rows_of o) more ≡ true → fresh rows (rows_of o ++ more) ≡ true)
    → AreItemsFrom (rows ++ rows_of o) (Some (the_option n, a ∷ rest)) words
    → AreItemsFrom rows o (option_text n ∷ (a ∷ rest) ∷ words)
prepend_option rows o n a rest words is back q =
    (option n (a ∷ rest) ∷ q.0, ap (λ ws. option_text n ∷ (a ∷ rest) ∷ ws) q.1, (is, q.2), back _ q.3)

-- the flag may stand here, since it stands nowhere before
abbrev BackFrom : List Row → Unsettled → Type 0
BackFrom rows o = (after rows o ≡ rows ++ rows_of o)
    × ((more : List Row) → fresh (rows ++ rows_of o) more ≡ true → fresh rows (rows_of o ++ more) ≡ true)

with_flag : (rows : List Row) (o : Unsettled) (ks : List Word) → BackFrom rows o
    → repeat_kinds (has_row (codes "strict") (rows ++ rows_of o)) ≡ [] → (b : Bool)
    → has_row (codes "strict") (rows ++ rows_of o) ≡ b
    → (has_row (codes "strict") (rows ++ rows_of o) ≡ false
    → AreItemsFrom ((rows ++ rows_of o) ++ row (codes "strict") (codes "true") ∷ []) None (map text_of ks))
    → AreItemsFrom rows o (codes "--strict" ∷ map text_of ks)
with_flag rows o ks s none true is items = absurd (some_kind (sym (ap repeat_kinds is) ∙ none))
with_flag rows o ks s none false is items =
    let q = items is in
    (strict ∷ q.0, ap (λ ws. codes "--strict" ∷ ws) q.1, (tt, q.2), s.1 _ (rw is q.3))

pub are_items : (rows : List Row) (o : Unsettled) (ks : List Word) → AllByRecursion IsWord ks
    → PassOn (stand rows o) (map text_of ks)
    → AreItemsFrom rows o (map text_of ks)
are_items rows o [] d p = ([], refl, tt, (settled_back rows o p.1).1 [] refl)
are_items rows o (digits [] ∷ ks) d p = absurd (never_empty d.0)
are_items rows o (digits (a ∷ rest) ∷ ks) d p = absurd
    (refused _ _ _ _ (stray_fault rows o a rest (starts a rest d.0)) p)
are_items rows o (name n ∷ []) d p =
    let back = after_word (stand rows o) (option_text n) [] p in
    let last = back.1 (waits (after rows o) n) (name_step rows o n) in
    absurd (true≢false (ap (λ (l : Kinds). elim l [ [] ↦ false | x ∷ xs ↦ true ])
    (sym (end_waits (after rows o) n) ∙ last.1)))
are_items rows o (name n ∷ name m ∷ ks) d p =
    let back = after_word (stand rows o) (option_text n) (option_text m ∷ map text_of ks) p in
    absurd (refused _ _ _ _ (name_waits (after rows o) n m) (back.1 (waits (after rows o) n) (name_step rows o n)))
are_items rows o (name n ∷ flag ∷ ks) d p =
    let back = after_word (stand rows o) (option_text n) (codes "--strict" ∷ map text_of ks) p in
    absurd (refused _ _ _ _ (flag_waits (after rows o) n) (back.1 (waits (after rows o) n) (name_step rows o n)))
are_items rows o (name n ∷ digits [] ∷ ks) d p = absurd (never_empty d.1.0)
are_items rows o (name n ∷ digits (a ∷ rest) ∷ ks) d p =
    let back = after_word (stand rows o) (option_text n) ((a ∷ rest) ∷ map text_of ks) p in
    let fault = (both_empty _ _ (sym (name_fault rows o n) ∙ back.0)).0 in
    let s = settled_back rows o fault in
    let now = rows ++ rows_of o in
    let next = back.1 (waits now n) (name_step rows o n ∙ ap (λ r. waits r n) s.0) in
    let last = after_word (waits now n) (a ∷ rest) (map text_of ks) next in
    prepend_option rows o n a rest (map text_of ks) d.1.0 s.1
    (are_items now (Some (the_option n, a ∷ rest)) ks d.1.1
    (last.1 (stand now (Some (the_option n, a ∷ rest))) (number_step now n a rest (starts a rest d.1.0))))
are_items rows o (flag ∷ ks) d p =
    let back = after_word (stand rows o) (codes "--strict") (map text_of ks) p in
    let faults = both_empty _ _ (sym (flag_fault rows o) ∙ back.0) in
    let s = settled_back rows o faults.0 in
    with_flag rows o ks s (ap (λ r. repeat_kinds (has_row (codes "strict") r)) (sym s.0) ∙ faults.1)
    (has_row (codes "strict") (rows ++ rows_of o)) refl
    (λ missing. are_items ((rows ++ rows_of o) ++ row (codes "strict") (codes "true") ∷ []) None ks d.1
    (back.1 _ (flag_step rows o ∙ ap (λ r. stand (added (codes "strict") (codes "true") r) None) s.0
    ∙ ap (λ r. stand r None) (added_new (codes "strict") (codes "true") (rows ++ rows_of o) missing))))
