-- A parse of words that passed the test before it.
use Rattle.tj_modes.proofs.Prelude.{All, All-head, All-tail, AllByRecursion, AreLineWords, AreMatchesOf, Global}
use Rattle.tj_modes.proofs.Prelude.{IsLineWord, IsReading, Item, List, Mode, Text, [], ap, codes, fault_of, id_of}
use Rattle.tj_modes.proofs.Prelude.{inl, inr, line_app, map, matches_of, mode_text, one_of, refl, sym, ◌∙◌, ◌∷◌, ◌≡◌}
use Rattle.std.specs.Prelude.{String, string_bytes}
use Rattle.clap.specs.Matches.{found_of}
use Rattle.clap.specs.Walk.{first_of, rows_of}
use Rattle.clap.proofs.WalkLemmas.{first_value-rows, one_text-rows}
use Rattle.clap.specs.declared.parser.matches.ArgMatches.{ArgMatches}
use Rattle.tj_modes.proofs.Lines.Reads.{IsWord, Word, name, flag, digits, text_of}
use Rattle.tj_modes.proofs.Lines.Finds.{digits_found, final_rows, flag_found}
use Rattle.tj_modes.proofs.Lines.Faults.{line_found, line_read}

abbrev LineText : String Global → Type 0
LineText word = IsLineWord (string_bytes word)

-- words of which each is one that may stand behind the mode
abbrev AreWords : List (String Global) → Type 0
AreWords words = (ks : List Word) × (map string_bytes words ≡ map text_of ks) × AllByRecursion IsWord ks

one_word : (text : Text) → IsLineWord text → (k : Word) × (text ≡ text_of k) × IsWord k
one_word text (inl n) = (name n.0, n.1, tt)
one_word text (inr (inl e)) = (flag, e, tt)
one_word text (inr (inr d)) = (digits text, refl, d)

line_words : (words : List (String Global)) → All LineText words → AreWords words
line_words [] all = ([], refl, tt)
line_words (word ∷ words) all =
    let first = one_word (string_bytes word) (All-head LineText word words all) in
    let rest = line_words words (All-tail LineText word words all) in
    (first.0 ∷ rest.0, (λ i. first.1 i ∷ rest.1 i), (first.2, rest.2))

-- words without a fault are those of a mode and of items, each at most once
pub read_words : (words : List (String Global)) → AreLineWords words → fault_of line_app (map string_bytes words) ≡ []
    → (mode : Mode) × (items : List Item) × IsReading words mode items
read_words [] line e = absurd line
read_words (first ∷ rest) line e =
    let mode = line.0.0 in
    let ks = line_words rest line.1 in
    let texts : map string_bytes (first ∷ rest) ≡ mode_text mode ∷ map text_of ks.0 = λ i. line.0.1 i ∷ ks.1 i in
    let found = line_read mode ks.0 ks.2 (ap (fault_of line_app) (sym texts) ∙ e) in (
      mode,
      found.0,
      record {
        spelled = texts ∙ ap (λ ws. mode_text mode ∷ ws) found.1;
        are_items = record { once = found.3; numerals = found.2 };
      },
    )

-- they have no fault then
pub no_fault : (words : List (String Global)) (mode : Mode) (items : List Item) → IsReading words mode items
    → fault_of line_app (map string_bytes words) ≡ []
no_fault words mode items reading =
    ap (fault_of line_app) reading.spelled ∙ (line_found mode items reading.are_items.numerals reading.are_items.once).0

-- and are found so
pub are_matches : (words : List (String Global)) (m : ArgMatches) → AreLineWords words
    → fault_of line_app (map string_bytes words) ≡ []
    → rows_of (found_of m) ≡ matches_of line_app (map string_bytes words) → AreMatchesOf words m
are_matches words m line e found =
    let reading = read_words words line e in
    let mode = reading.0 in
    let items = reading.1 in
    let rows : rows_of (found_of m) ≡ final_rows mode items =
    found ∙ ap (matches_of line_app) reading.2.spelled
    ∙ (line_found mode items reading.2.are_items.numerals reading.2.are_items.once).1 in (
      mode,
      items,
      reading.2,
      record {
        mode_found = first_value-rows (found_of m) (codes "mode") ∙ ap (first_of (codes "mode")) rows;
        digits_found = λ n. first_value-rows (found_of m) (id_of n) ∙ ap (first_of (id_of n)) rows
            ∙ digits_found mode items n;
        flag_found = one_text-rows (found_of m) (codes "strict") ∙ ap (one_of (codes "strict")) rows
            ∙ flag_found mode items;
      },
    )
