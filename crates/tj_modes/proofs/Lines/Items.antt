-- Items that a mode has, each at most once.
use Rattle.tj_modes.proofs.Prelude.{All, All-head, AllFit, AreLineWords, Bool, Cells, Command, Global, HasNumeral}
use Rattle.tj_modes.proofs.Prelude.{IfSome, IsCommand, IsLineWord, IsReading, IsWithin, Item, List, MatchOption, Mode}
use Rattle.tj_modes.proofs.Prelude.{None, Option, OptionName, Size, Some, Steps, Workers, [], ap, bytes_eq, codes}
use Rattle.tj_modes.proofs.Prelude.{digits_of, false, flat_map, greatest, has_flag, inl, inr, is_flag, is_same, map}
use Rattle.tj_modes.proofs.Prelude.{mode_text, option, refl, strict, subst, sym, true, true≢false, unwrap_or, words_of}
use Rattle.tj_modes.proofs.Prelude.{ℕ, ◌∙◌, ◌∷◌, ◌≡◌, ◌≤◌}
use Rattle.std.specs.Prelude.{if◌then◌else◌, is_some, String, string_bytes}
use Rattle.std.specs.List.{AllByRecursion, IsDistinct, list_any}
use Rattle.std.specs.Option.{IsSomeAnd}
use Rattle.std.specs.Str.Parse.{digits_value}
use Rattle.std.proofs.lemmas.List.Elements.{All-cons, All-nil, All-tail}
use Rattle.tj_modes.specs.CommandLine.{IsAllowed, IsLine, IsShortNumeral, HasNoForm, first_word, option_text}
use Rattle.tj_command.specs.Numerals.{IsNumberUpTo}
use Rattle.tj_modes.specs.Inner.LineNumbers.{AreNumbersOf, IsAnswerTo, IsFit, IsNumberOf, number_for}
use Rattle.tj_modes.specs.declared.command.Numbers.{Numbers}
use Rattle.tj_modes.proofs.Lines.CommandLines.{behind, front, is_none, one_mode, one_reading, same_names}

-- ---- the digits of an option

-- the digits of an option are those of an item
module _ (P : Item → Type 0) (name : OptionName) where
  pub from_items : (items : List Item) → AllByRecursion P items → IfSome (digits_of name items) (λ d. P (option name d))
  from_items [] all = tt
  from_items (strict ∷ items) all = from_items items all.1
  from_items (option other digits ∷ items) all = here other digits (digits_of name items)
      (is_same name other) refl all.0 (from_items items all.1)
    where
      here : (other : OptionName) (digits : List ℕ) (later : Option (List ℕ)) (b : Bool) → is_same name other ≡ b
          → P (option other digits)
          → IfSome later (λ d. P (option name d)) → IfSome (if b then Some digits else later) (λ d. P (option name d))
      here other digits later true e p q = subst (λ n. P (option n digits)) (sym (same_names name other e)) p
      here other digits later false e p q = q

-- the digits of an option are a number
pub numeral_of : (name : OptionName) (items : List Item) → AllByRecursion HasNumeral items
    → IfSome (digits_of name items) IsShortNumeral
numeral_of name items all = from_items HasNumeral name items all

by_recursion : (P : Item → Type 0) (items : List Item) → All P items → AllByRecursion P items
by_recursion P [] all = tt
by_recursion P (x ∷ items) all = (All-head P x items all, by_recursion P items (All-tail P x items all))

-- each option of items that the mode has fits
pub fits : (mode : Mode) (items : List Item) → All (IsAllowed mode) items → AllFit mode items
fits mode items all name = go (digits_of name items)
    (from_items (IsAllowed mode) name items (by_recursion (IsAllowed mode) items all))
  where
    go : (d : Option (List ℕ)) → IfSome d (λ d. IsAllowed mode (option name d))
        → IfSome d (λ d. IsWithin mode name (digits_value 10 d))
    go None p = tt
    go (Some d) p = p.1

-- and with the flag the mode has the flag
pub flag_allowed : (mode : Mode) (items : List Item) → All (IsAllowed mode) items → list_any is_flag items ≡ true
    → has_flag mode ≡ true
flag_allowed mode [] all e = absurd (true≢false (sym e))
flag_allowed mode (strict ∷ items) all e = All-head (IsAllowed mode) strict items all
flag_allowed mode (option name digits ∷ items) all e = flag_allowed mode items
    (All-tail (IsAllowed mode) (option name digits) items all) e

-- ---- from the options to the items

same_texts : (a b : OptionName) → bytes_eq (option_text a) (option_text b) ≡ is_same a b
same_texts Workers Workers = refl
same_texts a Workers = refl
same_texts a b = refl

same_self : (name : OptionName) → is_same name name ≡ true
same_self Workers = refl
same_self name = refl

-- an option that no item begins with has no digits
absent : (name : OptionName) (items : List Item)
    → AllByRecursion (λ w. bytes_eq (option_text name) w ≡ false) (map first_word items)
    → digits_of name items ≡ None
absent name [] apart = refl
absent name (strict ∷ items) apart = absent name items apart.1
absent name (option other digits ∷ items) apart = rw (sym (same_texts name other) ∙ apart.0) (absent name items apart.1)

module _ (mode : Mode) where
  fit_behind : (n : OptionName) (digits : List ℕ) (items : List Item) → digits_of n items ≡ None
      → AllFit mode (option n digits ∷ items)
      → AllFit mode items
  fit_behind n digits items none fit name = go (is_same name n) refl (fit name)
    where
      go : (b : Bool) → is_same name n ≡ b → IsFit mode name (if b then Some digits else digits_of name items)
          → IsFit mode name (digits_of name items)
      go true e p = subst (λ m. IsFit mode m (digits_of m items)) (sym (same_names name n e))
          (subst (IsFit mode n) (sym none) tt)
      go false e p = p

  -- a mode that every option fits has all of the items, if it has the flag where it stands
  pub allowed : (items : List Item) → IsDistinct bytes_eq (map first_word items) → AllByRecursion HasNumeral items
      → AllFit mode items
      → (list_any is_flag items ≡ true → has_flag mode ≡ true) → All (IsAllowed mode) items
  unfolding IsDistinct
  allowed [] once numerals fit flag = All-nil (IsAllowed mode)
  allowed (strict ∷ items) once numerals fit flag =
      All-cons (IsAllowed mode) strict items (flag refl) (allowed items once.1 numerals.1 fit (λ e. flag refl))
  allowed (option n digits ∷ items) once numerals fit flag =
      let mine : IsFit mode n (Some digits) = subst (λ b. IsFit mode n (if b then Some digits else digits_of n items))
      (same_self n) (fit n) in
      All-cons (IsAllowed mode) (option n digits) items (numerals.0, mine)
      (allowed items once.1 numerals.1 (fit_behind n digits items (absent n items once.0) fit) flag)

-- ---- one number

-- the number of an option is that of its digits, up to the option's greatest
pub number_of : (mode : Mode) (name : OptionName) (most : ℕ) (digits : List ℕ) (answer : Option ℕ)
    → greatest mode name ≡ Some most → IsNumberUpTo most digits answer → IsNumberOf mode name (Some digits) answer
number_of mode name most digits None limit is = λ fit. is (subst (λ o. IsSomeAnd o
    (λ m. (1 ≤ digits_value 10 digits) × (digits_value 10 digits ≤ m))) limit fit)
number_of mode name most digits (Some n) limit is = (
  subst (λ o. IsSomeAnd o (λ m. (1 ≤ digits_value 10 digits) × (digits_value 10 digits ≤ m))) (sym limit)
      (subst (λ k. (1 ≤ k) × (k ≤ most)) is.1 is.0),
  is.1,
)

-- ---- the numbers of all options

-- where an option doesn't fit there are no numbers
pub no_numbers : (mode : Mode) (name : OptionName) (items : List Item) (one : Option ℕ) (all : Option Numbers)
    → IsNumberOf mode name (digits_of name items) one → one ≡ None → all ≡ None → AreNumbersOf mode items all
no_numbers mode name items (Some n) all h none none_of_all = absurd (true≢false (ap is_some none))
no_numbers mode name items None (Some numbers) h none none_of_all = absurd (true≢false (ap is_some none_of_all))
no_numbers mode name items None None h none none_of_all = λ fit. h (fit name)

-- where each fits there are all
module _ (mode : Mode) (items : List Item) (numbers : Numbers) where
  abbrev Given : OptionName → Type 0
  Given name = IsNumberOf mode name (digits_of name items) (Some (number_for numbers name))

  each : Given Workers → Given Cells → Given Steps → Given Size → (name : OptionName) → Given name
  each w c s z Workers = w
  each w c s z Cells = c
  each w c s z Steps = s
  each w c s z Size = z

  pub all_numbers : Given Workers → Given Cells → Given Steps → Given Size → AreNumbersOf mode items (Some numbers)
  all_numbers w c s z = (λ name. (each w c s z name).0, λ name. (each w c s z name).1)

-- ---- the command

-- where an option doesn't fit there is none
pub no_command : (mode : Mode) (items : List Item) (numbers : Option Numbers) (answer : Option Command)
    → AreNumbersOf mode items numbers
    → numbers ≡ None → answer ≡ None → IsAnswerTo mode items answer
no_command mode items (Some numbers) answer h none is = absurd (true≢false (ap is_some none))
no_command mode items None (Some command) h none is = absurd (true≢false (ap is_some is))
no_command mode items None None h none is = λ all. h (fits mode items all)

-- a flag is read as it stands
pub flag_is : (standing read : Bool) (found : Option (List ℕ))
    → found ≡ Some (if standing then codes "true" else codes "false")
    → (found ≡ Some (codes "true") → read ≡ true) → (found ≡ Some (codes "false") → read ≡ false) → read ≡ standing
flag_is true read found is to_true to_false = to_true is
flag_is false read found is to_true to_false = to_false is

-- the mode that is read from the word of a mode
pub mode_is : (found mode : Mode) (text : List ℕ) → text ≡ mode_text found → Some text ≡ Some (mode_text mode)
    → found ≡ mode
mode_is found mode text read is = one_mode found mode (sym read ∙ ap (λ o. unwrap_or o text) is)

-- ---- forms

-- the words of a mode and items that it has are a reading
pub reading_of : (words : List (String Global)) (mode : Mode) (items : List Item) → IsLine words mode items
    → IsReading words mode items
reading_of words mode items line = record {
  spelled = line.spelled;
  are_items = record { once = line.once; numerals = numerals items (by_recursion (IsAllowed mode) items line.allowed) };
} where
  numerals : (items : List Item) → AllByRecursion (IsAllowed mode) items → AllByRecursion HasNumeral items
  numerals [] all = tt
  numerals (strict ∷ items) all = (tt, numerals items all.1)
  numerals (option name digits ∷ items) all = (all.0.0, numerals items all.1)

-- words without a reading have no form
pub no_form : (words : List (String Global)) → ((mode : Mode) (items : List Item) → IsReading words mode items → ⊥)
    → HasNoForm words
no_form words none command form = none form.0 form.1 (reading_of words form.0 form.1 form.2)

-- ---- the test before the parse

item_words : (items : List Item) → AllByRecursion HasNumeral items → AllByRecursion IsLineWord (flat_map words_of items)
item_words [] all = tt
item_words (option name digits ∷ items) all = (inl (name, refl), (inr (inr all.0), item_words items all.1))
item_words (strict ∷ items) all = (inr (inl refl), item_words items all.1)

each_word : (words : List (String Global)) (texts : List (List ℕ)) → map string_bytes words ≡ texts
    → AllByRecursion IsLineWord texts
    → All (λ word. IsLineWord (string_bytes word)) words
each_word [] texts e all = All-nil (λ word. IsLineWord (string_bytes word))
each_word (word ∷ words) [] e all = absurd (true≢false (ap is_none (sym e)))
each_word (word ∷ words) (text ∷ texts) e all =
    All-cons (λ word. IsLineWord (string_bytes word)) word words (subst IsLineWord (sym (ap front e)) all.0)
    (each_word words texts (ap behind e) all.1)

-- the words of a reading pass it
pub pass_before : (words : List (String Global)) (mode : Mode) (items : List Item) → IsReading words mode items
    → AreLineWords words
pass_before [] mode items reading = absurd (true≢false (ap is_none reading.spelled))
pass_before (word ∷ words) mode items reading = (
  (mode, ap front reading.spelled),
  each_word words (flat_map words_of items) (ap behind reading.spelled) (item_words items reading.are_items.numerals),
)

-- ---- the answer

-- the answer to the items of the words is the answer to the words
pub answer_of : (words : List (String Global)) (mode : Mode) (items : List Item) (answer : Option Command)
    → IsReading words mode items
    → IsAnswerTo mode items answer → MatchOption answer (HasNoForm words) (IsCommand words)
answer_of words mode items None reading h = λ command form.
    let line = form.2 in
    let mine = reading_of words form.0 form.1 line in
    let same = one_reading words form.0 mode form.1 items mine.spelled reading.spelled in
    h (subst (λ (m : Mode). All (IsAllowed m) items) same.0 (subst (All (IsAllowed form.0)) same.1 line.allowed))
answer_of words mode items (Some command) reading h =
    (mode, items, record { spelled = reading.spelled; once = reading.are_items.once; allowed = h.0 }, h.1)
