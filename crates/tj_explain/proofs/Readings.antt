-- Words that are those of items, and which items they are.
use Rattle.std.proofs.Common.{List, MatchOption, None, Option, Some, String, [], ap, arith, codes, cond, get_or, length}
use Rattle.std.proofs.Common.{map, refl, subst, sym, take, take_all, true≢false, ℕ, ◌-◌, ◌<◌, ◌∙◌, ◌∷◌, ◌≡◌, ◌≢◌, ◌≤◌}
use Rattle.std.specs.Prelude.{drop, is_some, string_bytes}
use Rattle.std.specs.List.{flat_map}
use Rattle.std.specs.Str.{bytes_eq}
use Rattle.std.specs.Str.Parse.{digits_value}
use Rattle.std.specs.declared.alloc.Global.{Global}
use Rattle.tj_explain.specs.Inner.Readings.{AreItems, AreRead, IsFlagTaken, IsNumberTaken}
use Rattle.tj_explain.specs.WhyLine.{AllMayStand, IsCommand, Item, MayStand, alone, asked, nothing, numbered}
use Rattle.tj_explain.specs.WhyLine.{with_flag, with_items, with_number, word_text, words_of}
use Rattle.tj_explain.specs.declared.line.Said.{Said}
use Rattle.tj_explain.specs.declared.line.WhyCommand.{WhyCommand}
use Rattle.tj_explain.specs.declared.line_word.Flag.{Flag}
use Rattle.tj_explain.specs.declared.line_word.Flag.TheVariants.{Strict, Short, All, Dot, Json}
use Rattle.tj_explain.specs.declared.line_word.LineWord.{LineWord}
use Rattle.tj_explain.specs.declared.line_word.LineWord.TheVariants.{Numbered, Alone}
use Rattle.tj_explain.specs.declared.line_word.OptionName.{OptionName}
use Rattle.tj_explain.specs.declared.line_word.OptionName.TheVariants.{Cells, Steps}

-- ---- the options by their words

-- the option of a word, which is `--json` where it is none of the others
abbrev option_at : List ℕ → LineWord
option_at w = cond (bytes_eq w (codes "--cells")) (Numbered Cells)
    (cond (bytes_eq w (codes "--steps")) (Numbered Steps)
    (cond (bytes_eq w (codes "--strict")) (Alone Strict) (cond (bytes_eq w (codes "--short")) (Alone Short)
    (cond (bytes_eq w (codes "--all")) (Alone All) (cond (bytes_eq w (codes "--dot")) (Alone Dot) (Alone Json))))))

at_text : (w : LineWord) → option_at (word_text w) ≡ w
at_text (Numbered Cells) = refl
at_text (Numbered Steps) = refl
at_text (Alone Strict) = refl
at_text (Alone Short) = refl
at_text (Alone All) = refl
at_text (Alone Dot) = refl
at_text (Alone Json) = refl

-- no two options have one word
pub one_option : (v w : LineWord) → word_text v ≡ word_text w → v ≡ w
one_option v w e = sym (at_text v) ∙ ap option_at e ∙ at_text w

-- the word that an item begins with
word_at : Item → LineWord
word_at (numbered name digits) = Numbered name
word_at (alone flag) = Alone flag

-- ---- items and their words

-- no words are those of no item
pub no_items : (said : Said) → AreItems said [] []
no_items said = (refl, tt)

-- words that begin with another word than an option's are those of no items
pub no_option : (said : Said) (word : List ℕ) (texts : List (List ℕ)) → ((w : LineWord) → word ≡ word_text w → ⊥)
    → (items : List Item) → AreItems said (word ∷ texts) items → ⊥
no_option said word texts other [] are = let e : word ∷ texts ≡ [] = are.0 in cc
no_option said word texts other (numbered name digits ∷ items) are =
    let e : word ∷ texts ≡ word_text (Numbered name) ∷ digits ∷ flat_map words_of items = are.0 in
    other (Numbered name) (cc)
no_option said word texts other (alone flag ∷ items) are =
    let e : word ∷ texts ≡ word_text (Alone flag) ∷ flat_map words_of items = are.0 in
    other (Alone flag) (cc)

-- words that begin with a flag are those of the flag and of other items
pub record IsFlagFirst (said : Said) (flag : Flag) (texts : List (List ℕ)) (items : List Item) : Type 0 where
  pub rest : List Item
  pub split : items ≡ alone flag ∷ rest
  pub may : MayStand (alone flag) said
  pub are : AreItems (with_flag flag said) texts rest

pub flag_first : (said : Said) (word : List ℕ) (flag : Flag) (texts : List (List ℕ)) → word ≡ word_text (Alone flag)
    → (items : List Item) → AreItems said (word ∷ texts) items → IsFlagFirst said flag texts items
flag_first said word flag texts is [] are = let e : word ∷ texts ≡ [] = are.0 in cc
flag_first said word flag texts is (numbered name digits ∷ items) are =
    let e : word ∷ texts ≡ word_text (Numbered name) ∷ digits ∷ flat_map words_of items = are.0 in
    let first : word ≡ word_text (Numbered name) = cc in
    let same : Alone flag ≡ Numbered name = one_option (Alone flag) (Numbered name) (sym is ∙ first) in cc
flag_first said word flag texts is (alone other ∷ items) are =
    let e : word ∷ texts ≡ word_text (Alone other) ∷ flat_map words_of items = are.0 in
    let first : word ≡ word_text (Alone other) = cc in
    let behind : texts ≡ flat_map words_of items = cc in
    let same : Alone flag ≡ Alone other = one_option (Alone flag) (Alone other) (sym is ∙ first) in
    let flags : other ≡ flag = cc in
    record {
      rest = items;
      split = ap (λ f. alone f ∷ items) flags;
      may = subst (λ f. MayStand (alone f) said) flags are.1.0;
      are = (behind, subst (λ f. AllMayStand items (with_flag f said)) flags are.1.1);
    }

-- words that begin with an option of a number are those of it and of other items
pub record IsNumberFirst (said : Said) (name : OptionName) (texts : List (List ℕ)) (items : List Item) : Type 0 where
  pub digits : List ℕ
  pub behind : List (List ℕ)
  pub rest : List Item
  pub two : texts ≡ digits ∷ behind
  pub split : items ≡ numbered name digits ∷ rest
  pub may : MayStand (numbered name digits) said
  pub are : AreItems (with_number name (digits_value 10 digits) said) behind rest

pub number_first : (said : Said) (word : List ℕ) (name : OptionName) (texts : List (List ℕ))
    → word ≡ word_text (Numbered name) → (items : List Item) → AreItems said (word ∷ texts) items
    → IsNumberFirst said name texts items
number_first said word name texts is [] are = let e : word ∷ texts ≡ [] = are.0 in cc
number_first said word name texts is (alone flag ∷ items) are =
    let e : word ∷ texts ≡ word_text (Alone flag) ∷ flat_map words_of items = are.0 in
    let first : word ≡ word_text (Alone flag) = cc in
    let same : Numbered name ≡ Alone flag = one_option (Numbered name) (Alone flag) (sym is ∙ first) in cc
number_first said word name texts is (numbered other digits ∷ items) are =
    let e : word ∷ texts ≡ word_text (Numbered other) ∷ digits ∷ flat_map words_of items = are.0 in
    let first : word ≡ word_text (Numbered other) = cc in
    let two : texts ≡ digits ∷ flat_map words_of items = cc in
    let same : Numbered name ≡ Numbered other = one_option (Numbered name) (Numbered other) (sym is ∙ first) in
    let names : other ≡ name = cc in
    record {
      digits = digits;
      behind = flat_map words_of items;
      rest = items;
      two = two;
      split = ap (λ n. numbered n digits ∷ items) names;
      may = subst (λ n. MayStand (numbered n digits) said) names are.1.0;
      are = (refl, subst (λ n. AllMayStand items (with_number n (digits_value 10 digits) said)) names are.1.1);
    }

-- words are those of one list of items at most
pub one_items : (said : Said) (texts : List (List ℕ)) (a b : List Item) → AreItems said texts a → AreItems said texts b
    → a ≡ b
one_items said texts [] [] h k = refl
one_items said texts [] (numbered name digits ∷ items) h k =
    let e : [] ≡ word_text (Numbered name) ∷ digits ∷ flat_map words_of items = sym h.0 ∙ k.0 in cc
one_items said texts [] (alone flag ∷ items) h k =
    let e : [] ≡ word_text (Alone flag) ∷ flat_map words_of items = sym h.0 ∙ k.0 in cc
one_items said texts (alone flag ∷ items) b h k =
    let f = flag_first said (word_text (Alone flag)) flag (flat_map words_of items) refl b
    (subst (λ ts. AreItems said ts b) h.0 k) in
    ap (λ is. alone flag ∷ is) (one_items (with_flag flag said) (flat_map words_of items) items f.rest (refl, h.1.1)
    f.are) ∙ sym f.split
one_items said texts (numbered name digits ∷ items) b h k =
    let f = number_first said (word_text (Numbered name)) name (digits ∷ flat_map words_of items) refl b
    (subst (λ ts. AreItems said ts b) h.0 k) in
    let two : digits ∷ flat_map words_of items ≡ f.digits ∷ f.behind = f.two in
    let same : f.digits ≡ digits = cc in
    let behind : f.behind ≡ flat_map words_of items = cc in
    let are : AreItems (with_number name (digits_value 10 digits) said) (flat_map words_of items) f.rest =
    subst (λ d. AreItems (with_number name (digits_value 10 d) said) (flat_map words_of items) f.rest) same
    (subst (λ ts. AreItems (with_number name (digits_value 10 f.digits) said) ts f.rest) behind f.are) in
    ap (λ is. numbered name digits ∷ is) (one_items (with_number name (digits_value 10 digits) said)
    (flat_map words_of items) items f.rest (refl, h.1.1) are)
    ∙ ap (λ d. numbered name d ∷ f.rest) (sym same) ∙ sym f.split

-- words are one command at most
pub one_command : (words : List (String Global)) (a b : WhyCommand) → IsCommand words a → IsCommand words b → a ≡ b
one_command words a b h k = h.3
    ∙ ap (λ items. asked (with_items items nothing))
    (one_items nothing (map string_bytes words) h.0 k.0 (h.1, h.2) (k.1, k.2)) ∙ sym k.3

-- ---- words one after the other

-- the words behind the first, as the code has them
abbrev pub behind_first : List (String Global) → List (String Global)
behind_first words = take (length words - 1) (drop 1 words)

-- words are the first and those behind it
pub first_and_behind : (words : List (String Global)) (word : String Global) → 1 ≤ length words
    → word ≡ get_or words 0 word → words ≡ word ∷ behind_first words
first_and_behind [] word some is = absurd (omega (arith, some))
first_and_behind (w ∷ words) word some is =
    ap (λ x. x ∷ words) (sym is)
    ∙ ap (λ l. word ∷ l) (sym (take_all (length (w ∷ words) - 1) words (omega arith)))

-- the bytes of words
abbrev pub texts_of : List (String Global) → List (List ℕ)
texts_of = map string_bytes

-- what is found of the first word
abbrev pub IsFound : List ℕ → Option LineWord → Type 0
IsFound text found = MatchOption found ((w : LineWord) → text ≢ word_text w) (λ w. text ≡ word_text w)

-- a word that is no option's
pub read_no_option : (said : Said) (words rest : List (String Global)) (word : String Global) (text : List ℕ)
    (found : Option LineWord) (answer : Option Said) → words ≡ word ∷ rest → text ≡ string_bytes word
    → IsFound text found → found ≡ None → answer ≡ None → AreRead said words answer
read_no_option said words rest word text (Some w) answer split is here none gone = absurd (true≢false (ap is_some none))
read_no_option said words rest word text None (Some new) split is here none gone = absurd (true≢false (ap is_some gone))
read_no_option said words rest word text None None split is here none gone = λ items are.
    no_option said text (texts_of rest) here items
    (subst (λ t. AreItems said (t ∷ texts_of rest) items) (sym is)
    (subst (λ ws. AreItems said (texts_of ws) items) split are))

-- an option without digits behind it
pub read_no_digits : (said : Said) (words rest : List (String Global)) (word : String Global) (text : List ℕ)
    (name : OptionName) (found : Option LineWord) → words ≡ word ∷ rest → length rest < 1 → text ≡ string_bytes word
    → IsFound text found → found ≡ Some (Numbered name) → (items : List Item) → AreItems said (texts_of words) items
    → ⊥
read_no_digits said words (d ∷ rest) word text name found split few is here some items are = omega (arith, few)
read_no_digits said words [] word text name found split few is here some items are =
    let first : text ≡ word_text (Numbered name) = subst (IsFound text) some here in
    let f = number_first said (string_bytes word) name [] (sym is ∙ first) items
    (subst (λ ws. AreItems said (texts_of ws) items) split are) in
    let two : [] ≡ f.digits ∷ f.behind = f.two in cc

-- a flag that may not stand
pub read_no_flag : (said : Said) (words rest : List (String Global)) (word : String Global) (text : List ℕ)
    (flag : Flag) (found : Option LineWord) (new answer : Option Said) → words ≡ word ∷ rest → text ≡ string_bytes word
    → IsFound text found → found ≡ Some (Alone flag) → IsFlagTaken said flag new → new ≡ None → answer ≡ None
    → AreRead said words answer
read_no_flag said words rest word text flag found new (Some s) split is here some taken none gone =
    absurd (true≢false (ap is_some gone))
read_no_flag said words rest word text flag found new None split is here some taken none gone = λ items are.
    let first : text ≡ word_text (Alone flag) = subst (IsFound text) some here in
    let f = flag_first said (string_bytes word) flag (texts_of rest) (sym is ∙ first) items
    (subst (λ ws. AreItems said (texts_of ws) items) split are) in
    subst (IsFlagTaken said flag) none taken f.may

-- a flag that may stand, and what is read behind it
pub read_flag : (said new : Said) (words rest : List (String Global)) (word : String Global) (text : List ℕ)
    (flag : Flag) (found : Option LineWord) (taken answer : Option Said) → words ≡ word ∷ rest
    → text ≡ string_bytes word → IsFound text found → found ≡ Some (Alone flag) → IsFlagTaken said flag taken
    → taken ≡ Some new → AreRead new rest answer → AreRead said words answer
read_flag said new words rest word text flag found taken answer split is here some may here_new read =
    let first : text ≡ word_text (Alone flag) = subst (IsFound text) some here in
    let stands = subst (IsFlagTaken said flag) here_new may in
    let behind : AreRead (with_flag flag said) rest answer = subst (λ s. AreRead s rest answer) stands.1 read in
    by answer behind (sym is ∙ first) stands.0
  where
    by : (answer : Option Said) → AreRead (with_flag flag said) rest answer → string_bytes word ≡ word_text (Alone flag)
        → MayStand (alone flag) said → AreRead said words answer
    by None none first stands = λ items are.
        let f = flag_first said (string_bytes word) flag (texts_of rest) first items
        (subst (λ ws. AreItems said (texts_of ws) items) split are) in
        none f.rest f.are
    by (Some s) (items, are, last) first stands = (
      alone flag ∷ items,
      (
        ap texts_of split ∙ ap (λ t. t ∷ texts_of rest) first
            ∙ ap (λ l. word_text (Alone flag) ∷ l) are.0,
        (stands, are.1),
      ),
      last,
    )

-- an option whose number may not stand
pub read_no_number : (said : Said) (words rest more : List (String Global)) (word number : String Global)
    (text digits : List ℕ) (name : OptionName) (found : Option LineWord) (new answer : Option Said)
    → words ≡ word ∷ rest → rest ≡ number ∷ more → text ≡ string_bytes word → digits ≡ string_bytes number
    → IsFound text found → found ≡ Some (Numbered name) → IsNumberTaken said name digits new → new ≡ None
    → answer ≡ None → AreRead said words answer
read_no_number said words rest more word number text digits name found new (Some s) split two is are_digits here some
    taken none gone = absurd (true≢false (ap is_some gone))
read_no_number said words rest more word number text digits name found new None split two is are_digits here some
    taken none gone = λ items are.
    let first : text ≡ word_text (Numbered name) = subst (IsFound text) some here in
    let f = number_first said (string_bytes word) name (texts_of (number ∷ more)) (sym is ∙ first) items
    (subst (λ ws. AreItems said (texts_of ws) items) (split ∙ ap (λ l. word ∷ l) two) are) in
    let here_two : string_bytes number ∷ texts_of more ≡ f.digits ∷ f.behind = f.two in
    let same : f.digits ≡ string_bytes number = cc in
    subst (IsNumberTaken said name digits) none taken
    (subst (λ d. MayStand (numbered name d) said) (same ∙ sym are_digits) f.may)

-- an option whose number may stand, and what is read behind it
pub read_number : (said new : Said) (words rest more : List (String Global)) (word number : String Global)
    (text digits : List ℕ) (name : OptionName) (found : Option LineWord) (taken answer : Option Said)
    → words ≡ word ∷ rest → rest ≡ number ∷ more → text ≡ string_bytes word → digits ≡ string_bytes number
    → IsFound text found → found ≡ Some (Numbered name) → IsNumberTaken said name digits taken → taken ≡ Some new
    → AreRead new more answer → AreRead said words answer
read_number said new words rest more word number text digits name found taken answer split two is are_digits here some
    may here_new read =
    let first : text ≡ word_text (Numbered name) = subst (IsFound text) some here in
    let stands = subst (IsNumberTaken said name digits) here_new may in
    let behind : AreRead (with_number name (digits_value 10 (string_bytes number)) said) more answer =
    subst (λ d. AreRead (with_number name (digits_value 10 d) said) more answer) are_digits
    (subst (λ s. AreRead s more answer) stands.1 read) in
    by answer behind (sym is ∙ first) (subst (λ d. MayStand (numbered name d) said) are_digits stands.0)
  where
    by : (answer : Option Said)
        → AreRead (with_number name (digits_value 10 (string_bytes number)) said) more answer
        → string_bytes word ≡ word_text (Numbered name) → MayStand (numbered name (string_bytes number)) said
        → AreRead said words answer
    by None none first stands = λ items are.
        let f = number_first said (string_bytes word) name (texts_of (number ∷ more)) first items
        (subst (λ ws. AreItems said (texts_of ws) items) (split ∙ ap (λ l. word ∷ l) two) are) in
        let here_two : string_bytes number ∷ texts_of more ≡ f.digits ∷ f.behind = f.two in
        let same : f.digits ≡ string_bytes number = cc in
        let rest : f.behind ≡ texts_of more = cc in
        none f.rest (subst (λ d. AreItems (with_number name (digits_value 10 d) said) (texts_of more) f.rest) same
        (subst (λ ts. AreItems (with_number name (digits_value 10 f.digits) said) ts f.rest) rest f.are))
    by (Some s) (items, are, last) first stands = (
      numbered name (string_bytes number) ∷ items,
      (
        ap texts_of (split ∙ ap (λ l. word ∷ l) two)
            ∙ ap (λ t. t ∷ string_bytes number ∷ texts_of more) first
            ∙ ap (λ l. word_text (Numbered name) ∷ string_bytes number ∷ l) are.0,
        (stands, are.1),
      ),
      last,
    )
