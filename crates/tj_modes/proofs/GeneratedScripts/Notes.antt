-- Plain tokens, at which nothing can be wrong: keywords, marks, names, and numbers that aren't too great.
use Rattle.tj_modes.proofs.Prelude.{AreFine, CanStand, IsFine, Name, Noted, Task, [], ap, bytes_eq, declares, fine, ℕ}
use Rattle.std.proofs.Common.{◌≡◌, ◌≢◌, pos, Bool, true, false, not, ◌&&◌, List, ◌∷◌, length, codes, refl, sym, ◌∙◌}
use Rattle.std.specs.Prelude.{◌||◌, nat_le}
use Rattle.std.specs.List.{take_while, list_all}
use Rattle.std.proofs.lemmas.Bool.{leb-true}
use Rattle.std.proofs.lemmas.List.Sums.{take_while-cons}
use Rattle.tj_lex.specs.declared.token.Key.{Key}
use Rattle.tj_lex.specs.Bytes.{is_name_start, is_name_byte, begins_with}
use Rattle.tj_lex.specs.Spelling.{key_text}
use Rattle.tj_lex.specs.Tokens.{greatest_number, longest_name}
use Rattle.tj_lex.proofs.Stretches.{both, not-true}
use Rattle.tj_lex.specs.declared.token.Tok.TheVariants as toks
use Rattle.tj_lex.specs.declared.token.Key.TheVariants as keys

-- whether the bytes are a keyword
abbrev is_key : List ℕ → Bool
is_key word =
    bytes_eq word (codes "task") || bytes_eq word (codes "let") || bytes_eq word (codes "if")
    || bytes_eq word (codes "else") || bytes_eq word (codes "while") || bytes_eq word (codes "print")
    || bytes_eq word (codes "set") || bytes_eq word (codes "return") || bytes_eq word (codes "new")
    || bytes_eq word (codes "fork") || bytes_eq word (codes "own") || bytes_eq word (codes "get")
    || bytes_eq word (codes "join") || bytes_eq word (codes "me") || bytes_eq word (codes "or")

key_is : (key : Key) → is_key (key_text key) ≡ true
key_is keys.Task = refl
key_is key = refl

no_key : (word : List ℕ) → is_key word ≡ false → (key : Key) → key_text key ≢ word
no_key word h key e = let is : is_key word ≡ true = ap is_key (sym e) ∙ key_is key in absurd (cc)

-- whether the bytes are a name
abbrev is_word : List ℕ → Bool
is_word word =
    begins_with is_name_start word
    && (list_all is_name_byte word && (nat_le (length word) longest_name && not (is_key word)))

run_whole : (p : ℕ → Bool) (bytes : List ℕ) → list_all p bytes ≡ true → bytes ≡ take_while p bytes
run_whole p [] h = refl
run_whole p (b ∷ bytes) h =
    let tests = both (p b) (list_all p bytes) h in
    sym (take_while-cons p b bytes ∙ (rw tests.0 (ap (λ rest. b ∷ rest) (sym (run_whole p bytes tests.1)))))

-- a text can have these names
pub word_stands : (word : Name) → is_word word ≡ true → CanStand (toks.Name word)
word_stands word h =
    let first = both _ _ h in
    let second = both _ _ first.1 in
    let third = both _ _ second.1 in (
      first.0,
      run_whole is_name_byte word second.0,
      leb-true (length word) longest_name third.0,
      refl,
      no_key word (not-true _ third.1),
    )

-- whether the token is plain
abbrev pub is_plain : Noted → Bool
is_plain (toks.Name word, fine) = is_word word
is_plain (toks.Name word, declares count) = is_word word
is_plain (toks.Num (pos n), fine) = nat_le n greatest_number
is_plain (toks.Key key, fine) = true
is_plain (toks.Mark mark, fine) = true
is_plain noted = false

plain_fine : (script : List Task) (noted : Noted) → is_plain noted ≡ true → IsFine script noted
plain_fine script (toks.Name word, fine) h =
    record { unbroken = λ breach e. cc; fork = refl; stands = word_stands word h }
plain_fine script (toks.Name word, declares count) h =
    record { unbroken = λ breach e. cc; fork = refl; stands = word_stands word h }
plain_fine script (toks.Num (pos n), fine) h =
    record { unbroken = λ breach e. cc; fork = refl; stands = (n, refl, leb-true n greatest_number h) }
plain_fine script (toks.Key key, fine) h = record { unbroken = λ breach e. cc; fork = refl; stands = tt }
plain_fine script (toks.Mark mark, fine) h = record { unbroken = λ breach e. cc; fork = refl; stands = tt }
plain_fine script noted h = absurd (cc)

-- plain tokens break no rule in any script
pub all_plain : (script : List Task) (notes : List Noted) → list_all is_plain notes ≡ true → AreFine script notes
all_plain script [] h = tt
all_plain script (n ∷ notes) h =
    let tests = both (is_plain n) (list_all is_plain notes) h in
    (plain_fine script n tests.0, all_plain script notes tests.1)
