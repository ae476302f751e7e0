-- What a text begins with: each token and each fault has first bytes of its own.
use Rattle.std.proofs.Common.{◌≡◌, ℕ, ◌<◌, ◌≤◌, ◌∙◌, ap, sym, refl, arith, lit<, lit≤, Bool, true, false, cond, List, [], ◌∷◌, length}
use Rattle.std.specs.Prelude.{◌||◌}
use Rattle.std.specs.Char.{is_ascii_digit}
use Rattle.std.specs.Str.{bytes_eq}
use Rattle.std.proofs.lemmas.Bool.Decides.{nat_tests}
use Rattle.tj_lex.specs.declared.token.Key.{Key}
use Rattle.tj_lex.specs.declared.token.Key.TheVariants as keys
use Rattle.tj_lex.specs.declared.token.Mark.{Mark}
use Rattle.tj_lex.specs.declared.token.Mark.TheVariants as marks
use Rattle.tj_lex.specs.Bytes.{is_name_start, is_gap_start, begins_with}
use Rattle.tj_lex.specs.Spelling.{key_text, mark_text}
use Rattle.tj_lex.specs.Tokens.{StartsWith, longest_name}
use Rattle.tj_lex.proofs.Stretches.{eqb-fails, or-none}

-- the keyword of these bytes
abbrev key_of : List ℕ → Key
key_of bytes =
    cond (bytes_eq bytes (key_text keys.Task)) keys.Task (
    cond (bytes_eq bytes (key_text keys.Let)) keys.Let (
    cond (bytes_eq bytes (key_text keys.If)) keys.If (
    cond (bytes_eq bytes (key_text keys.Else)) keys.Else (
    cond (bytes_eq bytes (key_text keys.While)) keys.While (
    cond (bytes_eq bytes (key_text keys.Print)) keys.Print (
    cond (bytes_eq bytes (key_text keys.Set)) keys.Set (
    cond (bytes_eq bytes (key_text keys.Return)) keys.Return (
    cond (bytes_eq bytes (key_text keys.New)) keys.New (
    cond (bytes_eq bytes (key_text keys.Fork)) keys.Fork (
    cond (bytes_eq bytes (key_text keys.Own)) keys.Own (
    cond (bytes_eq bytes (key_text keys.Get)) keys.Get (
    cond (bytes_eq bytes (key_text keys.Join)) keys.Join (
    cond (bytes_eq bytes (key_text keys.Me)) keys.Me (
    keys.Or))))))))))))))

key_of-text : (key : Key) → key_of (key_text key) ≡ key
key_of-text keys.Task = refl
key_of-text key = refl

-- no two are spelled alike
pub key_text-one : (a b : Key) → key_text a ≡ key_text b → a ≡ b
key_text-one a b e = sym (key_of-text a) ∙ ap key_of e ∙ key_of-text b

-- the mark of these bytes
abbrev mark_of : List ℕ → Mark
mark_of bytes =
    cond (bytes_eq bytes (mark_text marks.ParenOpen)) marks.ParenOpen (
    cond (bytes_eq bytes (mark_text marks.ParenClose)) marks.ParenClose (
    cond (bytes_eq bytes (mark_text marks.BraceOpen)) marks.BraceOpen (
    cond (bytes_eq bytes (mark_text marks.BraceClose)) marks.BraceClose (
    cond (bytes_eq bytes (mark_text marks.Comma)) marks.Comma (
    cond (bytes_eq bytes (mark_text marks.Semi)) marks.Semi (
    cond (bytes_eq bytes (mark_text marks.Assign)) marks.Assign (
    cond (bytes_eq bytes (mark_text marks.Eq)) marks.Eq (
    cond (bytes_eq bytes (mark_text marks.Ne)) marks.Ne (
    cond (bytes_eq bytes (mark_text marks.Lt)) marks.Lt (
    cond (bytes_eq bytes (mark_text marks.Le)) marks.Le (
    cond (bytes_eq bytes (mark_text marks.Gt)) marks.Gt (
    cond (bytes_eq bytes (mark_text marks.Ge)) marks.Ge (
    cond (bytes_eq bytes (mark_text marks.Plus)) marks.Plus (
    cond (bytes_eq bytes (mark_text marks.Minus)) marks.Minus (
    cond (bytes_eq bytes (mark_text marks.Times)) marks.Times (
    cond (bytes_eq bytes (mark_text marks.Over)) marks.Over (
    marks.Rest)))))))))))))))))

mark_of-text : (mark : Mark) → mark_of (mark_text mark) ≡ mark
mark_of-text marks.ParenOpen = refl
mark_of-text mark = refl

-- no two are spelled alike
pub mark_text-one : (a b : Mark) → mark_text a ≡ mark_text b → a ≡ b
mark_text-one a b e = sym (mark_of-text a) ∙ ap mark_of e ∙ mark_of-text b

-- a keyword is no longer than a name
pub key_text-short : (key : Key) → length (key_text key) ≤ longest_name
key_text-short keys.Task = lit≤ tt
key_text-short key = lit≤ tt

-- a mark begins with no byte of a gap, a name or a number
abbrev is_other_start : ℕ → Bool
is_other_start b = is_gap_start b || (is_name_start b || is_ascii_digit b)

mark_text-start : (mark : Mark) → begins_with is_other_start (mark_text mark) ≡ false
mark_text-start marks.ParenOpen = refl
mark_text-start mark = refl

pub mark_text-some : (mark : Mark) → 0 < length (mark_text mark)
mark_text-some marks.ParenOpen = lit< tt
mark_text-some mark = lit< tt

begins_with-front : (test : ℕ → Bool) (bytes text : List ℕ) → StartsWith bytes text → 0 < length bytes
    → begins_with test text ≡ begins_with test bytes
begins_with-front test [] text starts some = absurd (omega arith)
begins_with-front test (b ∷ bytes) [] starts some = absurd (cc)
begins_with-front test (b ∷ bytes) (t ∷ text) starts some = let same : t ≡ b = cc in ap test same

begins_with-or : (s t : ℕ → Bool) (text : List ℕ) → begins_with (λ b. s b || t b) text ≡ false
    → (begins_with s text ≡ false) × (begins_with t text ≡ false)
begins_with-or s t [] e = (refl, refl)
begins_with-or s t (b ∷ text) e = or-none (s b) (t b) e

-- what a text that begins with a mark doesn't begin with
pub record IsMarkStart (text : List ℕ) : Type 0 where
  pub no_gap : begins_with is_gap_start text ≡ false
  pub no_name : begins_with is_name_start text ≡ false
  pub no_number : begins_with is_ascii_digit text ≡ false

pub mark-start : (mark : Mark) (text : List ℕ) → StartsWith (mark_text mark) text → IsMarkStart text
mark-start mark text starts =
    let none =
    begins_with-front is_other_start (mark_text mark) text starts (mark_text-some mark) ∙ mark_text-start mark in
    let first = begins_with-or is_gap_start (λ b. is_name_start b || is_ascii_digit b) text none in
    let second = begins_with-or is_name_start is_ascii_digit text first.1 in
    record { no_gap = first.0; no_name = second.0; no_number = second.1 }

-- a test that holds at no byte of a gap
no_gap-if : (test : ℕ → Bool) → test 32 ≡ false → test 9 ≡ false → test 13 ≡ false → test 10 ≡ false → test 35 ≡ false
    → (text : List ℕ) → begins_with test text ≡ true → begins_with is_gap_start text ≡ false
no_gap-if test e₁ e₂ e₃ e₄ e₅ [] begins = refl
no_gap-if test e₁ e₂ e₃ e₄ e₅ (b ∷ text) begins =
    rw (
      eqb-fails test 32 e₁ b begins,
      eqb-fails test 9 e₂ b begins,
      eqb-fails test 13 e₃ b begins,
      eqb-fails test 10 e₄ b begins,
      eqb-fails test 35 e₅ b begins,
    ) refl

pub name-no_gap : (text : List ℕ) → begins_with is_name_start text ≡ true → begins_with is_gap_start text ≡ false
name-no_gap text begins = no_gap-if is_name_start refl refl refl refl refl text begins

pub number-no_gap : (text : List ℕ) → begins_with is_ascii_digit text ≡ true → begins_with is_gap_start text ≡ false
number-no_gap text begins = no_gap-if is_ascii_digit refl refl refl refl refl text begins

digit-no_name : (b : ℕ) → is_ascii_digit b ≡ true → is_name_start b ≡ true → ⊥
digit-no_name b digit start = grind (arith, nat_tests)

pub number-no_name : (text : List ℕ) → begins_with is_ascii_digit text ≡ true
    → begins_with is_name_start text ≡ true → ⊥
number-no_name [] digit start = absurd (cc)
number-no_name (b ∷ text) digit start = digit-no_name b digit start
