-- Parts whose tokens stand apart: nothing behind a token makes it longer, or another.
use Rattle.std.proofs.Common.{◌≡◌, ℕ, ◌+◌, ◌-◌, ◌*◌, ◌/◌, ◌%◌, ◌^◌, ◌<◌, ◌≤◌, Bool, true, false, pos, List, [], ◌∷◌}
use Rattle.std.proofs.Common.{◌++◌, length, take, refl, ap, sym, ◌∙◌, arith, inl, append_assoc}
use Rattle.std.specs.Prelude.{◌&&◌}
use Rattle.std.specs.Fmt.{decimal as decimal_text}
use Rattle.std.specs.List.{take_while, list_all}
use Rattle.std.specs.Char.{is_ascii_digit}
use Rattle.std.proofs.lemmas.Fmt.{decimal_by_steps}
use Rattle.std.proofs.lemmas.List.Sums.{take_while-cons, fold-append}
use Rattle.std.proofs.lemmas.List.Folds.{list_all-append}
use Rattle.std.proofs.lemmas.List.{length-take}
use Rattle.std.proofs.Math.Seq.{take-length}
use Rattle.std.proofs.lemmas.Bool.Decides.{nat_tests}
use Rattle.tj_lex.specs.declared.token.Tok.{Tok}
use Rattle.tj_lex.specs.declared.token.Tok.TheVariants as toks
use Rattle.tj_lex.specs.declared.token.Key.{Key}
use Rattle.tj_lex.specs.declared.token.Key.TheVariants as k
use Rattle.tj_lex.specs.declared.token.Mark.{Mark}
use Rattle.tj_lex.specs.declared.token.Mark.TheVariants as m
use Rattle.tj_lex.specs.Bytes.{begins_with}
use Rattle.tj_lex.specs.Spelling.{key_text, mark_text, decimal}
use Rattle.tj_lex.specs.Tokens.{IsGap, Spells, greatest_number, StartsWith}
use Rattle.tj_lex.specs.Pieces as pieces
use Rattle.tj_lex.specs.Pieces.{Piece}
use Rattle.tj_syntax.specs.Listing.{Part, token, blanks, spelling, text_of, CanStand}
use Rattle.tj_syntax.proofs.Listed.Again.{AreBlank}

-- a mark that doesn't begin with an equals sign
abbrev pub not_equals : Mark → Bool
not_equals m.Assign = false
not_equals m.Eq = false
not_equals other = true

-- the first token makes the second, before it, no longer and no other
abbrev pub apart : Tok → Tok → Bool
apart (toks.Mark u) t = not_equals u
apart (toks.Name w) (toks.Mark t) = true
apart (toks.Num n) (toks.Mark t) = true
apart (toks.Key k) (toks.Mark t) = true
apart u t = false

-- what stands behind a token makes it no longer and no other
abbrev pub clear : Tok → List Part → Bool
clear t [] = true
clear t (token u ∷ rest) = apart u t
clear t (blanks [] ∷ rest) = clear t rest
clear t (blanks (b ∷ bytes) ∷ rest) = true

-- the end of a text is no token of a listing
abbrev pub is_end : Tok → Bool
is_end toks.End = true
is_end t = false

-- each token of the parts stands apart, with these behind
abbrev pub AreClear : List Part → (after : List Part) → Type 0
AreClear [] after = Unit {0}
AreClear (token t ∷ rest) after = (is_end t ≡ false) × (clear t (rest ++ after) ≡ true) × AreClear rest after
AreClear (blanks bytes ∷ rest) after = AreClear rest after

-- behind any token
abbrev pub IsCalm : List Part → Type 0
IsCalm after = (t : Tok) → clear t after ≡ true

pub clear-append : (a b after : List Part) → AreClear a (b ++ after) → AreClear b after → AreClear (a ++ b) after
clear-append [] b after h l = l
clear-append (token t ∷ a) b after h l =
    (h.0, ap (clear t) (append_assoc a b after) ∙ h.1, clear-append a b after h.2 l)
clear-append (blanks bytes ∷ a) b after h l = clear-append a b after h l

-- the blanks before the first token, and the pieces behind them
abbrev pub leading : List Part → List ℕ
leading [] = []
leading (token t ∷ rest) = []
leading (blanks bytes ∷ rest) = bytes ++ leading rest

abbrev pub pieces_of : List Part → List Piece
pieces_of [] = []
pieces_of (token t ∷ rest) = record { what = t; bytes = spelling t; gap = leading rest } ∷ pieces_of rest
pieces_of (blanks bytes ∷ rest) = pieces_of rest

pub text-pieces : (parts : List Part) → text_of parts ≡ leading parts ++ pieces.text_of (pieces_of parts)
text-pieces [] = refl
text-pieces (token t ∷ rest) =
    ap (λ bytes. spelling t ++ bytes) (text-pieces rest)
    ∙ sym (append_assoc (spelling t) (leading rest) (pieces.text_of (pieces_of rest)))
text-pieces (blanks bytes ∷ rest) =
    ap (λ more. bytes ++ more) (text-pieces rest)
    ∙ sym (append_assoc bytes (leading rest) (pieces.text_of (pieces_of rest)))

pub blank_gap : (bytes rest : List ℕ) → AreBlank bytes → IsGap rest → IsGap (bytes ++ rest)
blank_gap [] rest h g = g
blank_gap (b ∷ bytes) rest h g = inl (h.0, blank_gap bytes rest h.1 g)

-- ---- the bytes of a token

both : (s t : Bool) → (s && t) ≡ true → (s ≡ true) × (t ≡ true)
both true t e = (refl, e)
both false t e = absurd (cc)

and_true : (s t : Bool) → s ≡ true → t ≡ true → (s && t) ≡ true
and_true s t e f = rw (e, f) refl

take_while-all : (p : ℕ → Bool) (bytes : List ℕ) → list_all p bytes ≡ true → bytes ≡ take_while p bytes
take_while-all p [] h = refl
take_while-all p (b ∷ bytes) h =
    let tests = both (p b) (list_all p bytes) h in
    sym (take_while-cons p b bytes ∙ (rw tests.0 (ap (λ rest. b ∷ rest) (sym (take_while-all p bytes tests.1)))))

pub begins_with-more : (test : ℕ → Bool) (bytes after : List ℕ) → begins_with test bytes ≡ true
    → begins_with test (bytes ++ after) ≡ true
begins_with-more test [] after begins = absurd (cc)
begins_with-more test (b ∷ bytes) after begins = begins

-- the digits of a number
pub record IsNumber (n : ℕ) (digits : List ℕ) : Type 0 where
  pub begins : begins_with is_ascii_digit digits ≡ true
  pub all : list_all is_ascii_digit digits ≡ true
  pub value : decimal digits ≡ n

is_digit : (n : ℕ) → n < 10 → is_ascii_digit (48 + n) ≡ true
is_digit n h = grind (arith, nat_tests)

one_digit : (n : ℕ) → n < 10 → IsNumber n ((48 + n) ∷ [])
one_digit n h = record {
  begins = is_digit n h;
  all = and_true (is_ascii_digit (48 + n)) true (is_digit n h) refl;
  value = omega arith;
}

more_digits : (n : ℕ) (digits : List ℕ) → 10 ≤ n → IsNumber (n / 10) digits → IsNumber n (digits ++ (48 + n % 10) ∷ [])
more_digits n digits h d =
    let small : n % 10 < 10 = omega arith in
    let folded : decimal (digits ++ (48 + n % 10) ∷ []) ≡ 10 * decimal digits + (48 + n % 10 - 48) =
    fold-append (λ value digit. 10 * value + (digit - 48)) 0 digits ((48 + n % 10) ∷ []) in
    record {
      begins = begins_with-more is_ascii_digit digits ((48 + n % 10) ∷ []) d.begins;
      all = list_all-append is_ascii_digit digits ((48 + n % 10) ∷ [])
          ∙ and_true _ _ d.all (and_true (is_ascii_digit (48 + n % 10)) true (is_digit (n % 10) small) refl);
      value = folded ∙ (rw d.value (omega arith));
    }

pub is_number : (n : ℕ) → n < 2 ^ 64 → IsNumber n (decimal_text n)
is_number n h = decimal_by_steps IsNumber one_digit more_digits n h

pub key_spells : (key : Key) → Spells (key_text key) (key_text key) (toks.Key key)
key_spells k.Task = (refl, refl, refl)
key_spells key = (refl, refl, refl)

starts-short : (bytes text : List ℕ) → StartsWith bytes text → length bytes ≤ length text
starts-short bytes text h =
    let size : length (take (length bytes) text) ≡ length bytes = ap length h in
    omega (arith, size, length-take (length bytes) text)

mark_spells : (mark : Mark) → Spells (mark_text mark) (mark_text mark) (toks.Mark mark)
mark_spells mark = (refl, take-length (mark_text mark), λ other h. starts-short (mark_text other) (mark_text mark) h)

pub token_spells : (t : Tok) → is_end t ≡ false → CanStand t → Spells (spelling t) (spelling t) t
token_spells (toks.Name word) e h = h
token_spells (toks.Num n) e h =
    let top : greatest_number < 2 ^ 64 = omega arith in
    let d = is_number h.0 (omega (arith, h.2)) in
    rw h.1 (d.begins, take_while-all is_ascii_digit (decimal_text h.0) d.all, rw d.value h.2, ap pos (sym d.value))
token_spells (toks.Key key) e h = key_spells key
token_spells (toks.Mark mark) e h = mark_spells mark
token_spells toks.End e h = absurd (cc)
