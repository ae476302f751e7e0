-- Texts without line feeds, and texts of so many lines: how they are put together.
use Rattle.std.proofs.Common.{◌≡◌, ℕ, zero, suc, ◌+◌, ◌/◌, ◌%◌, Bool, true, false, cond, nat_eq, nat_lt, List, [], ◌∷◌}
use Rattle.std.proofs.Common.{◌++◌, take, refl, sym, ap, ◌∙◌, arith, ne_eqb, append_assoc, true≢false}
use Rattle.std.specs.Fmt.{decimal, digits, digits_onto, digit_glyph}
use Rattle.tj_mean.specs.ReportTexts.{line_feed}
use Rattle.tj_findings.specs.LinesTold.{AreLines, IsPlain, feeds}

-- a text put behind another
pub feeds_append : (x y : List ℕ) → feeds (x ++ y) ≡ feeds x + feeds y
feeds_append [] y = omega arith
feeds_append (b ∷ x) y = omega (arith, feeds_append x y)

-- two plain texts
pub plain_both : (x y : List ℕ) → IsPlain x → IsPlain y → IsPlain (x ++ y)
plain_both x y p q = omega (arith, feeds_append x y, p, q)

-- one of two plain texts
pub plain_cond : (b : Bool) (x y : List ℕ) → IsPlain x → IsPlain y → IsPlain (cond b x y)
plain_cond true x y p q = p
plain_cond false x y p q = q

-- the beginning of a plain text
pub plain_take : (n : ℕ) (x : List ℕ) → IsPlain x → IsPlain (take n x)
plain_take zero x p = refl
plain_take (suc n) [] p = refl
plain_take (suc n) (b ∷ x) p =
    let rest : feeds (take n x) ≡ 0 = plain_take n x (omega (arith, p)) in
    omega (arith, p, rest)

-- a byte that is no line feed
pub plain_byte : (b : ℕ) (x : List ℕ) → (b ≡ 10 → ⊥) → IsPlain x → IsPlain (b ∷ x)
plain_byte b x other p = by (nat_eq b 10) (ne_eqb b 10 other) where
  by : (t : Bool) → t ≡ false → cond t 1 0 + feeds x ≡ 0
  by true e = absurd (true≢false e)
  by false e = omega (arith, p)

-- a digit
plain_digit : (b : Bool) (d : ℕ) (x : List ℕ) → IsPlain x → IsPlain (cond b (48 + d) (87 + d) ∷ x)
plain_digit true d x p = plain_byte (48 + d) x (λ e. omega (arith, e)) p
plain_digit false d x p = plain_byte (87 + d) x (λ e. omega (arith, e)) p

-- digits in front of a plain text
plain_digits : (k n : ℕ) (x : List ℕ) → IsPlain x → IsPlain (digits_onto k 10 false n x)
plain_digits zero n x p = p
plain_digits (suc k) n x p =
    let more = plain_digit (nat_lt (n % 10) 10) (n % 10) x p in
    plain_cond (nat_eq (n / 10) 0) (digit_glyph false (n % 10) ∷ x)
    (digits_onto k 10 false (n / 10) (digit_glyph false (n % 10) ∷ x)) more
    (plain_digits k (n / 10) (digit_glyph false (n % 10) ∷ x) more)

-- a number
pub plain_decimal : (n : ℕ) → IsPlain (decimal n)
unfolding digits
plain_decimal n = plain_digits 64 n [] refl

-- a plain text with a line feed behind it is a line
pub one_line : (x : List ℕ) → IsPlain x → AreLines 1 (x ++ line_feed)
one_line x p = record { words = x; ends = refl; count = omega (arith, feeds_append x line_feed, p) }

-- a plain text in front of lines
pub plain_before : (n : ℕ) (x y : List ℕ) → IsPlain x → AreLines n y → AreLines n (x ++ y)
plain_before n x y p l = record {
  words = x ++ l.words;
  ends = ap (λ z. x ++ z) l.ends ∙ sym (append_assoc x l.words line_feed);
  count = omega (arith, feeds_append x y, p, l.count);
}

-- lines in front of lines
pub lines_both : (m n : ℕ) (x y : List ℕ) → AreLines m x → AreLines n y → AreLines (m + n) (x ++ y)
lines_both m n x y k l = record {
  words = x ++ l.words;
  ends = ap (λ z. x ++ z) l.ends ∙ sym (append_assoc x l.words line_feed);
  count = omega (arith, feeds_append x y, k.count, l.count);
}

-- lines, a plain text, and lines
pub lines_past : (m n : ℕ) (x y z : List ℕ) → AreLines m x → IsPlain y → AreLines n z → AreLines (m + n) (x ++ y ++ z)
lines_past m n x y z k p l = record {
  words = (x ++ y) ++ l.words;
  ends = ap (λ w. (x ++ y) ++ w) l.ends ∙ sym (append_assoc (x ++ y) l.words line_feed);
  count = omega (arith, feeds_append (x ++ y) z, feeds_append x y, k.count, p, l.count);
}
