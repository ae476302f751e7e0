-- Blanks and comments, one behind the other.
use Rattle.std.proofs.Common.{◌≡◌, ◌≢◌, ℕ, ◌+◌, ◌-◌, ◌<◌, ◌≤◌, ◌∙◌, ap, sym, refl, arith, true, false, inl, inr, List, [], ◌∷◌, ◌++◌, length, take, drop, get_or, append_assoc, add-zero}
use Rattle.std.specs.Prelude.{◌==◌}
use Rattle.std.specs.List.{slice_range, list_all, prefix_len}
use Rattle.std.proofs.lemmas.List.{drop-drop, drop_all, drop_more, take_more, take_all, get_or-drop, get_or-take, length-drop, length-take}
use Rattle.std.proofs.lemmas.List.Folds.{drop_split}
use Rattle.std.proofs.lemmas.List.Sums.{prefix_len_stops}
use Rattle.std.proofs.lemmas.Bool.{eqb-true}
use Rattle.tj_lex.proofs.Stretches.{both, not-false, take-split, list_all-prefix}
use Rattle.tj_lex.specs.Bytes.{is_blank, line_feed, hash, stays_on_line}
use Rattle.tj_lex.specs.Tokens.{IsGap, IsComment}
use Rattle.tj_lex.specs.Inner.Spots.{AreApart}

mutual
  -- two gaps, one behind the other, are one
  pub IsGap-append : (a b : List ℕ) → IsGap a → IsGap b → IsGap (a ++ b)
  IsGap-append [] b _ h = h
  IsGap-append (x ∷ a) b g h =
      elim g [ inl p ↦ inl (p.0, IsGap-append a b p.1 h) | inr p ↦ inr (p.0, IsComment-append a b p.1 h) ]

  pub IsComment-append : (a b : List ℕ) → IsComment a → IsGap b → IsComment (a ++ b)
  IsComment-append [] b g h = absurd g
  IsComment-append (x ∷ a) b g h =
      elim g [ inl p ↦ inl (p.0, IsGap-append a b p.1 h) | inr p ↦ inr (p.0, IsComment-append a b p.1 h) ]

-- a byte that stays on the line is no line feed
pub stays-ne : (b : ℕ) → stays_on_line b ≡ true → b ≢ line_feed
stays-ne b stays e = let fails = rw e at stays in absurd (cc)

-- a comment is its bytes and its line feed
pub IsComment-line : (body : List ℕ) → list_all stays_on_line body ≡ true → IsComment (body ++ line_feed ∷ [])
IsComment-line [] _ = inl (refl, tt)
IsComment-line (b ∷ body) all =
    let tests = both (stays_on_line b) (list_all stays_on_line body) all in
    inr (stays-ne b tests.0, IsComment-line body tests.1)

-- and a byte that doesn't is one
pub stays-is : (b : ℕ) → stays_on_line b ≡ false → b ≡ line_feed
stays-is b ends = eqb-true b line_feed (not-false (b == line_feed) ends)

-- a comment is a gap with a line feed behind it
IsGap-comment : (bytes : List ℕ) → (0 < length bytes → get_or bytes 0 0 ≡ hash)
    → list_all stays_on_line bytes ≡ true → IsGap (bytes ++ line_feed ∷ [])
IsGap-comment [] begins _ = inl (refl, tt)
IsGap-comment (b ∷ body) begins all =
    inr (begins (omega arith), IsComment-line body (both (stays_on_line b) (list_all stays_on_line body) all).1)

-- the bytes from a to b and from b to c are those from a to c
pub slice_range-join : (text : List ℕ) (a b c : ℕ) → a ≤ b → b ≤ c
    → slice_range text a c ≡ slice_range text a b ++ slice_range text b c
slice_range-join text a b c h k =
    let n = b - a in
    let m = c - b in
    let all : c - a ≡ n + m = omega arith in
    let second : b ≡ a + n = omega arith in
    let split = take-split n m (drop a text) in
    let rest : drop b text ≡ drop n (drop a text) = ap (λ i. drop i text) second ∙ sym (drop-drop n a text) in
    ap (λ i. take i (drop a text)) all ∙ split ∙ ap (λ bytes. take n (drop a text) ++ take m bytes) (sym rest)

-- a gap, and what is apart behind it
pub AreApart-join : (text : List ℕ) (a b c : ℕ) → b < length text → AreApart text a b → AreApart text b c
    → AreApart text a c
AreApart-join text a b c more p q = record {
  in_order = omega arith;
  before_more =
      λ h. rw (slice_range-join text a b c p.in_order q.in_order)
      (IsGap-append _ _ (p.before_more more) (q.before_more h));
  at_end = λ h. rw (drop_split text a b p.in_order, append_assoc) (IsGap-append _ _ (p.before_more more) (q.at_end h));
}

-- nothing is a gap
pub AreApart-nothing : (text : List ℕ) (a : ℕ) → AreApart text a a
AreApart-nothing text a = record {
  in_order = omega arith;
  before_more = λ _. let none : a - a ≡ 0 = omega arith in rw none tt;
  at_end = λ e. rw (drop_all a text (omega arith)) (inl (refl, tt));
}

-- a gap holds its ends apart
AreApart-gap : (text : List ℕ) (a b : ℕ) → a ≤ b → IsGap (slice_range text a b) → AreApart text a b
AreApart-gap text a b h gap = record {
  in_order = h;
  before_more = λ _. gap;
  at_end = λ e.
      rw (drop_split text a b h, drop_all b text (omega arith), append_assoc)
      (IsGap-append (slice_range text a b) (line_feed ∷ []) gap (inl (refl, tt)));
}

-- a blank is a gap
pub AreApart-blank : (text : List ℕ) (a : ℕ) → a < length text → is_blank (get_or text a 0) ≡ true
    → AreApart text a (a + 1)
AreApart-blank text a more blank =
    AreApart-gap text a (a + 1) (omega arith)
    (let one : a + 1 - a ≡ 1 = omega arith in rw (one, drop_more text a 0 more) (inl (blank, tt)))

-- a comment that nothing ends is a gap at the end
pub AreApart-last : (text : List ℕ) (a : ℕ) → a < length text → get_or text a 0 ≡ hash
    → prefix_len stays_on_line (drop a text) ≡ length text - a → AreApart text a (length text)
AreApart-last text a more begins len = record {
  in_order = omega arith;
  before_more = λ h. absurd (omega arith);
  at_end = λ _.
      let whole : take (prefix_len stays_on_line (drop a text)) (drop a text) ≡ drop a text =
      take_all _ (drop a text) (omega (arith, length-drop a text)) in
      IsGap-comment (drop a text) (λ _. get_or-drop a text 0 0 ∙ ap (λ i. get_or text i 0) (add-zero a) ∙ begins)
      (rw whole at (list_all-prefix stays_on_line (drop a text)));
}

-- a line feed stands behind bytes that stay on the line
pub feed-behind : (text : List ℕ) (a n : ℕ) → prefix_len stays_on_line (drop a text) ≡ n → a + n < length text
    → get_or text (a + n) 0 ≡ line_feed
feed-behind text a n len more =
    sym (get_or-drop a text n 0)
    ∙ stays-is _ (rw len at (prefix_len_stops stays_on_line (drop a text) 0 (omega (arith, length-drop a text))))

-- a comment and its line feed are a gap
pub AreApart-comment : (text : List ℕ) (a n : ℕ) → get_or text a 0 ≡ hash → a + n < length text
    → prefix_len stays_on_line (drop a text) ≡ n → AreApart text a (a + n + 1)
AreApart-comment text a n begins more len =
    let rest = drop a text in
    let inside : n < length rest = omega (arith, length-drop a text) in
    let size : a + n + 1 - a ≡ n + 1 = omega arith in
    let feed : get_or rest n 0 ≡ line_feed =
    stays-is _ (rw len at (prefix_len_stops stays_on_line rest 0 (omega arith))) in
    let front : (0 < length (take n rest) → get_or (take n rest) 0 0 ≡ hash) =
    λ h. get_or-take n rest 0 0 (omega (arith, length-take n rest)) ∙ get_or-drop a text 0 0
    ∙ ap (λ i. get_or text i 0) (add-zero a) ∙ begins in
    let body : list_all stays_on_line (take n rest) ≡ true = rw len at (list_all-prefix stays_on_line rest) in
    AreApart-gap text a (a + n + 1) (omega arith)
    (rw (size, take_more rest n 0 inside, feed) (IsGap-comment (take n rest) front body))
