-- What stands behind a gap is determined: where the gap is left out, it begins the text.
use Rattle.std.proofs.Common.{◌≡◌, ◌≢◌, ℕ, ◌<◌, ◌≤◌, ◌∙◌, ap, sym, refl, arith, inl, inr, Bool, false, cond, List, [], ◌∷◌, ◌++◌, length, drop, append_assoc, length-append}
use Rattle.std.specs.Prelude.{◌==◌}
use Rattle.std.specs.List.{slice_range}
use Rattle.std.proofs.lemmas.List.{append-nil, length-drop}
use Rattle.std.proofs.lemmas.List.Folds.{drop_split}
use Rattle.std.proofs.lemmas.Bool.{eqb-true}
use Rattle.tj_lex.specs.Bytes.{is_blank, is_gap_start, begins_with, line_feed, hash}
use Rattle.tj_lex.specs.Tokens.{IsGap, IsComment}
use Rattle.tj_lex.proofs.Stretches.{cases, or-none}

abbrev mutual
  -- a text without the blanks and comments that it begins with
  after_gap : List ℕ → List ℕ
  after_gap [] = []
  after_gap (b ∷ rest) = cond (is_blank b) (after_gap rest) (cond (b == hash) (after_comment rest) (b ∷ rest))

  after_comment : List ℕ → List ℕ
  after_comment [] = []
  after_comment (b ∷ rest) = cond (b == line_feed) (after_gap rest) (after_comment rest)

eqb-ne : (a b : ℕ) → a ≢ b → (a == b) ≡ false
eqb-ne a b ne = elim (cases (a == b)) [ inl e ↦ absurd (ne (eqb-true a b e)) | inr e ↦ e ]

after_gap-none : (text : List ℕ) → begins_with is_gap_start text ≡ false → after_gap text ≡ text
after_gap-none [] _ = refl
after_gap-none (b ∷ rest) none =
    let tests = or-none (is_blank b) (b == hash) none in
    rw (tests.0, tests.1) refl

mutual
  after_gap-append : (gap rest : List ℕ) → IsGap gap → after_gap rest ≡ rest → after_gap (gap ++ rest) ≡ rest
  after_gap-append [] rest _ none = none
  after_gap-append (b ∷ gap) rest h none =
      elim h [
        | inl p ↦ rw p.0 (after_gap-append gap rest p.1 none)
        | inr p ↦ rw p.0 (after_comment-append gap rest p.1 none)
      ]

  after_comment-append : (gap rest : List ℕ) → IsComment gap → after_gap rest ≡ rest
      → after_comment (gap ++ rest) ≡ rest
  after_comment-append [] rest h none = absurd h
  after_comment-append (b ∷ gap) rest h none =
      elim h [
        | inl p ↦ rw p.0 (after_gap-append gap rest p.1 none)
        | inr p ↦ rw (eqb-ne b line_feed p.0) (after_comment-append gap rest p.1 none)
      ]

begins_with-append : (test : ℕ → Bool) (bytes more : List ℕ) → 0 < length bytes
    → begins_with test (bytes ++ more) ≡ begins_with test bytes
begins_with-append test [] more some = absurd (omega arith)
begins_with-append test (b ∷ bytes) more some = refl

-- something other than a gap stands at index i, and a gap before it
pub record StandsAt (text : List ℕ) (start i : ℕ) : Type 0 where
  pub behind : start ≤ i
  pub within : i < length text
  pub gap : IsGap (slice_range text start i)
  pub no_gap : begins_with is_gap_start (drop i text) ≡ false

after_gap-at : (text : List ℕ) (start i : ℕ) → StandsAt text start i
    → after_gap (drop start text ++ line_feed ∷ []) ≡ drop i text ++ line_feed ∷ []
after_gap-at text start i h =
    let some : 0 < length (drop i text) = omega (arith, h.within, length-drop i text) in
    let none = begins_with-append is_gap_start (drop i text) (line_feed ∷ []) some ∙ h.no_gap in
    rw (drop_split text start i h.behind, append_assoc)
    (after_gap-append (slice_range text start i) (drop i text ++ line_feed ∷ []) h.gap (after_gap-none _ none))

-- only one index is behind the gap
pub StandsAt-one : (text : List ℕ) (start i j : ℕ) → StandsAt text start i → StandsAt text start j → i ≡ j
StandsAt-one text start i j h k =
    let same = ap length (sym (after_gap-at text start i h) ∙ after_gap-at text start j k) in
    omega (
      arith,
      same,
      h.within,
      k.within,
      length-append (drop i text) (line_feed ∷ []),
      length-append (drop j text) (line_feed ∷ []),
      length-drop i text,
      length-drop j text,
    )

-- where only a gap is left, nothing else stands
pub StandsAt-last : (text : List ℕ) (start i : ℕ) → StandsAt text start i
    → IsGap (drop start text ++ line_feed ∷ []) → ⊥
StandsAt-last text start i h gap =
    let left = after_gap-at text start i h in
    let none = after_gap-append (drop start text ++ line_feed ∷ []) [] gap refl in
    let same = ap length (sym left ∙ ap after_gap (sym (append-nil (drop start text ++ line_feed ∷ []))) ∙ none) in
    omega (arith, same, length-append (drop i text) (line_feed ∷ []))
