-- Each token stands in the line with the number of its position, from its column on.
use Rattle.std.proofs.Common.{◌≡◌, ◌<◌, ◌≤◌, ◌==◌, ◌+◌, ◌-◌, ◌∙◌, ℕ, zero, suc, Bool, true, false, not, cond, List, [], ◌∷◌}
use Rattle.std.proofs.Common.{◌++◌, ◌⊎◌, inl, inr, Option, Some, None, length, take, drop, refl, ap, sym, subst, arith}
use Rattle.std.specs.Prelude.{count_by, codes, eqb, map, slice_get, unwrap_or}
use Rattle.std.specs.List.{list_all, prefix_len, slice_range, suffix_len}
use Rattle.std.proofs.lemmas.Bool.{eq-eqb, eqb-true, ne_eqb}
use Rattle.std.proofs.lemmas.Grind.{reverse_onto}
use Rattle.std.proofs.lemmas.List.{append_assoc, length-reverse, take-append-drop, take_all}
use Rattle.std.proofs.lemmas.List.Folds.{prefix_len-append}
use Rattle.std.proofs.lemmas.List.Sums.{sum_by-append}
use Rattle.std.proofs.Math.Seq.{take-append_seam}
use Rattle.std.specs.Prelude.{reverse}
use Rattle.tj_lex.proofs.Chains.{Spells-line}
use Rattle.tj_lex.proofs.Stretches.{both, not-true}
use Rattle.tj_lex.specs.Bytes.{line_feed, stays_on_line}
use Rattle.tj_lex.specs.Positions.{position_after}
use Rattle.tj_lex.specs.Tokens.{AreTokens, HasTokens, IsEnd}
use Rattle.tj_lex.specs.declared.place.Place.{Place}
use Rattle.tj_lex.specs.declared.token.Token.{Token}
use Rattle.tj_faults.specs.Carets.{below, caret_below, first_longer, lines_of}
use Rattle.tj_faults.specs.TokenLines.{StandsInLine, with_feeds}
use Rattle.tj_faults.proofs.SourceLines.{lines_by, others_are}

-- the line feeds among these bytes
abbrev feeds : List ℕ → ℕ
feeds before = count_by (λ b. b == line_feed) before

-- the bytes behind the last of them
abbrev on_line : List ℕ → ℕ
on_line before = suffix_len stays_on_line before

-- what stands in front of the first line feed
abbrev until_feed : List ℕ → List ℕ
until_feed [] = []
until_feed (b ∷ text) = cond (b == line_feed) [] (b ∷ until_feed text)

-- one byte more in front
more_in_front : (b : ℕ) (before : List ℕ) → on_line (b ∷ before)
    ≡ cond (eqb (on_line before) (length before)) (length before + prefix_len stays_on_line (b ∷ [])) (on_line before)
more_in_front b before =
    ap (prefix_len stays_on_line) (reverse_onto before b [])
    ∙ prefix_len-append stays_on_line (reverse before) (b ∷ [])
    ∙ ap (λ n. cond (eqb (on_line before) n) (n + prefix_len stays_on_line (b ∷ [])) (on_line before))
    (length-reverse before)

-- without a line feed all bytes are on the line
all_on_line : (b : ℕ) (before : List ℕ) → on_line before ≡ length before
    → on_line (b ∷ before) ≡ length before + prefix_len stays_on_line (b ∷ [])
all_on_line b before all =
    more_in_front b before
    ∙ ap (λ t. cond t (length before + prefix_len stays_on_line (b ∷ [])) (on_line before))
    (eq-eqb (on_line before) (length before) all)

-- with one a byte more in front changes nothing
same_on_line : (b : ℕ) (before : List ℕ) → on_line before < length before → on_line (b ∷ before) ≡ on_line before
same_on_line b before less =
    more_in_front b before
    ∙ ap (λ t. cond t (length before + prefix_len stays_on_line (b ∷ [])) (on_line before))
    (ne_eqb (on_line before) (length before) (λ e. let same = e in omega (arith, less, same)))

-- a line that is there, with a byte more in front
first_more : (b : ℕ) (ls : List (List ℕ)) (l : List ℕ) → slice_get ls 0 ≡ Some l
    → slice_get (first_longer b ls) 0 ≡ Some (b ∷ l)
first_more b [] l is = ap (λ o. Some (b ∷ unwrap_or o [])) is
first_more b (x ∷ ls) l is = ap (λ o. Some (b ∷ unwrap_or o [])) is

-- the first line of a text
first_there : (text : List ℕ) → slice_get (lines_of text) 0 ≡ Some (until_feed text)
first_there [] = refl
first_there (b ∷ text) = by (b == line_feed) refl (first_there text) where
  by : (t : Bool) → (b == line_feed) ≡ t → slice_get (lines_of text) 0 ≡ Some (until_feed text)
      → slice_get (lines_of (b ∷ text)) 0 ≡ Some (until_feed (b ∷ text))
  by true e first =
      ap (λ t. slice_get (lines_by b text t) 0) e ∙ sym (ap (λ t. Some (cond t [] (b ∷ until_feed text))) e)
  by false e first =
      ap (λ t. slice_get (lines_by b text t) 0) e ∙ first_more b (lines_of text) (until_feed text) first
      ∙ sym (ap (λ t. Some (cond t [] (b ∷ until_feed text))) e)

-- bytes of one line
bytes_there : (bytes more : List ℕ) → list_all stays_on_line bytes ≡ true
    → until_feed (bytes ++ more) ≡ bytes ++ until_feed more
bytes_there [] more all = refl
bytes_there (b ∷ bytes) more all =
    let tests = both (stays_on_line b) (list_all stays_on_line bytes) all in
    ap (λ t. cond t [] (b ∷ until_feed (bytes ++ more))) (not-true (b == line_feed) tests.0)
    ∙ ap (λ z. b ∷ z) (bytes_there bytes more tests.1)

-- the lines up to one of the later ones, with a byte more in front
longer_feeds : (b : ℕ) (ls : List (List ℕ)) (m : ℕ) (x : List ℕ) → slice_get ls (suc m) ≡ Some x
    → with_feeds (take (suc m) (first_longer b ls)) ≡ b ∷ with_feeds (take (suc m) ls)
longer_feeds b [] m x is = absurd (let e : ◌≡◌ {A = Option (List ℕ)} None (Some x) = is in cc)
longer_feeds b (l ∷ ls) m x is = refl

-- behind so many bytes a text goes on in this line
record GoesOn (before more : List ℕ) : Type 0 where
  front : List ℕ
  there : slice_get (lines_of (before ++ more)) (feeds before) ≡ Some (front ++ until_feed more)
  in_front : before ≡ with_feeds (take (feeds before) (lines_of (before ++ more))) ++ front
  column : on_line before ≡ length front
  kind : ((feeds before ≡ 0) × (on_line before ≡ length before)) ⊎ ((0 < feeds before) × (on_line before < length before))

module _ (b : ℕ) (before more : List ℕ) (g : GoesOn before more) where
  abbrev lines : List (List ℕ)
  lines = lines_of (before ++ more)

  abbrev all_lines : List (List ℕ)
  all_lines = lines_of ((b ∷ before) ++ more)

  -- a line feed in front
  behind_feed : (b == line_feed) ≡ true → GoesOn (b ∷ before) more
  behind_feed e =
      let split : all_lines ≡ [] ∷ lines = ap (lines_by b (before ++ more)) e in
      let one : feeds (b ∷ []) ≡ 0 + 1 = ap (λ t. 0 + cond t 1 0) e in
      let sum = sum_by-append (λ x. cond (x == line_feed) 1 0) (b ∷ []) before in
      let counted : feeds (b ∷ before) ≡ 1 + feeds before = omega (arith, one, sum) in
      let next : feeds (b ∷ before) ≡ suc (feeds before) = omega (arith, counted) in
      let none : prefix_len stays_on_line (b ∷ []) ≡ 0 = ap (λ t. cond (not t) (1 + 0) 0) e in
      let stays : on_line (b ∷ before) ≡ on_line before = elim g.kind [
        | inl k ↦ (let all = all_on_line b before k.1 in let same = k.1 in omega (arith, all, none, same))
        | inr k ↦ same_on_line b before k.1
      ] in
      record {
        front = g.front;
        there = ap (λ z. slice_get z (feeds (b ∷ before))) split ∙ ap (slice_get ([] ∷ lines)) next ∙ g.there;
        in_front = ap (λ z. z ∷ before) (eqb-true b line_feed e) ∙ ap (λ z. line_feed ∷ z) g.in_front
            ∙ sym (ap (λ z. with_feeds (take (feeds (b ∷ before)) z) ++ g.front) split
            ∙ ap (λ k. with_feeds (take k ([] ∷ lines)) ++ g.front) next);
        column = stays ∙ g.column;
        kind = elim g.kind [
          | inl k ↦ inr (omega (arith, counted), (let same = k.1 in omega (arith, stays, same)))
          | inr k ↦ inr (omega (arith, counted), (let less = k.1 in omega (arith, stays, less)))
        ];
      }

  -- another byte in front
  module _ (e : (b == line_feed) ≡ false) where
    split : all_lines ≡ first_longer b lines
    split = ap (lines_by b (before ++ more)) e

    counted : feeds (b ∷ before) ≡ feeds before
    counted =
        let one : feeds (b ∷ []) ≡ 0 + 0 = ap (λ t. 0 + cond t 1 0) e in
        let sum = sum_by-append (λ x. cond (x == line_feed) 1 0) (b ∷ []) before in
        omega (arith, one, sum)

    -- of the first line
    of_first : feeds before ≡ 0 → on_line before ≡ length before → GoesOn (b ∷ before) more
    of_first zero_feeds all =
        let one : prefix_len stays_on_line (b ∷ []) ≡ 1 + 0 = ap (λ t. cond (not t) (1 + 0) 0) e in
        let longer = all_on_line b before all in
        let none : feeds (b ∷ before) ≡ 0 = counted ∙ zero_feeds in
        let first : slice_get lines 0 ≡ Some (g.front ++ until_feed more) =
        sym (ap (slice_get lines) zero_feeds) ∙ g.there in
        let whole : before ≡ g.front = g.in_front ∙ ap (λ k. with_feeds (take k lines) ++ g.front) zero_feeds in
        let same = g.column in
        record {
          front = b ∷ g.front;
          there = ap (λ z. slice_get z (feeds (b ∷ before))) split ∙ ap (slice_get (first_longer b lines)) none
              ∙ first_more b lines (g.front ++ until_feed more) first;
          in_front = ap (λ z. b ∷ z) whole ∙ sym (ap (λ k. with_feeds (take k all_lines) ++ b ∷ g.front) none);
          column = omega (arith, longer, one, all, same);
          kind = inl (none, omega (arith, longer, one));
        }

    -- of a later one
    of_later : (m : ℕ) → feeds before ≡ suc m → on_line before < length before → GoesOn (b ∷ before) more
    of_later m some less =
        let stays = same_on_line b before less in
        let later : feeds (b ∷ before) ≡ suc m = counted ∙ some in
        let there : slice_get lines (suc m) ≡ Some (g.front ++ until_feed more) =
        sym (ap (slice_get lines) some) ∙ g.there in
        record {
          front = g.front;
          there = ap (λ z. slice_get z (feeds (b ∷ before))) split ∙ ap (slice_get (first_longer b lines)) later
              ∙ others_are b lines m ∙ there;
          in_front = ap (λ z. b ∷ z) (g.in_front ∙ ap (λ k. with_feeds (take k lines) ++ g.front) some)
              ∙ ap (λ z. z ++ g.front) (sym (longer_feeds b lines m (g.front ++ until_feed more) there))
              ∙ sym (ap (λ z. with_feeds (take (feeds (b ∷ before)) z) ++ g.front) split
              ∙ ap (λ k. with_feeds (take k (first_longer b lines)) ++ g.front) later);
          column = stays ∙ g.column;
          kind = inr (omega (arith, later), omega (arith, stays, less));
        }

    in_line : GoesOn (b ∷ before) more
    in_line = elim g.kind [
      | inl k ↦ of_first k.0 k.1
      | inr k ↦ of_later (feeds before - 1) (let some = k.0 in omega (arith, some)) k.1
    ]

-- it does so behind any bytes
goes_on : (before more : List ℕ) → GoesOn before more
goes_on [] more = record {
  front = [];
  there = first_there more;
  in_front = refl;
  column = refl;
  kind = inl (refl, refl);
}
goes_on (b ∷ before) more = by (b == line_feed) refl (goes_on before more) where
  by : (t : Bool) → (b == line_feed) ≡ t → GoesOn before more → GoesOn (b ∷ before) more
  by true e g = behind_feed b before more g e
  by false e g = in_line b before more g e

-- bytes of one line stand in it
stands : (text : List ℕ) (at : Place) (start stop : ℕ) → at ≡ position_after (take start text)
    → list_all stays_on_line (slice_range text start stop) ≡ true → StandsInLine text at start stop
stands text at start stop position all =
    let before = take start text in
    let tail = drop start text in
    let bytes = slice_range text start stop in
    let more = drop (stop - start) tail in
    let g = goes_on before tail in
    let whole : before ++ tail ≡ text = take-append-drop start text in
    let parts : bytes ++ more ≡ tail = take-append-drop (stop - start) tail in
    let rest : until_feed tail ≡ bytes ++ until_feed more =
    sym (ap until_feed parts) ∙ bytes_there bytes more all in
    let number : at.line ≡ feeds before + 1 = ap (λ p. p.line) position in
    let lines_before : at.line - 1 ≡ feeds before = omega (arith, number) in
    let place : at.column ≡ on_line before + 1 = ap (λ p. p.column) position in
    let same = g.column in
    let front_len : at.column - 1 ≡ length g.front = omega (arith, place, same) in
    let words = g.front ++ bytes ++ until_feed more in
    let regrouped : words ≡ g.front ++ (bytes ++ until_feed more) = append_assoc g.front bytes (until_feed more) in
    let line : slice_get (lines_of text) (at.line - 1) ≡ Some words =
    ap (λ z. slice_get (lines_of z) (at.line - 1)) (sym whole)
    ∙ ap (slice_get (lines_of (before ++ tail))) lines_before ∙ g.there ∙ ap (λ z. Some (g.front ++ z)) rest
    ∙ ap Some (sym regrouped) in
    record {
      front = g.front;
      rest = until_feed more;
      line = line;
      in_front = g.in_front ∙ ap (λ z. with_feeds (take (feeds before) (lines_of z)) ++ g.front) whole
          ∙ sym (ap (λ k. with_feeds (take k (lines_of text)) ++ g.front) lines_before);
      column = omega (arith, place, same);
      told = ap (λ o. caret_below (unwrap_or o []) at.column) line
          ∙ ap (λ z. words ++ codes "\n" ++ map below z ++ codes "^\n")
          (ap (λ k. take k words) front_len ∙ ap (take (length g.front)) regrouped
          ∙ take-append_seam g.front (bytes ++ until_feed more));
    }

-- so does what stands behind so many bytes
pub place_stands : (text : List ℕ) (i : ℕ) (at : Place) → at ≡ position_after (take i text) → StandsInLine text at i i
place_stands text i at position =
    let none : i - i ≡ 0 = omega arith in
    stands text at i i position (ap (λ k. list_all stays_on_line (take k (drop i text))) none)

-- so does the end
end_stands : (text : List ℕ) (start : ℕ) (token : Token) → IsEnd text start token
    → StandsInLine text token.at token.from token.to
end_stands text start token is =
    let from = is.from in
    let to = is.to in
    let few : length text ≤ token.from = omega (arith, from) in
    let none : token.to - token.from ≡ 0 = omega (arith, from, to) in
    stands text token.at token.from token.to (is.position ∙ ap position_after (sym (take_all token.from text few)))
    (ap (λ k. list_all stays_on_line (take k (drop token.from text))) none)

-- the same of a token that is the same
of_same : (text : List ℕ) (a b : Token) → Some a ≡ Some b → StandsInLine text a.at a.from a.to
    → StandsInLine text b.at b.from b.to
of_same text a b e s = let same : a ≡ b = cc in subst (λ t. StandsInLine text t.at t.from t.to) same s

-- and so does each token
pub each_stands : (text : List ℕ) (start : ℕ) (front : List Token) (stop : ℕ) (last : Token) (n : ℕ) (token : Token)
    → HasTokens text start front stop → IsEnd text stop last → slice_get (front ++ last ∷ []) n ≡ Some token
    → StandsInLine text token.at token.from token.to
each_stands text start [] stop last zero token has ends is =
    of_same text last token is (end_stands text stop last ends)
each_stands text start [] stop last (suc n) token has ends is =
    absurd (let e : ◌≡◌ {A = Option Token} None (Some token) = is in cc)
each_stands text start (x ∷ front) stop last zero token has ends is =
    of_same text x token is
    (stands text x.at x.from x.to has.0.position (Spells-line (drop x.from text) (slice_range text x.from x.to) x.what has.0.spelled))
each_stands text start (x ∷ front) stop last (suc n) token has ends is =
    each_stands text x.to front stop last n token has.1 ends is

-- the same of all tokens of a text
pub tokens_stand : (text : List ℕ) (tokens : List Token) (n : ℕ) (token : Token) → AreTokens text tokens
    → slice_get tokens n ≡ Some token → StandsInLine text token.at token.from token.to
tokens_stand text tokens n token are is =
    each_stands text 0 are.front are.stop are.last n token are.has_front are.ends
    (sym (ap (λ ts. slice_get ts n) are.whole) ∙ is)
