-- How the position moves along a text.
use Rattle.std.proofs.Common.{◌≡◌, ℕ, ◌+◌, ◌≤◌, ◌∙◌, ap, sym, arith, true, cond, Bool, List, [], ◌∷◌, ◌++◌, length, append_assoc}
use Rattle.std.specs.Prelude.{◌==◌}
use Rattle.std.specs.List.{suffix_len, prefix_len, list_all}
use Rattle.std.proofs.lemmas.List.{reverse-append, append-nil}
use Rattle.std.proofs.lemmas.List.Sums.{sum_by-append, count_by-le-length, suffix_len-le-length}
use Rattle.tj_lex.proofs.Stretches.{both, not-true}
use Rattle.tj_lex.specs.declared.place.Place.{Place}
use Rattle.tj_lex.specs.Bytes.{line_feed, stays_on_line}
use Rattle.tj_lex.specs.Positions.{position_after}

-- a position is its line and its column
pub position_is : (at : Place) (line column : ℕ) → at.line ≡ line → at.column ≡ column
    → at ≡ record { line = line; column = column }
position_is at line column l c =
    let with_line : ℕ → Place = λ n. record { line = n; column = at.column } in
    let with_column : ℕ → Place = λ n. record { line = line; column = n } in
    ap with_line l ∙ ap with_column c

-- how many bytes at the end stay on the line, behind one more byte
suffix_len-push : (p : ℕ → Bool) (xs : List ℕ) (x : ℕ)
    → suffix_len p (xs ++ x ∷ []) ≡ cond (p x) (1 + suffix_len p xs) 0
suffix_len-push p xs x = ap (prefix_len p) (reverse-append xs (x ∷ []))

-- a line feed ends the line
pub line-feed : (before : List ℕ) → (position_after (before ++ line_feed ∷ [])).line ≡ (position_after before).line + 1
line-feed before = omega (arith, sum_by-append (λ b. cond (b == line_feed) 1 0) before (line_feed ∷ []))

-- and the next begins at column 1
pub column-feed : (before : List ℕ) → (position_after (before ++ line_feed ∷ [])).column ≡ 1
column-feed before = omega (arith, suffix_len-push stays_on_line before line_feed)

-- another byte leaves the line
line-byte : (before : List ℕ) (b : ℕ) → stays_on_line b ≡ true
    → (position_after (before ++ b ∷ [])).line ≡ (position_after before).line
line-byte before b stays =
    let e = sum_by-append (λ b. cond (b == line_feed) 1 0) before (b ∷ []) in
    let f = rw (not-true (b == line_feed) stays) at e in
    omega (arith, f)

-- and moves one column on
column-byte : (before : List ℕ) (b : ℕ) → stays_on_line b ≡ true
    → (position_after (before ++ b ∷ [])).column ≡ (position_after before).column + 1
column-byte before b stays = let e = suffix_len-push stays_on_line before b in let f = rw stays at e in omega (arith, f)

-- so do several bytes
pub line-along : (before more : List ℕ) → list_all stays_on_line more ≡ true
    → (position_after (before ++ more)).line ≡ (position_after before).line
line-along before [] all = ap (λ bytes. (position_after bytes).line) (append-nil before)
line-along before (b ∷ more) all =
    let tests = both (stays_on_line b) (list_all stays_on_line more) all in
    ap (λ bytes. (position_after bytes).line) (sym (append_assoc before (b ∷ []) more))
    ∙ line-along (before ++ b ∷ []) more tests.1 ∙ line-byte before b tests.0

pub column-along : (before more : List ℕ) → list_all stays_on_line more ≡ true
    → (position_after (before ++ more)).column ≡ (position_after before).column + length more
column-along before [] all = rw (append-nil before) (omega arith)
column-along before (b ∷ more) all =
    let tests = both (stays_on_line b) (list_all stays_on_line more) all in
    let regrouped = ap (λ bytes. (position_after bytes).column) (sym (append_assoc before (b ∷ []) more)) in
    let rest = column-along (before ++ b ∷ []) more tests.1 in
    let first = column-byte before b tests.0 in
    omega (arith, regrouped, rest, first)

-- lines and columns are few
pub line-small : (before : List ℕ) → (position_after before).line ≤ length before + 1
line-small before = omega (arith, count_by-le-length (λ b. b == line_feed) before)

pub column-small : (before : List ℕ) → (position_after before).column ≤ length before + 1
column-small before = omega (arith, suffix_len-le-length stays_on_line before)
