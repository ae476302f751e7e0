-- A text that is laid out token by token has these tokens.
use Rattle.std.proofs.Common.{◌≡◌, ℕ, ◌+◌, ◌-◌, ◌<◌, ◌≤◌, ◌∙◌, ap, sym, subst, refl, arith, inl, lit≤, Bool, true}
use Rattle.std.proofs.Common.{false, List, [], ◌∷◌, ◌++◌, length, take, drop, append_assoc, length-append}
use Rattle.std.specs.Prelude.{◌==◌}
use Rattle.std.specs.List.{slice_range, take_while, list_all}
use Rattle.std.specs.Char.{is_ascii_digit}
use Rattle.std.proofs.lemmas.List.{append-nil, take_at, drop_at, take_rest, take-append-le, drop-append-le, length-drop}
use Rattle.std.proofs.lemmas.List.Sums.{take_while-cons}
use Rattle.tj_lex.specs.declared.token.Token.{Token}
use Rattle.tj_lex.specs.declared.token.Tok.{Tok}
use Rattle.tj_lex.specs.declared.token.Tok.TheVariants as toks
use Rattle.tj_lex.specs.declared.token.Mark.{Mark}
use Rattle.tj_lex.specs.declared.token.Mark.TheVariants as marks
use Rattle.tj_lex.specs.Bytes.{is_name_start, is_name_byte, begins_with, line_feed}
use Rattle.tj_lex.specs.Positions.{position_after}
use Rattle.tj_lex.specs.Spelling.{mark_text}
use Rattle.tj_lex.specs.Tokens.{IsGap, StartsWith, Spells, IsToken, AreTokens, AreTokensFrom}
use Rattle.tj_lex.specs.Pieces.{Piece, text_of, extends, AreLaidOut, tokens_of}
use Rattle.tj_lex.proofs.Stretches.{both, list_all-prefix}
use Rattle.tj_lex.proofs.Gaps.{IsGap-append}
use Rattle.tj_lex.proofs.Starts.{mark_text-some}

-- bytes that pass, and then one that doesn't
take_while-append : (p : ℕ → Bool) (bytes after : List ℕ) → list_all p bytes ≡ true → begins_with p after ≡ false
    → take_while p (bytes ++ after) ≡ bytes
take_while-append p [] [] all ends = refl
take_while-append p [] (a ∷ after) all ends = take_while-cons p a after ∙ (rw ends refl)
take_while-append p (b ∷ bytes) after all ends =
    let tests = both (p b) (list_all p bytes) all in
    take_while-cons p b (bytes ++ after) ∙ (rw (tests.0, take_while-append p bytes after tests.1 ends) refl)

begins_with-more : (test : ℕ → Bool) (bytes after : List ℕ) → begins_with test bytes ≡ true
    → begins_with test (bytes ++ after) ≡ true
begins_with-more test [] after begins = absurd (cc)
begins_with-more test (b ∷ bytes) after begins = begins

begins_with-some : (test : ℕ → Bool) (bytes : List ℕ) → begins_with test bytes ≡ true → 0 < length bytes
begins_with-some test [] begins = absurd (cc)
begins_with-some test (b ∷ bytes) begins = omega arith

-- a run that is all of its bytes
all-pass : (p : ℕ → Bool) (bytes : List ℕ) → bytes ≡ take_while p bytes → list_all p bytes ≡ true
all-pass p bytes e = ap (list_all p) e ∙ list_all-prefix p bytes

-- no equals sign is second
no-second : (c b : ℕ) (after : List ℕ) → begins_with (λ a. a == 61) after ≡ false
    → StartsWith (c ∷ 61 ∷ []) (b ∷ after) → ⊥
no-second c b [] ends starts = cc
no-second c b (a ∷ after) ends starts =
    let same : a ≡ 61 = cc in
    let fails = rw same at ends in
    cc

-- a mark is at most two bytes long
mark_text-short : (mark : Mark) → length (mark_text mark) ≤ 2
mark_text-short marks.ParenOpen = lit≤ tt
mark_text-short mark = lit≤ tt

-- the second is an equals sign
mark_text-second : (mark : Mark) (b : ℕ) (after : List ℕ) → begins_with (λ a. a == 61) after ≡ false
    → StartsWith (mark_text mark) (b ∷ after) → length (mark_text mark) ≤ 1
mark_text-second marks.Eq b after ends starts = absurd (no-second _ b after ends starts)
mark_text-second marks.Ne b after ends starts = absurd (no-second _ b after ends starts)
mark_text-second marks.Le b after ends starts = absurd (no-second _ b after ends starts)
mark_text-second marks.Ge b after ends starts = absurd (no-second _ b after ends starts)
mark_text-second mark b after ends starts = lit≤ tt

-- a mark that no equals sign follows is the longest
longest-mark : (bytes after : List ℕ) (other : Mark) → 0 < length bytes → begins_with (λ a. a == 61) after ≡ false
    → StartsWith (mark_text other) (bytes ++ after) → length (mark_text other) ≤ length bytes
longest-mark [] after other some ends starts = absurd (omega arith)
longest-mark (b ∷ []) after other some ends starts = mark_text-second other b after ends starts
longest-mark (b ∷ c ∷ bytes) after other some ends starts = omega (arith, mark_text-short other)

-- a token that nothing extends
Spells-append : (bytes after : List ℕ) (what : Tok) → Spells bytes bytes what
    → begins_with (extends what) after ≡ false → Spells (bytes ++ after) bytes what
Spells-append bytes after (toks.Name word) h ends = (
  begins_with-more is_name_start bytes after h.0,
  sym (take_while-append is_name_byte bytes after (all-pass is_name_byte bytes h.1) ends),
  h.2,
  h.3,
  h.4,
)
Spells-append bytes after (toks.Key key) h ends = (
  begins_with-more is_name_start bytes after h.0,
  sym (take_while-append is_name_byte bytes after (all-pass is_name_byte bytes h.1) ends),
  h.2,
)
Spells-append bytes after (toks.Num number) h ends = (
  begins_with-more is_ascii_digit bytes after h.0,
  sym (take_while-append is_ascii_digit bytes after (all-pass is_ascii_digit bytes h.1) ends),
  h.2,
  h.3,
)
Spells-append bytes after (toks.Mark mark) h ends = (
  h.0,
  take_at bytes after (length bytes) refl,
  λ other starts. longest-mark bytes after other (rw (← h.0) (mark_text-some mark)) ends starts,
)
Spells-append bytes after toks.End h ends = h

-- a token has some bytes
Spells-some : (bytes : List ℕ) (what : Tok) → Spells bytes bytes what → 0 < length bytes
Spells-some bytes (toks.Name word) h = begins_with-some is_name_start bytes h.0
Spells-some bytes (toks.Key key) h = begins_with-some is_name_start bytes h.0
Spells-some bytes (toks.Num number) h = begins_with-some is_ascii_digit bytes h.0
Spells-some bytes (toks.Mark mark) h = rw (← h.0) (mark_text-some mark)
Spells-some bytes toks.End h = absurd h

abbrev first_token : List ℕ → Piece → Token
first_token before piece = record {
  what = piece.what;
  at = position_after before;
  from = length before;
  to = length before + length piece.bytes;
}

-- the token of a piece stands behind a gap and the bytes before it
IsToken-piece : (before : List ℕ) (start : ℕ) (piece : Piece) (rest : List ℕ) → start ≤ length before
    → IsGap (slice_range before start (length before))
    → Spells piece.bytes piece.bytes piece.what → begins_with (extends piece.what) (piece.gap ++ rest) ≡ false
    → IsToken (before ++ (piece.bytes ++ (piece.gap ++ rest))) start (first_token before piece)
IsToken-piece before start piece rest h gap spelled ends =
    let more = piece.bytes ++ (piece.gap ++ rest) in
    let n = length before in
    let behind : drop n (before ++ more) ≡ more = drop_at before more n refl in
    let size : n + length piece.bytes - n ≡ length piece.bytes = omega arith in
    let read : slice_range (before ++ more) n (n + length piece.bytes) ≡ piece.bytes =
    ap (λ i. take i (drop n (before ++ more))) size
    ∙ ap (λ bytes. take (length piece.bytes) bytes) behind
    ∙ take_at piece.bytes (piece.gap ++ rest) (length piece.bytes) refl in
    let front : slice_range (before ++ more) start n ≡ slice_range before start n =
    ap (λ bytes. take (n - start) bytes) (drop-append-le start before more h)
    ∙ take-append-le (n - start) (drop start before) more (omega (arith, length-drop start before)) in
    record {
      behind = h;
      some = omega (arith, Spells-some piece.bytes piece.what spelled);
      within = omega (arith, length-append before more, length-append piece.bytes (piece.gap ++ rest));
      gap = rw front gap;
      spelled = rw (read, behind) (Spells-append piece.bytes (piece.gap ++ rest) piece.what spelled ends);
      position = ap position_after (sym (take_at before more n refl));
    }

lay : (before : List ℕ) (start : ℕ) (pieces : List Piece) → start ≤ length before
    → IsGap (slice_range before start (length before)) → AreLaidOut pieces
    → AreTokensFrom (before ++ text_of pieces) start (tokens_of before pieces)
lay before start [] h gap laid =
    let left : slice_range before start (length before) ≡ drop start before = take_rest before start in
    rw (append-nil before) (record {
      front = [];
      stop = start;
      last = record { what = toks.End; at = position_after before; from = length before; to = length before };
      whole = refl;
      has_front = refl;
      ends = record {
        what = refl;
        from = refl;
        to = refl;
        gap = IsGap-append (drop start before) (line_feed ∷ []) (rw left at gap) (inl (refl, tt));
        position = refl;
      };
    })
lay before start (piece ∷ pieces) h gap laid =
    let next = length before + length piece.bytes in
    let later = before ++ (piece.bytes ++ piece.gap) in
    let rest = text_of pieces in
    let split : later ≡ (before ++ piece.bytes) ++ piece.gap = sym (append_assoc before piece.bytes piece.gap) in
    let left : drop next later ≡ piece.gap =
    ap (λ bytes. drop next bytes) split
    ∙ drop_at (before ++ piece.bytes) piece.gap next (length-append before piece.bytes) in
    let sizes : length later ≡ length before + (length piece.bytes + length piece.gap) =
    omega (arith, length-append before (piece.bytes ++ piece.gap), length-append piece.bytes piece.gap) in
    let gap_read : slice_range later next (length later) ≡ piece.gap = take_rest later next ∙ left in
    let others = lay later next pieces (omega arith) (rw gap_read laid.1) laid.3 in
    let regrouped : before ++ (piece.bytes ++ (piece.gap ++ rest)) ≡ later ++ rest =
    ap (λ bytes. before ++ bytes) (sym (append_assoc piece.bytes piece.gap rest))
    ∙ sym (append_assoc before (piece.bytes ++ piece.gap) rest) in
    let token : IsToken (later ++ rest) start (first_token before piece) =
    subst (λ (text : List ℕ). IsToken text start (first_token before piece)) regrouped
    (IsToken-piece before start piece rest h gap laid.0 laid.2) in
    let all : AreTokensFrom (later ++ rest) start (tokens_of before (piece ∷ pieces)) = record {
      front = first_token before piece ∷ others.front;
      stop = others.stop;
      last = others.last;
      whole = ap (λ tokens. first_token before piece ∷ tokens) others.whole;
      has_front = (token, others.has_front);
      ends = others.ends;
    } in
    subst (λ (text : List ℕ). AreTokensFrom text start (tokens_of before (piece ∷ pieces)))
    (append_assoc before (piece.bytes ++ piece.gap) rest) all

-- the text of pieces has the tokens of the pieces
pub AreTokens-pieces : (pieces : List Piece) → AreLaidOut pieces → AreTokens (text_of pieces) (tokens_of [] pieces)
AreTokens-pieces pieces laid = lay [] 0 pieces (omega arith) tt laid
