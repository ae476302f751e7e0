-- A text has one list of tokens, or one first fault.
use Rattle.std.proofs.Common.{◌≡◌, ℕ, ◌-◌, ◌<◌, ◌≤◌, ◌∙◌, ap, sym, refl, arith, false, List, [], ◌∷◌, ◌++◌, length, take, drop, ℤ, pos, Result, Ok, Err, IfOk, IfErr, MatchResult, IsErrAnd}
use Rattle.std.specs.List.{slice_range, prefix_len, take_while}
use Rattle.std.proofs.lemmas.List.{length-drop, length-take-le}
use Rattle.std.proofs.lemmas.List.Folds.{length-prefix_len}
use Rattle.tj_lex.specs.declared.place.Place.{Place}
use Rattle.tj_lex.specs.declared.token.Token.{Token}
use Rattle.tj_lex.specs.declared.token.Tok.{Tok}
use Rattle.tj_lex.specs.declared.token.Tok.TheVariants as toks
use Rattle.tj_lex.specs.declared.token.Mark.{Mark}
use Rattle.tj_lex.specs.declared.token.LexFault.{LexFault}
use Rattle.tj_lex.specs.declared.token.LexFault.TheVariants as faults
use Rattle.tj_lex.specs.Bytes.{is_name_byte, is_gap_start, begins_with}
use Rattle.tj_lex.specs.Positions.{position_after}
use Rattle.tj_lex.specs.Spelling.{decimal}
use Rattle.tj_lex.specs.Tokens.{Spells, IsFaultAt, IsToken, IsEnd, IsFaultFrom, HasTokens, AreTokens, IsFirstFault, Answers, OrMemory, longest_name}
use Rattle.tj_lex.proofs.Behind.{StandsAt, StandsAt-one, StandsAt-last}
use Rattle.tj_lex.proofs.Starts.{IsMarkStart, mark-start, name-no_gap, number-no_gap, number-no_name, key_text-one, key_text-short, mark_text-one}

-- the mark that a text begins with
mark-at : (text bytes : List ℕ) (mark : Mark) → Spells text bytes (toks.Mark mark) → IsMarkStart text
mark-at text bytes mark h = mark-start mark text (rw h.0 h.1)

-- a text that begins with a token begins with no gap
Spells-no_gap : (text bytes : List ℕ) (what : Tok) → Spells text bytes what → begins_with is_gap_start text ≡ false
Spells-no_gap text bytes (toks.Name word) h = name-no_gap text h.0
Spells-no_gap text bytes (toks.Key key) h = name-no_gap text h.0
Spells-no_gap text bytes (toks.Num number) h = number-no_gap text h.0
Spells-no_gap text bytes (toks.Mark mark) h = (mark-at text bytes mark h).no_gap
Spells-no_gap text bytes toks.End h = absurd h

-- what a name's bytes say
Name-one : (text a b : List ℕ) (v w : List ℕ) → Spells text a (toks.Name v) → Spells text b (toks.Name w)
    → toks.Name v ≡ toks.Name w
Name-one text a b v w h k =
    let same : v ≡ w = h.3 ∙ h.1 ∙ sym k.1 ∙ sym k.3 in
    let named : List ℕ → Tok = toks.Name in
    ap named same

-- a text begins with one token
Spells-what : (text a b : List ℕ) (v w : Tok) → Spells text a v → Spells text b w → v ≡ w
Spells-what text a b (toks.Name v) (toks.Name w) h k = Name-one text a b v w h k
Spells-what text a b (toks.Name v) (toks.Key w) h k = absurd (h.4 w (k.2 ∙ k.1 ∙ sym h.1))
Spells-what text a b (toks.Name v) (toks.Num w) h k = absurd (number-no_name text k.0 h.0)
Spells-what text a b (toks.Name v) (toks.Mark w) h k =
    let none = (mark-at text b w k).no_name in absurd (cc (none, h.0))
Spells-what text a b (toks.Key v) (toks.Name w) h k = absurd (k.4 v (h.2 ∙ h.1 ∙ sym k.1))
Spells-what text a b (toks.Key v) (toks.Key w) h k = ap toks.Key (key_text-one v w (h.2 ∙ h.1 ∙ sym k.1 ∙ sym k.2))
Spells-what text a b (toks.Key v) (toks.Num w) h k = absurd (number-no_name text k.0 h.0)
Spells-what text a b (toks.Key v) (toks.Mark w) h k = let none = (mark-at text b w k).no_name in absurd (cc (none, h.0))
Spells-what text a b (toks.Num v) (toks.Name w) h k = absurd (number-no_name text h.0 k.0)
Spells-what text a b (toks.Num v) (toks.Key w) h k = absurd (number-no_name text h.0 k.0)
Spells-what text a b (toks.Num v) (toks.Num w) h k =
    let named : ℤ → Tok = toks.Num in
    ap named (h.3 ∙ ap (λ bytes. pos (decimal bytes)) (h.1 ∙ sym k.1) ∙ sym k.3)
Spells-what text a b (toks.Num v) (toks.Mark w) h k =
    let none = (mark-at text b w k).no_number in absurd (cc (none, h.0))
Spells-what text a b (toks.Mark v) (toks.Name w) h k =
    let none = (mark-at text a v h).no_name in absurd (cc (none, k.0))
Spells-what text a b (toks.Mark v) (toks.Key w) h k = let none = (mark-at text a v h).no_name in absurd (cc (none, k.0))
Spells-what text a b (toks.Mark v) (toks.Num w) h k =
    let none = (mark-at text a v h).no_number in absurd (cc (none, k.0))
Spells-what text a b (toks.Mark v) (toks.Mark w) h k =
    let below = k.2 v (rw h.0 h.1) in
    let above = h.2 w (rw k.0 k.1) in
    let size : length a ≡ length b = omega (arith, ap length h.0, ap length k.0) in
    let bytes : a ≡ b = sym h.1 ∙ ap (λ n. take n text) size ∙ k.1 in
    ap toks.Mark (mark_text-one v w (h.0 ∙ bytes ∙ sym k.0))
Spells-what text a b toks.End w h k = absurd h
Spells-what text a b v toks.End h k = absurd k

-- and its bytes
Spells-bytes : (text a b : List ℕ) (v : Tok) → Spells text a v → Spells text b v → a ≡ b
Spells-bytes text a b (toks.Name v) h k = h.1 ∙ sym k.1
Spells-bytes text a b (toks.Key v) h k = h.1 ∙ sym k.1
Spells-bytes text a b (toks.Num v) h k = h.1 ∙ sym k.1
Spells-bytes text a b (toks.Mark v) h k = sym h.0 ∙ k.0
Spells-bytes text a b toks.End h k = absurd h

-- a text begins with one fault
IsFaultAt-one : (position : Place) (text : List ℕ) (v w : LexFault) → IsFaultAt position text v
    → IsFaultAt position text w → v ≡ w
IsFaultAt-one position text (faults.Byte a) (faults.Byte b) h k = ap faults.Byte (h.0 ∙ sym k.0)
IsFaultAt-one position text (faults.Byte a) (faults.Number b) h k = absurd (cc (h.2, k.1))
IsFaultAt-one position text (faults.Byte a) (faults.Long b) h k = absurd (cc (h.1, k.1))
IsFaultAt-one position text (faults.Number a) (faults.Byte b) h k = absurd (cc (h.1, k.2))
IsFaultAt-one position text (faults.Number a) (faults.Number b) h k = ap faults.Number (h.0 ∙ sym k.0)
IsFaultAt-one position text (faults.Number a) (faults.Long b) h k = absurd (number-no_name text h.1 k.1)
IsFaultAt-one position text (faults.Long a) (faults.Byte b) h k = absurd (cc (h.1, k.1))
IsFaultAt-one position text (faults.Long a) (faults.Number b) h k = absurd (number-no_name text k.1 h.1)
IsFaultAt-one position text (faults.Long a) (faults.Long b) h k = ap faults.Long (h.0 ∙ sym k.0)
IsFaultAt-one position text faults.Oom w h k = absurd h
IsFaultAt-one position text v faults.Oom h k = absurd k

-- a name that isn't too long
name-short : (text bytes : List ℕ) → bytes ≡ take_while is_name_byte text → length bytes ≤ longest_name
    → longest_name < prefix_len is_name_byte text → ⊥
name-short text bytes e short long = omega (arith, ap length e, length-prefix_len is_name_byte text)

-- a text that begins with a token begins with no fault
Spells-no_fault : (position : Place) (text bytes : List ℕ) (v : Tok) (w : LexFault) → Spells text bytes v
    → IsFaultAt position text w → ⊥
Spells-no_fault position text bytes (toks.Name v) (faults.Byte b) h k = absurd (cc (h.0, k.1))
Spells-no_fault position text bytes (toks.Name v) (faults.Number b) h k = number-no_name text k.1 h.0
Spells-no_fault position text bytes (toks.Name v) (faults.Long b) h k = name-short text bytes h.1 h.2 k.2
Spells-no_fault position text bytes (toks.Key v) (faults.Byte b) h k = absurd (cc (h.0, k.1))
Spells-no_fault position text bytes (toks.Key v) (faults.Number b) h k = number-no_name text k.1 h.0
Spells-no_fault position text bytes (toks.Key v) (faults.Long b) h k =
    name-short text bytes h.1 (rw (← h.2) (key_text-short v)) k.2
Spells-no_fault position text bytes (toks.Num v) (faults.Byte b) h k = absurd (cc (h.0, k.2))
Spells-no_fault position text bytes (toks.Num v) (faults.Number b) h k = omega (arith, h.2, k.2, ap decimal h.1)
Spells-no_fault position text bytes (toks.Num v) (faults.Long b) h k = number-no_name text h.0 k.1
Spells-no_fault position text bytes (toks.Mark v) (faults.Byte b) h k = k.3 v (rw h.0 h.1)
Spells-no_fault position text bytes (toks.Mark v) (faults.Number b) h k =
    let none = (mark-at text bytes v h).no_number in absurd (cc (none, k.1))
Spells-no_fault position text bytes (toks.Mark v) (faults.Long b) h k =
    let none = (mark-at text bytes v h).no_name in absurd (cc (none, k.1))
Spells-no_fault position text bytes toks.End w h k = absurd h
Spells-no_fault position text bytes v faults.Oom h k = absurd k

-- tokens are their fields
token_is : (t u : Token) → t.what ≡ u.what → t.at ≡ u.at → t.from ≡ u.from → t.to ≡ u.to → t ≡ u
token_is t u what at from to =
    let with_what : Tok → Token = λ x. record t { what = x } in
    let with_at : Place → Token = λ x. record { what = u.what; at = x; from = t.from; to = t.to } in
    let with_from : ℕ → Token = λ x. record { what = u.what; at = u.at; from = x; to = t.to } in
    let with_to : ℕ → Token = λ x. record { what = u.what; at = u.at; from = u.from; to = x } in
    ap with_what what ∙ ap with_at at ∙ ap with_from from ∙ ap with_to to

-- a token stands behind the gap
token-stands : (text : List ℕ) (start : ℕ) (token : Token) → IsToken text start token → StandsAt text start token.from
token-stands text start token h = record {
  behind = h.behind;
  within = omega (arith, h.some, h.within);
  gap = h.gap;
  no_gap = Spells-no_gap (drop token.from text) (slice_range text token.from token.to) token.what h.spelled;
}

-- so does a fault
fault-stands : (text : List ℕ) (start i : ℕ) (fault : LexFault) → IsFaultFrom text start i fault → StandsAt text start i
fault-stands text start i fault h = record { behind = h.behind; within = h.within; gap = h.gap; no_gap = h.no_gap }

-- one token comes next
IsToken-one : (text : List ℕ) (start : ℕ) (t u : Token) → IsToken text start t → IsToken text start u → t ≡ u
IsToken-one text start t u h k =
    let from = StandsAt-one text start t.from u.from (token-stands text start t h) (token-stands text start u k) in
    let spelled : Spells (drop u.from text) (slice_range text u.from t.to) t.what = rw (← from) h.spelled in
    let what =
    Spells-what (drop u.from text) (slice_range text u.from t.to)
    (slice_range text u.from u.to) t.what u.what spelled k.spelled in
    let bytes =
    Spells-bytes (drop u.from text) (slice_range text u.from t.to) (slice_range text u.from u.to) u.what
    (rw (← what) spelled) k.spelled in
    let to : t.to ≡ u.to =
    omega (
      arith,
      ap length bytes,
      h.some,
      h.within,
      k.some,
      k.within,
      from,
      length-drop u.from text,
      length-take-le (t.to - u.from) (drop u.from text)
          (omega (arith, h.some, h.within, from, length-drop u.from text)),
      length-take-le (u.to - u.from) (drop u.from text) (omega (arith, k.some, k.within, length-drop u.from text)),
    ) in
    token_is t u what (h.position ∙ ap (λ i. position_after (take i text)) from ∙ sym k.position) from to

IsEnd-one : (text : List ℕ) (start : ℕ) (t u : Token) → IsEnd text start t → IsEnd text start u → t ≡ u
IsEnd-one text start t u h k =
    token_is t u (h.what ∙ sym k.what) (h.position ∙ sym k.position) (h.from ∙ sym k.from) (h.to ∙ sym k.to)

-- what ends the reading at an index: the end of the text, or a fault
abbrev pub Finishes : (text : List ℕ) (start : ℕ) → Result Token LexFault → Type 0
Finishes text start (Ok token) = IsEnd text start token
Finishes text start (Err fault) = (i : ℕ) × IsFaultFrom text start i fault

Finishes-one : (text : List ℕ) (start : ℕ) (x y : Result Token LexFault) → Finishes text start x
    → Finishes text start y → x ≡ y
Finishes-one text start (Ok t) (Ok u) h k = ap Ok (IsEnd-one text start t u h k)
Finishes-one text start (Ok t) (Err g) h k =
    absurd (StandsAt-last text start k.0 (fault-stands text start k.0 g k.1) h.gap)
Finishes-one text start (Err f) (Ok u) h k =
    absurd (StandsAt-last text start h.0 (fault-stands text start h.0 f h.1) k.gap)
Finishes-one text start (Err f) (Err g) h k =
    let same =
    StandsAt-one text start h.0 k.0 (fault-stands text start h.0 f h.1) (fault-stands text start k.0 g k.1) in
    let stands : IsFaultAt (position_after (take k.0 text)) (drop k.0 text) f = rw (← same) h.1.stands in
    ap Err (IsFaultAt-one (position_after (take k.0 text)) (drop k.0 text) f g stands k.1.stands)

token-or-finish : (text : List ℕ) (start : ℕ) (t : Token) (x : Result Token LexFault) → IsToken text start t
    → Finishes text start x → ⊥
token-or-finish text start t (Ok u) h k = StandsAt-last text start t.from (token-stands text start t h) k.gap
token-or-finish text start t (Err f) h k =
    let same = StandsAt-one text start t.from k.0 (token-stands text start t h) (fault-stands text start k.0 f k.1) in
    let spelled : Spells (drop k.0 text) (slice_range text k.0 t.to) t.what = rw (← same) h.spelled in
    Spells-no_fault (position_after (take k.0 text)) (drop k.0 text)
    (slice_range text k.0 t.to) t.what f spelled k.1.stands

-- a reading, from an index on: its tokens, and what finishes it
pub record IsReading (text : List ℕ) (start : ℕ) (tokens : List Token) (finish : Result Token LexFault) : Type 0 where
  pub stop : ℕ
  pub has : HasTokens text start tokens stop
  pub finishes : Finishes text stop finish

pub IsReading-one : (text : List ℕ) (start : ℕ) (ts us : List Token) (x y : Result Token LexFault)
    → IsReading text start ts x → IsReading text start us y → (ts ≡ us) × (x ≡ y)
IsReading-one text start [] [] x y h k =
    (refl, Finishes-one text start x y (rw h.has h.finishes) (rw k.has k.finishes))
IsReading-one text start [] (u ∷ us) x y h k =
    absurd (token-or-finish text start u x k.has.0 (rw h.has h.finishes))
IsReading-one text start (t ∷ ts) [] x y h k =
    absurd (token-or-finish text start t y h.has.0 (rw k.has k.finishes))
IsReading-one text start (t ∷ ts) (u ∷ us) x y h k =
    let first = IsToken-one text start t u h.has.0 k.has.0 in
    let at_u : HasTokens text u.to ts h.stop = rw (← first) h.has.1 in
    let rest = IsReading-one text u.to ts us x y
    (record { stop = h.stop; has = at_u; finishes = h.finishes })
    (record { stop = k.stop; has = k.has.1; finishes = k.finishes }) in
    (ap (λ head. head ∷ ts) first ∙ ap (λ tail. u ∷ tail) rest.0, rest.1)

-- a text is one list of tokens, or one first fault
pub Answers-one : (text : List ℕ) (a b : Result (List Token) LexFault) → Answers text a → Answers text b → a ≡ b
Answers-one text (Ok ts) (Ok us) h k =
    let one = IsReading-one text 0 h.front k.front (Ok h.last) (Ok k.last)
    (record { stop = h.stop; has = h.has_front; finishes = h.ends })
    (record { stop = k.stop; has = k.has_front; finishes = k.ends }) in
    let last : h.last ≡ k.last = cc (one.1) in
    ap Ok (h.whole ∙ ap (λ front. front ++ h.last ∷ []) one.0 ∙ ap (λ token. k.front ++ token ∷ []) last ∙ sym k.whole)
Answers-one text (Ok ts) (Err g) h k =
    let one = IsReading-one text 0 h.front k.front (Ok h.last) (Err g)
    (record { stop = h.stop; has = h.has_front; finishes = h.ends })
    (record { stop = k.stop; has = k.has_front; finishes = (k.index, k.faults) }) in
    absurd (cc (one.1))
Answers-one text (Err f) (Ok us) h k =
    let one = IsReading-one text 0 h.front k.front (Err f) (Ok k.last)
    (record { stop = h.stop; has = h.has_front; finishes = (h.index, h.faults) })
    (record { stop = k.stop; has = k.has_front; finishes = k.ends }) in
    absurd (cc (one.1))
Answers-one text (Err f) (Err g) h k =
    let one = IsReading-one text 0 h.front k.front (Err f) (Err g)
    (record { stop = h.stop; has = h.has_front; finishes = (h.index, h.faults) })
    (record { stop = k.stop; has = k.has_front; finishes = (k.index, k.faults) }) in
    ap Err (cc (one.1))

-- a call that gives tokens or a fault gives the text's own, unless memory runs out
pub only_tokens : {V : Type 0} (items : V → List Token) (text : List ℕ) (r : Result V LexFault)
    → IfOk r (λ v. AreTokens text (items v)) → IfErr r (OrMemory (IsFirstFault text))
    → (all : List Token) → AreTokens text all → MatchResult r (λ v. items v ≡ all) (λ fault. fault ≡ faults.Oom)
only_tokens items text (Ok v) ok err all h = cc (Answers-one text (Ok (items v)) (Ok all) ok h)
only_tokens items text (Err (faults.Byte at)) ok err all h = cc (Answers-one text (Err (faults.Byte at)) (Ok all) err h)
only_tokens items text (Err (faults.Number at)) ok err all h =
    cc (Answers-one text (Err (faults.Number at)) (Ok all) err h)
only_tokens items text (Err (faults.Long at)) ok err all h = cc (Answers-one text (Err (faults.Long at)) (Ok all) err h)
only_tokens items text (Err faults.Oom) ok err all h = refl

pub only_fault : {V : Type 0} (items : V → List Token) (text : List ℕ) (r : Result V LexFault)
    → IfOk r (λ v. AreTokens text (items v)) → IfErr r (OrMemory (IsFirstFault text))
    → (first : LexFault) → IsFirstFault text first → IsErrAnd r (OrMemory (λ fault. fault ≡ first))
only_fault items text (Ok v) ok err first h = absurd (cc (Answers-one text (Ok (items v)) (Err first) ok h))
only_fault items text (Err (faults.Byte at)) ok err first h =
    cc (Answers-one text (Err (faults.Byte at)) (Err first) err h)
only_fault items text (Err (faults.Number at)) ok err first h =
    cc (Answers-one text (Err (faults.Number at)) (Err first) err h)
only_fault items text (Err (faults.Long at)) ok err first h =
    cc (Answers-one text (Err (faults.Long at)) (Err first) err h)
only_fault items text (Err faults.Oom) ok err first h = tt
