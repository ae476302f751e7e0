-- The lines of a journal, one by one.
use Rattle.std.proofs.Common.{◌≡◌, ℕ, suc, ◌+◌, ◌<◌, ◌≤◌, Bool, true, false, cond, not, List, [], ◌∷◌, ◌++◌, length, take, drop, refl, sym, ap, ◌∙◌, subst, arith}
use Rattle.std.specs.Prelude.{◌==◌}
use Rattle.std.specs.List.{prefix_len, onto_first}
use Rattle.tj_events.specs.declared.event.Event.{Event}
use Rattle.tj_core.specs.Journals.Lines.{lines_of, words_of, HasSmallCells, Names, AreEventLines, IsFirstFault}

abbrev pub on_line : ℕ → Bool
on_line b = not (b == 10)

-- a text with a line feed is cut at the first
pub lines_cut : (text : List ℕ) → prefix_len on_line text < length text
    → lines_of text ≡ take (prefix_len on_line text) text ∷ lines_of (drop (suc (prefix_len on_line text)) text)
lines_cut [] h = absurd (omega arith)
lines_cut (b ∷ text) h =
    let n = prefix_len on_line text in
    let P : Bool → Type 0 = λ t. cond (not t) (suc n) 0 < suc (length text)
    → cond t ([] ∷ lines_of text) (onto_first b (lines_of text))
    ≡ take (cond (not t) (suc n) 0) (b ∷ text) ∷ lines_of (drop (suc (cond (not t) (suc n) 0)) (b ∷ text)) in
    let e : 1 + n ≡ suc n = omega arith in
    let by_test : (t : Bool) → P t = λ t. elim t as P [
      | true ↦ λ _. refl
      | false ↦ λ l. ap (onto_first b) (lines_cut text (omega arith))
    ] in
    subst (λ m. cond (on_line b) m 0 < suc (length text) → lines_of (b ∷ text) ≡ take (cond (on_line b) m 0) (b ∷ text)
    ∷ lines_of (drop (suc (cond (on_line b) m 0)) (b ∷ text)))
    (sym e) (by_test (b == 10)) h

-- the last line, whose first byte is no line feed, as the rest of it is a line or empty
whole_line : (b : ℕ) (text : List ℕ) → suc (length text) ≤ prefix_len on_line (b ∷ text)
    → (0 < length text → length text ≤ prefix_len on_line text → lines_of text ≡ text ∷ [])
    → lines_of (b ∷ text) ≡ (b ∷ text) ∷ []
whole_line b text h rest = go (b == 10) refl
  where
    more : (xs : List ℕ) → length xs ≤ prefix_len on_line xs
        → (0 < length xs → length xs ≤ prefix_len on_line xs → lines_of xs ≡ xs ∷ [])
        → onto_first b (lines_of xs) ≡ (b ∷ xs) ∷ []
    more [] l r = refl
    more (x ∷ xs) l r = ap (onto_first b) (r (omega arith) l)

    go : (t : Bool) → (b == 10) ≡ t → lines_of (b ∷ text) ≡ (b ∷ text) ∷ []
    go true e =
        let f : cond (on_line b) (1 + prefix_len on_line text) 0 ≡ 0 = ap
        (λ t. cond (not t) (1 + prefix_len on_line text) 0) e in absurd (omega (arith, h, f))
    go false e =
        let f : cond (on_line b) (1 + prefix_len on_line text) 0 ≡ 1 + prefix_len on_line text = ap
        (λ t. cond (not t) (1 + prefix_len on_line text) 0) e in
        ap (λ t. cond t ([] ∷ lines_of text) (onto_first b (lines_of text))) e ∙ more text (omega (arith, h, f)) rest

-- a text without one is a line
pub lines_whole : (text : List ℕ) → 0 < length text → length text ≤ prefix_len on_line text → lines_of text ≡ text ∷ []
lines_whole [] some h = absurd (omega arith)
lines_whole (b ∷ text) some h = whole_line b text h (lines_whole text)

-- one line more is that of an event
pub event_lines_more : (lines : List (List ℕ)) (events : List Event) (line : List ℕ) (e : Event)
    → AreEventLines lines events → HasSmallCells e → Names (words_of line) e
    → AreEventLines (lines ++ line ∷ []) (events ++ e ∷ [])
event_lines_more [] [] line e h small names = (small, names, tt)
event_lines_more [] (f ∷ events) line e h small names = absurd h
event_lines_more (l ∷ lines) [] line e h small names = absurd h
event_lines_more (l ∷ lines) (f ∷ events) line e h small
    names = (h.0, h.1, event_lines_more lines events line e h.2 small names)

-- there are as many of both
pub event_lines_length : (lines : List (List ℕ)) (events : List Event) → AreEventLines lines events → length lines
    ≡ length events
event_lines_length [] [] h = refl
event_lines_length [] (f ∷ events) h = absurd h
event_lines_length (l ∷ lines) [] h = absurd h
event_lines_length (l ∷ lines) (f ∷ events) h = ap suc (event_lines_length lines events h.2)

-- the first line that isn't one of an event is one line
pub one_fault : (lines : List (List ℕ)) (m n : ℕ) → IsFirstFault lines m → IsFirstFault lines n → m ≡ n
one_fault lines m n a b =
    a.number ∙ ap suc (go a.before a.events b.before b.events (sym a.whole ∙ b.whole) a.good b.good) ∙ sym b.number
  where
    go : (xs : List (List ℕ)) (es : List Event) (ys : List (List ℕ)) (fs : List Event)
        → xs ++ a.line ∷ a.after ≡ ys ++ b.line ∷ b.after → AreEventLines xs es → AreEventLines ys fs → length xs
        ≡ length ys
    go [] es [] fs e p q = refl
    go [] es (y ∷ ys) [] e p q = absurd q
    go [] es (y ∷ ys) (f ∷ fs) e p q =
        let same : a.line ≡ y = cc in absurd (a.bad (f, q.0, subst (λ l. Names (words_of l) f) (sym same) q.1))
    go (x ∷ xs) [] ys fs e p q = absurd p
    go (x ∷ xs) (f ∷ es) [] fs e p q =
        let same : x ≡ b.line = cc in absurd (b.bad (f, p.0, subst (λ l. Names (words_of l) f) same p.1))
    go (x ∷ xs) (f ∷ es) (y ∷ ys) [] e p q = absurd q
    go (x ∷ xs) (f ∷ es) (y ∷ ys) (g ∷ fs) e p q = ap suc (go xs es ys fs (cc) p.2 q.2)

-- a text that has such a line has other lines than those of events
pub fault_or_events : (lines : List (List ℕ)) (n : ℕ) (events : List Event) → IsFirstFault lines n → AreEventLines lines
    events → ⊥
fault_or_events lines n events a h = go a.before events (subst (λ l. AreEventLines l events) a.whole h)
  where
    go : (xs : List (List ℕ)) (es : List Event) → AreEventLines (xs ++ a.line ∷ a.after) es → ⊥
    go [] [] q = q
    go [] (f ∷ fs) q = a.bad (f, q.0, q.1)
    go (x ∷ xs) [] q = q
    go (x ∷ xs) (f ∷ fs) q = go xs fs q.2
