-- The lines of a text, one by one, and the one that stands behind so many.
use Rattle.std.proofs.Common.{◌≡◌, ◌<◌, ◌≤◌, ◌==◌, ◌+◌, ◌-◌, ◌∙◌, ℕ, zero, suc, Bool, true, false, not, cond, List, [], ◌∷◌}
use Rattle.std.proofs.Common.{◌++◌, length, map, take, drop, refl, ap, sym, subst, arith}
use Rattle.std.proofs.lemmas.List.{append_assoc, map-append, take_rest}
use Rattle.std.specs.Prelude.{slice_get, unwrap_or}
use Rattle.std.specs.List.{prefix_len}
use Rattle.tj_lex.specs.Bytes.{line_feed, stays_on_line}
use Rattle.tj_faults.specs.Carets.{behind_lines, first_longer, lines_of, next_line}

-- the lines of a text with one byte more in front, if this is a line feed or not
abbrev pub lines_by : ℕ → List ℕ → Bool → List (List ℕ)
lines_by b text t = cond t ([] ∷ lines_of text) (first_longer b (lines_of text))

-- a text with a line feed is its first line and those behind it
one_more : (text : List ℕ) (k : ℕ) → k ≡ prefix_len stays_on_line text → k < length text
    → lines_of text ≡ take k text ∷ lines_of (drop (suc k) text)
one_more [] k is less = absurd (omega (arith, less))
one_more (b ∷ text) k is less = by (b == line_feed) refl (one_more text (prefix_len stays_on_line text) refl) where
  by : (t : Bool) → (b == line_feed) ≡ t → (prefix_len stays_on_line text < length text → lines_of text
      ≡ take (prefix_len stays_on_line text) text ∷ lines_of (drop (suc (prefix_len stays_on_line text)) text))
      → lines_of (b ∷ text) ≡ take k (b ∷ text) ∷ lines_of (drop (suc k) (b ∷ text))
  by true e rest =
      let none : k ≡ 0 = is ∙ ap (λ z. cond (not z) (1 + prefix_len stays_on_line text) 0) e in
      subst (λ n. lines_of (b ∷ text) ≡ take n (b ∷ text) ∷ lines_of (drop (suc n) (b ∷ text))) (sym none)
      (ap (lines_by b text) e)
  by false e rest =
      let some : k ≡ 1 + prefix_len stays_on_line text =
      is ∙ ap (λ z. cond (not z) (1 + prefix_len stays_on_line text) 0) e in
      let more : k ≡ suc (prefix_len stays_on_line text) = omega (arith, some) in
      let few = less in
      let within : prefix_len stays_on_line text < length text = omega (arith, some, few) in
      subst (λ n. lines_of (b ∷ text) ≡ take n (b ∷ text) ∷ lines_of (drop (suc n) (b ∷ text))) (sym more)
      (ap (lines_by b text) e ∙ ap (first_longer b) (rest within))

-- a text without a line feed is one line
the_last : (text : List ℕ) → length text ≤ prefix_len stays_on_line text → lines_of text ≡ text ∷ []
the_last [] whole = refl
the_last (b ∷ text) whole = by (b == line_feed) refl (the_last text) where
  by : (t : Bool) → (b == line_feed) ≡ t
      → (length text ≤ prefix_len stays_on_line text → lines_of text ≡ text ∷ [])
      → lines_of (b ∷ text) ≡ (b ∷ text) ∷ []
  by true e rest =
      let none : prefix_len stays_on_line (b ∷ text) ≡ 0 =
      ap (λ z. cond (not z) (1 + prefix_len stays_on_line text) 0) e in
      let all = whole in
      absurd (omega (arith, none, all))
  by false e rest =
      let some : prefix_len stays_on_line (b ∷ text) ≡ 1 + prefix_len stays_on_line text =
      ap (λ z. cond (not z) (1 + prefix_len stays_on_line text) 0) e in
      let all = whole in
      let within : length text ≤ prefix_len stays_on_line text = omega (arith, some, all) in
      ap (lines_by b text) e ∙ ap (first_longer b) (rest within)

-- the same, as the code takes it
pub first_of : (text first rest : List ℕ) (k : ℕ) → k ≡ prefix_len stays_on_line text → k < length text
    → first ≡ take k text → rest ≡ take (length text - (k + 1)) (drop (k + 1) text)
    → lines_of text ≡ first ∷ lines_of rest
first_of text first rest k counted less line behind =
    let same : suc k ≡ k + 1 = omega arith in
    one_more text k counted less
    ∙ ap (λ z. take k text ∷ lines_of z) (ap (λ n. drop n text) same ∙ sym (behind ∙ take_rest text (k + 1)))
    ∙ ap (λ l. l ∷ lines_of rest) (sym line)

-- a text without a line feed, as the code finds it
pub last_of : (text : List ℕ) (k : ℕ) → k ≡ prefix_len stays_on_line text → ¬ (k < length text)
    → lines_of text ≡ text ∷ []
last_of text k counted ends = the_last text (omega (arith, ends, counted))

module _ {X : Type 0} (see : X → List ℕ) (so_far more : List X) (x : X) (text rest : List ℕ)
    (is : map see so_far ++ lines_of rest ≡ lines_of text) (grown : more ≡ so_far ++ x ∷ []) where
  added : map see more ≡ map see so_far ++ see x ∷ []
  added = ap (map see) grown ∙ map-append see so_far (x ∷ [])

  -- one line more
  pub line_added : (next : List ℕ) → lines_of rest ≡ see x ∷ lines_of next
      → map see more ++ lines_of next ≡ lines_of text
  line_added next split =
      ap (λ z. z ++ lines_of next) added ∙ append_assoc (map see so_far) (see x ∷ []) (lines_of next)
      ∙ ap (λ z. map see so_far ++ z) (sym split) ∙ is

  -- the last line
  pub lines_ended : see x ≡ rest → lines_of rest ≡ rest ∷ [] → map see more ≡ lines_of text
  lines_ended line split =
      added ∙ ap (λ l. map see so_far ++ l ∷ []) line ∙ ap (λ z. map see so_far ++ z) (sym split) ∙ is

-- the first line with a byte more
first_is : (b : ℕ) (ls : List (List ℕ))
    → unwrap_or (slice_get (first_longer b ls) 0) [] ≡ b ∷ unwrap_or (slice_get ls 0) []
first_is b [] = refl
first_is b (l ∷ ls) = refl

-- the others stay
pub others_are : (b : ℕ) (ls : List (List ℕ)) (n : ℕ) → slice_get (first_longer b ls) (suc n) ≡ slice_get ls (suc n)
others_are b [] n = refl
others_are b (l ∷ ls) n = refl

-- behind the end there is nothing
nothing_behind : (n : ℕ) → behind_lines n [] ≡ []
nothing_behind zero = refl
nothing_behind (suc n) = nothing_behind n

-- the bytes of the first line
abbrev first_line : List ℕ → List ℕ
first_line text = take (prefix_len stays_on_line text) text

-- the line behind so many is the first one of what stands behind these
line_behind : (text : List ℕ) (n : ℕ)
    → first_line (behind_lines n text) ≡ unwrap_or (slice_get (lines_of text) n) []
line_behind [] zero = refl
line_behind [] (suc n) = ap first_line (nothing_behind n)
line_behind (b ∷ text) n = by n (b == line_feed) refl (line_behind text) where
  longer : take (1 + prefix_len stays_on_line text) (b ∷ text) ≡ b ∷ take (prefix_len stays_on_line text) text
  longer = let same : 1 + prefix_len stays_on_line text ≡ suc (prefix_len stays_on_line text) = omega arith in
      ap (λ m. take m (b ∷ text)) same

  by : (n : ℕ) (t : Bool) → (b == line_feed) ≡ t
      → ((m : ℕ) → first_line (behind_lines m text) ≡ unwrap_or (slice_get (lines_of text) m) [])
      → first_line (behind_lines n (b ∷ text)) ≡ unwrap_or (slice_get (lines_of (b ∷ text)) n) []
  by zero true e rest =
      ap (λ t. take (cond (not t) (1 + prefix_len stays_on_line text) 0) (b ∷ text)) e
      ∙ sym (ap (λ t. unwrap_or (slice_get (lines_by b text t) 0) []) e)
  by zero false e rest =
      ap (λ t. take (cond (not t) (1 + prefix_len stays_on_line text) 0) (b ∷ text)) e
      ∙ longer ∙ ap (λ l. b ∷ l) (rest zero) ∙ sym (first_is b (lines_of text))
      ∙ sym (ap (λ t. unwrap_or (slice_get (lines_by b text t) 0) []) e)
  by (suc m) true e rest =
      ap (λ t. first_line (behind_lines m (cond t text (next_line text)))) e ∙ rest m
      ∙ sym (ap (λ t. unwrap_or (slice_get (lines_by b text t) (suc m)) []) e)
  by (suc m) false e rest =
      ap (λ t. first_line (behind_lines m (cond t text (next_line text)))) e ∙ rest (suc m)
      ∙ ap (λ o. unwrap_or o []) (sym (others_are b (lines_of text) m))
      ∙ sym (ap (λ t. unwrap_or (slice_get (lines_by b text t) (suc m)) []) e)

-- the same, as the code takes it
pub line_is : (text rest line : List ℕ) (n count : ℕ) → rest ≡ behind_lines n text
    → count ≡ prefix_len stays_on_line rest → line ≡ take count rest
    → line ≡ unwrap_or (slice_get (lines_of text) n) []
line_is text rest line n count behind counted is =
    is ∙ ap (λ k. take k rest) counted ∙ ap first_line behind ∙ line_behind text n
