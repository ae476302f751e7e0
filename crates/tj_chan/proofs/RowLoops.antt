-- What a loop over places makes of rows: one place more.
use Rattle.std.proofs.Common.{◌≡◌, ◌≤◌, ◌<◌, ℕ, zero, suc, ◌+◌, Bool, true, false, cond, ◌&&◌, List, [], ◌∷◌, ◌++◌}
use Rattle.std.proofs.Common.{length, get_or, drop, refl, sym, subst, ap, ◌∙◌, arith, nat_eq, drop-cons, ltb-true}
use Rattle.std.proofs.Common.{append_assoc}
use Rattle.std.specs.Prelude.{slice_get, Option, Some, None, unwrap_or}
use Rattle.std.specs.List.{list_all, position_from}
use Rattle.std.proofs.lemmas.Option.{none-some, slice_get-get_or, slice_get_past}
use Rattle.std.proofs.lemmas.List.Sums.{AllPass-from_list_all}
use Rattle.tj_chan.specs.ChanBodies.{AreRows, first_of, row_at, without_end, without_ends, has_end, can_give}
use Rattle.tj_chan.specs.ChanBodies.{places_from, all_places, is_there, position, passed_row, passed_rows, is_given}
use Rattle.tj_chan.specs.ChanBodies.{first_place, is_row}
use Rattle.tj_chan.specs.Inner.RowLaws.{Bounded, found_bounds, row_leads, row_found, lead_change, length-places}
use Rattle.tj_chan.specs.declared.rows.PromiseRow.{PromiseRow}

-- the next index
after_index : (i : ℕ) → suc i ≡ i + 1
after_index i = omega arith

-- what is left from an index on, and behind it
left_at : (xs : List ℕ) (i : ℕ) → i < length xs → drop i xs ≡ get_or xs i 0 ∷ drop (i + 1) xs
left_at xs i l = drop-cons xs i 0 l ∙ ap (λ n. get_or xs i 0 ∷ drop n xs) (after_index i)

-- the row at a place that is there
pub row_there : (rows : List PromiseRow) (k : ℕ) (d : PromiseRow) → AreRows rows → k < length rows
    → Some (get_or rows (get_or rows k d).first d) ≡ row_at rows k
row_there rows k d h l = let r = get_or rows k d in let e = slice_get-get_or rows k d l in
    sym (ap (first_of rows) e ∙ slice_get-get_or rows r.first d (row_leads rows k r h e).there)

-- and past the last
pub row_past : (rows : List PromiseRow) (k : ℕ) → length rows ≤ k → None ≡ row_at rows k
row_past rows k l = sym (ap (first_of rows) (slice_get_past rows k l))

-- what is so of a row that was found at a place of rows, and so of one of the task's
pub read_bounds : (places : ℕ) {read rows : List PromiseRow} (k : ℕ) (r : PromiseRow) → read ≡ rows
    → Some r ≡ row_at read k → AreRows rows → list_all (is_row places) rows ≡ true → Bounded places r
read_bounds places k r same found h b =
    found_bounds places _ k r h b (subst (λ z. row_at z k ≡ Some r) same (sym found))

-- one place more
pub places_more : (from k : ℕ) → places_from from (k + 1) ≡ places_from from k ++ (from + k) ∷ []
places_more from k = ap (places_from from) (sym (after_index k)) ∙ more from k where
  more : (m n : ℕ) → places_from m (suc n) ≡ places_from m n ++ (m + n) ∷ []
  more m zero = ap (λ j. j ∷ []) (plus m) where
    plus : (j : ℕ) → j ≡ j + 0
    plus j = omega arith
  more m (suc n) = ap (λ l. m ∷ l) (more (suc m) n ∙ ap (λ j. places_from (suc m) n ++ j ∷ []) (moved m n)) where
    moved : (i j : ℕ) → suc i + j ≡ i + suc j
    moved i j = omega arith

-- rows without an end lead
pub part_leads : (rows : List PromiseRow) (k : ℕ) → AreRows rows → AreRows (without_end rows (row_at rows k))
part_leads rows k h = by (row_at rows k) refl where
  by : (o : Option PromiseRow) → row_at rows k ≡ o → AreRows (without_end rows o)
  by None e = h
  by (Some r) e = lead_change rows (record r { holds = false }) h (row_found rows k r h e).there

-- the next end is taken
pub part_next : (rows left : List PromiseRow) (give : List ℕ) (i : ℕ) → i < length give
    → without_ends rows give ≡ without_ends left (drop i give)
    → without_ends rows give
    ≡ without_ends (without_end left (row_at left (get_or give i 0))) (drop (i + 1) give)
part_next rows left give i l h = h ∙ ap (without_ends left) (left_at give i l)

-- the next end can be given, and the others as before
pub give_next : (rows left : List PromiseRow) (give : List ℕ) (i : ℕ) → i < length give
    → has_end (row_at left (get_or give i 0)) ≡ true → can_give rows give ≡ can_give left (drop i give)
    → can_give rows give ≡ can_give (without_end left (row_at left (get_or give i 0))) (drop (i + 1) give)
give_next rows left give i l e h = h ∙ ap (can_give left) (left_at give i l)
    ∙ ap (λ b. b && can_give (without_end left (row_at left (get_or give i 0))) (drop (i + 1) give)) e

-- a place that passes the test has a row
pub there_has_row : (rows : List PromiseRow) (pass : List ℕ) (i : ℕ) → AreRows rows
    → list_all (is_there rows) pass ≡ true → i < length pass → None ≡ row_at rows (get_or pass i 0) → ⊥
there_has_row rows pass i h e l n = let k = get_or pass i 0 in
    let t : k < length rows = ltb-true k (length rows) (AllPass-from_list_all (is_there rows) pass e i 0 l) in
    let r = slice_get_there rows k t in
    none-some _ (n ∙ sym (row_there rows k r.0 h t)) where
      slice_get_there : (rows : List PromiseRow) (k : ℕ) → k < length rows
          → (r : PromiseRow) × (slice_get rows k ≡ Some r)
      slice_get_there [] k l = absurd (none l) where
        none : k < 0 → ⊥
        none h = omega arith
      slice_get_there (r ∷ rs) zero l = (r, refl)
      slice_get_there (r ∷ rs) (suc k) l = slice_get_there rs k (omega arith)

-- where a number stands first behind others, or how many there are
first_or_more : (k i : ℕ) (js : List ℕ) → unwrap_or (position_from (nat_eq k) i js) (i + length js) ≡ i + position k js
first_or_more k i [] = refl
first_or_more k i (j ∷ js) = by (nat_eq k j) (first_or_more k (i + 1) js) where
  by : (b : Bool) → unwrap_or (position_from (nat_eq k) (i + 1) js) ((i + 1) + length js) ≡ (i + 1) + position k js
      → unwrap_or (cond b (Some i) (position_from (nat_eq k) (i + 1) js)) (i + suc (length js))
      ≡ i + cond b 0 (suc (position k js))
  by true e = let here : i ≡ i + 0 = omega arith in here
  by false e = let far : i + suc (length js) ≡ (i + 1) + length js = omega arith in
      let near : (i + 1) + position k js ≡ i + suc (position k js) = omega arith in
      ap (λ n. unwrap_or (position_from (nat_eq k) (i + 1) js) n) far ∙ e ∙ near

-- and behind none
pub first_or_count : (k : ℕ) (js : List ℕ) → unwrap_or (position_from (nat_eq k) 0 js) (length js) ≡ position k js
first_or_count k js = let count : length js ≡ 0 + length js = omega arith in
    let place : 0 + position k js ≡ position k js = omega arith in
    ap (λ n. unwrap_or (position_from (nat_eq k) 0 js) n) count ∙ first_or_more k 0 js ∙ place

-- the next row of a child is that of the next passed place
pub passed_next : (rows : List PromiseRow) (give firsts : List ℕ) (base : ℕ) (pass : List ℕ) (i : ℕ) (r : PromiseRow)
    → i < length pass → Some r ≡ row_at rows (get_or pass i 0)
    → passed_rows rows give firsts base (drop i pass)
    ≡ passed_row (position r.first firsts) base (is_given rows give r.first) (Some r)
    ∷ passed_rows rows give (firsts ++ r.first ∷ []) (base + r.items) (drop (i + 1) pass)
passed_next rows give firsts base pass i r l e = ap (passed_rows rows give firsts base) (left_at pass i l)
    ∙ ap next (sym e) ∙ ap (λ n. passed_row (position r.first firsts) base (is_given rows give r.first) (Some r)
    ∷ passed_rows rows give (firsts ++ r.first ∷ []) (base + n) (drop (i + 1) pass))
    (length-places r.base r.items) where
      next : Option PromiseRow → List PromiseRow
      next o = passed_row (position (first_place o) firsts) base (is_given rows give (first_place o)) o
          ∷ passed_rows rows give (firsts ++ first_place o ∷ []) (base + length (all_places o)) (drop (i + 1) pass)

-- so the rows so far and those of what is left stay the whole
pub passed_kept : (rows : List PromiseRow) (give pass : List ℕ) (i : ℕ) (r : PromiseRow) (whole made : List PromiseRow)
    (firsts : List ℕ) (base : ℕ) (s : PromiseRow) → i < length pass → Some r ≡ row_at rows (get_or pass i 0)
    → s ≡ passed_row (position r.first firsts) base (is_given rows give r.first) (Some r)
    → whole ≡ made ++ passed_rows rows give firsts base (drop i pass)
    → whole ≡ (made ++ s ∷ []) ++ passed_rows rows give (firsts ++ r.first ∷ []) (base + r.items) (drop (i + 1) pass)
passed_kept rows give pass i r whole made firsts base s l e is h =
    let rest = passed_rows rows give (firsts ++ r.first ∷ []) (base + r.items) (drop (i + 1) pass) in
    h ∙ ap (λ l. made ++ l) (passed_next rows give firsts base pass i r l e ∙ ap (λ x. x ∷ rest) (sym is))
    ∙ sym (append_assoc made (s ∷ []) rest)
