-- What one that gives the rows of a list knows of them, and awaits, whatever its rows are.
use Rattle.std.proofs.Common.{◌≡◌, ◌≤◌, ◌<◌, ℕ, suc, ◌⊎◌, inl, inr, Bool, true, false, cond, nat_lt, nat_le, ◌&&◌, List}
use Rattle.std.proofs.Common.{[], length, get_or, refl, sym, subst, arith, leb-true, ltb-true, ltb-false, lt-ltb}
use Rattle.std.proofs.Common.{le-leb}
use Rattle.std.specs.Prelude.{slice_get, Option, Some, None}
use Rattle.std.specs.Cmp.{first_so, second_so}
use Rattle.std.proofs.lemmas.Option.{slice_get_past, slice_get_cases}
use Rattle.std.proofs.lemmas.List.Sums.{AllPass-from_list_all}
use Rattle.tj_body.specs.RowLists.{is_list_of, are_table, is_reading}

-- k is that of a row, or past the last one
abbrev pub RowAt : {R : Type 0} → List R → ℕ → Type 0
RowAt {R} rows k = ((x : R) × (k < length rows) × (slice_get rows k ≡ Some x) × (get_or rows k x ≡ x))
    ⊎ ((length rows ≤ k) × (slice_get rows k ≡ None))

same_nothing : {W : Type 0} (x : Bool) (nothing : W) → cond x nothing nothing ≡ nothing
same_nothing true nothing = refl
same_nothing false nothing = refl

-- what awaits something else than nothing
pub awaits_more : {W A : Type 0} (Fits : W → A → Type 0) (x : Bool) (w nothing : W) (a : A)
    → (Fits nothing a → ⊥) → Fits (cond x w nothing) a → x ≡ true
awaits_more Fits true w nothing a none h = refl
awaits_more Fits false w nothing a none h = absurd (none h)

-- what one that gives the rows of list k, and has given so many of them, has
pub record IsReading {R : Type 0} (most : ℕ) (is_row : ℕ → R → Bool) (lists : List (List R)) (k row : ℕ) : Type 0 where
  pub table : are_table most is_row lists ≡ true
  pub list : k < length lists
  pub at : row ≤ length (get_or lists k [])
  pub rows : is_list_of most is_row (length lists) (get_or lists k []) ≡ true

module _ {R : Type 0} (most : ℕ) (is_row : ℕ → R → Bool) where
  -- a list of a table is one that passes the test
  pub list_of : (lists : List (List R)) (k : ℕ) → are_table most is_row lists ≡ true → k < length lists
      → is_list_of most is_row (length lists) (get_or lists k []) ≡ true
  list_of lists k e l = AllPass-from_list_all (is_list_of most is_row (length lists)) lists e k [] l

  -- a list of a table has few rows
  pub few_rows : (lists : List (List R)) (k : ℕ) → are_table most is_row lists ≡ true → k < length lists
      → length (get_or lists k []) ≤ most
  few_rows lists k e l = leb-true _ _ (first_so _ _ (list_of lists k e l))

  -- where no row of a list has been given yet
  pub begins_reading : (lists : List (List R)) (k : ℕ) → are_table most is_row lists ≡ true → k < length lists
      → is_reading most is_row lists k 0 ≡ true
  begins_reading lists k e l =
      rw (e, lt-ltb k (length lists) l, le-leb 0 (length (get_or lists k [])) (omega arith)) refl

  pub reading_parts : (lists : List (List R)) (k row : ℕ) → is_reading most is_row lists k row ≡ true
      → IsReading most is_row lists k row
  reading_parts lists k row e = let t = are_table most is_row lists in let l = nat_lt k (length lists) in
      let n = nat_le row (length (get_or lists k [])) in
      let tl : (t && l) ≡ true = first_so (t && l) n e in
      let list : k < length lists = ltb-true k (length lists) (second_so t l tl) in
      record {
        table = first_so t l tl;
        list = list;
        at = leb-true row (length (get_or lists k [])) (second_so (t && l) n e);
        rows = list_of lists k (first_so t l tl) list;
      }

module _ {R : Type 0} {most : ℕ} {is_row : ℕ → R → Bool} {lists : List (List R)} {k row : ℕ}
    (u : IsReading most is_row lists k row) where
  -- each row of the list passes the test
  pub row_passes : (j : ℕ) (x : R) → j < length (get_or lists k []) → get_or (get_or lists k []) j x ≡ x
      → is_row (length lists) x ≡ true
  row_passes j x l e = let is = is_row (length lists) in subst (λ z. is z ≡ true) e
      (AllPass-from_list_all is (get_or lists k []) (second_so _ _ u.rows) j x l)

  -- what holds of each row that passes, and of none, holds of what is read of the list
  pub holds_at : (P : Option R → Type 0) → ((x : R) → is_row (length lists) x ≡ true → P (Some x)) → P None
      → (j : ℕ) → P (slice_get (get_or lists k []) j)
  holds_at P each none j = by (slice_get_cases (get_or lists k []) j).1 where
    by : RowAt (get_or lists k []) j → P (slice_get (get_or lists k []) j)
    by (inl f) = subst P (sym f.2) (each f.0 (row_passes j f.0 f.1 f.3))
    by (inr f) = subst P (sym f.1) none

  -- one row further w is awaited, if that is nothing past the last row
  pub awaits_next : {W : Type 0} (w nothing : W) → (slice_get (get_or lists k []) row ≡ None → w ≡ nothing)
      → cond (is_reading most is_row lists k (suc row)) w nothing ≡ w
  awaits_next w nothing past = by (nat_lt row (length (get_or lists k []))) refl where
    by : (x : Bool) → nat_lt row (length (get_or lists k [])) ≡ x
        → cond (is_reading most is_row lists k (suc row)) w nothing ≡ w
    by true e = let l : suc row ≤ length (get_or lists k []) = ltb-true row (length (get_or lists k [])) e in
        rw (u.table, lt-ltb k (length lists) u.list, le-leb (suc row) (length (get_or lists k [])) l) refl
    by false e = let l : length (get_or lists k []) ≤ row = ltb-false row (length (get_or lists k [])) e in
        rw (past (slice_get_past (get_or lists k []) row l))
        (same_nothing (is_reading most is_row lists k (suc row)) nothing)
