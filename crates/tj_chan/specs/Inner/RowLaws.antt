-- Rows of promises: what the tests of rows say row by row, and what keeps them.
use Rattle.std.proofs.Common.{◌≡◌, ◌≤◌, ◌<◌, ℕ, zero, suc, ◌+◌, ◌-◌, ◌*◌, ◌⊎◌, inl, inr, Bool, true, false, cond}
use Rattle.std.proofs.Common.{nat_lt, nat_le, nat_eq, ◌&&◌, List, [], ◌∷◌, ◌++◌, map, length, refl, sym, subst, ap}
use Rattle.std.proofs.Common.{◌∙◌, arith}
use Rattle.std.proofs.Common.{eqb-true, leb-true, ltb-true, ltb-false, lt-ltb, le-leb, eq-eqb, length-append}
use Rattle.std.specs.Prelude.{slice_get, slice_set, Option, Some, None}
use Rattle.std.specs.List.{list_all, AllByRecursion, flat_map}
use Rattle.std.specs.Cmp.{first_so, second_so}
use Rattle.std.proofs.lemmas.Bool.{and_from, eqb-false}
use Rattle.std.proofs.lemmas.Option.{none-some, same_Some, slice_get_within}
use Rattle.std.proofs.lemmas.List.{length-map}
use Rattle.tj_chan.specs.Chats.{most_items}
use Rattle.tj_chan.specs.ChanBodies.{first_place, leads, are_rows, first_of, row_at, with_row, places_from, all_places}
use Rattle.tj_chan.specs.ChanBodies.{unset_places, new_row, without_end, without_ends, position, passed_row}
use Rattle.tj_chan.specs.ChanBodies.{passed_rows, is_given, first_at, is_row}
use Rattle.tj_chan.specs.declared.rows.PromiseRow.{PromiseRow}

-- Lists. An element of a list of which all pass a test passes it.
pub all_at : {A : Type 0} (p : A → Bool) (xs : List A) (k : ℕ) (x : A) → list_all p xs ≡ true
    → slice_get xs k ≡ Some x → p x ≡ true
all_at p [] k x h e = absurd (none-some x e)
all_at p (y ∷ ys) zero x h e = subst (λ z. p z ≡ true) (same_Some y x e) (first_so (p y) (list_all p ys) h)
all_at p (y ∷ ys) (suc k) x h e = all_at p ys k x (second_so (p y) (list_all p ys) h) e

-- all elements pass a test that each of them passes
pub all_from : {A : Type 0} (p : A → Bool) (xs : List A) → ((k : ℕ) (x : A) → slice_get xs k ≡ Some x → p x ≡ true)
    → list_all p xs ≡ true
all_from p [] h = refl
all_from p (y ∷ ys) h = and_from (p y) (list_all p ys) (h 0 y refl) (all_from p ys (λ k x e. h (suc k) x e))

-- an index below the length has an element
pub get_there : {A : Type 0} (xs : List A) (k : ℕ) → k < length xs → (x : A) × (slice_get xs k ≡ Some x)
get_there [] k l = absurd (none l) where
  none : k < 0 → ⊥
  none h = omega arith
get_there (y ∷ ys) zero l = (y, refl)
get_there (y ∷ ys) (suc k) l = get_there ys k (omega arith)

-- what is written at an index stands there
pub get_written : {A : Type 0} (xs : List A) (k : ℕ) (x : A) → k < length xs → slice_get (slice_set xs k x) k ≡ Some x
get_written [] k x l = absurd (none l) where
  none : k < 0 → ⊥
  none h = omega arith
get_written (y ∷ ys) zero x l = refl
get_written (y ∷ ys) (suc k) x l = get_written ys k x (omega arith)

-- elsewhere stands what stood there
pub get_other : {A : Type 0} (xs : List A) (k j : ℕ) (x : A) → ¬ (j ≡ k)
    → slice_get (slice_set xs k x) j ≡ slice_get xs j
get_other [] k j x n = refl
get_other (y ∷ ys) zero zero x n = absurd (n refl)
get_other (y ∷ ys) zero (suc j) x n = refl
get_other (y ∷ ys) (suc k) zero x n = refl
get_other (y ∷ ys) (suc k) (suc j) x n = get_other ys k j x (λ e. n (ap suc e))

-- a list keeps its length where an element is replaced
pub length-written : {A : Type 0} (xs : List A) (k : ℕ) (x : A) → length (slice_set xs k x) ≡ length xs
length-written [] k x = refl
length-written (y ∷ ys) zero x = refl
length-written (y ∷ ys) (suc k) x = ap suc (length-written ys k x)

-- an element stands where it stood when others come behind
pub get_before : {A : Type 0} (xs ys : List A) (k : ℕ) → k < length xs → slice_get (xs ++ ys) k ≡ slice_get xs k
get_before [] ys k l = absurd (none l) where
  none : k < 0 → ⊥
  none h = omega arith
get_before (x ∷ xs) ys zero l = refl
get_before (x ∷ xs) ys (suc k) l = get_before xs ys k (omega arith)

-- the element behind a list
pub get_last : {A : Type 0} (xs : List A) (x : A) → slice_get (xs ++ x ∷ []) (length xs) ≡ Some x
get_last [] x = refl
get_last (y ∷ ys) x = get_last ys x

-- all of two lists, one behind the other
pub all_both : {A : Type 0} (P : A → Type 0) (xs ys : List A) → AllByRecursion P xs → AllByRecursion P ys
    → AllByRecursion P (xs ++ ys)
all_both P [] ys h g = g
all_both P (x ∷ xs) ys h g = (h.0, all_both P xs ys h.1 g)

-- all of what the elements of a list give
pub all_given : {A B : Type 0} (P : B → Type 0) (f : A → List B) (xs : List A) → ((x : A) → AllByRecursion P (f x))
    → AllByRecursion P (flat_map f xs)
all_given P f [] h = tt
all_given P f (x ∷ xs) h = all_both P (f x) (flat_map f xs) (h x) (all_given P f xs h)

-- no more than so many for each element of a list
pub length-given : {A B : Type 0} (f : A → List B) (n : ℕ) (xs : List A) → ((x : A) → length (f x) ≤ n)
    → length (flat_map f xs) ≤ n * length xs
length-given f n [] h = omega arith
length-given f n (x ∷ xs) h = let e = length-append (f x) (flat_map f xs) in let l = h x in
    let r = length-given f n xs h in let m = grown n (length xs) in omega arith where
      grown : (a b : ℕ) → a * suc b ≡ a + a * b
      grown a b = omega arith

-- Tests of rows, row by row: a row of the list leads to a row that leads to itself.
pub record Leads (rows : List PromiseRow) (r : PromiseRow) : Type 0 where
  pub there : r.first < length rows
  pub to : (q : PromiseRow) → slice_get rows r.first ≡ Some q → q.first ≡ r.first

-- what the test says of a row
pub leads_from : (rows : List PromiseRow) (r : PromiseRow) → leads rows r ≡ true → Leads rows r
leads_from rows r e = let l = nat_lt r.first (length rows) in
    let f = nat_eq (first_place (slice_get rows r.first)) r.first in record {
      there = ltb-true r.first (length rows) (first_so l f e);
      to = λ q h. sym (ap first_place h)
          ∙ eqb-true (first_place (slice_get rows r.first)) r.first (second_so l f e);
    }

-- the test passes where that is so
pub leads_to : (rows : List PromiseRow) (r : PromiseRow) → r.first < length rows
    → ((q : PromiseRow) → slice_get rows r.first ≡ Some q → q.first ≡ r.first) → leads rows r ≡ true
leads_to rows r l h = let q = get_there rows r.first l in
    and_from (nat_lt r.first (length rows)) (nat_eq (first_place (slice_get rows r.first)) r.first)
    (lt-ltb r.first (length rows) l)
    (eq-eqb (first_place (slice_get rows r.first)) r.first (ap first_place q.1 ∙ h q.0 q.1))

-- each row of rows leads
pub row_leads : (rows : List PromiseRow) (k : ℕ) (r : PromiseRow) → are_rows rows ≡ true → slice_get rows k ≡ Some r
    → Leads rows r
row_leads rows k r h e = leads_from rows r (all_at (leads rows) rows k r h e)

-- What a row's numbers are bounded by.
pub record Bounded (places : ℕ) (r : PromiseRow) : Type 0 where
  pub few : r.items ≤ most_items
  pub placed : r.base + r.items ≤ places
  pub sent : r.sent ≤ r.items
  pub asked : r.asked ≤ r.items

-- what the test says
pub bounds_from : (places : ℕ) (r : PromiseRow) → is_row places r ≡ true → Bounded places r
bounds_from places r e = let f = nat_le r.items most_items in let p = nat_le (r.base + r.items) places in
    let s = nat_le r.sent r.items in let a = nat_le r.asked r.items in
    let fps = first_so (f && p && s) a e in let fp = first_so (f && p) s fps in record {
      few = leb-true r.items most_items (first_so f p fp);
      placed = leb-true (r.base + r.items) places (second_so f p fp);
      sent = leb-true r.sent r.items (second_so (f && p) s fps);
      asked = leb-true r.asked r.items (second_so (f && p && s) a e);
    }

-- the test passes where that is so
pub bounds_to : (places : ℕ) (r : PromiseRow) → Bounded places r → is_row places r ≡ true
bounds_to places r b = let f = nat_le r.items most_items in let p = nat_le (r.base + r.items) places in
    let s = nat_le r.sent r.items in let a = nat_le r.asked r.items in
    and_from (f && p && s) a (and_from (f && p) s (and_from f p (le-leb r.items most_items b.few)
    (le-leb (r.base + r.items) places b.placed)) (le-leb r.sent r.items b.sent)) (le-leb r.asked r.items b.asked)

-- each row of rows is bounded
pub row_bounds : (places : ℕ) (rows : List PromiseRow) (k : ℕ) (r : PromiseRow) → list_all (is_row places) rows ≡ true
    → slice_get rows k ≡ Some r → Bounded places r
row_bounds places rows k r h e = bounds_from places r (all_at (is_row places) rows k r h e)

-- more places keep rows
pub rows_stay : (places more : ℕ) (rows : List PromiseRow) → places ≤ more → list_all (is_row places) rows ≡ true
    → list_all (is_row more) rows ≡ true
rows_stay places more rows l h = all_from (is_row more) rows (λ k r e.
    let b = row_bounds places rows k r h e in let p = b.placed in
    bounds_to more r (record { few = b.few; placed = omega arith; sent = b.sent; asked = b.asked }))

-- What is known of a row that was found.
pub record Found (rows : List PromiseRow) (r : PromiseRow) : Type 0 where
  pub there : r.first < length rows
  pub itself : slice_get rows r.first ≡ Some r

-- a found row is one of the task
pub row_found : (rows : List PromiseRow) (k : ℕ) (r : PromiseRow) → are_rows rows ≡ true → row_at rows k ≡ Some r
    → Found rows r
row_found rows k r h e = by (slice_get rows k) refl e where
  by : (o : Option PromiseRow) → slice_get rows k ≡ o → first_of rows o ≡ Some r → Found rows r
  by None f g = absurd (none-some r g)
  by (Some q) f g = let l = row_leads rows k q h f in let same : r.first ≡ q.first = l.to r g in record {
    there = subst (λ n. n < length rows) (sym same) l.there;
    itself = ap (slice_get rows) same ∙ g;
  }

-- and its promises are places of it
pub found_bounds : (places : ℕ) (rows : List PromiseRow) (k : ℕ) (r : PromiseRow) → are_rows rows ≡ true
    → list_all (is_row places) rows ≡ true → row_at rows k ≡ Some r → Bounded places r
found_bounds places rows k r h b e = row_bounds places rows r.first r b (row_found rows k r h e).itself

-- what stands in rows of which one was written
pub written_cases : (rows : List PromiseRow) (s : PromiseRow) → s.first < length rows → (k : ℕ) (r : PromiseRow)
    → slice_get (with_row rows s) k ≡ Some r → (s ≡ r) ⊎ (slice_get rows k ≡ Some r)
written_cases rows s l k r e = by (nat_eq k s.first) refl where
  by : (x : Bool) → nat_eq k s.first ≡ x → (s ≡ r) ⊎ (slice_get rows k ≡ Some r)
  by true f = inl (same_Some s r (sym (get_written rows s.first s l)
      ∙ ap (slice_get (with_row rows s)) (sym (eqb-true k s.first f)) ∙ e))
  by false f = inr (sym (get_other rows s.first k s (eqb-false k s.first f)) ∙ e)

-- a row changed at its first place, which still leads there, keeps what leads
pub lead_change : (rows : List PromiseRow) (s : PromiseRow) → are_rows rows ≡ true → s.first < length rows
    → are_rows (with_row rows s) ≡ true
lead_change rows s h l =
    all_from (leads (with_row rows s)) (with_row rows s) (λ k r e. lead k r (written_cases rows s l k r e)) where
      to : (f : ℕ) → ((q : PromiseRow) → slice_get rows f ≡ Some q → q.first ≡ f) → (q : PromiseRow)
          → slice_get (with_row rows s) f ≡ Some q → q.first ≡ f
      to f m q e = by (nat_eq f s.first) refl where
        by : (x : Bool) → nat_eq f s.first ≡ x → q.first ≡ f
        by true g = let same : f ≡ s.first = eqb-true f s.first g in
            ap (λ (z : PromiseRow). z.first) (sym (same_Some s q (sym (get_written rows s.first s l)
            ∙ ap (slice_get (with_row rows s)) (sym same) ∙ e))) ∙ sym same
        by false g = m q (sym (get_other rows s.first f s (eqb-false f s.first g)) ∙ e)

      lead : (k : ℕ) (r : PromiseRow) → (s ≡ r) ⊎ (slice_get rows k ≡ Some r) → leads (with_row rows s) r ≡ true
      lead k r (inl e) = subst (λ z. leads (with_row rows s) z ≡ true) e
          (leads_to (with_row rows s) s (subst (λ n. s.first < n) (sym (length-written rows s.first s)) l)
          (λ q f. ap (λ (z : PromiseRow). z.first) (same_Some q s (sym f ∙ get_written rows s.first s l))))
      lead k r (inr e) = let m = row_leads rows k r h e in
          leads_to (with_row rows s) r (subst (λ n. r.first < n) (sym (length-written rows s.first s)) m.there)
          (to r.first m.to)

-- A row changed at its first place, which still leads there, keeps what rows are.
pub record Kept (places : ℕ) (rows more : List PromiseRow) : Type 0 where
  pub lead : are_rows more ≡ true
  pub bounded : list_all (is_row places) more ≡ true
  pub same_count : length more ≡ length rows

-- so it is where the row is bounded
pub rows_change : (places : ℕ) (rows : List PromiseRow) (s : PromiseRow) → are_rows rows ≡ true
    → list_all (is_row places) rows ≡ true → s.first < length rows → Bounded places s
    → Kept places rows (with_row rows s)
rows_change places rows s h b l t = record {
  lead = lead_change rows s h l;
  bounded = all_from (is_row places) (with_row rows s) (λ k r e. bounded k r (written_cases rows s l k r e));
  same_count = length-written rows s.first s;
} where
  bounded : (k : ℕ) (r : PromiseRow) → (s ≡ r) ⊎ (slice_get rows k ≡ Some r) → is_row places r ≡ true
  bounded k r (inl e) = bounds_to places r (subst (Bounded places) e t)
  bounded k r (inr e) = all_at (is_row places) rows k r b e

-- rows without an end are rows
pub rows_part_one : (places : ℕ) (rows : List PromiseRow) (k : ℕ) → are_rows rows ≡ true
    → list_all (is_row places) rows ≡ true → Kept places rows (without_end rows (row_at rows k))
rows_part_one places rows k h b = by (row_at rows k) refl where
  by : (o : Option PromiseRow) → row_at rows k ≡ o → Kept places rows (without_end rows o)
  by None e = record { lead = h; bounded = b; same_count = refl }
  by (Some r) e = let f = found_bounds places rows k r h b e in
      rows_change places rows (record r { holds = false }) h b (row_found rows k r h e).there
      (record { few = f.few; placed = f.placed; sent = f.sent; asked = f.asked })

-- so are rows without some ends
pub rows_part : (places : ℕ) (rows : List PromiseRow) (give : List ℕ) → are_rows rows ≡ true
    → list_all (is_row places) rows ≡ true → Kept places rows (without_ends rows give)
rows_part places rows [] h b = record { lead = h; bounded = b; same_count = refl }
rows_part places rows (k ∷ ks) h b = let one = rows_part_one places rows k h b in
    let all = rows_part places (without_end rows (row_at rows k)) ks one.lead one.bounded in
    record { lead = all.lead; bounded = all.bounded; same_count = all.same_count ∙ one.same_count }

module _ (places items : ℕ) (rows : List PromiseRow) where
  -- the row of a channel that is opened
  abbrev new : PromiseRow
  new = new_row (length rows) places items

  -- the rows with it
  abbrev more : List PromiseRow
  more = rows ++ new ∷ []

  many : length more ≡ suc (length rows)
  many = length-append rows (new ∷ []) ∙ one_more (length rows) where
    one_more : (n : ℕ) → n + 1 ≡ suc n
    one_more n = omega arith

  more_cases : (k : ℕ) (r : PromiseRow) → slice_get more k ≡ Some r → (new ≡ r) ⊎ (slice_get rows k ≡ Some r)
  more_cases k r e = by (nat_lt k (length rows)) refl where
    by : (x : Bool) → nat_lt k (length rows) ≡ x → (new ≡ r) ⊎ (slice_get rows k ≡ Some r)
    by true f = inr (sym (get_before rows (new ∷ []) k (ltb-true k (length rows) f)) ∙ e)
    by false f = let w : k < length more = slice_get_within more k r e in let n = many in
        let past : length rows ≤ k = ltb-false k (length rows) f in
        let same : k ≡ length rows = omega arith in
        inl (same_Some new r (sym (get_last rows new) ∙ ap (slice_get more) (sym same) ∙ e))

  -- rows with the one of the channel whose promises are the last places are rows
  pub rows_open : are_rows rows ≡ true → list_all (is_row places) rows ≡ true → items ≤ places → items ≤ most_items
      → (are_rows more ≡ true) × (list_all (is_row places) more ≡ true)
  rows_open h b l m = (
    all_from (leads more) more (λ k r e. lead k r (more_cases k r e)),
    all_from (is_row places) more (λ k r e. bounded k r (more_cases k r e)),
  ) where
    lead : (k : ℕ) (r : PromiseRow) → (new ≡ r) ⊎ (slice_get rows k ≡ Some r) → leads more r ≡ true
    lead k r (inl e) = let n = many in subst (λ z. leads more z ≡ true) e (leads_to more new (omega arith)
        (λ q f. ap (λ (z : PromiseRow). z.first) (same_Some q new (sym f ∙ get_last rows new))))
    lead k r (inr e) = let o = row_leads rows k r h e in let n = many in let t = o.there in
        leads_to more r (omega arith) (λ q f. o.to q (sym (get_before rows (new ∷ []) r.first t) ∙ f))

    bounded : (k : ℕ) (r : PromiseRow) → (new ≡ r) ⊎ (slice_get rows k ≡ Some r) → is_row places r ≡ true
    bounded k r (inl e) = bounds_to places r (subst (Bounded places) e
        (record { few = m; placed = omega arith; sent = omega arith; asked = omega arith }))
    bounded k r (inr e) = all_at (is_row places) rows k r b e

-- Places of promises. So many places from one on.
pub length-places : (k n : ℕ) → length (places_from k n) ≡ n
length-places k zero = refl
length-places k (suc n) = ap suc (length-places (suc k) n)

-- all of them are below the next one
pub places-below : (k n m : ℕ) → k + n ≤ m → AllByRecursion (λ j. j < m) (places_from k n)
places-below k zero m l = tt
places-below k (suc n) m l = (omega arith, places-below (suc k) n m (omega arith))

module _ (places : ℕ) (rows : List PromiseRow) (h : are_rows rows ≡ true)
    (b : list_all (is_row places) rows ≡ true) where
  -- the places of a channel's promises are those of the task
  pub all_placed : (k : ℕ) → AllByRecursion (λ j. j < places) (all_places (row_at rows k))
  all_placed k = by (row_at rows k) refl where
    by : (o : Option PromiseRow) → row_at rows k ≡ o → AllByRecursion (λ j. j < places) (all_places o)
    by None e = tt
    by (Some r) e = places-below r.base r.items places (found_bounds places rows k r h b e).placed

  -- so are those of its unset ones
  pub unset_placed : (k : ℕ) → AllByRecursion (λ j. j < places) (unset_places (row_at rows k))
  unset_placed k = by (row_at rows k) refl where
    by : (o : Option PromiseRow) → row_at rows k ≡ o → AllByRecursion (λ j. j < places) (unset_places o)
    by None e = tt
    by (Some r) e = let f = (found_bounds places rows k r h b e) in let p = f.placed in let s = f.sent in
        places-below (r.base + r.sent) (r.items - r.sent) places (omega arith)

  -- a channel hasn't too many promises
  pub few_placed : (k : ℕ) → length (all_places (row_at rows k)) ≤ most_items
  few_placed k = by (row_at rows k) refl where
    by : (o : Option PromiseRow) → row_at rows k ≡ o → length (all_places o) ≤ most_items
    by None e = omega arith
    by (Some r) e = let f = (found_bounds places rows k r h b e).few in
        subst (λ n. n ≤ most_items) (sym (length-places r.base r.items)) f

-- Positions. Where a number stands first, it stands, if it stands there at all.
pub position_is : (x : ℕ) (xs : List ℕ) (k : ℕ) → slice_get xs k ≡ Some x
    → (position x xs < length xs) × (slice_get xs (position x xs) ≡ Some x)
position_is x [] k e = absurd (none-some x e)
position_is x (y ∷ ys) k e = by (nat_eq x y) refl k e (position_is x ys) where
  by : (t : Bool) → nat_eq x y ≡ t → (k : ℕ) → slice_get (y ∷ ys) k ≡ Some x
      → ((j : ℕ) → slice_get ys j ≡ Some x
      → (position x ys < length ys) × (slice_get ys (position x ys) ≡ Some x))
      → (cond t 0 (suc (position x ys)) < suc (length ys))
      × (slice_get (y ∷ ys) (cond t 0 (suc (position x ys))) ≡ Some x)
  by true f k e further = (omega arith, ap Some (sym (eqb-true x y f)))
  by false f zero e further = absurd (eqb-false x y f (sym (same_Some y x e)))
  by false f (suc k) e further = let p = further k e in let l = p.0 in (omega arith, p.1)

-- a number stands first at the end of a list that it is put behind, or where it stood, whatever comes further behind
pub position_behind : (x : ℕ) (xs ys : List ℕ) → position x (xs ++ x ∷ ys) ≡ position x xs
position_behind x [] ys = ap (λ t. cond t 0 (suc (position x ys))) (eq-eqb x x refl)
position_behind x (y ∷ xs) ys = ap (λ n. cond (nat_eq x y) 0 (suc n)) (position_behind x xs ys)

-- The rows with which a child begins.
module _ (rows : List PromiseRow) (give : List ℕ) where
  -- as many as there are passed places
  pub length-passed : (firsts : List ℕ) (base : ℕ) (ks : List ℕ)
      → length (passed_rows rows give firsts base ks) ≡ length ks
  length-passed firsts base [] = refl
  length-passed firsts base (k ∷ ks) = ap suc
      (length-passed (firsts ++ first_at rows give k ∷ []) (base + length (all_places (row_at rows k))) ks)

  -- a row's first place is where its channel was seen first, among all that are passed
  pub record FirstOf (whole : List ℕ) (ks : List ℕ) (j : ℕ) (r : PromiseRow) : Type 0 where
    pub channel : ℕ
    pub stands : slice_get (map (first_at rows give) ks) j ≡ Some channel
    pub first : r.first ≡ position channel whole

  first_of_passed : (k : ℕ) (o : Option PromiseRow) (n base : ℕ) (g : Bool) → (passed_row n base g o).first ≡ n
  first_of_passed k None n base g = refl
  first_of_passed k (Some r) n base g = refl

  pub passed_first : (firsts : List ℕ) (base : ℕ) (ks : List ℕ) (j : ℕ) (r : PromiseRow)
      → slice_get (passed_rows rows give firsts base ks) j ≡ Some r
      → FirstOf (firsts ++ map (first_at rows give) ks) ks j r
  passed_first firsts base [] j r e = absurd (none-some r e)
  passed_first firsts base (k ∷ ks) zero r e = let x = first_at rows give k in record {
    channel = x;
    stands = refl;
    first = ap (λ (z : PromiseRow). z.first) (sym (same_Some _ r e))
        ∙ first_of_passed k (row_at rows k) (position x firsts) base (is_given rows give x)
        ∙ sym (position_behind x firsts (map (first_at rows give) ks));
  }
  passed_first firsts base (k ∷ ks) (suc j) r e = let x = first_at rows give k in
      let f = passed_first (firsts ++ x ∷ []) (base + length (all_places (row_at rows k))) ks j r e in record {
        channel = f.channel;
        stands = f.stands;
        first = f.first ∙ ap (position f.channel) (behind firsts x (map (first_at rows give) ks));
      } where
        behind : (xs : List ℕ) (x : ℕ) (ys : List ℕ) → (xs ++ x ∷ []) ++ ys ≡ xs ++ x ∷ ys
        behind [] x ys = refl
        behind (y ∷ xs) x ys = ap (λ l. y ∷ l) (behind xs x ys)

  -- so the child's rows lead
  pub passed_lead : (base : ℕ) (ks : List ℕ) → are_rows (passed_rows rows give [] base ks) ≡ true
  passed_lead base ks = all_from (leads made) made (λ j r e. lead j r e) where
    made : List PromiseRow
    made = passed_rows rows give [] base ks

    count : length made ≡ length (map (first_at rows give) ks)
    count = length-passed [] base ks ∙ sym (length-map ks (first_at rows give))

    lead : (j : ℕ) (r : PromiseRow) → slice_get made j ≡ Some r → leads made r ≡ true
    lead j r e = let f = passed_first [] base ks j r e in
        let whole = map (first_at rows give) ks in let p = position_is f.channel whole j f.stands in
        leads_to made r (subst (λ n. n < length made) (sym f.first)
        (subst (λ n. position f.channel whole < n) (sym count) p.0))
        (λ q g. let h = passed_first [] base ks r.first q g in
        h.first ∙ ap (λ x. position x whole) (same_Some h.channel f.channel
        (sym h.stands ∙ ap (slice_get whole) f.first ∙ p.1)) ∙ sym f.first)

  -- their promises are places of the child
  pub passed_bounded : (places : ℕ) → are_rows rows ≡ true → list_all (is_row places) rows ≡ true → (more : ℕ)
      (firsts : List ℕ) (base : ℕ) (ks : List ℕ)
      → base + length (flat_map (λ k. all_places (row_at rows k)) ks) ≤ more
      → list_all (is_row more) (passed_rows rows give firsts base ks) ≡ true
  passed_bounded places h b more firsts base [] l = refl
  passed_bounded places h b more firsts base (k ∷ ks) l = let x = first_at rows give k in
      let n = length-append (all_places (row_at rows k)) (flat_map (λ k. all_places (row_at rows k)) ks) in
      and_from _ _ (one (row_at rows k) refl (position x firsts) (is_given rows give x) (omega arith))
      (passed_bounded places h b more (firsts ++ x ∷ []) (base + length (all_places (row_at rows k))) ks
      (omega arith)) where
        one : (o : Option PromiseRow) → row_at rows k ≡ o → (first : ℕ) (g : Bool)
            → base + length (all_places o) ≤ more → is_row more (passed_row first base g o) ≡ true
        one None e first g l = bounds_to more (passed_row first base g None)
            (record { few = omega arith; placed = omega arith; sent = omega arith; asked = omega arith })
        one (Some r) e first g l = let f = (found_bounds places rows k r h b e) in
            let n = length-places r.base r.items in bounds_to more (passed_row first base g (Some r))
            (record { few = f.few; placed = omega arith; sent = sent g; asked = omega arith }) where
              sent : (g : Bool) → cond g r.sent 0 ≤ r.items
              sent true = (found_bounds places rows k r h b e).sent
              sent false = omega arith

-- What a spawn passes and hands are places of the task, not too many, and the child's rows are rows of its places.
pub record SpawnFits (places : ℕ) (rows : List PromiseRow) (pass give : List ℕ) : Type 0 where
  pub passed : AllByRecursion (λ k. k < places) (flat_map (λ k. all_places (row_at rows k)) pass)
  pub handed : AllByRecursion (λ k. k < places) (flat_map (λ k. unset_places (row_at rows k)) give)
  pub few : length (flat_map (λ k. all_places (row_at rows k)) pass) ≤ most_items * length pass
  pub lead : are_rows (passed_rows rows give [] 1 pass) ≡ true
  pub bounded : list_all (is_row (suc (length (flat_map (λ k. all_places (row_at rows k)) pass))))
      (passed_rows rows give [] 1 pass) ≡ true
  pub count : length (passed_rows rows give [] 1 pass) ≡ length pass

-- so it is
pub spawn_fits : (places : ℕ) (rows : List PromiseRow) (pass give : List ℕ) → are_rows rows ≡ true
    → list_all (is_row places) rows ≡ true → SpawnFits places rows pass give
spawn_fits places rows pass give h b = record {
  passed = all_given (λ k. k < places) (λ k. all_places (row_at rows k)) pass (all_placed places rows h b);
  handed = all_given (λ k. k < places) (λ k. unset_places (row_at rows k)) give (unset_placed places rows h b);
  few = length-given (λ k. all_places (row_at rows k)) most_items pass (few_placed places rows h b);
  lead = passed_lead rows give 1 pass;
  bounded = passed_bounded rows give places h b (suc (length (flat_map (λ k. all_places (row_at rows k)) pass))) [] 1
      pass (omega arith);
  count = length-passed rows give [] 1 pass;
}
