-- The asks of a table's body are those of its rows, in order.
use Rattle.std.proofs.Common.{◌≡◌, ◌≤◌, ◌<◌, ℕ, suc, ◌+◌, inl, inr, pos, List, [], ◌∷◌, length, get_or, drop, refl, sym}
use Rattle.std.proofs.Common.{subst, ap, ◌∙◌, arith, drop-cons}
use Rattle.std.proofs.lemmas.Option.{slice_get_cases, slice_get_read, slice_get_past}
use Rattle.tj_base.specs.declared.value.Pay.TheVariants as pay
use Rattle.std.proofs.lemmas.List.{drop_all}
use Rattle.tj_body.specs.Asks.{new_places}
use Rattle.tj_body.specs.declared.ask.Answer.{Answer}
use Rattle.tj_body.specs.declared.ask.Ask.{Ask}
use Rattle.tj_body.specs.declared.ask.Ask.TheVariants as ask
use Rattle.tj_body.specs.declared.table.Row.{Row}
use Rattle.tj_body.specs.declared.table.Row.TheVariants as row
use Rattle.tj_body.specs.declared.table.TableBody.{TableBody}
use Rattle.tj_body.specs.Table.{row_ask, rows_of, row_or_end, ask_at, table_asks, table_then, asks_of_rows}
use Rattle.tj_body.specs.RowLists.{asks_given}
use Rattle.tj_body.specs.Inner.RowListLaws.{RowAt}

-- the row stands at k
abbrev pub StandsAt : {R : Type 0} → List R → ℕ → R → Type 0
StandsAt rows k r = (k < length rows) × (r ≡ get_or rows k r)

-- what is read at an index of rows stands there, in each list that equals them
pub stands_at : {R : Type 0} {read rows : List R} → read ≡ rows → (k : ℕ) (r : R) → k < length read
    → r ≡ get_or read k r → StandsAt rows k r
stands_at e k r l is = (subst (λ z. k < length z) e l, subst (λ z. r ≡ get_or z k r) e is)

-- the body some rows further, whose task has n places
abbrev further : TableBody → ℕ → ℕ → TableBody
further b k n = record b { row = k; places = n }

-- a row's ask is the same wherever the body stands
row_ask-further : (b : TableBody) (k n m : ℕ) (r : Row) → row_ask (further b k n) m r ≡ row_ask b m r
row_ask-further b k n m row.New = refl
row_ask-further b k n m r = refl

-- the row that stands at k is the one that the body asks there
pub row_ask-at : (b : TableBody) (k j m n : ℕ) (r : Row) → StandsAt (rows_of b) k r
    → row_ask (further b j m) n r ≡ ask_at b n k
row_ask-at b k j m n r at = row_ask-further b j m n r
    ∙ ap (row_or_end b n) (sym (slice_get_read (rows_of b) (length (rows_of b)) k r refl at.0 at.1))

-- past the last row the End is asked
pub ask_at-past : (b : TableBody) (k n : ℕ) → length (rows_of b) ≤ k → ask.End (pay.Num (pos 0)) ≡ ask_at b n k
ask_at-past b k n l = ap (row_or_end b n) (sym (slice_get_past (rows_of b) k l))

module _ (b : TableBody) (k n : ℕ) (a : Answer) (rest : List Answer) (asked : List (Ask TableBody))
    (h : asked ≡ asks_of_rows b (n + new_places a) (drop (suc k) (rows_of b)) rest) where
  one_more : RowAt (rows_of b) k
      → table_asks (further b k n) a ∷ asked ≡ asks_of_rows b n (drop k (rows_of b)) (a ∷ rest)
  one_more (inl f) = let more = drop (suc k) (rows_of b) in
      let e : drop k (rows_of b) ≡ f.0 ∷ more = drop-cons (rows_of b) k f.0 f.1 ∙ ap (λ z. z ∷ more) f.3 in
      rw (e, f.2, row_ask-further b k n (n + new_places a) f.0, h) refl
  one_more (inr f) = let l : length (rows_of b) ≤ suc k = omega (arith, f.0) in
      rw (drop_all k (rows_of b) f.0, f.1, h, drop_all (suc k) (rows_of b) l) refl

-- from row k on the body gives the rows that are left
pub gives_rows : (b : TableBody) (answers : List Answer) (k n : ℕ)
    → asks_given table_asks table_then (further b k n) answers ≡ asks_of_rows b n (drop k (rows_of b)) answers
gives_rows b [] k n = refl
gives_rows b (a ∷ rest) k n = let m = n + new_places a in
    one_more b k n a rest (asks_given table_asks table_then (further b (suc k) m) rest) (gives_rows b rest (suc k) m)
    (slice_get_cases (rows_of b) k).1
