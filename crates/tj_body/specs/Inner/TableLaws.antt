-- The laws of one ask, for a body that gives the rows of a list.
use Rattle.std.proofs.Common.{◌≡◌, ◌≤◌, ◌<◌, ◌^◌, ℕ, suc, ◌+◌, inr, Bool, true, false, nat_lt, nat_le, ◌&&◌, List, []}
use Rattle.std.proofs.Common.{◌∷◌, length, get_or, refl, arith, leb-true, ltb-true}
use Rattle.std.specs.List.{AllByRecursion}
use Rattle.std.specs.Cmp.{first_so, second_so}
use Rattle.tj_base.specs.declared.value.Pay.{Pay}
use Rattle.tj_base.specs.declared.value.Pay.TheVariants as pay
use Rattle.tj_body.specs.Asks.{nothing, Fits, new_places, awaited, IsPaid, most_passed, IsFresh, IsPlaced, Obeys}
use Rattle.tj_body.specs.declared.ask.Answer.{Answer}
use Rattle.tj_body.specs.declared.ask.Ask.{Ask}
use Rattle.tj_body.specs.declared.table.Row.{Row}
use Rattle.tj_body.specs.declared.table.Row.TheVariants as row
use Rattle.tj_body.specs.declared.table.TableBody.{TableBody}
use Rattle.tj_body.specs.Inner.RowListLaws.{IsReading, awaits_more, few_rows, begins_reading, reading_parts, holds_at}
use Rattle.tj_body.specs.Inner.RowListLaws.{awaits_next}
use Rattle.tj_body.specs.Table.{is_row, most_rows, is_table, are_below, is_paid, if_placed, body_at, row_ask, rows_of}
use Rattle.tj_body.specs.Table.{row_or_end, table_places, table_asks, table_then, table_left, await_after, is_under_way}
use Rattle.tj_body.specs.Table.{table_awaits}

-- what a body under way has
abbrev pub IsUnderWay : TableBody → Type 0
IsUnderWay b = IsReading most_rows is_row b.lists.now b.list b.row

-- a body that awaits the answer is under way
pub under_way : (b : TableBody) (a : Answer) → Fits (table_awaits b) (table_places b) a → IsUnderWay b
under_way b a h = reading_parts most_rows is_row b.lists.now b.list b.row
    (awaits_more (λ w x. Fits w (table_places b) x) (is_under_way b) (await_after b b.row) nothing a (λ f. f) h)

-- the places of the ask are among the first n
abbrev Placed : ℕ → Ask TableBody → Type 0
Placed n x = IsPlaced table_places table_awaits table_left n x

below : (n : ℕ) (ks : List ℕ) → are_below n ks ≡ true → AllByRecursion (λ k. k < n) ks
below n [] e = tt
below n (k ∷ ks) e = let l = nat_lt k n in
    (ltb-true k n (first_so l (are_below n ks) e), below n ks (second_so l (are_below n ks) e))

paid : (n : ℕ) (v : Pay) → is_paid n v ≡ true → IsPaid n v
paid n (pay.Num i) e = tt
paid n (pay.Ref k) e = ltb-true k n e

placed_if : (n : ℕ) (b : Bool) (x : Ask TableBody) → (b ≡ true → Placed n x) → Placed n (if_placed b x)
placed_if n true x h = h refl
placed_if n false x h = tt

-- the body of another list of the table has asked nothing yet
pub fresh_at : (b : TableBody) (list n : ℕ) → is_table b.lists.now ≡ true → list < length b.lists.now
    → IsFresh table_places table_awaits table_left n (body_at b list n)
fresh_at b list n e l =
    let few : length (get_or b.lists.now list []) ≤ 2 ^ 20 = few_rows most_rows is_row b.lists.now list e l in record {
      has_places = refl;
      begins = rw (begins_reading most_rows is_row b.lists.now list e l) refl;
      ends = omega arith;
    }

-- what a row of a table asks has its places, and a fork's body is fit for its task
placed : (b : TableBody) (n : ℕ) (r : Row) → is_table b.lists.now ≡ true → is_row (length b.lists.now) r ≡ true
    → Placed n (row_ask b n r)
placed b n (row.Fork list pass hand) e h =
    let p = are_below n pass in let o = are_below n hand in
    let l = nat_lt list (length b.lists.now) in let f = nat_le (length pass) most_passed in
    placed_if n (p && o) _ (λ x. record {
      passed = below n pass (first_so p o x);
      handed = below n hand (second_so p o x);
      few = leb-true (length pass) most_passed (second_so l f h);
      fresh = fresh_at b list (suc (length pass)) e (ltb-true list (length b.lists.now) (first_so l f h));
    })
placed b n (row.Set k v) e h = let l = nat_lt k n in let p = is_paid n v in
    placed_if n (l && p) _ (λ x. (ltb-true k n (first_so l p x), paid n v (second_so l p x)))
placed b n (row.Get k) e h = placed_if n (nat_lt k n) _ (λ x. ltb-true k n x)
placed b n (row.Join k) e h = placed_if n (nat_lt k n) _ (λ x. ltb-true k n x)
placed b n (row.GetOr k) e h = placed_if n (nat_lt k n) _ (λ x. ltb-true k n x)
placed b n (row.JoinOr k) e h = placed_if n (nat_lt k n) _ (λ x. ltb-true k n x)
placed b n (row.End v) e h = placed_if n (is_paid n v) _ (λ x. paid n v x)
placed b n r e h = tt

pub table_obeys : (b : TableBody) (a : Answer) → Obeys table_places table_awaits table_left table_asks table_then b a
table_obeys b a h = let u = under_way b a h in let at : b.row ≤ length (rows_of b) = u.at in
    let n = b.places + new_places a in record {
      falls = inr (omega arith);
      awaits_answer = awaits_next u (awaited (table_asks b a)) nothing (λ e. rw e refl);
      adds_places = refl;
      placed = holds_at u (λ z. Placed n (row_or_end b n z)) (λ r is. placed b n r u.table is) tt b.row;
    }
