-- The asks of a body that gives the rows of a list.
use Rattle.std.specs.Prelude.{◌≡◌, ℕ, zero, suc, ◌+◌, ◌-◌, Bool, true, false, cond, nat_lt, nat_le, ◌&&◌, ◌^◌, pos}
use Rattle.std.specs.Prelude.{List, [], ◌∷◌, length, get_or, slice_get, Option, Some, None}
use Rattle.std.specs.List.{list_all}
use Rattle.tj_base.specs.declared.value.Pay.{Pay}
use Rattle.tj_base.specs.declared.value.Pay.TheVariants as pay
use Rattle.tj_base.specs.declared.cause.Trouble.TheVariants as trouble
use Rattle.tj_body.specs.Asks.{Await, begin, nothing, new_places, awaited, most_passed}
use Rattle.tj_body.specs.RowLists.{is_list_of, are_table, is_reading, asks_given}
use Rattle.tj_body.specs.declared.ask.Answer.{Answer}
use Rattle.tj_body.specs.declared.ask.Ask.{Ask}
use Rattle.tj_body.specs.declared.ask.Ask.TheVariants as ask
use Rattle.tj_body.specs.declared.table.Row.{Row}
use Rattle.tj_body.specs.declared.table.Row.TheVariants as row
use Rattle.tj_body.specs.declared.table.TableBody.{TableBody}

-- Tables: lists of rows. Each fork names one of the lists, and passes few enough places.
abbrev pub is_row : ℕ → Row → Bool
is_row lists (row.Fork list pass hand) = nat_lt list lists && nat_le (length pass) most_passed
is_row lists r = true

-- a list of a table has at most so many rows
abbrev pub most_rows : ℕ
most_rows = 2 ^ 20

-- the list is one of a table with so many lists
abbrev pub is_row_list : ℕ → List Row → Bool
is_row_list = is_list_of most_rows is_row

-- the lists are those of a table
-- one test and no record: a caller with a literal table has it computed
abbrev pub is_table : List (List Row) → Bool
is_table = are_table most_rows is_row

-- Places: whether each is one of n.
abbrev pub are_below : ℕ → List ℕ → Bool
are_below n ks = list_all (λ k. nat_lt k n) ks

-- whether the place of the value, if it is a reference, is one of n
abbrev pub is_paid : ℕ → Pay → Bool
is_paid n (pay.Num i) = true
is_paid n (pay.Ref k) = nat_lt k n

-- the ask where its places are those that the task has, else a fault
abbrev pub if_placed : {B : Type 0} → Bool → Ask B → Ask B
if_placed true x = x
if_placed false x = ask.Fail trouble.Kind

-- the body that gives the rows of another list of the same table, for a task with n places
abbrev pub body_at : TableBody → ℕ → ℕ → TableBody
body_at b list n = record b { list = list; row = 0; places = n }

-- what the row asks where the task has n places
abbrev pub row_ask : TableBody → ℕ → Row → Ask TableBody
row_ask b n row.New = ask.New
row_ask b n (row.Fork list pass hand) =
    if_placed (are_below n pass && are_below n hand) (ask.Fork (body_at b list (suc (length pass))) pass hand)
row_ask b n (row.Set k v) = if_placed (nat_lt k n && is_paid n v) (ask.Set k v)
row_ask b n (row.Get k) = if_placed (nat_lt k n) (ask.Get k)
row_ask b n (row.Join k) = if_placed (nat_lt k n) (ask.Join k)
row_ask b n (row.GetOr k) = if_placed (nat_lt k n) (ask.GetOr k)
row_ask b n (row.JoinOr k) = if_placed (nat_lt k n) (ask.JoinOr k)
row_ask b n (row.Emit i) = ask.Emit i
row_ask b n (row.End v) = if_placed (is_paid n v) (ask.End v)
row_ask b n (row.Fail t) = ask.Fail t

-- the table of which the body is
abbrev pub lists_of : TableBody → List (List Row)
lists_of b = b.lists.now

-- the rows that the body gives
abbrev pub rows_of : TableBody → List Row
rows_of b = get_or b.lists.now b.list []

-- what a row asks, and past the last row End of 0
abbrev pub row_or_end : TableBody → ℕ → Option Row → Ask TableBody
row_or_end b n (Some r) = row_ask b n r
row_or_end b n None = ask.End (pay.Num (pos 0))

-- the ask of row k where the task has n places
abbrev pub ask_at : TableBody → ℕ → ℕ → Ask TableBody
ask_at b n k = row_or_end b n (slice_get (rows_of b) k)

-- A body of a table as a body: its places.
abbrev pub table_places : TableBody → ℕ
table_places b = b.places

-- what it asks next
abbrev pub table_asks : TableBody → Answer → Ask TableBody
table_asks b a = ask_at b (b.places + new_places a) b.row

-- what it is from then on
abbrev pub table_then : TableBody → Answer → TableBody
table_then b a = record b { row = suc b.row; places = b.places + new_places a }

-- at most so many rows are left, and the End
abbrev pub table_left : TableBody → ℕ
table_left b = suc (length (rows_of b)) - b.row

-- what is awaited after k rows, the last of them asked with the places that the task has now
abbrev pub await_after : TableBody → ℕ → Await
await_after b zero = begin
await_after b (suc k) = awaited (ask_at b b.places k)

-- whether the body is one of a table, and has not given its End yet
abbrev pub is_under_way : TableBody → Bool
is_under_way b = is_reading most_rows is_row b.lists.now b.list b.row

-- a body that isn't under way awaits nothing
abbrev pub table_awaits : TableBody → Await
table_awaits b = cond (is_under_way b) (await_after b b.row) nothing

-- Whole lists of asks: the rows' asks in order, where the task begins with n places, and then End of 0
abbrev pub asks_of_rows : TableBody → ℕ → List Row → List Answer → List (Ask TableBody)
asks_of_rows b n rows [] = []
asks_of_rows b n [] (a ∷ rest) = ask.End (pay.Num (pos 0)) ∷ asks_of_rows b (n + new_places a) [] rest
asks_of_rows b n (r ∷ rs) (a ∷ rest) = row_ask b (n + new_places a) r ∷ asks_of_rows b (n + new_places a) rs rest

-- whatever it is answered, the body gives these rows in order and then End of 0; its task begins with n places
abbrev pub GivesRows : TableBody → ℕ → List Row → Type 0
GivesRows b n rows = (answers : List Answer)
    → asks_given table_asks table_then b answers ≡ asks_of_rows b n rows answers

-- each body of the table gives the rows of its list
abbrev pub GivesTable : TableBody → Type 0
GivesTable b = (list n : ℕ) → GivesRows (body_at b list n) n (get_or (lists_of b) list [])
