-- The laws of one ask, for a chatter that gives the rows of a list.
use Rattle.std.proofs.Common.{◌≡◌, ◌≤◌, ◌<◌, ◌^◌, ℕ, inr, true, nat_lt, nat_le, [], length, get_or, refl, arith}
use Rattle.std.proofs.Common.{leb-true, ltb-true}
use Rattle.std.specs.Cmp.{first_so, second_so}
use Rattle.tj_body.specs.Inner.RowListLaws.{IsReading, awaits_more, few_rows, begins_reading, reading_parts, holds_at}
use Rattle.tj_body.specs.Inner.RowListLaws.{awaits_next}
use Rattle.tj_chan.specs.Chats.{nothing, FitsChat, chat_awaited, most_items, most_channels, IsFreshChat, IsChatAsk}
use Rattle.tj_chan.specs.Chats.{ObeysChat}
use Rattle.tj_chan.specs.declared.chat.ChatAnswer.{ChatAnswer}
use Rattle.tj_chan.specs.declared.chat.ChatAsk.{ChatAsk}
use Rattle.tj_chan.specs.declared.table.ChatRow.{ChatRow}
use Rattle.tj_chan.specs.declared.table.ChatRow.TheVariants as row
use Rattle.tj_chan.specs.declared.table.TableChat.{TableChat}
use Rattle.tj_chan.specs.ChatTables.{is_chat_row, most_chat_rows, is_chat_table, chat_at, chat_row_ask, chat_rows_of}
use Rattle.tj_chan.specs.ChatTables.{chat_row_or_end, chat_await_after, is_chat_under_way, table_channels}
use Rattle.tj_chan.specs.ChatTables.{table_chat_asks, table_chat_then, table_chat_left, table_chat_awaits}

-- what a chatter under way has
abbrev pub IsUnderWay : TableChat → Type 0
IsUnderWay c = IsReading most_chat_rows is_chat_row c.lists.now c.list c.row

-- a chatter that awaits the answer is under way
pub chat_under_way : (c : TableChat) (a : ChatAnswer) → FitsChat (table_chat_awaits c) (table_channels c) a
    → IsUnderWay c
chat_under_way c a h = reading_parts most_chat_rows is_chat_row c.lists.now c.list c.row
    (awaits_more (λ w x. FitsChat w (table_channels c) x) (is_chat_under_way c) (chat_await_after c c.row) nothing a
    (λ f. f) h)

-- the ask is one that a chatter may give
abbrev Allowed : ChatAsk TableChat → Type 0
Allowed x = IsChatAsk table_channels table_chat_awaits table_chat_left x

-- the chatter of another list of the table has asked nothing yet
pub fresh_chat_at : (c : TableChat) (list n : ℕ) → is_chat_table c.lists.now ≡ true → list < length c.lists.now
    → IsFreshChat table_channels table_chat_awaits table_chat_left n (chat_at c list n)
fresh_chat_at c list n e l =
    let few : length (get_or c.lists.now list []) ≤ 2 ^ 15 = few_rows most_chat_rows is_chat_row c.lists.now list e l in
    record {
      has_places = refl;
      begins = rw (begins_reading most_chat_rows is_chat_row c.lists.now list e l) refl;
      ends = omega arith;
    }

-- what a row of a table asks is allowed, and a spawn's chatter is fit for its task
allowed : (c : TableChat) (r : ChatRow) → is_chat_table c.lists.now ≡ true
    → is_chat_row (length c.lists.now) r ≡ true → Allowed (chat_row_ask c r)
allowed c (row.Open k) e h = let p = nat_lt 0 k in let m = nat_le k most_items in
    (ltb-true 0 k (first_so p m h), leb-true k most_items (second_so p m h))
allowed c (row.Spawn list pass give) e h =
    let l = nat_lt list (length c.lists.now) in let f = nat_le (length pass) most_channels in
    record {
      few = leb-true (length pass) most_channels (second_so l f h);
      fresh = fresh_chat_at c list (length pass) e (ltb-true list (length c.lists.now) (first_so l f h));
    }
allowed c r e h = tt

pub table_chat_obeys : (c : TableChat) (a : ChatAnswer)
    → ObeysChat table_channels table_chat_awaits table_chat_left table_chat_asks table_chat_then c a
table_chat_obeys c a h = let u = chat_under_way c a h in let at : c.row ≤ length (chat_rows_of c) = u.at in record {
  falls = inr (omega arith);
  awaits_answer = awaits_next u (chat_awaited (table_chat_asks c a)) nothing (λ e. rw e refl);
  adds_places = refl;
  placed = holds_at u (λ z. Allowed (chat_row_or_end c z)) (λ r is. allowed c r u.table is) tt c.row;
}
