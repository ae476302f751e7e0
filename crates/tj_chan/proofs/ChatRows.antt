-- The asks of a table's chatter are those of its rows, in order.
use Rattle.std.proofs.Common.{◌≡◌, ◌≤◌, ℕ, suc, ◌+◌, inl, inr, pos, List, [], ◌∷◌, length, drop, refl, sym}
use Rattle.std.proofs.Common.{ap, ◌∙◌, arith, drop-cons}
use Rattle.std.proofs.lemmas.Option.{slice_get_cases, slice_get_read, slice_get_past}
use Rattle.std.proofs.lemmas.List.{drop_all}
use Rattle.tj_chan.specs.Chats.{channels_added}
use Rattle.tj_chan.specs.declared.chat.ChatAnswer.{ChatAnswer}
use Rattle.tj_chan.specs.declared.chat.ChatAsk.{ChatAsk}
use Rattle.tj_chan.specs.declared.chat.ChatAsk.TheVariants as ask
use Rattle.tj_chan.specs.declared.table.ChatRow.{ChatRow}
use Rattle.tj_chan.specs.declared.table.ChatRow.TheVariants as row
use Rattle.tj_chan.specs.declared.table.TableChat.{TableChat}
use Rattle.tj_chan.specs.ChatTables.{chat_row_ask, chat_rows_of, chat_row_or_end, chat_ask_at, table_chat_asks}
use Rattle.tj_chan.specs.ChatTables.{table_chat_then, asks_of_chat_rows}
use Rattle.tj_body.specs.RowLists.{asks_given}
use Rattle.tj_body.specs.Inner.RowListLaws.{RowAt}
use Rattle.tj_body.proofs.Rows.{StandsAt}

-- the chatter some rows further, whose task has n channels
abbrev further : TableChat → ℕ → ℕ → TableChat
further c k n = record c { row = k; channels = n }

-- a row's ask is the same wherever the chatter stands
row_ask-further : (c : TableChat) (k n : ℕ) (r : ChatRow) → chat_row_ask (further c k n) r ≡ chat_row_ask c r
row_ask-further c k n (row.Open i) = refl
row_ask-further c k n r = refl

-- the row that stands at k is the one that the chatter asks there
pub chat_row-at : (c : TableChat) (k j m : ℕ) (r : ChatRow) → StandsAt (chat_rows_of c) k r
    → chat_row_ask (further c j m) r ≡ chat_ask_at c k
chat_row-at c k j m r at = row_ask-further c j m r
    ∙ ap (chat_row_or_end c) (sym (slice_get_read (chat_rows_of c) (length (chat_rows_of c)) k r refl at.0 at.1))

-- past the last row the End is asked
pub chat_ask-past : (c : TableChat) (k : ℕ) → length (chat_rows_of c) ≤ k → ask.End (pos 0) ≡ chat_ask_at c k
chat_ask-past c k l = ap (chat_row_or_end c) (sym (slice_get_past (chat_rows_of c) k l))

module _ (c : TableChat) (k n : ℕ) (a : ChatAnswer) (rest : List ChatAnswer) (asked : List (ChatAsk TableChat))
    (h : asked ≡ asks_of_chat_rows c (drop (suc k) (chat_rows_of c)) rest) where
  one_more : RowAt (chat_rows_of c) k
      → table_chat_asks (further c k n) a ∷ asked ≡ asks_of_chat_rows c (drop k (chat_rows_of c)) (a ∷ rest)
  one_more (inl f) = let more = drop (suc k) (chat_rows_of c) in
      let e : drop k (chat_rows_of c) ≡ f.0 ∷ more = drop-cons (chat_rows_of c) k f.0 f.1 ∙ ap (λ z. z ∷ more) f.3 in
      rw (e, f.2, row_ask-further c k n f.0, h) refl
  one_more (inr f) = let l : length (chat_rows_of c) ≤ suc k = omega (arith, f.0) in
      rw (drop_all k (chat_rows_of c) f.0, f.1, h, drop_all (suc k) (chat_rows_of c) l) refl

-- from row k on the chatter gives the rows that are left
pub gives_chat_rows : (c : TableChat) (answers : List ChatAnswer) (k n : ℕ)
    → asks_given table_chat_asks table_chat_then (further c k n) answers
    ≡ asks_of_chat_rows c (drop k (chat_rows_of c)) answers
gives_chat_rows c [] k n = refl
gives_chat_rows c (a ∷ rest) k n = let m = n + channels_added a in
    one_more c k n a rest (asks_given table_chat_asks table_chat_then (further c (suc k) m) rest)
    (gives_chat_rows c rest (suc k) m) (slice_get_cases (chat_rows_of c) k).1
