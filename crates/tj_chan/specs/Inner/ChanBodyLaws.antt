-- The laws of one ask, for a chatter as a body.
use Rattle.std.proofs.Common.{◌≡◌, ◌≤◌, ◌<◌, ℕ, zero, suc, ◌+◌, ◌-◌, ◌*◌, ◌⊎◌, inl, inr, Bool, true, false, cond}
use Rattle.std.proofs.Common.{nat_lt, nat_le, nat_eq, ◌&&◌, List, [], ◌∷◌, length, refl, sym, subst, ap, ◌∙◌, arith}
use Rattle.std.proofs.Common.{eqb-true, leb-true, ltb-true, lt-ltb, le-leb, eq-eqb, length-append}
use Rattle.std.specs.Prelude.{ℤ, Option, Some, None}
use Rattle.std.specs.List.{list_all, flat_map}
use Rattle.std.specs.Cmp.{first_so, second_so}
use Rattle.std.proofs.lemmas.Bool.{and_from, false≢true}
use Rattle.std.proofs.lemmas.Option.{none-some, same_Some}
use Rattle.tj_base.specs.declared.value.Pay.TheVariants as pay
use Rattle.tj_body.specs.Asks as asks
use Rattle.tj_body.specs.declared.ask.Answer.{Answer}
use Rattle.tj_body.specs.declared.ask.Answer.TheVariants as answer
use Rattle.tj_body.specs.declared.ask.Ask.TheVariants as ask
use Rattle.tj_chan.specs.Chats as chats
use Rattle.tj_chan.specs.Channels.{ChatRules}
use Rattle.tj_chan.specs.ChanBodies.{chan_places, chan_awaits, chan_left, chan_asks, chan_then, due_await, is_due}
use Rattle.tj_chan.specs.ChanBodies.{is_under_way, are_rows, is_row, most_rows, opening, promises_left, row_at}
use Rattle.tj_chan.specs.ChanBodies.{all_places, unset_places, new_row, without_ends, is_spawn, changed, with_channel}
use Rattle.tj_chan.specs.ChanBodies.{Turn, turn, fault, counted, turn_at, chat_turn, ask_turn, send_turn, receive_turn}
use Rattle.tj_chan.specs.ChanBodies.{spawn_turn, child_body}
use Rattle.tj_chan.specs.Inner.RowLaws.{row_found, found_bounds, rows_stay, rows_change, rows_part, rows_open}
use Rattle.tj_chan.specs.Inner.RowLaws.{SpawnFits, spawn_fits}
use Rattle.tj_chan.specs.Inner.Replies.{told_of_item, told_at, opened, next_promise, CanOpen}
use Rattle.tj_chan.specs.declared.rows.PromiseRow.{PromiseRow}
use Rattle.tj_chan.specs.declared.body.Due.{Due}
use Rattle.tj_chan.specs.declared.body.Due.TheVariants as due
use Rattle.tj_chan.specs.declared.body.ChanBody.{ChanBody}
use Rattle.tj_chan.specs.declared.chat.ChatAnswer.{ChatAnswer}
use Rattle.tj_chan.specs.declared.chat.ChatAnswer.TheVariants as told
use Rattle.tj_chan.specs.declared.chat.ChatAsk.{ChatAsk}
use Rattle.tj_chan.specs.declared.chat.ChatAsk.TheVariants as chat

module _ {C : Type 0} (rules : ChatRules C) where
  -- the laws of the chatter
  abbrev pub AreLawful : Type 0
  AreLawful = (c : C) (a : ChatAnswer)
      → chats.ObeysChat rules.channels rules.awaits rules.left rules.asks rules.then c a

  -- a body that awaits the answer is under way
  pub body_under_way : (b : ChanBody C) (a : Answer) → asks.Fits (chan_awaits rules b) (chan_places b) a
      → is_under_way rules b ≡ true
  body_under_way b a h = by (is_under_way rules b) refl h where
    by : (x : Bool) → is_under_way rules b ≡ x → asks.Fits (cond x (due_await b.due) asks.nothing) (chan_places b) a
        → is_under_way rules b ≡ true
    by true e f = e
    by false e f = absurd f

  -- what a body under way has
  pub record IsUnderWay (b : ChanBody C) : Type 0 where
    pub is_due : is_due b.places b.due (rules.awaits b.chatter) ≡ true
    pub channels : rules.channels b.chatter ≡ length b.rows
    pub leads : are_rows b.rows ≡ true
    pub rows : list_all (is_row b.places) b.rows ≡ true
    pub few : length b.rows + opening b.due + rules.left b.chatter ≤ most_rows

module _ {C : Type 0} (rules : ChatRules C) where
  -- the parts of the test
  pub body_parts : (b : ChanBody C) → is_under_way rules b ≡ true → IsUnderWay rules b
  body_parts b e =
      let d = is_due b.places b.due (rules.awaits b.chatter) in
      let n = nat_eq (rules.channels b.chatter) (length b.rows) in
      let r = are_rows b.rows in
      let p = list_all (is_row b.places) b.rows in
      let f = nat_le (length b.rows + opening b.due + rules.left b.chatter) most_rows in
      let dnrp = first_so (d && n && r && p) f e in
      let dnr = first_so (d && n && r) p dnrp in
      let dn = first_so (d && n) r dnr in
      record {
        is_due = first_so d n dn;
        channels = eqb-true (rules.channels b.chatter) (length b.rows) (second_so d n dn);
        leads = second_so (d && n) r dnr;
        rows = second_so (d && n && r) p dnrp;
        few = leb-true (length b.rows + opening b.due + rules.left b.chatter) most_rows
            (second_so (d && n && r && p) f e);
      }

  -- the test passes where the parts are so
  under_way_from : (b : ChanBody C) → IsUnderWay rules b → is_under_way rules b ≡ true
  under_way_from b u =
      and_from _ _ (and_from _ _ (and_from _ _ (and_from _ _ u.is_due (eq-eqb _ _ u.channels)) u.leads) u.rows)
      (le-leb _ _ u.few)

  -- What a turn owes, where so much was left before it and its task has so many places: what is left falls, what is due
  -- is awaited by the ask, the body is under way or the ask is the last one, and the ask's places are there.
  pub record Owes (was : ℕ) (places : ℕ) (t : Turn C) : Type 0 where
    pub falls : asks.Ends t.ask ⊎ (chan_left rules t.body < was)
    pub due : due_await t.body.due ≡ asks.awaited t.ask
    pub under_way : (asks.awaited t.ask ≡ asks.nothing) ⊎ (is_under_way rules t.body ≡ true)
    pub has_places : t.body.places ≡ places
    pub placed : asks.IsPlaced chan_places (chan_awaits rules) (chan_left rules) t.body.places t.ask

  -- a fault owes little
  fault_owes : (was : ℕ) (b : ChanBody C) → Owes was b.places (fault b)
  fault_owes was b = record { falls = inl tt; due = refl; under_way = inl refl; has_places = refl; placed = tt }

  -- a turn that hangs on a test owes what each of the two owes
  owes_cond : (was n : ℕ) (x : Bool) (s t : Turn C) → (x ≡ true → Owes was n s) → (x ≡ false → Owes was n t)
      → Owes was n (cond x s t)
  owes_cond was n true s t f g = f refl
  owes_cond was n false s t f g = g refl

  -- what is awaited after a turn that owes this is what its ask awaits
  awaits_next : (was n : ℕ) (t : Turn C) → Owes was n t → chan_awaits rules t.body ≡ asks.awaited t.ask
  awaits_next was n t o = by o.under_way where
    by : (asks.awaited t.ask ≡ asks.nothing) ⊎ (is_under_way rules t.body ≡ true)
        → chan_awaits rules t.body ≡ asks.awaited t.ask
    by (inl e) = none (is_under_way rules t.body) where
      none : (x : Bool) → cond x (due_await t.body.due) asks.nothing ≡ asks.awaited t.ask
      none true = o.due
      none false = sym e
    by (inr e) = ap (λ x. cond x (due_await t.body.due) asks.nothing) e ∙ o.due

  -- What is known of a body whose chatter has just asked, where its chatter had at most n asks left before.
  record IsAsking (n : ℕ) (x : ChatAsk C) (b : ChanBody C) : Type 0 where
    falls : chats.ChatEnds x ⊎ (rules.left b.chatter < n)
    awaits : rules.awaits b.chatter ≡ chats.chat_awaited x
    channels : rules.channels b.chatter ≡ length b.rows
    leads : are_rows b.rows ≡ true
    rows : list_all (is_row b.places) b.rows ≡ true
    few : length b.rows + n ≤ most_rows
    allowed : chats.IsChatAsk rules.channels rules.awaits rules.left x

  module _ (n was : ℕ) (most : chats.most_items * n ≤ was) where
    -- an ask that isn't its chatter's last one takes a whole channel's asks away
    whole_falls : (m more : ℕ) → m < n → more < chats.most_items → more + chats.most_items * m < was
    whole_falls m more l k = omega arith

    -- the body is under way where its rows stay and the ask isn't its chatter's last one
    goes_on : (x : ChatAsk C) (b : ChanBody C) → IsAsking n x b → ¬ chats.ChatEnds x → (d : Due) → opening d ≤ 1
        → is_due b.places d (rules.awaits b.chatter) ≡ true → (rows : List PromiseRow) → are_rows rows ≡ true
        → list_all (is_row b.places) rows ≡ true → length rows ≡ length b.rows
        → is_under_way rules (record b { rows = rows; due = d }) ≡ true
    goes_on x b a last d one due rows lead bounded count = by a.falls where
      by : chats.ChatEnds x ⊎ (rules.left b.chatter < n) → is_under_way rules (record b { rows = rows; due = d }) ≡ true
      by (inl e) = absurd (last e)
      by (inr l) = let f = a.few in under_way_from (record b { rows = rows; due = d }) (record {
        is_due = due;
        channels = a.channels ∙ sym count;
        leads = lead;
        rows = bounded;
        few = omega arith;
      })

    -- what is left falls
    left_falls : (x : ChatAsk C) (b : ChanBody C) → IsAsking n x b → ¬ chats.ChatEnds x → (more : ℕ)
        → more < chats.most_items → more + chats.most_items * rules.left b.chatter < was
    left_falls x b a last more k = by a.falls where
      by : chats.ChatEnds x ⊎ (rules.left b.chatter < n) → more + chats.most_items * rules.left b.chatter < was
      by (inl e) = absurd (last e)
      by (inr l) = whole_falls (rules.left b.chatter) more l k

    -- the ask of an opening is a New, and the channel's other promises are due
    opens : (k : ℕ) (b : ChanBody C) → IsAsking n (chat.Open k) b → Owes was b.places (ask_turn (chat.Open k) b)
    opens k b a = let m = a.allowed.0 in let f = a.allowed.1 in record {
      falls = inr (left_falls (chat.Open k) b a (λ e. e) (k - 1) (omega arith));
      due = refl;
      under_way = inr (goes_on (chat.Open k) b a (λ e. e) (due.Promise (k - 1) k) (omega arith) is_due_now b.rows
          a.leads a.rows refl);
      has_places = refl;
      placed = tt;
    } where
      is_due_now : is_due b.places (due.Promise (k - 1) k) (rules.awaits b.chatter) ≡ true
      is_due_now = let m = a.allowed.0 in let f = a.allowed.1 in rw (
        a.awaits,
        lt-ltb (k - 1) k (omega arith),
        le-leb k chats.most_items f,
        lt-ltb k (b.places + (k - 1) + 2) (omega arith),
      ) refl

    -- the next promise of a row is set, or the task fails
    sends : (c : ℕ) (v : ℤ) (b : ChanBody C) → IsAsking n (chat.Send c v) b → (o : Option PromiseRow)
        → row_at b.rows c ≡ o → Owes was b.places (send_turn o v b)
    sends c v b a None e = fault_owes was b
    sends c v b a (Some r) e = owes_cond was b.places (r.holds && nat_lt r.sent r.items)
        (turn (ask.Set (r.base + r.sent) (pay.Num v)) due.Done (changed (record r { sent = suc r.sent }) b)) (fault b)
        (λ t. let f = found_bounds b.places b.rows c r a.leads a.rows e in let p = f.placed in
        let l : r.sent < r.items = ltb-true r.sent r.items (second_so r.holds (nat_lt r.sent r.items) t) in
        let s : PromiseRow = record r { sent = suc r.sent } in
        let k = rows_change b.places b.rows s a.leads a.rows (row_found b.rows c r a.leads e).there
        (record { few = f.few; placed = p; sent = l; asked = f.asked }) in record {
          falls = inr (left_falls (chat.Send c v) b a (λ e. e) 0 (omega arith));
          due = refl;
          under_way = inr (goes_on (chat.Send c v) b a (λ e. e) due.Done (omega arith)
              (ap (is_due b.places due.Done) a.awaits) (changed s b).rows k.lead k.bounded k.same_count);
          has_places = refl;
          placed = (omega arith, tt);
        })
        (λ t. fault_owes was b)

    -- the next promise of a row is asked for, or the task fails
    receives : (c : ℕ) (b : ChanBody C) → IsAsking n (chat.Recv c) b → (o : Option PromiseRow) → row_at b.rows c ≡ o
        → Owes was b.places (receive_turn o b)
    receives c b a None e = fault_owes was b
    receives c b a (Some r) e = owes_cond was b.places (nat_lt r.asked r.items)
        (turn (ask.Get (r.base + r.asked)) due.Item (changed (record r { asked = suc r.asked }) b)) (fault b)
        (λ t. let f = found_bounds b.places b.rows c r a.leads a.rows e in let p = f.placed in
        let l : r.asked < r.items = ltb-true r.asked r.items t in
        let s : PromiseRow = record r { asked = suc r.asked } in
        let k = rows_change b.places b.rows s a.leads a.rows (row_found b.rows c r a.leads e).there
        (record { few = f.few; placed = p; sent = f.sent; asked = l }) in record {
          falls = inr (left_falls (chat.Recv c) b a (λ e. e) 0 (omega arith));
          due = refl;
          under_way = inr (goes_on (chat.Recv c) b a (λ e. e) due.Item (omega arith)
              (ap (is_due b.places due.Item) a.awaits) (changed s b).rows k.lead k.bounded k.same_count);
          has_places = refl;
          placed = omega arith;
        })
        (λ t. fault_owes was b)

    -- the body of a child has asked nothing yet
    child_fresh : (c : C) (pass give : List ℕ) (b : ChanBody C)
        → chats.IsSpawned rules.channels rules.awaits rules.left c pass → SpawnFits b.places b.rows pass give
        → asks.IsFresh chan_places (chan_awaits rules) (chan_left rules)
        (suc (length (flat_map (λ k. all_places (row_at b.rows k)) pass))) (child_body c pass give b)
    child_fresh c pass give b s f = let l = s.fresh.ends in let m = s.few in let k = f.count in record {
      has_places = refl;
      begins = ap (λ x. cond x asks.begin asks.nothing) (under_way_from (child_body c pass give b) (record {
        is_due = ap (is_due (child_body c pass give b).places due.Start) s.fresh.begins;
        channels = s.fresh.has_places ∙ sym f.count;
        leads = f.lead;
        rows = f.bounded;
        few = omega arith;
      }));
      ends = omega arith;
    }

    -- a child is forked, or the task fails
    spawns : (c : C) (pass give : List ℕ) (b : ChanBody C) → IsAsking n (chat.Spawn c pass give) b
        → Owes was b.places (spawn_turn c pass give b)
    spawns c pass give b a = owes_cond was b.places (is_spawn b.rows pass give)
        (turn (ask.Fork (child_body c pass give b)
        (flat_map (λ k. all_places (row_at b.rows k)) pass) (flat_map (λ k. unset_places (row_at b.rows k)) give))
        due.Child (record b { rows = without_ends b.rows give }))
        (fault b)
        (λ t. let f = spawn_fits b.places b.rows pass give a.leads a.rows in
        let k = rows_part b.places b.rows give a.leads a.rows in let m = f.few in let p = a.allowed.few in record {
          falls = inr (left_falls (chat.Spawn c pass give) b a (λ e. e) 0 (omega arith));
          due = refl;
          under_way = inr (goes_on (chat.Spawn c pass give) b a (λ e. e) due.Child (omega arith)
              (ap (is_due b.places due.Child) a.awaits) (without_ends b.rows give) k.lead k.bounded k.same_count);
          has_places = refl;
          placed = record {
            passed = f.passed;
            handed = f.handed;
            few = omega arith;
            fresh = child_fresh c pass give b a.allowed f;
          };
        })
        (λ t. fault_owes was b)

    -- each ask owes no more than this
    ask_owes : (x : ChatAsk C) (b : ChanBody C) → IsAsking n x b → Owes was b.places (ask_turn x b)
    ask_owes (chat.Open k) b a = opens k b a
    ask_owes (chat.Send c v) b a = sends c v b a (row_at b.rows c) refl
    ask_owes (chat.Recv c) b a = receives c b a (row_at b.rows c) refl
    ask_owes (chat.Spawn c pass give) b a = spawns c pass give b a
    ask_owes (chat.Emit i) b a = record {
      falls = inr (left_falls (chat.Emit i) b a (λ e. e) 0 (omega arith));
      due = refl;
      under_way = inr (goes_on (chat.Emit i) b a (λ e. e) due.Done (omega arith)
          (ap (is_due b.places due.Done) a.awaits) b.rows a.leads a.rows refl);
      has_places = refl;
      placed = tt;
    }
    ask_owes (chat.End v) b a =
        record { falls = inl tt; due = refl; under_way = inl refl; has_places = refl; placed = tt }
    ask_owes (chat.Fail t) b a =
        record { falls = inl tt; due = refl; under_way = inl refl; has_places = refl; placed = tt }

  -- What is known of a body whose chatter is to be told an answer, with so much left before.
  pub record IsTold (was : ℕ) (a : ChatAnswer) (b : ChanBody C) : Type 0 where
    pub fits : chats.FitsChat (rules.awaits b.chatter) (rules.channels b.chatter) a
    pub channels : rules.channels b.chatter + chats.channels_added a ≡ length b.rows
    pub leads : are_rows b.rows ≡ true
    pub rows : list_all (is_row b.places) b.rows ≡ true
    pub few : length b.rows + rules.left b.chatter ≤ most_rows
    pub most : chats.most_items * rules.left b.chatter ≤ was

  -- a turn of the chatter owes this
  chat_owes : AreLawful rules → (was : ℕ) (a : ChatAnswer) (b : ChanBody C) → IsTold was a b
      → Owes was b.places (chat_turn rules a b)
  chat_owes lawful was a b t = let o = lawful b.chatter a t.fits in
      ask_owes (rules.left b.chatter) was t.most (rules.asks b.chatter a)
      (record b { chatter = rules.then b.chatter a }) (record {
        falls = o.falls;
        awaits = o.awaits_answer;
        channels = o.adds_places ∙ t.channels;
        leads = t.leads;
        rows = t.rows;
        few = t.few;
        allowed = o.placed;
      })

  -- what a chatter awaits where this is due
  abbrev chat_due : Due → chats.Await
  chat_due due.Start = chats.begin
  chat_due (due.Promise more items) = chats.place
  chat_due due.Item = chats.cell
  chat_due due.Nothing = chats.nothing
  chat_due d = chats.done

  awaits_due : (places : ℕ) (d : Due) (w : chats.Await) → is_due places d w ≡ true → w ≡ chat_due d
  awaits_due places due.Start chats.begin e = refl
  awaits_due places (due.Promise more items) chats.place e = refl
  awaits_due places due.Done chats.done e = refl
  awaits_due places due.Item chats.cell e = refl
  awaits_due places due.Child chats.done e = refl
  awaits_due places d w e = absurd (false≢true e)

  -- What is so where a promise is due.
  record PromiseDue (places more items : ℕ) (w : chats.Await) : Type 0 where
    awaits : w ≡ chats.place
    below : more < items
    few : items ≤ chats.most_items
    placed : items < places + more + 2

  promise_due : (places more items : ℕ) (w : chats.Await) → is_due places (due.Promise more items) w ≡ true
      → PromiseDue places more items w
  promise_due places more items chats.place e = let l = nat_lt more items in
      let f = nat_le items chats.most_items in let p = nat_lt items (places + more + 2) in
      let lf = first_so (l && f) p e in record {
        awaits = refl;
        below = ltb-true more items (first_so l f lf);
        few = leb-true items chats.most_items (second_so l f lf);
        placed = ltb-true items (places + more + 2) (second_so (l && f) p e);
      }
  promise_due places more items w e = absurd (false≢true e)

  -- what a place that is awaited adds
  place_adds : (n : ℕ) (a : Answer) → asks.Fits asks.place n a → asks.new_places a ≡ 1
  place_adds n (answer.Local k) h = refl
  place_adds n a h = absurd h

  -- What a body under way has, with what is due apart from it.
  pub record Waiting (b : ChanBody C) (d : Due) : Type 0 where
    pub is_due : is_due b.places d (rules.awaits b.chatter) ≡ true
    pub channels : rules.channels b.chatter ≡ length b.rows
    pub leads : are_rows b.rows ≡ true
    pub rows : list_all (is_row b.places) b.rows ≡ true
    pub few : length b.rows + opening d + rules.left b.chatter ≤ most_rows

  -- what was left before a turn at an answer to what was due
  abbrev pub left_at : ChanBody C → Due → ℕ
  left_at b d = promises_left d + chats.most_items * rules.left b.chatter

  module _ (b : ChanBody C) (a : Answer) where
    -- its rows stay where places are added
    more_rows : list_all (is_row b.places) b.rows ≡ true → list_all (is_row (counted a b).places) b.rows ≡ true
    more_rows h = rows_stay b.places (b.places + asks.new_places a) b.rows (omega arith) h

    -- the chatter is told what adds no channel
    tells : (d : Due) → Waiting b d → (t : ChatAnswer) → chats.FitsChat (chat_due d) (rules.channels b.chatter) t
        → chats.channels_added t ≡ 0 → IsTold (left_at b d) t (counted a b)
    tells d u t fits none = let f = u.few in record {
      fits = subst (λ x. chats.FitsChat x (rules.channels b.chatter) t)
          (sym (awaits_due b.places d (rules.awaits b.chatter) u.is_due)) fits;
      channels = let e = u.channels in let z = none in omega arith;
      leads = u.leads;
      rows = more_rows u.rows;
      few = omega arith;
      most = omega arith;
    }

    -- the chatter is told that its channel is open
    tells_open : (items : ℕ) → Waiting b (due.Promise 0 items)
        → PromiseDue b.places 0 items (rules.awaits b.chatter) → asks.new_places a ≡ 1
        → IsTold (left_at b (due.Promise 0 items)) (told.Chan (length b.rows)) (with_channel items (counted a b))
    tells_open items u p one = let l = p.placed in let f = u.few in
        let o = rows_open (counted a b).places items b.rows u.leads (more_rows u.rows) (omega arith) p.few in record {
          fits = subst (λ x. chats.FitsChat x (rules.channels b.chatter) (told.Chan (length b.rows))) (sym p.awaits)
              (sym u.channels);
          channels = ap (λ n. n + 1) u.channels ∙ sym (length-append b.rows _);
          leads = o.0;
          rows = o.1;
          few = let n = length-append b.rows (new_row (length b.rows) (counted a b).places items ∷ []) in omega arith;
          most = omega arith;
        }

    -- the value of an item is told
    tells_item : Waiting b due.Item → (t : ChatAnswer) → told_of_item a ≡ Some t
        → IsTold (left_at b due.Item) t (counted a b)
    tells_item u t e = by (told_cases a t e) where
      by : ((v : ℤ) × (told.Num v ≡ t)) → IsTold (left_at b due.Item) t (counted a b)
      by q = subst (λ z. IsTold (left_at b due.Item) z (counted a b)) q.1
          (tells due.Item u (told.Num q.0) tt refl)

      told_cases : (a : Answer) (t : ChatAnswer) → told_of_item a ≡ Some t → (v : ℤ) × (told.Num v ≡ t)
      told_cases (answer.Num v) t e = (v, same_Some (told.Num v) t e)
      told_cases a t e = absurd (none-some t e)

    -- what a chatter is told fits it
    pub told_fits : (d : Due) → Waiting b d → asks.Fits (due_await d) b.places a → (t : ChatAnswer)
        → told_at d a (length b.rows) ≡ Some t → IsTold (left_at b d) t (opened d (counted a b))
    told_fits due.Start u h t e = subst (λ z. IsTold (left_at b due.Start) z (counted a b)) (same_Some told.Start t e)
        (tells due.Start u told.Start tt refl)
    told_fits (due.Promise zero items) u h t e =
        subst (λ z. IsTold (left_at b (due.Promise 0 items)) z (with_channel items (counted a b)))
        (same_Some (told.Chan (length b.rows)) t e)
        (tells_open items u (promise_due b.places 0 items (rules.awaits b.chatter) u.is_due) (place_adds b.places a h))
    told_fits (due.Promise (suc more) items) u h t e = absurd (none-some t e)
    told_fits due.Done u h t e = subst (λ z. IsTold (left_at b due.Done) z (counted a b)) (same_Some told.Done t e)
        (tells due.Done u told.Done tt refl)
    told_fits due.Item u h t e = tells_item u t e
    told_fits due.Child u h t e = subst (λ z. IsTold (left_at b due.Child) z (counted a b)) (same_Some told.Done t e)
        (tells due.Child u told.Done tt refl)
    told_fits due.Nothing u h t e = absurd (none-some t e)

    -- the next promise of a channel is made
    makes : (more items : ℕ) → Waiting b (due.Promise (suc more) items) → asks.Fits asks.place b.places a
        → Owes (left_at b (due.Promise (suc more) items)) (counted a b).places
        (turn ask.New (due.Promise more items) (counted a b))
    makes more items u h = let p = promise_due b.places (suc more) items (rules.awaits b.chatter) u.is_due in
        let l = p.placed in let k = p.below in let one = place_adds b.places a h in record {
          falls = inr (omega arith);
          due = refl;
          under_way = inr (under_way_from (record (counted a b) { due = due.Promise more items }) (record {
            is_due = rw (
              p.awaits,
              lt-ltb more items (omega arith),
              le-leb items chats.most_items p.few,
              lt-ltb items (b.places + asks.new_places a + more + 2) (omega arith),
            ) refl;
            channels = u.channels;
            leads = u.leads;
            rows = more_rows u.rows;
            few = u.few;
          }));
          has_places = refl;
          placed = tt;
        }

    -- a turn that goes on without the chatter owes this
    goes_alone : (d : Due) → Waiting b d → asks.Fits (due_await d) b.places a
        → Owes (left_at b d) (counted a b).places (next_promise d (counted a b))
    goes_alone (due.Promise (suc more) items) u h = makes more items u h
    goes_alone (due.Promise zero items) u h = fault_owes (left_at b (due.Promise 0 items)) (counted a b)
    goes_alone due.Start u h = fault_owes (left_at b due.Start) (counted a b)
    goes_alone due.Done u h = fault_owes (left_at b due.Done) (counted a b)
    goes_alone due.Item u h = fault_owes (left_at b due.Item) (counted a b)
    goes_alone due.Child u h = fault_owes (left_at b due.Child) (counted a b)
    goes_alone due.Nothing u h = fault_owes (left_at b due.Nothing) (counted a b)

    -- there is room for the row of a channel whose promises have been made
    pub can_open : (d : Due) → Waiting b d → asks.Fits (due_await d) b.places a
        → CanOpen d (counted a b).places (length b.rows)
    can_open (due.Promise more items) u h =
        let p = promise_due b.places more items (rules.awaits b.chatter) u.is_due in let l = p.placed in
        let one = place_adds b.places a h in let f = u.few in (omega arith, omega arith)
    can_open due.Start u h = tt
    can_open d u h = tt

  -- the turn where the chatter is told something
  pub turn_told : (d : Due) (a : Answer) (b : ChanBody C) (t : ChatAnswer) → told_at d a (length b.rows) ≡ Some t
      → turn_at rules d a b ≡ chat_turn rules t (opened d b)
  turn_told due.Start a b t e = ap (λ z. chat_turn rules z b) (same_Some told.Start t e)
  turn_told (due.Promise zero items) a b t e =
      ap (λ z. chat_turn rules z (with_channel items b)) (same_Some (told.Chan (length b.rows)) t e)
  turn_told (due.Promise (suc more) items) a b t e = absurd (none-some t e)
  turn_told due.Item (answer.Num v) b t e = ap (λ z. chat_turn rules z b) (same_Some (told.Num v) t e)
  turn_told due.Nothing a b t e = absurd (none-some t e)
  turn_told due.Item a b t e = absurd (none-some t e)
  turn_told d a b t e = ap (λ z. chat_turn rules z b) (same_Some told.Done t e)

  -- and where it is told nothing
  pub turn_alone : (d : Due) (a : Answer) (b : ChanBody C) → told_at d a (length b.rows) ≡ None
      → turn_at rules d a b ≡ next_promise d b
  turn_alone due.Start a b e = absurd (none-some told.Start (sym e))
  turn_alone (due.Promise zero items) a b e = absurd (none-some (told.Chan (length b.rows)) (sym e))
  turn_alone (due.Promise (suc more) items) a b e = refl
  turn_alone due.Item (answer.Num v) b e = absurd (none-some (told.Num v) (sym e))
  turn_alone due.Nothing a b e = refl
  turn_alone due.Item a b e = refl
  turn_alone d a b e = absurd (none-some told.Done (sym e))

  -- an opened channel adds no place
  opened_places : (d : Due) (b : ChanBody C) → (opened d b).places ≡ b.places
  opened_places (due.Promise zero items) b = refl
  opened_places d b = refl

  -- each turn owes this
  turns : AreLawful rules → (b : ChanBody C) (d : Due) (a : Answer) → Waiting b d
      → asks.Fits (due_await d) b.places a → Owes (left_at b d) (counted a b).places (turn_at rules d a (counted a b))
  turns lawful b d a u h = by (told_at d a (length b.rows)) refl where
    by : (o : Option ChatAnswer) → told_at d a (length b.rows) ≡ o
        → Owes (left_at b d) (counted a b).places (turn_at rules d a (counted a b))
    by None e = subst (Owes (left_at b d) (counted a b).places) (sym (turn_alone d a (counted a b) e))
        (goes_alone b a d u h)
    by (Some t) e = subst (Owes (left_at b d) (counted a b).places) (sym (turn_told d a (counted a b) t e))
        (subst (λ n. Owes (left_at b d) n (chat_turn rules t (opened d (counted a b)))) (opened_places d (counted a b))
        (chat_owes lawful (left_at b d) t (opened d (counted a b)) (told_fits b a d u h t e)))

  -- what is so of a body that awaits the answer
  pub waiting : (b : ChanBody C) (a : Answer) → asks.Fits (chan_awaits rules b) (chan_places b) a
      → Waiting b b.due × asks.Fits (due_await b.due) b.places a
  waiting b a h = let e = body_under_way rules b a h in let u = body_parts b e in (
    record {
      is_due = u.is_due;
      channels = u.channels;
      leads = u.leads;
      rows = u.rows;
      few = u.few;
    },
    subst (λ x. asks.Fits (cond x (due_await b.due) asks.nothing) b.places a) e h,
  )

-- the law of one ask
pub chan_obeys : {C : Type 0} (rules : ChatRules C) → AreLawful rules → (b : ChanBody C) (a : Answer)
    → asks.Obeys chan_places (chan_awaits rules) (chan_left rules) (chan_asks rules) (chan_then rules) b a
chan_obeys rules lawful b a h = let w = waiting rules b a h in let o = turns rules lawful b b.due a w.0 w.1 in record {
  falls = o.falls;
  awaits_answer =
      awaits_next rules (left_at rules b b.due) (counted a b).places (turn_at rules b.due a (counted a b)) o;
  adds_places = o.has_places;
  placed = o.placed;
}
