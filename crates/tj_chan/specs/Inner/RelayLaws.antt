-- The laws of one ask, for the tasks of a relay.
use Rattle.std.proofs.Common.{◌≡◌, ◌≤◌, ◌<◌, ℕ, ◌+◌, ◌/◌, ◌⊎◌, inl, inr, Bool, true, false, cond, nat_lt, nat_le}
use Rattle.std.proofs.Common.{nat_eq, ◌&&◌, refl, sym, subst, ap, ◌∙◌, arith, leb-true, ltb-true, ltb-false, lt-ltb}
use Rattle.std.proofs.Common.{le-leb, eq-eqb, ne_eqb, eqb-true, ◌^◌}
use Rattle.std.specs.Prelude.{ℤ, pos, ◌+ℤ◌}
use Rattle.tj_base.specs.declared.cause.Trouble.TheVariants as trouble
use Rattle.std.specs.Cmp.{first_so, second_so}
use Rattle.tj_chan.specs.Chats.{begin, place, done, cell, nothing, FitsChat, channels_added, chat_awaited}
use Rattle.tj_chan.specs.Chats.{most_items, ChatEnds, IsChatAsk, IsFreshChat, ObeysChat}
use Rattle.tj_chan.specs.declared.chat.ChatAnswer.{ChatAnswer}
use Rattle.tj_chan.specs.declared.chat.ChatAnswer.TheVariants as answer
use Rattle.tj_chan.specs.declared.chat.ChatAsk.{ChatAsk}
use Rattle.tj_chan.specs.declared.chat.ChatAsk.TheVariants as ask
use Rattle.tj_chan.specs.declared.relay.Part.{Part}
use Rattle.tj_chan.specs.declared.relay.Part.TheVariants as part
use Rattle.tj_chan.specs.declared.relay.Relay.{Relay}
use Rattle.tj_chan.specs.Relays.{relay_channels, relay_awaits, relay_left, relay_asks, relay_then, channels_in}
use Rattle.tj_chan.specs.Relays.{await_in, is_count, is_relay, is_i64, left_in, hand_on, more_turn, RelayTurn}
use Rattle.tj_chan.specs.Relays.{relay_turn, root_turn, sum_turn, print_turn, first_turn, second_turn, turn_of}

-- a relay by its parts
abbrev relay_at : Part → ℕ → ℕ → ℤ → Relay
relay_at p size count sum = record { part = p; size = size; count = count; sum = sum }

-- a relay that awaits the answer is one
is_one : (r : Relay) (a : ChatAnswer) → FitsChat (relay_awaits r) (relay_channels r) a → is_relay r ≡ true
is_one r a h = by (is_relay r) refl h where
  by : (x : Bool) → is_relay r ≡ x → FitsChat (cond x (await_in r.part r.size r.count) nothing) (relay_channels r) a
      → is_relay r ≡ true
  by true e f = e
  by false e f = absurd f

-- an answer that is awaited adds a channel where that is a new one, and else none
begin_adds : (n : ℕ) (a : ChatAnswer) → FitsChat begin n a → channels_added a ≡ 0
begin_adds n answer.Start h = refl
begin_adds n a h = absurd h

new_adds : (n : ℕ) (a : ChatAnswer) → FitsChat place n a → channels_added a ≡ 1
new_adds n (answer.Chan k) h = refl
new_adds n a h = absurd h

done_adds : (n : ℕ) (a : ChatAnswer) → FitsChat done n a → channels_added a ≡ 0
done_adds n answer.Done h = refl
done_adds n a h = absurd h

first_adds : (b : Bool) (n : ℕ) (a : ChatAnswer) → FitsChat (cond b begin done) n a → channels_added a ≡ 0
first_adds true n a h = begin_adds n a h
first_adds false n a h = done_adds n a h

-- what a relay of a size awaits
awaits_of : (p : Part) (size count : ℕ) (sum : ℤ) → 0 < size → size ≤ most_items → is_count p size count ≡ true
    → relay_awaits (relay_at p size count sum) ≡ await_in p size count
awaits_of p size count sum l m e = rw (lt-ltb 0 size l, le-leb size most_items m, e) refl

-- the child that a relay spawns has asked nothing yet, and has the one channel
fresh_child : (p : Part) (size count : ℕ) → 0 < size → size ≤ most_items → is_count p size count ≡ true
    → await_in p size count ≡ begin → channels_in p ≡ 1 → left_in p size count ≤ 2 ^ 16
    → IsFreshChat relay_channels relay_awaits relay_left 1 (relay_at p size count (pos 0))
fresh_child p size count l m e b k f = record {
  has_places = k;
  begins = awaits_of p size count (pos 0) l m e ∙ b;
  ends = f;
}

-- what a turn of a relay owes to the laws
record Owes (r : Relay) (a : ChatAnswer) (t : RelayTurn) : Type 0 where
  falls : ChatEnds t.ask ⊎ (relay_left t.relay < relay_left r)
  awaits_answer : relay_awaits t.relay ≡ chat_awaited t.ask
  adds_channels : relay_channels t.relay ≡ relay_channels r + channels_added a
  allowed : IsChatAsk relay_channels relay_awaits relay_left t.ask

-- a turn that hangs on a test owes what each of the two owes
owes_cond : (r : Relay) (a : ChatAnswer) (b : Bool) (s t : RelayTurn) → (b ≡ true → Owes r a s)
    → (b ≡ false → Owes r a t) → Owes r a (cond b s t)
owes_cond r a true s t f g = f refl
owes_cond r a false s t f g = g refl

-- a number and its successor, and a number that is at least another, aren't equal
later_is_not : (m n : ℕ) → m ≤ n → nat_eq (n + 1) m ≡ false
later_is_not m n l = ne_eqb (n + 1) m (λ e. omega arith)

module _ (size count : ℕ) (sum : ℤ) (a : ChatAnswer) (l : 0 < size) (m : size ≤ most_items) where
  -- the relay at this part
  abbrev here : Part → Relay
  here p = relay_at p size count sum

  -- a last ask owes little
  ends : (p : Part) (x : ChatAsk Relay) → ChatEnds x → channels_in p ≡ 1 → channels_added a ≡ 0
      → chat_awaited x ≡ nothing → IsChatAsk relay_channels relay_awaits relay_left x
      → Owes (here p) a (relay_turn x part.Over (here p))
  ends p x e k z w o = record {
    falls = inl e;
    awaits_answer = awaits_of part.Over size count sum l m refl ∙ sym w;
    adds_channels = sym (ap (λ n. n + channels_added a) k ∙ ap (λ n. 1 + n) z);
    allowed = o;
  }

  opens : is_count part.Opens size count ≡ true → FitsChat begin 0 a
      → Owes (here part.Opens) a (relay_turn (ask.Open size) part.Spawns (here part.Opens))
  opens e h = record {
    falls = inr (omega arith);
    awaits_answer = awaits_of part.Spawns size count sum l m e;
    adds_channels = ap (λ n. 0 + n) (sym (begin_adds 0 a h));
    allowed = (l, m);
  }

  spawns : is_count part.Spawns size count ≡ true → FitsChat place 0 a
      → Owes (here part.Spawns) a (relay_turn (hand_on part.Sends (here part.Spawns)) part.Receives (here part.Spawns))
  spawns e h = let z : count ≡ 0 = eqb-true count 0 e in record {
    falls = inr (omega arith);
    awaits_answer = awaits_of part.Receives size count sum l m (le-leb count size (omega arith));
    adds_channels = ap (λ n. 0 + n) (sym (new_adds 0 a h));
    allowed = record {
      few = omega arith;
      fresh = fresh_child part.Sends size count l m (le-leb count (size / 2) (omega arith))
          (ap (λ n. cond (nat_eq n 0) begin done) z) refl (omega arith);
    };
  }

  receives : FitsChat done 1 a → Owes (here part.Receives) a (root_turn (here part.Receives))
  receives h = owes_cond (here part.Receives) a (nat_lt count size)
      (relay_turn (ask.Recv 0) part.Prints (here part.Receives))
      (relay_turn (ask.End sum) part.Over (here part.Receives))
      (λ e. let k : count < size = ltb-true count size e in record {
        falls = inr (omega arith);
        awaits_answer = awaits_of part.Prints size count sum l m e;
        adds_channels = ap (λ n. 1 + n) (sym (done_adds 1 a h));
        allowed = tt;
      })
      (λ e. ends part.Receives (ask.End sum) tt refl (done_adds 1 a h) refl tt)

  prints_num : (v : ℤ) (b : Bool) → count < size → channels_added a ≡ 0
      → Owes (here part.Prints) a (sum_turn b v (here part.Prints))
  prints_num v true k z = record {
    falls = inr (omega arith);
    awaits_answer = awaits_of part.Receives size (count + 1) (sum +ℤ v) l m (le-leb (count + 1) size (omega arith));
    adds_channels = ap (λ n. 1 + n) (sym z);
    allowed = tt;
  }
  prints_num v false k z = ends part.Prints (ask.Fail trouble.Arith) tt refl z refl tt

  sends_more : (p : Part) → count < size → channels_in p ≡ 1 → channels_added a ≡ 0
      → is_count p size (count + 1) ≡ true → await_in p size (count + 1) ≡ done
      → left_in p size (count + 1) < left_in p size count
      → Owes (here p) a (more_turn (here p))
  sends_more p k one z e w f = record {
    falls = inr f;
    awaits_answer = awaits_of p size (count + 1) sum l m e ∙ w;
    adds_channels = one ∙ sym (ap (λ n. n + channels_added a) one ∙ ap (λ n. 1 + n) z);
    allowed = tt;
  }

  sends : is_count part.Sends size count ≡ true → channels_added a ≡ 0
      → Owes (here part.Sends) a (first_turn (here part.Sends))
  sends e z = owes_cond (here part.Sends) a (nat_lt count (size / 2))
      (more_turn (here part.Sends))
      (relay_turn (hand_on part.SendsRest (here part.Sends)) part.Ends (here part.Sends))
      (λ t. let k : count < size / 2 = ltb-true count (size / 2) t in
      sends_more part.Sends (omega arith) refl z (le-leb (count + 1) (size / 2) (omega arith))
      (ap (λ b. cond b begin done) (later_is_not 0 count (omega arith))) (omega arith))
      (λ f. let k : size / 2 ≤ count = ltb-false count (size / 2) f in
      let j : count ≤ size / 2 = leb-true count (size / 2) e in
      let is : nat_eq count (size / 2) ≡ true = eq-eqb count (size / 2) (omega arith) in record {
        falls = inr (omega arith);
        awaits_answer = awaits_of part.Ends size count sum l m is;
        adds_channels = ap (λ n. 1 + n) (sym z);
        allowed = record {
          few = omega arith;
          fresh = fresh_child part.SendsRest size count l m (rest_count k)
              (ap (λ b. cond b begin done) is) refl (omega arith);
        };
      }) where
        rest_count : size / 2 ≤ count → is_count part.SendsRest size count ≡ true
        rest_count k = let j : count ≤ size / 2 = leb-true count (size / 2) e in
            rw (le-leb (size / 2) count k, le-leb count size (omega arith)) refl

  sends_rest : is_count part.SendsRest size count ≡ true → channels_added a ≡ 0
      → Owes (here part.SendsRest) a (second_turn (here part.SendsRest))
  sends_rest e z = owes_cond (here part.SendsRest) a (nat_lt count size)
      (more_turn (here part.SendsRest))
      (relay_turn (ask.End (pos 0)) part.Over (here part.SendsRest))
      (λ t. let k : count < size = ltb-true count size t in
      sends_more part.SendsRest k refl z (more_count k)
      (ap (λ b. cond b begin done) (later_is_not (size / 2) count half)) (omega arith))
      (λ f. ends part.SendsRest (ask.End (pos 0)) tt refl z refl tt) where
        half : size / 2 ≤ count
        half = leb-true (size / 2) count (first_so (nat_le (size / 2) count) (nat_le count size) e)

        more_count : count < size → is_count part.SendsRest size (count + 1) ≡ true
        more_count k = let j = half in
            rw (le-leb (size / 2) (count + 1) (omega arith), le-leb (count + 1) size (omega arith)) refl

-- the value that was received is printed
prints : (size count : ℕ) (sum : ℤ) (a : ChatAnswer) → 0 < size → size ≤ most_items → nat_lt count size ≡ true
    → FitsChat cell 1 a
    → Owes (relay_at part.Prints size count sum) a (print_turn a (relay_at part.Prints size count sum))
prints size count sum (answer.Num v) l m e h =
    prints_num size count sum (answer.Num v) l m v (is_i64 (sum +ℤ v)) (ltb-true count size e) refl
prints size count sum a l m e h = absurd h

-- each turn of a relay owes no more than this
owes : (p : Part) (size count : ℕ) (sum : ℤ) (a : ChatAnswer) → 0 < size → size ≤ most_items
    → is_count p size count ≡ true → FitsChat (await_in p size count) (channels_in p) a
    → Owes (relay_at p size count sum) a (turn_of p a (relay_at p size count sum))
owes part.Opens size count sum a l m e h = opens size count sum a l m e h
owes part.Spawns size count sum a l m e h = spawns size count sum a l m e h
owes part.Receives size count sum a l m e h = receives size count sum a l m h
owes part.Prints size count sum a l m e h = prints size count sum a l m e h
owes part.Sends size count sum a l m e h = sends size count sum a l m e (first_adds (nat_eq count 0) 1 a h)
owes part.Ends size count sum a l m e h =
    ends size count sum a l m part.Ends (ask.End (pos 0)) tt refl (done_adds 1 a h) refl tt
owes part.SendsRest size count sum a l m e h =
    sends_rest size count sum a l m e (first_adds (nat_eq count (size / 2)) 1 a h)
owes part.Over size count sum a l m e h = absurd h

pub relay_obeys : (r : Relay) (a : ChatAnswer)
    → ObeysChat relay_channels relay_awaits relay_left relay_asks relay_then r a
relay_obeys r a h =
    let e = is_one r a h in
    let s = nat_lt 0 r.size in let t = nat_le r.size most_items in let n = is_count r.part r.size r.count in
    let st : (s && t) ≡ true = first_so (s && t) n e in
    let fits : FitsChat (await_in r.part r.size r.count) (channels_in r.part) a =
    subst (λ x. FitsChat (cond x (await_in r.part r.size r.count) nothing) (channels_in r.part) a) e h in
    let o : Owes r a (turn_of r.part a r) = owes r.part r.size r.count r.sum a (ltb-true 0 r.size (first_so s t st))
    (leb-true r.size most_items (second_so s t st)) (second_so (s && t) n e) fits in
    record {
      falls = o.falls;
      awaits_answer = o.awaits_answer;
      adds_places = o.adds_channels;
      placed = o.allowed;
    }
