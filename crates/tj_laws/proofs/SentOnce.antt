-- No two sends into a channel have one number: what is sent is an entry of the item, and each cell of a round is
-- written by one task. So it is in the meaning, where that isn't full.
use Rattle.std.proofs.Common.{◌≡◌, ◌⊎◌, ◌<◌, ◌≤◌, ◌+◌, ◌*◌, ℕ, suc, Bool, true, false, List, map, slice_get, Option}
use Rattle.std.proofs.Common.{Some, ℤ, refl, sym, ap, ◌∙◌, subst, inl, inr, ⊎_elim, arith}
use Rattle.tj_base.specs.ForkOrder.{Name, child}
use Rattle.tj_body.specs.Asks as asks
use Rattle.tj_body.specs.History.{Assignment}
use Rattle.tj_body.specs.Points.{IsIn}
use Rattle.tj_body.specs.Programs.{Program}
use Rattle.tj_body.specs.Rounds.{given, tasks, writes_by}
use Rattle.tj_body.specs.declared.ask.Answer.{Answer}
use Rattle.tj_body.specs.declared.point.Entry.{Entry}
use Rattle.tj_body.specs.declared.point.Entry.TheVariants as entry
use Rattle.tj_body.specs.declared.point.Value.TheVariants as value
use Rattle.tj_body.proofs.Counts.{is, total, total_flat_map, total_one, wrote}
use Rattle.tj_body.proofs.Lists.{in_left, in_right, to_map}
use Rattle.tj_body.proofs.Rounds.Rises.{once_entry, wrote_of_in}
use Rattle.tj_body.proofs.Rounds.Settles.{at_most_limit, last_given}
use Rattle.tj_chan.specs.Channels.{Channel, ChatPoint, ChatRules, ChatTask, Lists, SendingEnd, answered, end_of}
use Rattle.tj_chan.specs.Channels.{is_same, item}
use Rattle.tj_chan.specs.ChannelLaws.{AreLawfulChats, IsRootChat, chats_of}
use Rattle.tj_chan.specs.ChannelRounds.{IsChatFull, chat_tasks, has_ended, leaves, left_of, lists_at}
use Rattle.tj_chan.specs.ChanBodies.{chan_asks, chan_awaits, chan_left, chan_places, chan_then}
use Rattle.tj_chan.specs.Inner.ChanBodyLaws.{chan_obeys}
use Rattle.tj_chan.specs.declared.body.ChanBody.{ChanBody}
use Rattle.tj_chan.specs.declared.chat.ChatAnswer.TheVariants as answer
use Rattle.tj_chan.specs.declared.chat.ChatAsk.TheVariants as ask
use Rattle.tj_chan.proofs.Asks.Receives.{answers_linked}
use Rattle.tj_chan.proofs.Linked.Families.{run_linked, run_task_fit, run_tasks, tasks_linked, total_map}
use Rattle.tj_chan.proofs.Linked.Histories.{histories_linked}
use Rattle.tj_chan.proofs.Linked.Links.{IsEntryFor, task_of}
use Rattle.tj_chan.proofs.Linked.Meaning.{channel_opened, is_meant, lists_are_entries, run_same, tasks_same}
use Rattle.tj_chan.proofs.Linked.Steps.{HistoriesAreLinked, IsOpenedIn, program}
use Rattle.tj_chan.proofs.Linked.Theorem.{asks_linked}
use Rattle.tj_chan.proofs.Lists.Apart.{end_there, same_parts}
use Rattle.tj_chan.proofs.Lists.Grows.{determined}
use Rattle.tj_chan.proofs.Lists.Histories.{histories_are_runs, point_same}
use Rattle.tj_chan.proofs.Lists.Runs.{AreOneOn, IsFit, finds_in, finds_of, found_by, run_of}
use Rattle.tj_laws.specs.ChannelSends.{AreMeantReceives, AreSendsOnce, Gives, IsOneSent, IsOnlySend, Sends}
use Rattle.tj_laws.specs.ChannelSends.{chat_point}
use Rattle.tj_laws.proofs.SendSteps.{HasItemAt, given_fewer, got_past, one_step, send_early, sent_has}
use Rattle.tj_laws.proofs.SentItems.{alike, receives_sent}

-- a send, where the points before and after it are others that are the same
module _ {C : Type 0} (rules : ChatRules C) (L M : Lists) (u : ChatTask C) (c : Channel) (i : ℕ) (v : ℤ) where
  send_moved : (s : Sends rules L u c i v) → chat_point rules L s.steps u ≡ chat_point rules M s.steps u
      → chat_point rules L (suc s.steps) u ≡ chat_point rules M (suc s.steps) u → Sends rules M u c i v
  send_moved s e f = record {
    steps = s.steps;
    given = s.given;
    place = s.place;
    named = s.named;
    sending = s.sending;
    is_answered = subst (λ (p : ChatPoint C). p.stage ≡ answered s.given) e s.is_answered;
    sends = subst (λ (p : ChatPoint C). rules.asks p.chatter s.given ≡ ask.Send s.place v) e s.sends;
    at_place = subst (λ (p : ChatPoint C). slice_get p.channels s.place ≡ Some s.named) e s.at_place;
    its_channel = s.its_channel;
    holds = subst (λ (p : ChatPoint C). end_of s.named p.ends ≡ Some s.sending) e s.holds;
    number = s.number;
    room = s.room;
    done = subst (λ (p : ChatPoint C). p.stage ≡ answered answer.Done) f s.done;
  }

-- two sends at one step send one value
module _ {C : Type 0} (rules : ChatRules C) (L : Lists) (u : ChatTask C) (c : Channel) (i : ℕ) where
  one_value : (v w : ℤ) (s : Sends rules L u c i v) (r : Sends rules L u c i w) → s.steps ≡ r.steps → v ≡ w
  one_value v w s r e =
      let p = chat_point rules L s.steps u in
      let a : answered s.given ≡ answered r.given = sym s.is_answered
      ∙ (ap (λ k. (chat_point rules L k u).stage) e ∙ r.is_answered) in
      let g : s.given ≡ r.given = cc in
      let x : ask.Send s.place v ≡ ask.Send r.place w = sym s.sends
      ∙ (ap (λ k. rules.asks (chat_point rules L k u).chatter s.given) e
      ∙ (ap (λ z. rules.asks (chat_point rules L r.steps u).chatter z) g ∙ r.sends)) in cc

-- what stands at its place in what is left is a value
value_left : (b : Bool) (o : Option ℤ) (v : ℤ) → o ≡ Some v
    → IsEntryFor (found_by b o) (entry.Value (value.Num v))
value_left true o v h = subst (λ z. IsEntryFor (found_by true z) (entry.Value (value.Num v))) (sym h) refl
value_left false o v h = subst (λ z. IsEntryFor (found_by false z) (entry.Value (value.Num v))) (sym h) refl

module _ {C : Type 0} (rules : ChatRules C) (lawful : AreLawfulChats rules) (root : C) (strict : Bool)
    (fresh : IsRootChat rules root)
    (obeys : (b : ChanBody C) (a : Answer)
    → asks.Obeys chan_places (chan_awaits rules) (chan_left rules) (chan_asks rules) (chan_then rules) b a)
    (linked : HistoriesAreLinked rules root strict) where
  abbrev P : Program (ChanBody C)
  P = program rules root strict

  abbrev W : ℕ → Assignment
  W n = given P n

  abbrev L : ℕ → Lists
  L n = lists_at (chats_of rules root) n

  abbrev Tasks : ℕ → List (ChatTask C)
  Tasks n = run_tasks rules lawful root strict fresh obeys linked n

  abbrev writes : ℕ → ChatTask C → List (Name × Entry)
  writes n t = writes_by P.rules (W n) (task_of t)

  task_fit : (n : ℕ) (t : ChatTask C) → IsIn t (Tasks n) → IsFit rules t
  task_fit n t j = run_task_fit rules lawful root strict fresh obeys linked n t j

  -- an end that a task holds or has handed on is left
  end_left : (p : ChatPoint C) (g : SendingEnd) → IsIn g p.ends ⊎ IsIn g p.handed_on
      → (b : Bool) × IsIn (left_of b g) (leaves p)
  end_left p g (inl there) = (
    has_ended p.stage,
    in_right (left_of (has_ended p.stage) g) (map (left_of false) p.handed_on)
        (map (left_of (has_ended p.stage)) p.ends) (to_map (left_of (has_ended p.stage)) g p.ends there),
  )
  end_left p g (inr handed) = (
    false,
    in_left (left_of false g) (map (left_of false) p.handed_on) (map (left_of (has_ended p.stage)) p.ends)
        (to_map (left_of false) g p.handed_on handed),
  )

  -- who sends a value writes the item
  sends_write : (n : ℕ) (u : ChatTask C) → IsIn u (Tasks n) → (c : Channel) (i : ℕ) (v : ℤ)
      → (s : Sends rules (L n) u c i v) → 1 ≤ wrote (item s.sending.channel i) (writes n u)
  sends_write n u j c i v s = ⊎_elim
      (λ a. wrote_of_in (item d i) x (writes n u) (subst (λ z. IsIn (item z i, x) (writes n u)) h.2 a))
      (λ a. absurd (none a.0 a.1 a.2 a.3))
      ((run_linked rules lawful root strict fresh obeys linked n u j).1.written (left_of g.0 h.0) i x g.1
      (subst (λ (z : Channel). i < z.items) (sym h.2) (subst (λ k. k < d.items) refl s.room))
      (value_left g.0 (slice_get h.0.sent i) v h.3)) where
        d : Channel
        d = s.sending.channel

        x : Entry
        x = entry.Value (value.Num v)

        fit : IsFit rules u
        fit = task_fit n u j

        p : ChatPoint C
        p = run_of rules (finds_in (W n)) u

        h : HasItemAt rules lawful (L n) u fit p d i v
        h = subst (λ q. HasItemAt rules lawful (L n) u fit q d i v)
            (run_same rules lawful root strict fresh obeys linked n u j)
            (sent_has rules lawful (L n) u fit c i v s)

        g : (b : Bool) × IsIn (left_of b h.0) (leaves p)
        g = end_left p h.0 h.1

        its : is_same c d ≡ true
        its = let t = end_there s.named (chat_point rules (L n) s.steps u).ends s.sending s.holds in
            alike c s.named d s.its_channel ∙ t.1

        none : (e : SendingEnd) → IsIn e u.given → e.channel ≡ h.0.channel
            → IsEntryFor (found_by false (slice_get e.sent i)) x → ⊥
        none e k q z = subst (λ o. IsEntryFor (found_by false o) x)
            (got_past e.sent i (given_fewer rules lawful (L n) u fit c i v s e k
            (subst (λ y. is_same c y ≡ true) (sym (q ∙ h.2)) its))) z

  -- each item is written by one task
  written_once : (n : ℕ) (q : Name) → total (λ t. wrote q (writes n t)) (Tasks n) ≤ 1
  written_once n q =
      let a = once_entry P (suc n) q in
      let b = total_flat_map (λ (w : Name × Entry). is q w.0) (writes_by P.rules (W n)) (tasks P (suc n)) in
      let c : total (λ t. wrote q (writes_by P.rules (W n) t)) (tasks P (suc n))
      ≡ total (λ t. wrote q (writes_by P.rules (W n) t)) (map task_of (Tasks n)) =
      ap (total (λ t. wrote q (writes_by P.rules (W n) t))) (tasks_linked rules lawful root strict fresh obeys linked n)
      in
      let d = total_map (λ t. wrote q (writes_by P.rules (W n) t)) task_of (Tasks n) in
      omega arith

  its_item : (n : ℕ) (u w : ChatTask C) (c : Channel) (i : ℕ) (v x : ℤ) (s : Sends rules (L n) u c i v)
      (r : Sends rules (L n) w c i x) → item r.sending.channel i ≡ item s.sending.channel i
  its_item n u w c i v x s r =
      let a = end_there s.named (chat_point rules (L n) s.steps u).ends s.sending s.holds in
      let b = end_there r.named (chat_point rules (L n) r.steps w).ends r.sending r.holds in
      let e = same_parts c s.sending.channel (alike c s.named s.sending.channel s.its_channel ∙ a.1) in
      let f = same_parts c r.sending.channel (alike c r.named r.sending.channel r.its_channel ∙ b.1) in
      let o = sym f.0 ∙ e.0 in
      let m = sym f.1 ∙ e.1 in
      λ k. child (o k) (m k + suc i)

  -- so two sends of one number are by one task
  one_task : (n : ℕ) (u w : ChatTask C) → IsIn u (Tasks n) → IsIn w (Tasks n) → (c : Channel) (i : ℕ) (v x : ℤ)
      → (s : Sends rules (L n) u c i v) → (r : Sends rules (L n) w c i x) → u ≡ w
  one_task n u w j k c i v x s r =
      let q = item s.sending.channel i in
      total_one (λ t. wrote q (writes n t)) (Tasks n) (written_once n q) u w j k (sends_write n u j c i v s)
      (subst (λ z. 1 ≤ wrote z (writes n w)) (its_item n u w c i v x s r) (sends_write n w k c i x r))

  -- and the send is one
  only_send : (n : ℕ) (u : ChatTask C) → IsIn u (Tasks n) → (c : Channel) (i : ℕ) (v : ℤ)
      → (s : Sends rules (L n) u c i v) → IsOnlySend rules (L n) (Tasks n) u c i v s
  only_send n u j c i v s w x k r = by (one_task n u w j k c i v x s r) r where
    same_task : (r : Sends rules (L n) u c i x) → (r.steps ≡ s.steps) × (x ≡ v)
    same_task r =
        let f = sym (one_step rules lawful (L n) u (task_fit n u j) c i v x s r) in
        (f, one_value rules (L n) u c i x v r s f)

    at : (e : u ≡ w) (r : Sends rules (L n) w c i x) → (r.steps ≡ s.steps) × (x ≡ v)
    at e = subst (λ z. (r : Sends rules (L n) z c i x) → (r.steps ≡ s.steps) × (x ≡ v)) e same_task

    by : u ≡ w → (r : Sends rules (L n) w c i x) → (w ≡ u) × (r.steps ≡ s.steps) × (x ≡ v)
    by e r = let q = at e r in (sym e, q.0, q.1)

  -- Where the meaning with limit N isn't full, the lists of the last two rounds are alike for the tasks.
  module _ (N : ℕ) (fits : ¬ IsChatFull (chats_of rules root) N) where
    abbrev n : ℕ
    n = 2 * N

    settled : W (suc n) ≡ W n
    settled = last_given P N
        (at_most_limit P N (λ f. fits ((is_meant rules lawful root strict fresh obeys linked N).0.0 f)))
        (suc n) (omega arith)

    lists_alike : (c : Channel) → IsOpenedIn rules root strict n c
        → AreOneOn (finds_of (L n)) (finds_of (L (suc n))) c
    lists_alike c o i l =
        lists_are_entries rules lawful root strict fresh obeys linked n n c o i l
        ∙ (ap (λ (V : Assignment). finds_in V c i) (sym settled)
        ∙ sym (lists_are_entries rules lawful root strict fresh obeys linked (suc n) n c o i l))

    points_alike : (u : ChatTask C) → IsIn u (Tasks n) → (k : ℕ) → k ≤ 2 * suc (rules.left u.chatter)
        → chat_point rules (L n) k u ≡ chat_point rules (L (suc n)) k u
    points_alike u j k l =
        point_same rules (L n) k u
        ∙ (determined rules lawful (finds_of (L n)) (finds_of (L (suc n))) u (task_fit n u j)
        (λ c i. lists_alike c (channel_opened rules lawful root strict fresh obeys linked n u j c
        (subst (λ (p : ChatPoint C). IsIn c p.channels)
        (sym (histories_are_runs rules (L n) u) ∙ run_same rules lawful root strict fresh obeys linked n u j) i))) k l
        ∙ sym (point_same rules (L (suc n)) k u))

    meant_on : (u : ChatTask C) → IsIn u (Tasks n) → (c : Channel) (i : ℕ) (v : ℤ) → Sends rules (L n) u c i v
        → Sends rules (L (suc n)) u c i v
    meant_on u j c i v s =
        let l = send_early rules lawful (L n) u (task_fit n u j) c i v s in
        send_moved rules (L n) (L (suc n)) u c i v s (points_alike u j s.steps (omega arith))
        (points_alike u j (suc s.steps) l)

    meant_back : (u : ChatTask C) → IsIn u (Tasks n) → (c : Channel) (i : ℕ) (v : ℤ)
        → Sends rules (L (suc n)) u c i v → Sends rules (L n) u c i v
    meant_back u j c i v s =
        let l = send_early rules lawful (L (suc n)) u (task_fit n u j) c i v s in
        send_moved rules (L (suc n)) (L n) u c i v s (sym (points_alike u j s.steps (omega arith)))
        (sym (points_alike u j (suc s.steps) l))

    -- what a receive of the meaning gives is what the one send of that number sends
    meant_receives : (t : ChatTask C) (c : Channel) (i : ℕ) (v : ℤ) → Gives rules (L (suc n)) t c i v
        → (u : ChatTask C) × IsIn u (Tasks n) × (s : Sends rules (L (suc n)) u c i v)
        × IsOnlySend rules (L (suc n)) (Tasks n) u c i v s
    unfolding meant_on meant_back send_moved
    meant_receives t c i v g =
        let f = receives_sent C (chats_of rules root) n t c i v g in
        let j = subst (IsIn f.0) (tasks_same rules lawful root strict fresh obeys linked n) f.1 in (
          f.0,
          j,
          meant_on f.0 j c i v f.2,
          λ w x k r. only_send n f.0 j c i v f.2 w x k (meant_back w k c i x r),
        )

module _ {C : Type 0} (rules : ChatRules C) (lawful : AreLawfulChats rules) (root : C)
    (fresh : IsRootChat rules root) where
  abbrev obeys : (b : ChanBody C) (a : Answer)
      → asks.Obeys chan_places (chan_awaits rules) (chan_left rules) (chan_asks rules) (chan_then rules) b a
  obeys = chan_obeys rules lawful

  linked : HistoriesAreLinked rules root false
  linked =
      histories_linked rules root false lawful (asks_linked rules root false) (answers_linked rules root false) obeys

  tasks_are : (n : ℕ) → chat_tasks (chats_of rules root) (suc n)
      ≡ run_tasks rules lawful root false fresh obeys linked n
  tasks_are n = tasks_same rules lawful root false fresh obeys linked n

  round_once : (n : ℕ) (u : ChatTask C) → IsIn u (chat_tasks (chats_of rules root) (suc n)) → (c : Channel) (i : ℕ)
      (v : ℤ) → (s : Sends rules (lists_at (chats_of rules root) n) u c i v)
      → IsOnlySend rules (lists_at (chats_of rules root) n) (chat_tasks (chats_of rules root) (suc n)) u c i v s
  round_once n u j c i v s w x k r = only_send rules lawful root false fresh obeys linked n u
      (subst (IsIn u) (tasks_are n) j) c i v s w x (subst (IsIn w) (tasks_are n) k) r

  meant_once : (N : ℕ) → ¬ IsChatFull (chats_of rules root) N → (t : ChatTask C) (c : Channel) (i : ℕ) (v : ℤ)
      → Gives rules (lists_at (chats_of rules root) (suc (2 * N))) t c i v
      → IsOneSent rules (lists_at (chats_of rules root) (suc (2 * N)))
      (chat_tasks (chats_of rules root) (suc (2 * N))) c i v
  meant_once N fits t c i v g = subst (λ l. IsOneSent rules (lists_at (chats_of rules root) (suc (2 * N))) l c i v)
      (sym (tasks_are (2 * N))) (meant_receives rules lawful root false fresh obeys linked N fits t c i v g)

pub sends_once : {C : Type 0} (rules : ChatRules C) → AreLawfulChats rules → AreSendsOnce rules
sends_once rules lawful root fresh n u j c i v s = round_once rules lawful root fresh n u j c i v s

pub meant_sent : {C : Type 0} (rules : ChatRules C) → AreLawfulChats rules → AreMeantReceives rules
meant_sent rules lawful root fresh N fits t c i v g =
    subst (λ k. IsOneSent rules (lists_at (chats_of rules root) k) (chat_tasks (chats_of rules root) k) c i v)
    (let e : suc (2 * N) ≡ 2 * N + 1 = omega arith in e)
    (meant_once rules lawful root fresh N fits t c i v
    (subst (λ k. Gives rules (lists_at (chats_of rules root) k) t c i v)
    (let e : 2 * N + 1 ≡ suc (2 * N) = omega arith in e) g))
