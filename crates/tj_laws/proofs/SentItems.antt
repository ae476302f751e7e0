-- Each value in the list of a channel was sent at some step of some task: it goes back, from the end in which it
-- stands, over the tasks that handed the end on.
use Rattle.std.proofs.Common.{◌≡◌, ◌⊎◌, ◌<◌, ◌*◌, ◌&&◌, ℕ, zero, suc, Bool, true, false, cond, nat_eq, nat_lt, List}
use Rattle.std.proofs.Common.{[], ◌∷◌, ◌++◌, length, map, slice_get, Option, Some, None, ℤ, refl, sym, ap, ◌∙◌, subst}
use Rattle.std.proofs.Common.{inl, inr, ⊎_elim, ltb-true}
use Rattle.std.specs.List.{flat_map}
use Rattle.tj_base.specs.declared.cause.Cause.TheVariants as cause
use Rattle.tj_body.specs.Names.{same}
use Rattle.tj_body.specs.Points.{IsIn}
use Rattle.tj_body.proofs.Lists.{from_flat_map, in_either, in_flat_map, in_left, in_right}
use Rattle.tj_chan.specs.Channels.{Channel, ChannelState, ChatPoint, ChatRules, ChatStage, ChatTask, Lists, Parting}
use Rattle.tj_chan.specs.Channels.{SendingEnd, after_chat_ask, after_chat_stage, after_item, after_receive}
use Rattle.tj_chan.specs.Channels.{after_send, after_send_by, after_spawn, answered, are_among, channels_at}
use Rattle.tj_chan.specs.Channels.{chat_history, end_of, ended, failed, given_both, is_same, next_channel, next_chat}
use Rattle.tj_chan.specs.Channels.{new_end, one_more, part_with, parted, parting_of, receives, times, with_sent}
use Rattle.tj_chan.specs.Channels.{without_end}
use Rattle.tj_chan.specs.ChannelRounds.{ChatProgram, chat_family, chat_tasks, has_ended, later_of, leaves, left_by}
use Rattle.tj_chan.specs.ChannelRounds.{left_of, lists_at, root_chat, state_in}
use Rattle.tj_chan.specs.declared.chat.ChatAnswer.{ChatAnswer}
use Rattle.tj_chan.specs.declared.chat.ChatAnswer.TheVariants as answer
use Rattle.tj_chan.specs.declared.chat.ChatAsk.{ChatAsk}
use Rattle.tj_chan.specs.declared.chat.ChatAsk.TheVariants as ask
use Rattle.tj_chan.proofs.Lists.Apart.{end_there, is_same_self, left_there, same_parts}
use Rattle.tj_laws.specs.ChannelSends.{ReceivesAreSends, Sends, chat_point}

-- channels that are told to be the same are told alike from all others
pub alike : (c d x : Channel) → is_same c d ≡ true → is_same c x ≡ is_same d x
alike c d x h = let p = same_parts c d h in λ j. same (p.0 j) x.opener && nat_eq (p.1 j) x.made_before

-- the order doesn't matter
pub turned : (c d : Channel) → is_same c d ≡ true → is_same d c ≡ true
turned c d h = sym (alike c d c h) ∙ is_same_self c

-- both lists of a parting have ends that were there
parts_there : (cs : List Channel) (es : List SendingEnd) (p : Parting) → part_with cs es ≡ Some p → (e : SendingEnd)
    → IsIn e p.given ⊎ IsIn e p.kept → IsIn e es
parts_there [] es p h e i = let x : parted [] es ≡ p = cc in
    ⊎_elim (λ g. absurd g) (λ k. k) (subst (λ (z : Parting). IsIn e z.given ⊎ IsIn e z.kept) (sym x) i)
parts_there (c ∷ cs) es p h e i = by (λ q b k. parts_there cs (without_end c es) q b e k)
    (end_of c es) (part_with cs (without_end c es)) refl refl h where
      by : ((q : Parting) → part_with cs (without_end c es) ≡ Some q → IsIn e q.given ⊎ IsIn e q.kept
          → IsIn e (without_end c es)) → (o : Option SendingEnd) (q : Option Parting) → end_of c es ≡ o
          → part_with cs (without_end c es) ≡ q
          → given_both o q ≡ Some p → IsIn e es
      by rec None q a b g = let z : None ≡ Some p = g in absurd (cc)
      by rec (Some f) None a b g = let z : None ≡ Some p = g in absurd (cc)
      by rec (Some f) (Some q) a b g = let x : parted (f ∷ q.given) q.kept ≡ p = cc in
          ⊎_elim
          (λ k. ⊎_elim
          (λ same_end. subst (λ z. IsIn z es) (sym same_end) (end_there c es f a).0)
          (λ more. left_there c es e (rec q b (inl more))) k)
          (λ k. left_there c es e (rec q b (inr k)))
          (subst (λ (z : Parting). IsIn e z.given ⊎ IsIn e z.kept) (sym x) i)

-- an item of a list with one more at its end is one of the list, or that one
item_of : (xs : List ℤ) (x v : ℤ) (i : ℕ) → slice_get (xs ++ x ∷ []) i ≡ Some v
    → (slice_get xs i ≡ Some v) ⊎ ((length xs ≡ i) × (x ≡ v))
item_of [] x v zero h = inr (refl, (let z : x ≡ v = cc in z))
item_of [] x v (suc i) h = absurd (cc)
item_of (y ∷ ys) x v zero h = inl h
item_of (y ∷ ys) x v (suc i) h = ⊎_elim (λ a. inl a) (λ a. inr (ap suc a.0, a.1)) (item_of ys x v i h)

-- a value in one of the ends after a send was in that end before, or it is the one sent, into the end that is found
sent_item : (c d : Channel) (x : ℤ) (es : List SendingEnd) (e s : SendingEnd) → end_of d es ≡ Some s
    → is_same d c ≡ true → IsIn e (with_sent c x es) → (i : ℕ) (v : ℤ) → slice_get e.sent i ≡ Some v
    → ((g : SendingEnd) × IsIn g es × (g.channel ≡ e.channel) × (slice_get g.sent i ≡ Some v))
    ⊎ ((s.channel ≡ e.channel) × (length s.sent ≡ i) × (x ≡ v))
sent_item c d x [] e s found like there i v h = absurd there
sent_item c d x (f ∷ fs) e s found like there i v h = by (λ k z. sent_item c d x fs e s k like z i v h)
    (is_same c f.channel) (sym (alike d c f.channel like)) there found where
      by : (end_of d fs ≡ Some s → IsIn e (with_sent c x fs)
          → ((g : SendingEnd) × IsIn g fs × (g.channel ≡ e.channel) × (slice_get g.sent i ≡ Some v))
          ⊎ ((s.channel ≡ e.channel) × (length s.sent ≡ i) × (x ≡ v))) → (b : Bool) → b ≡ is_same d f.channel
          → IsIn e (cond b (one_more x f ∷ fs) (f ∷ with_sent c x fs))
          → cond (is_same d f.channel) (Some f) (end_of d fs) ≡ Some s
          → ((g : SendingEnd) × IsIn g (f ∷ fs) × (g.channel ≡ e.channel) × (slice_get g.sent i ≡ Some v))
          ⊎ ((s.channel ≡ e.channel) × (length s.sent ≡ i) × (x ≡ v))
      by rec true q (inl z) k =
          let first : f ≡ s = let y = ap (λ b. cond b (Some f) (end_of d fs)) q ∙ k in cc in
          ⊎_elim
          (λ a. inl (f, inl refl, ap (λ (y : SendingEnd). y.channel) (sym z), a))
          (λ a. inr (
            sym (ap (λ (y : SendingEnd). y.channel) first) ∙ ap (λ (y : SendingEnd). y.channel) (sym z),
            ap (λ (y : SendingEnd). length y.sent) (sym first) ∙ a.0,
            a.1,
          ))
          (item_of f.sent x v i (ap (λ (y : SendingEnd). slice_get y.sent i) (sym z) ∙ h))
      by rec true q (inr z) k = inl (e, inr z, refl, h)
      by rec false q (inl z) k = inl (e, inl z, refl, h)
      by rec false q (inr z) k = ⊎_elim (λ a. inl (a.0, inr a.1, a.2, a.3)) (λ a. inr a)
          (rec (ap (λ b. cond b (Some f) (end_of d fs)) q ∙ k) z)

-- One step of a task.
module _ {C : Type 0} (rules : ChatRules C) (L : Lists) (u : ChatTask C) where
  -- an end that the task holds or has handed on, at this point
  abbrev HasEnd : ChatPoint C → SendingEnd → Type 0
  HasEnd p e = IsIn e p.ends ⊎ IsIn e p.handed_on

  -- such an end of this channel with this value at this place
  abbrev HasItem : ChatPoint C → Channel → ℕ → ℤ → Type 0
  HasItem p c i v = (g : SendingEnd) × HasEnd p g × (g.channel ≡ c) × (slice_get g.sent i ≡ Some v)

  -- what q has in its ends p had, or this is so of it
  abbrev IsFrom : ChatPoint C → ChatPoint C → (Channel → ℕ → ℤ → Type 0) → Type 0
  IsFrom p q F = (c : Channel) (i : ℕ) (v : ℤ) → HasItem q c i v → HasItem p c i v ⊎ F c i v

  -- p asks to send x at this place, and holds the end
  record SendsAt (p : ChatPoint C) (c : Channel) (i : ℕ) (v : ℤ) (named : Option Channel) (x : ℤ)
      (q : ChatPoint C) : Type 0 where
    channel : Channel
    is_named : named ≡ Some channel
    its_channel : is_same c channel ≡ true
    sending : SendingEnd
    holds : end_of channel p.ends ≡ Some sending
    number : length sending.sent ≡ i
    value : x ≡ v
    room : i < sending.channel.items
    done : q.stage ≡ answered answer.Done

  send_from : (p : ChatPoint C) (named : Option Channel) (x : ℤ)
      → IsFrom p (after_send named x p) (λ c i v. SendsAt p c i v named x (after_send named x p))
  send_from p None x c i v h = inl h
  send_from p (Some d) x c i v h = by (end_of d p.ends) refl h where
    by : (o : Option SendingEnd) → end_of d p.ends ≡ o → HasItem (after_send_by x o p) c i v
        → HasItem p c i v ⊎ SendsAt p c i v (Some d) x (after_send (Some d) x p)
    by None a k = inl k
    by (Some s) a k = room (nat_lt (length s.sent) s.channel.items) refl k where
      room : (b : Bool) → nat_lt (length s.sent) s.channel.items ≡ b
          → HasItem (cond b (record p { stage = answered answer.Done; ends = with_sent s.channel x p.ends })
          (record p { stage = failed cause.Kind })) c i v
          → HasItem p c i v ⊎ SendsAt p c i v (Some d) x (after_send (Some d) x p)
      room false b z = inl z
      room true b (g, inr handed, is, has) = inl (g, inr handed, is, has)
      room true b (g, inl there, is, has) = ⊎_elim
          (λ y. inl (y.0, inl y.1, y.2 ∙ is, y.3))
          (λ y. inr (record {
            channel = d;
            is_named = refl;
            its_channel = turned d c (subst (λ z. is_same d z ≡ true) (y.0 ∙ is) (end_there d p.ends s a).1);
            sending = s;
            holds = a;
            number = y.1;
            value = y.2;
            room = subst (λ k. k < s.channel.items) y.1 (ltb-true (length s.sent) s.channel.items b);
            done = ap (λ (o : Option SendingEnd). (after_send_by x o p).stage) a
                ∙ ap (λ w. (cond w (record p { stage = answered answer.Done; ends = with_sent s.channel x p.ends })
                (record p { stage = failed cause.Kind })).stage) b;
          }))
          (sent_item s.channel d x p.ends g s a (end_there d p.ends s a).1 there i v has)

  -- what a spawn parts with was held
  spawn_from : (p : ChatPoint C) (b : C) (cs : Option (List Channel)) (q : Option Parting)
      → ((z : Parting) → q ≡ Some z → (e : SendingEnd) → IsIn e z.given ⊎ IsIn e z.kept → IsIn e p.ends)
      → IsFrom p (after_spawn b cs q p) (λ c i v. ⊥)
  spawn_from p b None q held c i v h = inl h
  spawn_from p b (Some cs) None held c i v h = inl h
  spawn_from p b (Some cs) (Some z) held c i v h = inl (
    h.0,
    (⊎_elim
        (λ k. inl (held z refl h.0 (inr k)))
        (λ k. ⊎_elim (λ y. inr y) (λ y. inl (held z refl h.0 (inl y))) (in_either h.0 p.handed_on z.given k)) h.1),
    h.2,
    h.3,
  )

  -- what the parting of a spawn gives and keeps was held
  parting_there : (p : ChatPoint C) (cs : Option (List Channel)) (z : Parting) → parting_of cs p ≡ Some z
      → (e : SendingEnd) → IsIn e z.given ⊎ IsIn e z.kept → IsIn e p.ends
  parting_there p None z h e i = let x : None ≡ Some z = h in absurd (cc)
  parting_there p (Some cs) z h e i = parts_there cs p.ends z h e i

  -- what a point's ask makes of its ends
  abbrev AsksSend : ChatPoint C → ChatAsk C → ChatPoint C → Channel → ℕ → ℤ → Type 0
  AsksSend p (ask.Send k x) q c i v = SendsAt p c i v (slice_get p.channels k) x q
  AsksSend p a q c i v = ⊥

  ask_from : (p : ChatPoint C) (a : ChatAsk C) → IsFrom p (after_chat_ask a p) (AsksSend p a (after_chat_ask a p))
  ask_from p (ask.Open k) c i v (g, inr handed, is, has) = inl (g, inr handed, is, has)
  ask_from p (ask.Open k) c i v (g, inl there, is, has) = ⊎_elim
      (λ y. inl (g, inl y, is, has))
      (λ y. absurd (⊎_elim
      (λ e. let z : None ≡ Some v = sym (ap (λ (s : SendingEnd). slice_get s.sent i) e) ∙ has in absurd (cc))
      (λ e. e) y)) (in_either g p.ends (new_end (next_channel k p) ∷ []) there)
  ask_from p (ask.Send k x) c i v h = send_from p (slice_get p.channels k) x c i v h
  ask_from p (ask.Recv k) c i v h = inl (receive (slice_get p.channels k) h) where
    receive : (o : Option Channel) → HasItem (after_receive o p) c i v → HasItem p c i v
    receive None z = z
    receive (Some d) z = by (nat_lt (times d p.received) d.items) z where
      by : (b : Bool) → HasItem (cond b (record p {
        stage = receives d (times d p.received);
        received = p.received ++ d ∷ [];
      }) (record p { stage = failed cause.Kind })) c i v → HasItem p c i v
      by true y = y
      by false y = y
  ask_from p (ask.Spawn b pass give) c i v h = spawn (are_among pass give) h where
    spawn : (w : Bool) → HasItem (cond w (after_spawn b (channels_at p.channels pass)
        (parting_of (channels_at p.channels give) p) p) (record p { stage = failed cause.Kind })) c i v
        → HasItem p c i v ⊎ ⊥
    spawn true z = spawn_from p b (channels_at p.channels pass) (parting_of (channels_at p.channels give) p)
        (λ y e. parting_there p (channels_at p.channels give) y e) c i v z
    spawn false z = inl z
  ask_from p (ask.Emit x) c i v h = inl h
  ask_from p (ask.End x) c i v h = inl h
  ask_from p (ask.Fail x) c i v h = inl h

  -- a send at a point of the task is one of the task
  sends_at : (k : ℕ) (a : ChatAnswer) → (chat_point rules L k u).stage ≡ answered a → (x : ChatAsk C)
      → rules.asks (chat_point rules L k u).chatter a ≡ x → (c : Channel) (i : ℕ) (v : ℤ)
      → AsksSend (record (chat_point rules L k u) { chatter = rules.then (chat_point rules L k u).chatter a }) x
      (after_chat_ask x (record (chat_point rules L k u) { chatter = rules.then (chat_point rules L k u).chatter a }))
      c i v → Sends rules L u c i v
  sends_at k a is (ask.Send place x) asks c i v s = record {
    steps = k;
    given = a;
    place = place;
    named = s.channel;
    sending = s.sending;
    is_answered = is;
    sends = asks ∙ ap (ask.Send place) s.value;
    at_place = s.is_named;
    its_channel = s.its_channel;
    holds = s.holds;
    number = s.number;
    room = s.room;
    done = ap (λ z. (after_chat_stage rules L z p).stage) is
        ∙ (ap (λ z. (after_chat_ask z (record p { chatter = rules.then p.chatter a })).stage) asks ∙ s.done);
  }
    where
      p : ChatPoint C
      p = chat_point rules L k u
  sends_at k a is x asks c i v s = absurd s

  -- a step of the task
  step_from : (k : ℕ) → IsFrom (chat_point rules L k u) (chat_point rules L (suc k) u) (Sends rules L u)
  step_from k c i v h = by (chat_point rules L k u).stage refl
      (subst (λ z. HasItem (after_chat_stage rules L z (chat_point rules L k u)) c i v) refl h) where
        p : ChatPoint C
        p = chat_point rules L k u

        by : (z : ChatStage) → p.stage ≡ z → HasItem (after_chat_stage rules L z p) c i v
            → HasItem p c i v ⊎ Sends rules L u c i v
        by (answered a) is y = ⊎_elim (λ z. inl z)
            (λ z. inr (sends_at k a is (rules.asks p.chatter a) refl c i v z))
            (ask_from (record p { chatter = rules.then p.chatter a }) (rules.asks p.chatter a) c i v y)
        by (receives d j) is y = inl (item (L d).is_cut (slice_get (L d).sent j) y) where
          item : (w : Bool) (o : Option ℤ) → HasItem (after_item d j w o p) c i v → HasItem p c i v
          item w (Some x) z = z
          item true None z = z
          item false None z = z
        by (ended x) is y = inl y
        by (failed x) is y = inl y

  -- so what stands in an end at some point was sent by the task, or in an end that it was given
  steps_from : (k : ℕ) → (c : Channel) (i : ℕ) (v : ℤ) → HasItem (chat_point rules L k u) c i v
      → ((g : SendingEnd) × IsIn g u.given × (g.channel ≡ c) × (slice_get g.sent i ≡ Some v)) ⊎ Sends rules L u c i v
  steps_from zero c i v (g, inl there, is, has) = inl (g, there, is, has)
  steps_from zero c i v (g, inr there, is, has) = absurd there
  steps_from (suc k) c i v h = ⊎_elim (λ z. steps_from k c i v z) (λ z. inr z) (step_from k c i v h)

-- Children, and all tasks of a round.
module _ {C : Type 0} (rules : ChatRules C) (L : Lists) where
  -- the children of a point were given ends that it has handed on
  abbrev GivesOn : ChatPoint C → Type 0
  GivesOn p = (t : ChatTask C) → IsIn t p.children → (g : SendingEnd) → IsIn g t.given → IsIn g p.handed_on

  ask_gives : (p : ChatPoint C) (a : ChatAsk C) → GivesOn p → GivesOn (after_chat_ask a p)
  ask_gives p (ask.Open k) h = h
  ask_gives p (ask.Send k x) h = by (slice_get p.channels k) where
    by : (o : Option Channel) → GivesOn (after_send o x p)
    by None = h
    by (Some d) = ends (end_of d p.ends) where
      ends : (o : Option SendingEnd) → GivesOn (after_send_by x o p)
      ends None = h
      ends (Some s) = room (nat_lt (length s.sent) s.channel.items) where
        room : (b : Bool) → GivesOn (cond b (record p {
          stage = answered answer.Done;
          ends = with_sent s.channel x p.ends;
        }) (record p { stage = failed cause.Kind }))
        room true = h
        room false = h
  ask_gives p (ask.Recv k) h = by (slice_get p.channels k) where
    by : (o : Option Channel) → GivesOn (after_receive o p)
    by None = h
    by (Some d) = room (nat_lt (times d p.received) d.items) where
      room : (b : Bool) → GivesOn (cond b (record p {
        stage = receives d (times d p.received);
        received = p.received ++ d ∷ [];
      }) (record p { stage = failed cause.Kind }))
      room true = h
      room false = h
  ask_gives p (ask.Spawn b pass give) h = by (are_among pass give) where
    made : (cs : Option (List Channel)) (q : Option Parting) → GivesOn (after_spawn b cs q p)
    made None q t i g j = h t i g j
    made (Some cs) None t i g j = h t i g j
    made (Some cs) (Some z) t i g j = ⊎_elim
        (λ old. in_left g p.handed_on z.given (h t old g j))
        (λ new. in_right g p.handed_on z.given (⊎_elim
        (λ e. subst (λ (y : ChatTask C). IsIn g y.given) e j) (λ none. absurd none) new))
        (in_either t p.children (next_chat b cs z.given p ∷ []) i)

    by : (w : Bool) → GivesOn (cond w (after_spawn b (channels_at p.channels pass)
        (parting_of (channels_at p.channels give) p) p) (record p { stage = failed cause.Kind }))
    by true = made (channels_at p.channels pass) (parting_of (channels_at p.channels give) p)
    by false = h
  ask_gives p (ask.Emit x) h = h
  ask_gives p (ask.End x) h = h
  ask_gives p (ask.Fail x) h = h

  step_gives : (p : ChatPoint C) (z : ChatStage) → GivesOn p → GivesOn (after_chat_stage rules L z p)
  step_gives p (answered a) h = ask_gives (record p { chatter = rules.then p.chatter a }) (rules.asks p.chatter a) h
  step_gives p (receives d j) h = item (L d).is_cut (slice_get (L d).sent j) where
    item : (w : Bool) (o : Option ℤ) → GivesOn (after_item d j w o p)
    item w (Some x) = h
    item true None = h
    item false None = h
  step_gives p (ended x) h = h
  step_gives p (failed x) h = h

  steps_give : (u : ChatTask C) (k : ℕ) → GivesOn (chat_point rules L k u)
  steps_give u zero t i g j = absurd i
  steps_give u (suc k) t i g j =
      step_gives (chat_point rules L k u) (chat_point rules L k u).stage (steps_give u k) t i g j

  -- some task of these sent it
  abbrev IsSentBy : List (ChatTask C) → Channel → ℕ → ℤ → Type 0
  IsSentBy all c i v = (u : ChatTask C) × IsIn u all × Sends rules L u c i v

  -- what stands in the ends that a task was given was sent by one of these
  abbrev IsGivenSent : List (ChatTask C) → ChatTask C → Type 0
  IsGivenSent all t = (c : Channel) (i : ℕ) (v : ℤ) → (g : SendingEnd) → IsIn g t.given → g.channel ≡ c
      → slice_get g.sent i ≡ Some v → IsSentBy all c i v

  -- so it is of what stands in its own ends
  own_sent : (all : List (ChatTask C)) (t : ChatTask C) → IsIn t all → IsGivenSent all t → (k : ℕ) (c : Channel) (i : ℕ)
      (v : ℤ) → HasItem rules L t (chat_point rules L k t) c i v → IsSentBy all c i v
  own_sent all t there given k c i v h = ⊎_elim
      (λ z. given c i v z.0 z.1 z.2 z.3) (λ z. (t, there, z)) (steps_from rules L t k c i v h)

  -- and of what stands in those of the tasks that come from it
  family_sent : (all : List (ChatTask C)) (d : ℕ) (t : ChatTask C) → IsGivenSent all t
      → ((u : ChatTask C) → IsIn u (chat_family rules L d t) → IsIn u all)
      → (u : ChatTask C) → IsIn u (chat_family rules L d t) → (c : Channel) (i : ℕ) (v : ℤ)
      → HasItem rules L u (chat_history rules L u) c i v → IsSentBy all c i v
  family_sent all zero t given among u (inl e) c i v h =
      own_sent all u (among u (inl e)) (subst (IsGivenSent all) (sym e) given) (2 * suc (rules.left u.chatter)) c i v h
  family_sent all zero t given among u (inr none) c i v h = absurd none
  family_sent all (suc d) t given among u (inl e) c i v h =
      own_sent all u (among u (inl e)) (subst (IsGivenSent all) (sym e) given) (2 * suc (rules.left u.chatter)) c i v h
  family_sent all (suc d) t given among u (inr more) c i v h =
      let f = from_flat_map (chat_family rules L d) u (chat_history rules L t).children more in
      family_sent all d f.0 (λ c i v g j e has.
      own_sent all t (among t (inl refl)) given (2 * suc (rules.left t.chatter)) c i v
      (g, inr (steps_give t (2 * suc (rules.left t.chatter)) f.0 f.1 g j), e, has))
      (λ w k. among w (inr (in_flat_map (chat_family rules L d) f.0 w (chat_history rules L t).children f.1 k)))
      u f.2 c i v h

-- what stands in the list of a channel stands in what some task has left of it
in_state : (ws : List (Channel × ChannelState)) (c : Channel) (i : ℕ) (v : ℤ)
    → slice_get (state_in ws c).sent i ≡ Some v
    → (w : Channel × ChannelState) × IsIn w ws × (is_same c w.0 ≡ true) × (slice_get w.1.sent i ≡ Some v)
in_state [] c i v h = let z : None ≡ Some v = h in absurd (cc)
in_state (w ∷ ws) c i v h = by (in_state ws c i v) (is_same c w.0) refl h where
  by : (slice_get (state_in ws c).sent i ≡ Some v
      → (w : Channel × ChannelState) × IsIn w ws × (is_same c w.0 ≡ true) × (slice_get w.1.sent i ≡ Some v))
      → (b : Bool) → is_same c w.0 ≡ b
      → slice_get (cond b (later_of w.1 (state_in ws c)) (state_in ws c)).sent i ≡ Some v
      → (z : Channel × ChannelState) × IsIn z (w ∷ ws) × (is_same c z.0 ≡ true) × (slice_get z.1.sent i ≡ Some v)
  by rec false e k = let r = rec k in (r.0, inr r.1, r.2, r.3)
  by rec true e k = longer (nat_lt (length w.1.sent) (length (state_in ws c).sent)) k where
    longer : (l : Bool) → slice_get (cond l (state_in ws c).sent w.1.sent) i ≡ Some v
        → (z : Channel × ChannelState) × IsIn z (w ∷ ws) × (is_same c z.0 ≡ true) × (slice_get z.1.sent i ≡ Some v)
    longer true z = let r = rec z in (r.0, inr r.1, r.2, r.3)
    longer false z = (w, inl refl, e, z)

-- what a task leaves of a channel stands in one of its ends
in_left_of : (b : Bool) (es : List SendingEnd) (w : Channel × ChannelState) → IsIn w (map (left_of b) es)
    → (e : SendingEnd) × IsIn e es × (w.0 ≡ e.channel) × (w.1.sent ≡ e.sent)
in_left_of b [] w h = absurd h
in_left_of b (e ∷ es) w (inl q) = (e, inl refl, ap (λ z. z.0) q, ap (λ z. z.1.sent) q)
in_left_of b (e ∷ es) w (inr q) = let r = in_left_of b es w q in (r.0, inr r.1, r.2, r.3)

-- who sends into one of two channels that are told to be the same sends into the other
sends_same : {C : Type 0} (rules : ChatRules C) (L : Lists) (u : ChatTask C) (c d : Channel) (i : ℕ) (v : ℤ)
    → is_same c d ≡ true → Sends rules L u d i v → Sends rules L u c i v
sends_same rules L u c d i v same_one s = record {
  steps = s.steps;
  given = s.given;
  place = s.place;
  named = s.named;
  sending = s.sending;
  is_answered = s.is_answered;
  sends = s.sends;
  at_place = s.at_place;
  its_channel = alike c d s.named same_one ∙ s.its_channel;
  holds = s.holds;
  number = s.number;
  room = s.room;
  done = s.done;
}

module _ {C : Type 0} (program : ChatProgram C) (n : ℕ) where
  abbrev Ls : Lists
  Ls = lists_at program n

  abbrev round : List (ChatTask C)
  round = chat_tasks program (suc n)

  -- what stands in the lists of a round was sent in the histories that they are made of
  lists_sent : (c : Channel) (i : ℕ) (v : ℤ) → slice_get (lists_at program (suc n) c).sent i ≡ Some v
      → (u : ChatTask C) × IsIn u round × Sends program.rules Ls u c i v
  lists_sent c i v h =
      let w = in_state (flat_map (left_by program.rules Ls) round) c i v h in
      let t = from_flat_map (left_by program.rules Ls) w.0 round w.1 in
      let s = family_sent program.rules Ls round (suc n) (root_chat program.root) (λ c i v g j. absurd j) (λ u k. k)
      t.0 t.1 w.0.0 i v (left_item t.0 w.0 t.2 w.3) in
      (s.0, s.1, sends_same program.rules Ls s.0 c w.0.0 i v w.2 s.2)
    where
      left_item : (t : ChatTask C) (w : Channel × ChannelState) → IsIn w (leaves (chat_history program.rules Ls t))
          → slice_get w.1.sent i ≡ Some v → HasItem program.rules Ls t (chat_history program.rules Ls t) w.0 i v
      left_item t w there has = let p = chat_history program.rules Ls t in ⊎_elim
          (λ k. let e = in_left_of false p.handed_on w k in
          (e.0, inr e.1, sym e.2, ap (λ l. slice_get l i) (sym e.3) ∙ has))
          (λ k. let e = in_left_of (has_ended p.stage) p.ends w k in
          (e.0, inl e.1, sym e.2, ap (λ l. slice_get l i) (sym e.3) ∙ has))
          (in_either w (map (left_of false) p.handed_on) (map (left_of (has_ended p.stage)) p.ends) there)

-- what a receive is answered stands in the list
answer_listed : {C : Type 0} (p : ChatPoint C) (c : Channel) (i : ℕ) (w : Bool) (o : Option ℤ) (v : ℤ)
    → p.stage ≡ receives c i → (after_item c i w o p).stage ≡ answered (answer.Num v) → o ≡ Some v
answer_listed p c i w (Some x) v is h = let z : x ≡ v = cc in ap (λ (k : ℤ). Some k) z
answer_listed p c i true None v is h = absurd (cc)
answer_listed p c i false None v is h = let z : receives c i ≡ answered (answer.Num v) = sym is ∙ h in absurd (cc)

pub receives_sent : (C : Type 0) → ReceivesAreSends C
receives_sent C program n t c i v gives =
    let L = lists_at program (suc n) in let p = chat_point program.rules L gives.steps t in
    lists_sent program n c i v (answer_listed p c i (L c).is_cut (slice_get (L c).sent i) v gives.waits
    (ap (λ z. (after_chat_stage program.rules L z p).stage) (sym gives.waits) ∙ gives.answered_then))
