-- What a send of one task leaves for good: its value, and that no end of the channel which the task has has fewer.
use Rattle.std.proofs.Common.{◌≡◌, ◌⊎◌, ◌<◌, ◌≤◌, ◌*◌, ℕ, zero, suc, Bool, true, false, cond, nat_lt, List, [], ◌∷◌}
use Rattle.std.proofs.Common.{◌++◌, length, slice_get, Option, Some, None, ℤ, refl, sym, ap, ◌∙◌, subst, inl, inr}
use Rattle.std.proofs.Common.{⊎_elim, arith, length-append, lt-ltb}
use native.Mathlib.Decide.{dec_le}
use mathlib.Core.Logic.{dite}
use Rattle.tj_base.specs.declared.cause.Cause.TheVariants as cause
use Rattle.tj_body.specs.Points.{IsIn}
use Rattle.tj_body.proofs.Lists.{in_either, in_left, in_right}
use Rattle.tj_body.proofs.Rounds.Rises.{climbs}
use Rattle.tj_chan.specs.Channels.{Channel, ChatPoint, ChatRules, ChatStage, ChatTask, Lists, Parting, SendingEnd}
use Rattle.tj_chan.specs.Channels.{after_chat_ask, after_chat_stage, after_fault, after_item, after_receive}
use Rattle.tj_chan.specs.Channels.{after_send, after_send_by, after_spawn, answered, are_among, channels_at}
use Rattle.tj_chan.specs.Channels.{chat_history, end_of, ended, failed, is_same, new_end, next_channel, one_more}
use Rattle.tj_chan.specs.Channels.{parting_of, receives, times, with_sent}
use Rattle.tj_chan.specs.ChannelLaws.{AreLawfulChats}
use Rattle.tj_chan.specs.declared.chat.ChatAnswer.TheVariants as answer
use Rattle.tj_chan.specs.declared.chat.ChatAsk.{ChatAsk}
use Rattle.tj_chan.specs.declared.chat.ChatAsk.TheVariants as ask
use Rattle.tj_chan.proofs.Lists.Apart.{IsParting, end_there, parting_is, true_false}
use Rattle.tj_chan.proofs.Lists.Grows.{HasHalted, run_halts, still_halted}
use Rattle.tj_chan.proofs.Lists.Histories.{point_same}
use Rattle.tj_chan.proofs.Lists.Kept.{IsSound, got_there, new_apart, run_sound}
use Rattle.tj_chan.proofs.Lists.Runs.{AreEndsOnce, AreTidy, IsFit, finds_of, run_after}
use Rattle.tj_laws.specs.ChannelSends.{Sends, chat_point}
use Rattle.tj_laws.proofs.SentItems.{alike}

-- two of the ends that are those of one channel are one end
one_end : (c : Channel) (es : List SendingEnd) → AreEndsOnce es → (e f : SendingEnd) → IsIn e es → IsIn f es
    → is_same c e.channel ≡ true → is_same c f.channel ≡ true → e ≡ f
one_end c [] o e f i j a b = absurd i
one_end c (x ∷ xs) o e f (inl i) (inl j) a b = i ∙ sym j
one_end c (x ∷ xs) o e f (inl i) (inr j) a b =
    let s : is_same c x.channel ≡ true = subst (λ (y : SendingEnd). is_same c y.channel ≡ true) i a in
    absurd (true_false (is_same x.channel f.channel) (sym (alike c x.channel f.channel s) ∙ b) (o.0 f j))
one_end c (x ∷ xs) o e f (inr i) (inl j) a b =
    let s : is_same c x.channel ≡ true = subst (λ (y : SendingEnd). is_same c y.channel ≡ true) j b in
    absurd (true_false (is_same x.channel e.channel) (sym (alike c x.channel e.channel s) ∙ a) (o.0 e i))
one_end c (x ∷ xs) o e f (inr i) (inr j) a b = one_end c xs o.1 e f i j a b

-- where a value is sent, each end of that channel has more than was sent before
sent_low : (c d : Channel) (v : ℤ) (es : List SendingEnd) → AreEndsOnce es → (e : SendingEnd) → end_of d es ≡ Some e
    → is_same c d ≡ true → (f : SendingEnd) → IsIn f (with_sent e.channel v es) → is_same c f.channel ≡ true
    → suc (length e.sent) ≤ length f.sent
sent_low c d v [] o e found s f i h = absurd i
sent_low c d v (x ∷ xs) o e found s f i h =
    let g = alike d e.channel x.channel (end_there d (x ∷ xs) e found).1 in
    by (λ k j. sent_low c d v xs o.1 e k s f j h) (is_same d x.channel) refl found
    (subst (λ b. IsIn f (cond b (one_more v x ∷ xs) (x ∷ with_sent e.channel v xs))) (sym g) i) where
      by : (end_of d xs ≡ Some e → IsIn f (with_sent e.channel v xs) → suc (length e.sent) ≤ length f.sent)
          → (b : Bool) → is_same d x.channel ≡ b → cond b (Some x) (end_of d xs) ≡ Some e
          → IsIn f (cond b (one_more v x ∷ xs) (x ∷ with_sent e.channel v xs)) → suc (length e.sent) ≤ length f.sent
      by rec true q k (inl z) =
          let y : x ≡ e = cc in
          let m : length f.sent ≡ length (x.sent ++ v ∷ []) = ap (λ (w : SendingEnd). length w.sent) z in
          let n = length-append x.sent (v ∷ []) in
          let p : length x.sent ≡ length e.sent = ap (λ (w : SendingEnd). length w.sent) y in omega arith
      by rec true q k (inr z) = absurd (true_false (is_same x.channel f.channel)
          (sym (alike d x.channel f.channel q) ∙ (sym (alike c d f.channel s) ∙ h)) (o.0 f z))
      by rec false q k (inl z) = absurd (true_false (is_same d x.channel)
          (sym (alike c d x.channel s) ∙ subst (λ (y : SendingEnd). is_same c y.channel ≡ true) z h) q)
      by rec false q k (inr z) = rec k z

-- an end after a send was there before, with no more values
sent_longer : (d : Channel) (v : ℤ) (es : List SendingEnd) (f : SendingEnd) → IsIn f (with_sent d v es)
    → (e : SendingEnd) × IsIn e es × (e.channel ≡ f.channel) × (length e.sent ≤ length f.sent)
sent_longer d v [] f i = absurd i
sent_longer d v (x ∷ xs) f i = by (sent_longer d v xs f) (is_same d x.channel) i where
  by : (IsIn f (with_sent d v xs)
      → (e : SendingEnd) × IsIn e xs × (e.channel ≡ f.channel) × (length e.sent ≤ length f.sent))
      → (b : Bool) → IsIn f (cond b (one_more v x ∷ xs) (x ∷ with_sent d v xs))
      → (e : SendingEnd) × IsIn e (x ∷ xs) × (e.channel ≡ f.channel) × (length e.sent ≤ length f.sent)
  by rec true (inl z) =
      let m : length f.sent ≡ length (x.sent ++ v ∷ []) = ap (λ (w : SendingEnd). length w.sent) z in
      let n = length-append x.sent (v ∷ []) in
      (x, inl refl, ap (λ (w : SendingEnd). w.channel) (sym z), omega arith)
  by rec true (inr z) = (f, inr z, refl, omega arith)
  by rec false (inl z) = (f, inl z, refl, omega arith)
  by rec false (inr z) = let r = rec z in (r.0, inr r.1, r.2, r.3)

-- what stands in a list stands in it with more behind
got_left : (xs ys : List ℤ) (i : ℕ) (v : ℤ) → slice_get xs i ≡ Some v → slice_get (xs ++ ys) i ≡ Some v
got_left [] ys i v h = absurd (cc)
got_left (x ∷ xs) ys zero v h = h
got_left (x ∷ xs) ys (suc i) v h = got_left xs ys i v h

-- what was put at the end stands there
got_end : (xs : List ℤ) (v : ℤ) → slice_get (xs ++ v ∷ []) (length xs) ≡ Some v
got_end [] v = refl
got_end (x ∷ xs) v = got_end xs v

-- nothing stands behind the end
pub got_past : (xs : List ℤ) (i : ℕ) → length xs ≤ i → slice_get xs i ≡ None
got_past [] i l = refl
got_past (x ∷ xs) zero l = absurd (omega arith)
got_past (x ∷ xs) (suc i) l = got_past xs i (omega arith)

-- an end stays over a send, with what was sent before
sent_stays : (d : Channel) (x : ℤ) (es : List SendingEnd) (e : SendingEnd) → IsIn e es → (i : ℕ) (v : ℤ)
    → slice_get e.sent i ≡ Some v
    → (f : SendingEnd) × IsIn f (with_sent d x es) × (f.channel ≡ e.channel) × (slice_get f.sent i ≡ Some v)
sent_stays d x [] e j i v h = absurd j
sent_stays d x (y ∷ ys) e j i v h = by (λ k. sent_stays d x ys e k i v h) (is_same d y.channel) j where
  by : (IsIn e ys
      → (f : SendingEnd) × IsIn f (with_sent d x ys) × (f.channel ≡ e.channel) × (slice_get f.sent i ≡ Some v))
      → (b : Bool) → IsIn e (y ∷ ys) → (f : SendingEnd) × IsIn f (cond b (one_more x y ∷ ys) (y ∷ with_sent d x ys))
      × (f.channel ≡ e.channel) × (slice_get f.sent i ≡ Some v)
  by rec true (inl z) = (
    one_more x y,
    inl refl,
    ap (λ (w : SendingEnd). w.channel) (sym z),
    got_left y.sent (x ∷ []) i v (ap (λ (w : SendingEnd). slice_get w.sent i) (sym z) ∙ h),
  )
  by rec true (inr z) = (e, inr z, refl, h)
  by rec false (inl z) = (e, inl z, refl, h)
  by rec false (inr z) = let r = rec z in (r.0, inr r.1, r.2, r.3)

-- the value that is sent stands in the end
sent_now : (d : Channel) (v : ℤ) (es : List SendingEnd) (e : SendingEnd) → end_of d es ≡ Some e
    → (f : SendingEnd) × IsIn f (with_sent e.channel v es) × (f.channel ≡ e.channel)
    × (slice_get f.sent (length e.sent) ≡ Some v)
sent_now d v [] e h = let z : None ≡ Some e = h in absurd (cc)
sent_now d v (x ∷ xs) e h =
    let g = alike d e.channel x.channel (end_there d (x ∷ xs) e h).1 in
    let r = by (sent_now d v xs e) (is_same d x.channel) h in (
      r.0,
      subst (λ b. IsIn r.0 (cond b (one_more v x ∷ xs) (x ∷ with_sent e.channel v xs))) g r.1,
      r.2,
      r.3,
    ) where
      by : (end_of d xs ≡ Some e → (f : SendingEnd) × IsIn f (with_sent e.channel v xs) × (f.channel ≡ e.channel)
          × (slice_get f.sent (length e.sent) ≡ Some v))
          → (b : Bool) → cond b (Some x) (end_of d xs) ≡ Some e
          → (f : SendingEnd) × IsIn f (cond b (one_more v x ∷ xs) (x ∷ with_sent e.channel v xs))
          × (f.channel ≡ e.channel) × (slice_get f.sent (length e.sent) ≡ Some v)
      by rec true k =
          let y : x ≡ e = cc in (
            one_more v x,
            inl refl,
            ap (λ (w : SendingEnd). w.channel) y,
            ap (slice_get (x.sent ++ v ∷ [])) (ap (λ (w : SendingEnd). length w.sent) (sym y)) ∙ got_end x.sent v,
          )
      by rec false k = let r = rec k in (r.0, inr r.1, r.2, r.3)

-- One task that is fit, under some lists.
module _ {C : Type 0} (rules : ChatRules C) (lawful : AreLawfulChats rules) (L : Lists) (u : ChatTask C)
    (fit : IsFit rules u) where
  abbrev pt : ℕ → ChatPoint C
  pt k = chat_point rules L k u

  sound : (k : ℕ) → IsSound rules u (pt k)
  sound k = subst (IsSound rules u) (sym (point_same rules L k u)) (run_sound rules lawful (finds_of L) k u fit)

  abbrev IsTidyPoint : ChatPoint C → Type 0
  IsTidyPoint p = AreTidy p.name p.channels p.ends p.made p.opened

  -- the channel is one of the task's, and each end of it that the task holds has at least j values
  abbrev HasPassed : Channel → ℕ → ChatPoint C → Type 0
  HasPassed c j p = ((d : Channel) × IsIn d p.channels × (is_same c d ≡ true))
      × ((e : SendingEnd) → IsIn e p.ends → is_same c e.channel ≡ true → j ≤ length e.sent)

  -- what a spawn parts with was held
  parting_held : (p : ChatPoint C) → IsTidyPoint p → (cs : Option (List Channel)) (z : Parting)
      → parting_of cs p ≡ Some z → (gs : List Channel) × IsParting gs p.ends z
  parting_held p y None z h = let x : None ≡ Some z = h in absurd (cc)
  parting_held p y (Some cs) z h = (cs, parting_is cs p.ends z y.once h)

  ask_passed : (c : Channel) (j : ℕ) (p : ChatPoint C) → IsTidyPoint p → (x : ChatAsk C) → HasPassed c j p
      → HasPassed c j (after_chat_ask x p)
  ask_passed c j p y (ask.Open k) h = (
    (h.0.0, in_left h.0.0 p.channels (next_channel k p ∷ []) h.0.1, h.0.2),
    λ e i s. ⊎_elim (λ a. h.1 e a s) (λ b. ⊎_elim (λ q. absurd (true_false (is_same c (next_channel k p))
        (subst (λ (w : SendingEnd). is_same c w.channel ≡ true) q s)
        (alike c h.0.0 (next_channel k p) h.0.2
        ∙ (new_apart p.name p.channels p.ends p.made p.opened y k h.0.0 h.0.1).0))) (λ q. absurd q) b)
        (in_either e p.ends (new_end (next_channel k p) ∷ []) i),
  )
  ask_passed c j p y (ask.Send k x) h = by (slice_get p.channels k) where
    by : (o : Option Channel) → HasPassed c j (after_send o x p)
    by None = h
    by (Some d) = held (end_of d p.ends) where
      held : (o : Option SendingEnd) → HasPassed c j (after_send_by x o p)
      held None = h
      held (Some s) = room (nat_lt (length s.sent) s.channel.items) where
        room : (b : Bool) → HasPassed c j (cond b
            (record p { stage = answered answer.Done; ends = with_sent s.channel x p.ends })
            (after_fault cause.Kind p))
        room true = (
          h.0,
          λ e i q. let r = sent_longer s.channel x p.ends e i in
              let l = h.1 r.0 r.1 (subst (λ w. is_same c w ≡ true) (sym r.2) q) in
              let m = r.3 in omega arith,
        )
        room false = h
  ask_passed c j p y (ask.Recv k) h = by (slice_get p.channels k) where
    by : (o : Option Channel) → HasPassed c j (after_receive o p)
    by None = h
    by (Some d) = room (nat_lt (times d p.received) d.items) where
      room : (b : Bool) → HasPassed c j (cond b
          (record p { stage = receives d (times d p.received); received = p.received ++ d ∷ [] })
          (after_fault cause.Kind p))
      room true = h
      room false = h
  ask_passed c j p y (ask.Spawn b pass give) h = by (are_among pass give) where
    made : (cs : Option (List Channel)) (q : Option Parting)
        → ((z : Parting) → q ≡ Some z → (e : SendingEnd) → IsIn e z.kept → IsIn e p.ends)
        → HasPassed c j (after_spawn b cs q p)
    made None q held = h
    made (Some cs) None held = h
    made (Some cs) (Some z) held = (h.0, λ e i s. h.1 e (held z refl e i) s)

    by : (w : Bool) → HasPassed c j (cond w (after_spawn b (channels_at p.channels pass)
        (parting_of (channels_at p.channels give) p) p) (after_fault cause.Kind p))
    by true = made (channels_at p.channels pass) (parting_of (channels_at p.channels give) p)
        (λ z e f i. (parting_held p y (channels_at p.channels give) z e).1.kept f i)
    by false = h
  ask_passed c j p y (ask.Emit x) h = h
  ask_passed c j p y (ask.End x) h = h
  ask_passed c j p y (ask.Fail x) h = h

  stage_passed : (c : Channel) (j : ℕ) (p : ChatPoint C) → IsTidyPoint p → (z : ChatStage) → HasPassed c j p
      → HasPassed c j (after_chat_stage rules L z p)
  stage_passed c j p y (answered a) h =
      ask_passed c j (record p { chatter = rules.then p.chatter a }) y (rules.asks p.chatter a) h
  stage_passed c j p y (receives d i) h = item (L d).is_cut (slice_get (L d).sent i) where
    item : (w : Bool) (o : Option ℤ) → HasPassed c j (after_item d i w o p)
    item w (Some x) = h
    item true None = h
    item false None = h
  stage_passed c j p y (ended x) h = h
  stage_passed c j p y (failed x) h = h

  -- so it is from then on
  passed_later : (c : Channel) (j k m : ℕ) → k ≤ m → HasPassed c j (pt k) → HasPassed c j (pt m)
  passed_later c j k m l h =
      climbs (λ n. HasPassed c j (pt n)) (λ n g. stage_passed c j (pt n) (sound n).0.tidy (pt n).stage g) k m l h

  -- what a send leaves
  sent_point : (c : Channel) (i : ℕ) (v : ℤ) (s : Sends rules L u c i v)
      → pt (suc s.steps) ≡ record (pt s.steps) {
        chatter = rules.then (pt s.steps).chatter s.given;
        stage = answered answer.Done;
        ends = with_sent s.sending.channel v (pt s.steps).ends;
      }
  sent_point c i v s =
      ap (λ z. after_chat_stage rules L z p) s.is_answered
      ∙ (ap (λ x. after_chat_ask x q) s.sends
      ∙ (ap (λ o. after_send o v q) s.at_place
      ∙ (ap (λ o. after_send_by v o q) s.holds
      ∙ ap (λ b. cond b (record q { stage = answered answer.Done; ends = with_sent s.sending.channel v q.ends })
      (after_fault cause.Kind q)) room))) where
        p : ChatPoint C
        p = pt s.steps

        q : ChatPoint C
        q = record p { chatter = rules.then p.chatter s.given }

        room : nat_lt (length s.sending.sent) s.sending.channel.items ≡ true
        room = lt-ltb (length s.sending.sent) s.sending.channel.items
            (subst (λ n. n < s.sending.channel.items) (sym s.number) s.room)

  sent_passed : (c : Channel) (i : ℕ) (v : ℤ) (s : Sends rules L u c i v) → HasPassed c (suc i) (pt (suc s.steps))
  sent_passed c i v s = subst (HasPassed c (suc i)) (sym (sent_point c i v s)) (
    (s.named, got_there (pt s.steps).channels s.place s.named s.at_place, s.its_channel),
    λ f j h. subst (λ n. suc n ≤ length f.sent) s.number
        (sent_low c s.named v (pt s.steps).ends (sound s.steps).0.tidy.once s.sending s.holds s.its_channel f j h),
  )

  -- where each end has j values, no send finds fewer
  no_fewer : (c : Channel) (i j : ℕ) (v : ℤ) (k : ℕ) → HasPassed c j (pt k) → (s : Sends rules L u c i v)
      → k ≤ s.steps → j ≤ i
  no_fewer c i j v k h s l =
      let t = end_there s.named (pt s.steps).ends s.sending s.holds in
      subst (λ n. j ≤ n) s.number ((passed_later c j k s.steps l h).1 s.sending t.0
      (alike c s.named s.sending.channel s.its_channel ∙ t.1))

  -- the task sends one value of each number
  pub one_step : (c : Channel) (i : ℕ) (v w : ℤ) (s : Sends rules L u c i v) (r : Sends rules L u c i w)
      → s.steps ≡ r.steps
  one_step c i v w s r =
      dite (dec_le (suc s.steps) r.steps)
      (λ l. let m = no_fewer c i (suc i) w (suc s.steps) (sent_passed c i v s) r l in absurd (omega arith))
      (λ l. dite (dec_le (suc r.steps) s.steps)
      (λ k. let m = no_fewer c i (suc i) v (suc r.steps) (sent_passed c i w r) s k in absurd (omega arith))
      (λ k. omega arith))

  -- an end of the channel that the task was given had no more values
  pub given_fewer : (c : Channel) (i : ℕ) (v : ℤ) (s : Sends rules L u c i v) (g : SendingEnd) → IsIn g u.given
      → is_same c g.channel ≡ true → length g.sent ≤ i
  given_fewer c i v s g j h = no_fewer c i (length g.sent) v zero (
    (g.channel, fit.tidy.holds g j, h),
    λ e k a. let z = one_end c u.given fit.tidy.once g e j k h a in
        let m : length g.sent ≡ length e.sent = ap (λ (y : SendingEnd). length y.sent) z in omega arith,
  ) s (omega arith)

  -- an end that the task holds or has handed on has this value at this place
  abbrev pub HasItemAt : ChatPoint C → Channel → ℕ → ℤ → Type 0
  HasItemAt p c i v = (g : SendingEnd) × (IsIn g p.ends ⊎ IsIn g p.handed_on) × (g.channel ≡ c)
      × (slice_get g.sent i ≡ Some v)

  ask_stays : (c : Channel) (i : ℕ) (v : ℤ) (p : ChatPoint C) → IsTidyPoint p → (x : ChatAsk C) → HasItemAt p c i v
      → HasItemAt (after_chat_ask x p) c i v
  ask_stays c i v p y (ask.Open k) (g, inl there, is, has) =
      (g, inl (in_left g p.ends (new_end (next_channel k p) ∷ []) there), is, has)
  ask_stays c i v p y (ask.Open k) (g, inr handed, is, has) = (g, inr handed, is, has)
  ask_stays c i v p y (ask.Send k x) h = by (slice_get p.channels k) h where
    by : (o : Option Channel) → HasItemAt p c i v → HasItemAt (after_send o x p) c i v
    by None z = z
    by (Some d) z = held (end_of d p.ends) z where
      held : (o : Option SendingEnd) → HasItemAt p c i v → HasItemAt (after_send_by x o p) c i v
      held None z = z
      held (Some s) z = room (nat_lt (length s.sent) s.channel.items) z where
        room : (b : Bool) → HasItemAt p c i v → HasItemAt (cond b
            (record p { stage = answered answer.Done; ends = with_sent s.channel x p.ends })
            (after_fault cause.Kind p)) c i v
        room true (g, inl there, is, has) =
            let r = sent_stays s.channel x p.ends g there i v has in (r.0, inl r.1, r.2 ∙ is, r.3)
        room true (g, inr handed, is, has) = (g, inr handed, is, has)
        room false z = z
  ask_stays c i v p y (ask.Recv k) h = by (slice_get p.channels k) where
    by : (o : Option Channel) → HasItemAt (after_receive o p) c i v
    by None = h
    by (Some d) = room (nat_lt (times d p.received) d.items) where
      room : (b : Bool) → HasItemAt (cond b
          (record p { stage = receives d (times d p.received); received = p.received ++ d ∷ [] })
          (after_fault cause.Kind p)) c i v
      room true = h
      room false = h
  ask_stays c i v p y (ask.Spawn b pass give) h = by (are_among pass give) where
    kept : (z : Parting) → ((e : SendingEnd) → IsIn e p.ends → IsIn e z.given ⊎ IsIn e z.kept) → (g : SendingEnd)
        → IsIn g p.ends ⊎ IsIn g p.handed_on → IsIn g z.kept ⊎ IsIn g (p.handed_on ++ z.given)
    kept z held g (inl there) =
        ⊎_elim (λ a. inr (in_right g p.handed_on z.given a)) (λ a. inl a) (held g there)
    kept z held g (inr handed) = inr (in_left g p.handed_on z.given handed)

    made : (cs : Option (List Channel)) (q : Option Parting)
        → ((z : Parting) → q ≡ Some z → (e : SendingEnd) → IsIn e p.ends → IsIn e z.given ⊎ IsIn e z.kept)
        → HasItemAt (after_spawn b cs q p) c i v
    made None q held = h
    made (Some cs) None held = h
    made (Some cs) (Some z) held = (h.0, kept z (held z refl) h.0 h.1, h.2, h.3)

    by : (w : Bool) → HasItemAt (cond w (after_spawn b (channels_at p.channels pass)
        (parting_of (channels_at p.channels give) p) p) (after_fault cause.Kind p)) c i v
    by true = made (channels_at p.channels pass) (parting_of (channels_at p.channels give) p)
        (λ z e f j. (parting_held p y (channels_at p.channels give) z e).1.stays f j)
    by false = h
  ask_stays c i v p y (ask.Emit x) h = h
  ask_stays c i v p y (ask.End x) h = h
  ask_stays c i v p y (ask.Fail x) h = h

  stage_stays : (c : Channel) (i : ℕ) (v : ℤ) (p : ChatPoint C) → IsTidyPoint p → (z : ChatStage) → HasItemAt p c i v
      → HasItemAt (after_chat_stage rules L z p) c i v
  stage_stays c i v p y (answered a) h =
      ask_stays c i v (record p { chatter = rules.then p.chatter a }) y (rules.asks p.chatter a) h
  stage_stays c i v p y (receives d j) h = item (L d).is_cut (slice_get (L d).sent j) where
    item : (w : Bool) (o : Option ℤ) → HasItemAt (after_item d j w o p) c i v
    item w (Some x) = h
    item true None = h
    item false None = h
  stage_stays c i v p y (ended x) h = h
  stage_stays c i v p y (failed x) h = h

  -- the task has halted by the end of its history
  halted : (k : ℕ) → 2 * suc (rules.left u.chatter) ≤ k → HasHalted (finds_of L) (pt k).stage
  halted k l = subst (λ (z : ChatPoint C). HasHalted (finds_of L) z.stage) (sym (point_same rules L k u))
      (climbs (λ n. HasHalted (finds_of L) (run_after rules (finds_of L) n u).stage)
      (λ n h. let p = run_after rules (finds_of L) n u in
      subst (λ (z : ChatPoint C). HasHalted (finds_of L) z.stage)
      (sym (still_halted rules lawful (finds_of L) u fit p.stage p refl h)) h)
      (2 * suc (rules.left u.chatter)) k l (run_halts rules lawful (finds_of L) u fit))

  -- so each of its sends is before that
  pub send_early : (c : Channel) (i : ℕ) (v : ℤ) (s : Sends rules L u c i v)
      → suc s.steps ≤ 2 * suc (rules.left u.chatter)
  send_early c i v s =
      dite (dec_le (suc s.steps) (2 * suc (rules.left u.chatter))) (λ l. l)
      (λ l. absurd (subst (HasHalted (finds_of L)) s.is_answered (halted s.steps (omega arith))))

  -- and its value stands in an end of the history
  pub sent_has : (c : Channel) (i : ℕ) (v : ℤ) (s : Sends rules L u c i v)
      → HasItemAt (chat_history rules L u) s.sending.channel i v
  sent_has c i v s =
      climbs (λ n. HasItemAt (pt n) s.sending.channel i v)
      (λ n h. stage_stays s.sending.channel i v (pt n) (sound n).0.tidy (pt n).stage h)
      (suc s.steps) (2 * suc (rules.left u.chatter)) (send_early c i v s)
      (subst (λ p. HasItemAt p s.sending.channel i v) (sym (sent_point c i v s))
      (let r = sent_now s.named v (pt s.steps).ends s.sending s.holds in
      (r.0, inl r.1, r.2, subst (λ n. slice_get r.0.sent n ≡ Some v) s.number r.3)))
