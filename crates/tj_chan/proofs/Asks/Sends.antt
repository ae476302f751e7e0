-- A send is a Set of the promise of the next item: its end has one value more, and one name less is unsent.
use Rattle.std.proofs.Common.{◌≡◌, ℕ, suc, ◌+◌, ◌<◌, ◌≤◌, Bool, true, false, cond, nat_lt, ◌&&◌, ◌⊎◌, inl, inr, ⊎_elim}
use Rattle.std.proofs.Common.{List, [], ◌∷◌, ◌++◌, map, length, drop, Option, Some, None, refl, sym, ap, ◌∙◌, subst}
use Rattle.std.proofs.Common.{arith, length-append, ltb-true}
use Rattle.std.proofs.lemmas.Option.{same_Some}
use Rattle.std.specs.Prelude.{ℤ, slice_get}
use Rattle.tj_base.specs.ForkOrder.{Name}
use Rattle.tj_base.specs.declared.cause.Cause.TheVariants as cause
use Rattle.tj_base.specs.declared.value.Pay.TheVariants as pay
use Rattle.tj_body.specs.Names.{same, has, without}
use Rattle.tj_body.specs.Programs.{Program}
use Rattle.tj_body.specs.History.{after_ask, after_set, after_write, after_failure, reference_at, to_promise}
use Rattle.tj_body.specs.Points.{IsIn, IsPointOf}
use Rattle.tj_body.specs.declared.ask.Answer.TheVariants as told
use Rattle.tj_body.specs.declared.ask.Ask.TheVariants as asked
use Rattle.tj_body.specs.declared.point.Entry.{Entry}
use Rattle.tj_body.specs.declared.point.Entry.TheVariants as entry
use Rattle.tj_body.specs.declared.point.Reference.{Reference}
use Rattle.tj_body.specs.declared.point.Value.TheVariants as value
use Rattle.tj_body.specs.declared.point.Point.{Point}
use Rattle.tj_body.proofs.Counts.{same_self, same_is, times_of_in, has_of_times}
use Rattle.tj_body.proofs.Lists.{in_left, in_right, in_either, in_map, to_map}
use Rattle.tj_chan.specs.Channels.{ChatRules, Channel, SendingEnd, ChannelState, is_same, item, items_of, unsent}
use Rattle.tj_chan.specs.Channels.{all_unsent, one_more, with_sent, end_of, answered, after_send, after_send_by}
use Rattle.tj_chan.specs.Channels.{after_fault}
use Rattle.tj_chan.specs.ChannelRounds.{left_of}
use Rattle.tj_chan.specs.ChanBodies.{Turn, send_turn, changed, counted, turn, fault}
use Rattle.tj_chan.specs.Inner.RowLaws.{get_last}
use Rattle.tj_chan.specs.declared.chat.ChatAnswer.TheVariants as answer
use Rattle.tj_chan.specs.declared.chat.ChatAsk.TheVariants as ask
use Rattle.tj_chan.specs.declared.rows.PromiseRow.{PromiseRow}
use Rattle.tj_chan.specs.declared.body.Due.TheVariants as due
use Rattle.tj_chan.specs.declared.body.ChanBody.{ChanBody}
use Rattle.tj_chan.proofs.Lists.Runs.{AreOneOrApart, found_in, found_by}
use Rattle.tj_chan.proofs.Linked.Items.{drop-things}
use Rattle.tj_chan.proofs.Linked.Links.{sent_by, is_held, AreRowsOf, task_of, IsEntryFor, IsToldOf, IsToldBy}
use Rattle.tj_chan.proofs.Linked.Links.{told_on, AreWritesFor}
use Rattle.tj_chan.proofs.Linked.Steps.{program, IsLinked, AskIsLinked}
use Rattle.tj_chan.proofs.Lists.Apart.{same_parts, not_true, true_false, one_of_same, apart_of_other, end_there}
use Rattle.tj_chan.proofs.Lists.Kept.{in_last, at_last}
use Rattle.tj_chan.proofs.Linked.Begins.{get_front}
use Rattle.tj_chan.proofs.Linked.Rows.{FoundRow, row_found, row_missing, to_same}
use Rattle.tj_chan.proofs.Linked.RowsWith.{item_reference, rows_with}
use Rattle.tj_chan.proofs.Asks.Faults.{fault_linked, left_open, of_unsent, to_unsent}
use Rattle.tj_chan.proofs.Asks.Opens.{last_cases}

-- The next item to be sent comes first among the unsent ones, and the others are unsent when it is sent.
pub next_unsent : (v : ℤ) (e : SendingEnd) → length e.sent < e.channel.items
    → unsent e ≡ item e.channel (length e.sent) ∷ unsent (one_more v e)
next_unsent v e l = drop-things e.channel.opener (length e.sent) e.channel.made_before e.channel.items l
    ∙ ap (λ k. item e.channel (length e.sent) ∷ drop k (items_of e.channel))
    (let z : length (e.sent ++ v ∷ []) ≡ length e.sent + 1 = length-append e.sent (v ∷ []) in
    let u : suc (length e.sent) ≡ length (e.sent ++ v ∷ []) = omega arith in u)

-- a name that isn't in the first of two lists
pub without_behind : (q : Name) (xs ys : List Name) → ¬ IsIn q xs → without q (xs ++ ys) ≡ xs ++ without q ys
without_behind q [] ys h = refl
without_behind q (x ∷ xs) ys h =
    ap (λ b. cond b (xs ++ ys) (x ∷ without q (xs ++ ys))) (not_true (same q x) (λ e. h (inl (same_is q x e))))
    ∙ ap (λ l. x ∷ l) (without_behind q xs ys (λ i. h (inr i)))

-- Ends when a value is sent into that of a channel: the end is found with one value more,
pub sent_end : (c : Channel) (v : ℤ) (es : List SendingEnd) (e : SendingEnd) → end_of c es ≡ Some e
    → end_of c (with_sent c v es) ≡ Some (one_more v e)
sent_end c v [] e h = cc
sent_end c v (f ∷ fs) e h = by (is_same c f.channel) refl h (sent_end c v fs e) where
  by : (b : Bool) → is_same c f.channel ≡ b → cond b (Some f) (end_of c fs) ≡ Some e
      → (end_of c fs ≡ Some e → end_of c (with_sent c v fs) ≡ Some (one_more v e))
      → end_of c (cond b (one_more v f ∷ fs) (f ∷ with_sent c v fs)) ≡ Some (one_more v e)
  by true s g rec = ap (λ b. cond b (Some (one_more v f)) (end_of c fs)) s
      ∙ ap (λ (z : SendingEnd). Some (one_more v z)) (same_Some f e g)
  by false s g rec = ap (λ b. cond b (Some f) (end_of c (with_sent c v fs))) s ∙ rec g

-- the others as they were,
pub sent_other : (c d : Channel) (v : ℤ) (es : List SendingEnd) → is_same c d ≡ false
    → end_of d (with_sent c v es) ≡ end_of d es
sent_other c d v [] h = refl
sent_other c d v (f ∷ fs) h = by (sent_other c d v fs h) (is_same c f.channel) refl where
  by : end_of d (with_sent c v fs) ≡ end_of d fs → (b : Bool) → is_same c f.channel ≡ b
      → end_of d (cond b (one_more v f ∷ fs) (f ∷ with_sent c v fs)) ≡ end_of d (f ∷ fs)
  by rec true s = ap (λ b. cond b (Some (one_more v f)) (end_of d fs)) n
      ∙ sym (ap (λ b. cond b (Some f) (end_of d fs)) n) where
        n : is_same d f.channel ≡ false
        n = not_true (is_same d f.channel) (λ t.
            let p = same_parts c f.channel s in
            let q = same_parts d f.channel t in
            true_false (is_same c d) (to_same c d (p.0 ∙ sym q.0) (p.1 ∙ sym q.1)) h)
  by rec false s = ap (λ o. cond (is_same d f.channel) (Some f) o) rec

-- each end was there or is that one,
pub sent_from : (c : Channel) (v : ℤ) (es : List SendingEnd) (e g : SendingEnd) → end_of c es ≡ Some e
    → IsIn g (with_sent c v es) → IsIn g es ⊎ (g ≡ one_more v e)
sent_from c v [] e g h i = cc
sent_from c v (f ∷ fs) e g h i = by (is_same c f.channel) h i (sent_from c v fs e g) where
  by : (b : Bool) → cond b (Some f) (end_of c fs) ≡ Some e → IsIn g (cond b (one_more v f ∷ fs) (f ∷ with_sent c v fs))
      → (end_of c fs ≡ Some e → IsIn g (with_sent c v fs) → IsIn g fs ⊎ (g ≡ one_more v e))
      → IsIn g (f ∷ fs) ⊎ (g ≡ one_more v e)
  by true k (inl j) rec = inr (j ∙ ap (one_more v) (same_Some f e k))
  by true k (inr j) rec = inl (inr j)
  by false k (inl j) rec = inl (inl j)
  by false k (inr j) rec = ⊎_elim (λ a. inl (inr a)) (λ a. inr a) (rec k j)

-- each that was there is, unless it is that one,
pub sent_to : (c : Channel) (v : ℤ) (es : List SendingEnd) (e g : SendingEnd) → end_of c es ≡ Some e
    → IsIn g es → IsIn g (with_sent c v es) ⊎ (g ≡ e)
sent_to c v [] e g h i = cc
sent_to c v (f ∷ fs) e g h i = by (is_same c f.channel) h i (sent_to c v fs e g) where
  by : (b : Bool) → cond b (Some f) (end_of c fs) ≡ Some e → IsIn g (f ∷ fs)
      → (end_of c fs ≡ Some e → IsIn g fs → IsIn g (with_sent c v fs) ⊎ (g ≡ e))
      → IsIn g (cond b (one_more v f ∷ fs) (f ∷ with_sent c v fs)) ⊎ (g ≡ e)
  by true k (inl j) rec = inr (j ∙ same_Some f e k)
  by true k (inr j) rec = inl (inr j)
  by false k (inl j) rec = inl (inl j)
  by false k (inr j) rec = ⊎_elim (λ a. inl (inr a)) (λ a. inr a) (rec k j)

-- that one is there with one value more,
pub sent_in : (c : Channel) (v : ℤ) (es : List SendingEnd) (e : SendingEnd) → end_of c es ≡ Some e
    → IsIn (one_more v e) (with_sent c v es)
sent_in c v es e h = (end_there c (with_sent c v es) (one_more v e) (sent_end c v es e h)).0

-- and one name less is unsent.
pub unsent_sent : (c : Channel) (v : ℤ) (es : List SendingEnd) (e : SendingEnd)
    → ((f : SendingEnd) → IsIn f es → AreOneOrApart c f.channel) → end_of c es ≡ Some e → length e.sent < c.items
    → without (item c (length e.sent)) (all_unsent es) ≡ all_unsent (with_sent c v es)
unsent_sent c v [] e a h l = cc
unsent_sent c v (f ∷ fs) e a h l =
    by (is_same c f.channel) refl h (λ g. unsent_sent c v fs e (λ k i. a k (inr i)) g l) where
      q : Name
      q = item c (length e.sent)

      by : (b : Bool) → is_same c f.channel ≡ b → cond b (Some f) (end_of c fs) ≡ Some e
          → (end_of c fs ≡ Some e → without q (all_unsent fs) ≡ all_unsent (with_sent c v fs))
          → without q (all_unsent (f ∷ fs)) ≡ all_unsent (cond b (one_more v f ∷ fs) (f ∷ with_sent c v fs))
      by true s g rec =
          let x : c ≡ f.channel = one_of_same c f.channel (a f (inl refl)) s in
          let k : length e.sent ≡ length f.sent = ap (λ (z : SendingEnd). length z.sent) (sym (same_Some f e g)) in
          let m : c.items ≡ f.channel.items = ap (λ (z : Channel). z.items) x in
          let w : q ≡ item f.channel (length f.sent) = (λ i. item (x i) (k i)) in
          ap (λ l. without q (l ++ all_unsent fs)) (next_unsent v f (omega arith))
          ∙ ap (λ b. cond b (unsent (one_more v f) ++ all_unsent fs)
          (item f.channel (length f.sent) ∷ without q (unsent (one_more v f) ++ all_unsent fs)))
          (ap (same q) (sym w) ∙ same_self q)
      by false s g rec = without_behind q (unsent f) (all_unsent fs)
          (λ i. none (of_unsent (f ∷ []) q (in_left q (unsent f) [] i)))
          ∙ ap (λ z. unsent f ++ z) (rec g) where
            none : (x : SendingEnd) × (i : ℕ) × IsIn x (f ∷ []) × (length x.sent ≤ i) × (i < x.channel.items)
                × (q ≡ item x.channel i) → ⊥
            none r = only r.2 where
              only : (r.0 ≡ f) ⊎ ⊥ → ⊥
              only (inl z) = apart_of_other c f.channel (a f (inl refl)) s (length e.sent) r.1 l
                  (subst (λ (u : SendingEnd). r.1 < u.channel.items) z r.4)
                  (r.5 ∙ ap (λ (u : SendingEnd). item u.channel r.1) z)
              only (inr z) = z

-- an item that was found is found when a value more is sent
found_more : (sent : List ℤ) (v : ℤ) (i : ℕ) (x : Entry) → IsEntryFor (found_by false (slice_get sent i)) x
    → IsEntryFor (found_by false (slice_get (sent ++ v ∷ []) i)) x
found_more sent v i x h = by (slice_get sent i) refl h where
  by : (o : Option ℤ) → slice_get sent i ≡ o → IsEntryFor (found_by false o) x
      → IsEntryFor (found_by false (slice_get (sent ++ v ∷ []) i)) x
  by None e g = absurd g
  by (Some u) e g = subst (λ o. IsEntryFor (found_by false o) x) (sym (get_front sent (v ∷ []) i u e)) g

-- What the task has written then.
module _ (given : List SendingEnd) (name : Name) (handed ends : List SendingEnd) (writes : List (Name × Entry))
    (c : Channel) (v : ℤ) (e : SendingEnd) (h : end_of c ends ≡ Some e) (is : e.channel ≡ c)
    (l : length e.sent < c.items)
    (w : AreWritesFor given name (map (left_of false) handed ++ map (left_of false) ends) writes) where
  abbrev before : List (Channel × ChannelState)
  before = map (left_of false) handed ++ map (left_of false) ends

  abbrev after : List (Channel × ChannelState)
  after = map (left_of false) handed ++ map (left_of false) (with_sent c v ends)

  abbrev new : Name × Entry
  new = (item c (length e.sent), entry.Value (value.Num v))

  old_told : (q : Name) (y : Entry) → IsIn (q, y) writes → IsToldBy name after q y
  old_told q y j = told_on name (map (left_of false) handed) (map (left_of false) ends)
      (map (left_of false) (with_sent c v ends)) q y
      (λ x. let m = in_map (left_of false) x.0 ends x.2 in sent x m.0 m.2 (sent_to c v ends e m.0 h m.1))
      (w.told q y j) where
        sent : (x : IsToldOf (map (left_of false) ends) q y) (f : SendingEnd) → x.0 ≡ left_of false f
            → IsIn f (with_sent c v ends) ⊎ (f ≡ e) → IsToldOf (map (left_of false) (with_sent c v ends)) q y
        sent x f k (inl b) = (
          x.0,
          x.1,
          subst (λ z. IsIn z (map (left_of false) (with_sent c v ends))) (sym k)
              (to_map (left_of false) f (with_sent c v ends) b),
          x.3,
          x.4,
          x.5,
        )
        sent x f k (inr b) = let u : x.0 ≡ left_of false e = k ∙ ap (left_of false) b in (
          left_of false (one_more v e),
          x.1,
          to_map (left_of false) (one_more v e) (with_sent c v ends) (sent_in c v ends e h),
          subst (λ (z : Channel × ChannelState). x.1 < z.0.items) u x.3,
          x.4 ∙ ap (λ (z : Channel × ChannelState). item z.0 x.1) u,
          found_more e.sent v x.1 y (subst (λ (z : Channel × ChannelState). IsEntryFor (found_in z.1 x.1) y) u x.5),
        )

  new_told : (q : Name) (y : Entry) → (q, y) ≡ new → IsToldBy name after q y
  new_told q y k = inr (
    left_of false (one_more v e),
    length e.sent,
    in_right (left_of false (one_more v e)) (map (left_of false) handed) (map (left_of false) (with_sent c v ends))
        (to_map (left_of false) (one_more v e) (with_sent c v ends) (sent_in c v ends e h)),
    subst (λ (z : Channel). length e.sent < z.items) (sym is) l,
    ap (λ (z : Name × Entry). z.0) k ∙ ap (λ z. item z (length e.sent)) (sym is),
    subst (λ o. IsEntryFor (found_by false o) y) (sym (get_last e.sent v)) (ap (λ (z : Name × Entry). z.1) k),
  )

  abbrev WasWritten : Channel × ChannelState → ℕ → Entry → Type 0
  WasWritten x i y = IsIn (item x.0 i, y) (writes ++ new ∷ [])
      ⊎ ((g : SendingEnd) × IsIn g given × (g.channel ≡ x.0) × IsEntryFor (found_by false (slice_get g.sent i)) y)

  old_written : (x : Channel × ChannelState) (i : ℕ) (y : Entry) → IsIn x before → i < x.0.items
      → IsEntryFor (found_in x.1 i) y → WasWritten x i y
  old_written x i y j m f =
      ⊎_elim (λ a. inl (in_left (item x.0 i, y) writes (new ∷ []) a)) (λ a. inr a) (w.written x i y j m f)

  -- one end's
  end_written : (f : SendingEnd) → IsIn f ends → (i : ℕ) (y : Entry) → i < f.channel.items
      → IsEntryFor (found_by false (slice_get f.sent i)) y → WasWritten (left_of false f) i y
  end_written f k i y m g = old_written (left_of false f) i y
      (in_right (left_of false f) (map (left_of false) handed) (map (left_of false) ends)
      (to_map (left_of false) f ends k))
      m g

  -- that of the end with one value more
  more_written : (i : ℕ) (y : Entry) → i < e.channel.items → (o : Option ℤ) → slice_get (e.sent ++ v ∷ []) i ≡ o
      → IsEntryFor (found_by false o) y → WasWritten (left_of false (one_more v e)) i y
  more_written i y m None k f = absurd f
  more_written i y m (Some u) k f = ⊎_elim
      (λ a. end_written e (end_there c ends e h).0 i y m (subst (λ o. IsEntryFor (found_by false o) y) (sym a) f))
      (λ a. inl (subst (λ z. IsIn z (writes ++ new ∷ [])) (same_new a.0 a.1) (at_last new writes)))
      (last_cases e.sent v i u k) where
        same_new : i ≡ length e.sent → u ≡ v → new ≡ (item e.channel i, y)
        same_new a b j = (item (sym is j) (sym a j), (ap (λ z. entry.Value (value.Num z)) (sym b) ∙ sym f) j)

  pub sent_writes : AreWritesFor given name after (writes ++ new ∷ [])
  sent_writes = record {
    told = λ q y i. ⊎_elim (λ a. old_told q y a) (λ a. new_told q y a) (in_last (q, y) new writes i);
    written = λ x i y j m f. ⊎_elim
        (λ a. old_written x i y (in_left x (map (left_of false) handed) (map (left_of false) ends) a) m f)
        (λ a. let n = in_map (left_of false) x (with_sent c v ends) a in
        subst (λ z. WasWritten z i y) (sym n.2)
        (one n.0 (sent_from c v ends e n.0 h n.1) i y (subst (λ (z : Channel × ChannelState). i < z.0.items) n.2 m)
        (subst (λ (z : Channel × ChannelState). IsEntryFor (found_in z.1 i) y) n.2 f)))
        (in_either x (map (left_of false) handed) (map (left_of false) (with_sent c v ends)) j);
    plain = λ q r i. ⊎_elim (λ a. w.plain q r a)
        (λ a. let z : entry.Value (value.Ref r) ≡ entry.Value (value.Num v) = ap (λ (z : Name × Entry). z.1) a in cc)
        (in_last (q, entry.Value (value.Ref r)) new writes i);
  } where
    one : (f : SendingEnd) → IsIn f ends ⊎ (f ≡ one_more v e) → (i : ℕ) (y : Entry) → i < f.channel.items
        → IsEntryFor (found_by false (slice_get f.sent i)) y → WasWritten (left_of false f) i y
    one f (inl k) i y m g = end_written f k i y m g
    one f (inr k) i y m g = subst (λ z. WasWritten (left_of false z) i y) (sym k)
        (more_written i y (subst (λ (z : SendingEnd). i < z.channel.items) k m) (slice_get (e.sent ++ v ∷ []) i) refl
        (subst (λ (z : SendingEnd). IsEntryFor (found_by false (slice_get z.sent i)) y) k g))

module _ {C : Type 0} (rules : ChatRules C) (root : C) (strict : Bool) where
  abbrev P : Program (ChanBody C)
  P = program rules root strict

  -- a send
  pub sends_linked : (n : ℕ) (v : ℤ) → AskIsLinked rules root strict (ask.Send n v)
  sends_linked n v U t p b s y allowed ready w at = by (slice_get p.channels n) refl where
    IsAt : Point (ChanBody C) → Type 0
    IsAt q = IsPointOf P.rules U (task_of t) q

    after : Turn C → Point (ChanBody C)
    after u = after_ask strict u.ask (record b { body = u.body })

    fails : IsAt (after (fault s)) → IsLinked rules root strict U t (after_fault cause.Kind p)
    fails h = fault_linked rules root strict U t p b s (record s { due = due.Nothing }) ready w cause.Kind h

    by : (o : Option Channel) → slice_get p.channels n ≡ o → IsLinked rules root strict U t (after_send o v p)
    by None h = fails (subst (λ x. IsAt (after (send_turn x v s)))
        (row_missing p.channels p.received b.references y.apart p.ends s.rows ready.body.rows n h) at)
    by (Some c) h = held (end_of c p.ends) refl where
      x : FoundRow p.channels p.ends p.received b.references s.rows n c
      x = row_found p.channels p.received b.references y.apart p.ends s.rows ready.body.rows n c h

      r : PromiseRow
      r = x.row

      more : PromiseRow
      more = record r { sent = suc r.sent }

      next : ChanBody C
      next = record (changed more s) { due = due.Done }

      turned : Bool → Turn C
      turned z = cond z (turn (asked.Set (r.base + r.sent) (pay.Num v)) due.Done (changed more s)) (fault s)

      there : (z : Bool) → (r.holds && nat_lt r.sent r.items) ≡ z → IsAt (after (turned z))
      there z e = subst (λ k. IsAt (after (turned k))) e (subst (λ k. IsAt (after (send_turn k v s))) x.at at)

      held : (o : Option SendingEnd) → end_of c p.ends ≡ o → IsLinked rules root strict U t (after_send_by v o p)
      held None g = fails
          (there false (ap (λ k. k && nat_lt r.sent r.items) (x.is_first.is_row.held refl ∙ ap is_held g)))
      held (Some e) g = test (nat_lt (length e.sent) e.channel.items) refl where
        is : c ≡ e.channel
        is = let i = end_there c p.ends e g in one_of_same c e.channel (y.apart c e.channel x.here (y.holds e i.0)) i.1

        q : Name
        q = item c (length e.sent)

        holds_it : r.holds ≡ true
        holds_it = x.is_first.is_row.held refl ∙ ap is_held g

        sent_so : r.sent ≡ length e.sent
        sent_so = x.is_first.is_row.sent refl holds_it ∙ ap sent_by g

        items_so : r.items ≡ e.channel.items
        items_so = x.is_first.is_row.items ∙ ap (λ (z : Channel). z.items) is

        set_there : (z : Bool) → nat_lt (length e.sent) e.channel.items ≡ z → IsAt (after (turned z))
        set_there z f = there z ((λ i. holds_it i && nat_lt (sent_so i) (items_so i)) ∙ f)

        few : nat_lt (length e.sent) e.channel.items ≡ true → length e.sent < c.items
        few f = subst (λ (z : Channel). length e.sent < z.items) (sym is) (ltb-true (length e.sent) e.channel.items f)

        reference_is : nat_lt (length e.sent) e.channel.items ≡ true
            → reference_at b.name b.references (r.base + r.sent) ≡ to_promise q
        reference_is f = ap (λ k. reference_at b.name b.references (r.base + k)) sent_so
            ∙ item_reference p.channels p.received b.references y.apart p.ends s.rows ready.body.rows b.name c r
            x.is_first (length e.sent) (few f)

        owns : nat_lt (length e.sent) e.channel.items ≡ true → has q b.holds ≡ true
        owns f = ap (has q) ready.holds ∙ has_of_times q (all_unsent p.ends) (times_of_in q (all_unsent p.ends)
            (subst (λ (z : Channel). IsIn (item z (length e.sent)) (all_unsent p.ends)) (sym is)
            (to_unsent p.ends e (length e.sent) (end_there c p.ends e g).0 (omega arith)
            (ltb-true (length e.sent) e.channel.items f))))

        writes_it : nat_lt (length e.sent) e.channel.items ≡ true
            → IsAt (after_write q (value.Num v) (record b { body = next }))
        writes_it f = subst (λ z. IsAt (cond z (after_write q (value.Num v) (record b { body = next }))
            (after_failure (cause.Owner q) (record b { body = next })))) (owns f)
            (subst (λ (z : Reference). IsAt (after_set z.sort z.name (value.Num v) (record b { body = next })))
            (reference_is f) (set_there true f))

        rows : AreRowsOf p.channels (with_sent c v p.ends) p.received b.references next.rows
        rows = rows_with p.channels p.received b.references y.apart p.ends s.rows ready.body.rows c x.here r more
            x.is_first refl (with_sent c v p.ends) p.received (λ d a. sent_other c d v p.ends a)
            (λ d a. refl) ready.body.rows.known (record {
              first = x.is_first.is_row.first;
              items = x.is_first.is_row.items;
              base = x.is_first.is_row.base;
              held = λ a. holds_it ∙ ap is_held (sym (sent_end c v p.ends e g));
              sent = λ a k. ap suc sent_so ∙ longer (length e.sent)
                  ∙ sym (length-append e.sent (v ∷ [])) ∙ ap sent_by (sym (sent_end c v p.ends e g));
              asked = λ a. x.is_first.is_row.asked refl;
            }) where
              longer : (k : ℕ) → suc k ≡ k + 1
              longer k = omega arith

        goes_on : nat_lt (length e.sent) e.channel.items ≡ true
            → IsLinked rules root strict U t (record p { stage = answered answer.Done; ends = with_sent c v p.ends })
        goes_on f = (
          after_write q (value.Num v) (record b { body = next }),
          writes_it f,
          record {
            of_task = ready.of_task;
            at_stage = (
              told.Done,
              counted told.Done next,
              refl,
              refl,
              record {
                chatter = ready.body.chatter;
                places = let z = ready.body.places in omega arith;
                rows = rows;
              },
            );
            holds = ap (without q) ready.holds ∙ unsent_sent c v p.ends e
                (λ k i. y.apart c k.channel x.here (y.holds k i)) g (few f);
            owed = ready.owed;
          },
          sent_writes t.given p.name p.handed_on p.ends b.writes c v e g (sym is) (few f)
              (left_open rules root strict t p b ready.is_open w),
        )

        test : (z : Bool) → nat_lt (length e.sent) e.channel.items ≡ z → IsLinked rules root strict U t (cond z
            (record p { stage = answered answer.Done; ends = with_sent e.channel v p.ends }) (after_fault cause.Kind p))
        test false f = fails (set_there false f)
        test true f = subst (λ z. IsLinked rules root strict U t
            (record p { stage = answered answer.Done; ends = with_sent z v p.ends })) is (goes_on f)
