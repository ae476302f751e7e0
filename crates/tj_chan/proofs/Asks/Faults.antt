-- A task's end, well or not: what it writes is its result and the unsent items of its ends, which are broken. So the
-- asks End and Fail are linked, and each fault, and Emit.
use Rattle.std.proofs.Common.{◌≡◌, ℕ, zero, suc, ◌+◌, ◌<◌, ◌≤◌, Bool, true, false, ◌⊎◌, inl, inr, ⊎_elim, List, [], ◌∷◌}
use Rattle.std.proofs.Common.{◌++◌, map, length, drop, Option, Some, None, refl, sym, ap, ◌∙◌, subst, arith}
use Rattle.std.proofs.lemmas.Option.{slice_get_past}
use Rattle.std.specs.Prelude.{ℤ, slice_get}
use Rattle.tj_base.specs.ForkOrder.{Name, child}
use Rattle.tj_base.specs.declared.cause.Cause.{Cause}
use Rattle.tj_base.specs.declared.cause.Trouble.{Trouble}
use Rattle.tj_body.specs.Programs.{Program}
use Rattle.tj_body.specs.Names.{in_order}
use Rattle.tj_body.specs.History.{Assignment, with_entry, after_close, after_failure, after_end, after_emit, cause_of}
use Rattle.tj_body.specs.Points.{IsIn, IsPointOf}
use Rattle.tj_body.specs.declared.ask.Answer.TheVariants as told
use Rattle.tj_body.specs.declared.point.Close.{Close}
use Rattle.tj_body.specs.declared.point.Close.TheVariants as close
use Rattle.tj_body.specs.declared.point.Entry.{Entry}
use Rattle.tj_body.specs.declared.point.Entry.TheVariants as entry
use Rattle.tj_body.specs.declared.point.Reference.{Reference}
use Rattle.tj_body.specs.declared.point.Value.TheVariants as value
use Rattle.tj_body.specs.declared.point.Point.{Point}
use Rattle.tj_body.proofs.Lists.{in_left, in_right, in_either, in_map, to_map}
use Rattle.tj_body.proofs.NameLaws.{ordered_has_same}
use Rattle.tj_chan.specs.Channels.{ChatRules, Channel, SendingEnd, ChannelState, ended, ChatTask, ChatPoint}
use Rattle.tj_chan.specs.Channels.{ChatStage, failed, answered, item, things_after, unsent, all_unsent, after_fault}
use Rattle.tj_chan.specs.ChannelRounds.{left_of, has_ended}
use Rattle.tj_chan.specs.ChannelOutcomes.{owed_in, held_in}
use Rattle.tj_chan.specs.ChanBodies.{counted}
use Rattle.tj_chan.specs.declared.body.ChanBody.{ChanBody}
use Rattle.tj_chan.specs.declared.body.Due.TheVariants as due
use Rattle.tj_chan.specs.declared.chat.ChatAsk.TheVariants as ask
use Rattle.tj_chan.specs.declared.chat.ChatAnswer.TheVariants as answer
use Rattle.tj_chan.proofs.Lists.Runs.{found_in, found_by}
use Rattle.tj_chan.proofs.Linked.Links.{task_of, IsPointFor, IsStageOf, IsReadyFor, IsEntryFor, IsToldOf, IsToldBy}
use Rattle.tj_chan.proofs.Linked.Links.{told_on, AreWritesFor, IsWritten}
use Rattle.tj_chan.proofs.Linked.Steps.{program, IsLinked, AskIsLinked}
use Rattle.tj_chan.proofs.Linked.Entries.{none_past}

-- The unsent items are those from the number of values sent on.
drop_thing : (x : Name) (k m n : ℕ) (q : Name) → IsIn q (drop k (things_after x m n))
    → (i : ℕ) × (k ≤ i) × (i < n) × (q ≡ child x (m + suc i))
drop_thing x zero m zero q h = absurd h
drop_thing x (suc k) m zero q h = absurd h
drop_thing x zero m (suc n) q (inl e) =
    (0, omega arith, omega arith, e ∙ ap (child x) (let z : suc m ≡ m + 1 = omega arith in z))
drop_thing x zero m (suc n) q (inr h) =
    let r = drop_thing x zero (suc m) n q h in let l = r.2 in (
      suc r.0,
      omega arith,
      omega arith,
      r.3 ∙ ap (child x) (let z : suc m + suc r.0 ≡ m + suc (suc r.0) = omega arith in z),
    )
drop_thing x (suc k) m (suc n) q h =
    let r = drop_thing x k (suc m) n q h in let j = r.1 in let l = r.2 in (
      suc r.0,
      omega arith,
      omega arith,
      r.3 ∙ ap (child x) (let z : suc m + suc r.0 ≡ m + suc (suc r.0) = omega arith in z),
    )

thing_drop : (x : Name) (k m n i : ℕ) → k ≤ i → i < n → IsIn (child x (m + suc i)) (drop k (things_after x m n))
thing_drop x k m zero i j l = absurd (omega arith)
thing_drop x zero m (suc n) zero j l = inl (ap (child x) (let z : m + 1 ≡ suc m = omega arith in z))
thing_drop x zero m (suc n) (suc i) j l = inr (subst (λ z. IsIn (child x z) (things_after x (suc m) n))
    (let z : suc m + suc i ≡ m + suc (suc i) = omega arith in z)
    (thing_drop x zero (suc m) n i (omega arith) (omega arith)))
thing_drop x (suc k) m (suc n) zero j l = absurd (omega arith)
thing_drop x (suc k) m (suc n) (suc i) j l = subst (λ z. IsIn (child x z) (drop k (things_after x (suc m) n)))
    (let z : suc m + suc i ≡ m + suc (suc i) = omega arith in z)
    (thing_drop x k (suc m) n i (omega arith) (omega arith))

-- a name that is still to be sent is that of such an item
pub of_unsent : (es : List SendingEnd) (q : Name) → IsIn q (all_unsent es)
    → (e : SendingEnd) × (i : ℕ) × IsIn e es × (length e.sent ≤ i) × (i < e.channel.items) × (q ≡ item e.channel i)
of_unsent [] q h = absurd h
of_unsent (e ∷ es) q h = ⊎_elim
    (λ a. let r = drop_thing e.channel.opener (length e.sent) e.channel.made_before e.channel.items q a in
    (e, r.0, inl refl, r.1, r.2, r.3))
    (λ a. let r = of_unsent es q a in (r.0, r.1, inr r.2, r.3, r.4, r.5))
    (in_either q (unsent e) (all_unsent es) h)

-- and the other way round
pub to_unsent : (es : List SendingEnd) (e : SendingEnd) (i : ℕ) → IsIn e es → length e.sent ≤ i → i < e.channel.items
    → IsIn (item e.channel i) (all_unsent es)
to_unsent [] e i h j l = absurd h
to_unsent (f ∷ fs) e i (inl h) j l = in_left (item e.channel i) (unsent f) (all_unsent fs)
    (subst (λ (z : SendingEnd). IsIn (item e.channel i) (unsent z)) h
    (thing_drop e.channel.opener (length e.sent) e.channel.made_before e.channel.items i j l))
to_unsent (f ∷ fs) e i (inr h) j l =
    in_right (item e.channel i) (unsent f) (all_unsent fs) (to_unsent fs e i h j l)

-- an item that was found open is found where the channel is cut
pub found_cut : (o : Option ℤ) (x : Entry) → IsEntryFor (found_by false o) x → IsEntryFor (found_by true o) x
found_cut (Some v) x h = h
found_cut None x h = absurd h

-- What a task writes at its end.
module _ (given : List SendingEnd) (name : Name) (handed ends : List SendingEnd) (writes : List (Name × Entry))
    (holds : List Name) (x : Entry) (held : holds ≡ all_unsent ends)
    (plain : (r : Reference) → ¬ (x ≡ entry.Value (value.Ref r)))
    (w : AreWritesFor given name (map (left_of false) handed ++ map (left_of false) ends) writes) where
  abbrev before : List (Channel × ChannelState)
  before = map (left_of false) handed ++ map (left_of false) ends

  abbrev after : List (Channel × ChannelState)
  after = map (left_of false) handed ++ map (left_of true) ends

  abbrev new : List (Name × Entry)
  new = (name, x) ∷ map (with_entry entry.Broken) (in_order holds)

  old_told : (q : Name) (y : Entry) → IsIn (q, y) writes → IsToldBy name after q y
  old_told q y i = told_on name (map (left_of false) handed) (map (left_of false) ends) (map (left_of true) ends) q y
      (λ v. let m = in_map (left_of false) v.0 ends v.2 in cut v m.0 m.1 m.2) (w.told q y i) where
        cut : (v : IsToldOf (map (left_of false) ends) q y) (e : SendingEnd) → IsIn e ends → v.0 ≡ left_of false e
            → IsToldOf (map (left_of true) ends) q y
        cut v e k m = (
          left_of true e,
          v.1,
          to_map (left_of true) e ends k,
          subst (λ (z : Channel × ChannelState). v.1 < z.0.items) m v.3,
          v.4 ∙ ap (λ (z : Channel × ChannelState). item z.0 v.1) m,
          found_cut (slice_get e.sent v.1) y
              (subst (λ (z : Channel × ChannelState). IsEntryFor (found_in z.1 v.1) y) m v.5),
        )

  new_told : (q : Name) (y : Entry) → IsIn (q, y) new → IsToldBy name after q y
  new_told q y (inl e) = inl (ap (λ (z : Name × Entry). z.0) e)
  new_told q y (inr i) =
      let m = in_map (with_entry entry.Broken) (q, y) (in_order holds) i in
      let j = (ordered_has_same m.0 holds).0 m.1 in
      let u = of_unsent ends m.0 (subst (IsIn m.0) held j) in
      let e = u.0 in
      let p = slice_get_past e.sent u.1 u.3 in
      inr (
        left_of true e,
        u.1,
        in_right (left_of true e) (map (left_of false) handed) (map (left_of true) ends)
            (to_map (left_of true) e ends u.2),
        u.4,
        ap (λ (z : Name × Entry). z.0) m.2 ∙ u.5,
        subst (λ o. IsEntryFor (found_by true o) y) (sym p) (ap (λ (z : Name × Entry). z.1) m.2),
      )

  abbrev WasWritten : Channel × ChannelState → ℕ → Entry → Type 0
  WasWritten v i y = IsIn (item v.0 i, y) (writes ++ new)
      ⊎ ((g : SendingEnd) × IsIn g given × (g.channel ≡ v.0) × IsEntryFor (found_by false (slice_get g.sent i)) y)

  was_written : (v : Channel × ChannelState) (i : ℕ) (y : Entry) → IsIn v before → i < v.0.items
      → IsEntryFor (found_in v.1 i) y → WasWritten v i y
  was_written v i y j l f =
      ⊎_elim (λ a. inl (in_left (item v.0 i, y) writes new a)) (λ a. inr a) (w.written v i y j l f)

  end_written : (e : SendingEnd) → IsIn e ends → (i : ℕ) (y : Entry) → i < e.channel.items → (o : Option ℤ)
      → slice_get e.sent i ≡ o → IsEntryFor (found_by true o) y → WasWritten (left_of true e) i y
  end_written e k i y l (Some v) s f = was_written (left_of false e) i y
      (in_right (left_of false e) (map (left_of false) handed) (map (left_of false) ends)
      (to_map (left_of false) e ends k))
      l (subst (λ o. IsEntryFor (found_by false o) y) (sym s) f)
  end_written e k i y l None s f =
      let q = item e.channel i in
      let j = to_unsent ends e i k (none_past e.sent i s) l in
      let h = (ordered_has_same q holds).1 (subst (IsIn q) (sym held) j) in
      let m = to_map (with_entry entry.Broken) q (in_order holds) h in
      inl (in_right (q, y) writes new (inr (subst (λ z. IsIn (q, z) (map (with_entry entry.Broken) (in_order holds)))
      (sym f) m)))

  now_written : (v : Channel × ChannelState) (i : ℕ) (y : Entry) → IsIn v after → i < v.0.items
      → IsEntryFor (found_in v.1 i) y → WasWritten v i y
  now_written v i y j l f = ⊎_elim
      (λ a. was_written v i y (in_left v (map (left_of false) handed) (map (left_of false) ends) a) l f)
      (λ a. let m = in_map (left_of true) v ends a in
      subst (λ z. WasWritten z i y) (sym m.2)
      (end_written m.0 m.1 i y (subst (λ (z : Channel × ChannelState). i < z.0.items) m.2 l) (slice_get m.0.sent i) refl
      (subst (λ (z : Channel × ChannelState). IsEntryFor (found_in z.1 i) y) m.2 f)))
      (in_either v (map (left_of false) handed) (map (left_of true) ends) j)

  no_reference : (q : Name) (r : Reference) → IsIn (q, entry.Value (value.Ref r)) new → ⊥
  no_reference q r (inl e) = plain r (ap (λ (z : Name × Entry). z.1) (sym e))
  no_reference q r (inr i) =
      let m = in_map (with_entry entry.Broken) (q, entry.Value (value.Ref r)) (in_order holds) i in
      let z : entry.Value (value.Ref r) ≡ entry.Broken = ap (λ (z : Name × Entry). z.1) m.2 in cc

  pub closed_writes : AreWritesFor given name after (writes ++ new)
  closed_writes = record {
    told = λ q y i. ⊎_elim (λ a. old_told q y a) (λ a. new_told q y a) (in_either (q, y) writes new i);
    written = λ v i y j l f. now_written v i y j l f;
    plain = λ q r i. ⊎_elim (λ a. w.plain q r a) (λ a. no_reference q r a)
        (in_either (q, entry.Value (value.Ref r)) writes new i);
  }

module _ {C : Type 0} (rules : ChatRules C) (root : C) (strict : Bool) where
  abbrev P : Program (ChanBody C)
  P = program rules root strict

  -- what an open point leaves
  pub left_open : (t : ChatTask C) (p : ChatPoint C) (b : Point (ChanBody C)) → has_ended p.stage ≡ false
      → IsWritten t p b
      → AreWritesFor t.given p.name (map (left_of false) p.handed_on ++ map (left_of false) p.ends) b.writes
  left_open t p b e w =
      subst (λ z. AreWritesFor t.given p.name (map (left_of false) p.handed_on ++ map (left_of z) p.ends) b.writes) e w

  module _ (U : Assignment) (t : ChatTask C) (p : ChatPoint C) (b : Point (ChanBody C)) (s c : ChanBody C)
      (ready : IsReadyFor p b s) (w : IsWritten t p b) where
    writes_at : (x : Entry) → ((r : Reference) → ¬ (x ≡ entry.Value (value.Ref r)))
        → AreWritesFor t.given p.name (map (left_of false) p.handed_on ++ map (left_of true) p.ends)
        (b.writes ++ (b.name, x) ∷ map (with_entry entry.Broken) (in_order b.holds))
    writes_at x h = subst
        (λ n. AreWritesFor t.given p.name (map (left_of false) p.handed_on ++ map (left_of true) p.ends)
        (b.writes ++ (n, x) ∷ map (with_entry entry.Broken) (in_order b.holds))) (sym ready.of_task.0)
        (closed_writes t.given p.name p.handed_on p.ends b.writes b.holds x ready.holds h
        (left_open t p b ready.is_open w))

    -- the body's point that has closed is that of a chatter that has ended
    closed_point : (e : Close) (x : Entry) (st : ChatStage)
        → IsStageOf rules (record p { stage = st }) st (after_close e x (record b { body = c }))
        → [] ≡ held_in st p.ends → in_order b.holds ≡ owed_in st p.ends
        → IsPointFor rules (record p { stage = st }) (after_close e x (record b { body = c }))
    closed_point e x st at holds owed = record {
      of_task = ready.of_task;
      at_stage = at;
      holds = holds;
      owed = owed;
    }

    -- a fault, or the chatter's failure
    pub fault_linked : (f : Cause) → IsPointOf P.rules U (task_of t) (after_failure f (record b { body = c }))
        → IsLinked rules root strict U t (after_fault f p)
    fault_linked f at = (
      after_failure f (record b { body = c }),
      at,
      closed_point (close.Failed f) entry.Broken (failed f) refl refl (ap in_order ready.holds),
      writes_at entry.Broken (λ r e. let z = e in cc),
    )

    -- a task that ends well
    pub end_linked : (v : ℤ) → IsPointOf P.rules U (task_of t) (after_end (value.Num v) (record b { body = c }))
        → IsLinked rules root strict U t (record p { stage = ended v })
    end_linked v at = (
      after_end (value.Num v) (record b { body = c }),
      at,
      closed_point (close.Done (value.Num v)) (entry.Value (value.Num v)) (ended v) refl refl (ap in_order ready.holds),
      writes_at (entry.Value (value.Num v)) (λ r e. let z = e in cc),
    )

    -- a number that is printed
    pub emit_linked : (i : ℤ)
        → IsPointOf P.rules U (task_of t) (after_emit i (record b { body = record s { due = due.Done } }))
        → IsLinked rules root strict U t
        (record p { stage = answered answer.Done; prints = p.prints ++ i ∷ [] })
    emit_linked i at = (
      after_emit i (record b { body = record s { due = due.Done } }),
      at,
      record {
        of_task = (
          ready.of_task.0,
          ready.of_task.1,
          ready.of_task.2,
          ready.of_task.3,
          ap (λ l. l ++ i ∷ []) ready.of_task.4,
        );
        at_stage = (
          told.Done,
          counted told.Done (record s { due = due.Done }),
          refl,
          refl,
          record {
            chatter = ready.body.chatter;
            places = let z = ready.body.places in omega arith;
            rows = ready.body.rows;
          },
        );
        holds = ready.holds;
        owed = ready.owed;
      },
      left_open t p b ready.is_open w,
    )

  pub emits_linked : (i : ℤ) → AskIsLinked rules root strict (ask.Emit i)
  emits_linked i U t p b s tidy a ready w at = emit_linked U t p b s s ready w i at

  pub ends_linked : (v : ℤ) → AskIsLinked rules root strict (ask.End v)
  ends_linked v U t p b s tidy a ready w at = end_linked U t p b s (record s { due = due.Nothing }) ready w v at

  pub fails_linked : (f : Trouble) → AskIsLinked rules root strict (ask.Fail f)
  fails_linked f U t p b s tidy a ready w at =
      fault_linked U t p b s (record s { due = due.Nothing }) ready w (cause_of f) at
