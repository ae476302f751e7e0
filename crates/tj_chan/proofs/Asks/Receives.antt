-- A receive is a Get of the item's promise, and what becomes of the promise is the chatter's answer.
use Rattle.std.proofs.Common.{◌≡◌, ℕ, suc, ◌+◌, Bool, true, false, cond, nat_lt, ⊎_elim, List, [], ◌∷◌, ◌++◌, Option}
use Rattle.std.proofs.Common.{Some, None, refl, sym, ap, ◌∙◌, subst, arith, ltb-true}
use Rattle.std.specs.Prelude.{slice_get}
use Rattle.tj_base.specs.declared.cause.Cause.TheVariants as cause
use Rattle.tj_body.specs.Programs.{Program}
use Rattle.tj_body.specs.History.{after_ask, after_get, with_wait, reference_at, to_promise}
use Rattle.tj_body.specs.History as history
use Rattle.tj_body.specs.Points.{IsIn, IsPointOf}
use Rattle.tj_body.specs.declared.ask.Answer.TheVariants as told
use Rattle.tj_body.specs.declared.point.Entry.{Entry}
use Rattle.tj_body.specs.declared.point.Entry.TheVariants as entry
use Rattle.tj_body.specs.declared.point.Reference.{Reference}
use Rattle.tj_body.specs.declared.point.Value.TheVariants as value
use Rattle.tj_body.specs.declared.point.Point.{Point}
use Rattle.tj_body.proofs.Histories.Points.{reads_on}
use Rattle.tj_chan.specs.Channels.{ChatRules, Channel, is_same, item, times, receives, after_receive, after_fault}
use Rattle.tj_chan.specs.ChannelRounds.{has_ended}
use Rattle.tj_chan.specs.ChannelOutcomes.{held_in, owed_in}
use Rattle.tj_chan.specs.ChanBodies.{Turn, turn_at, receive_turn, changed, counted, turn, fault}
use Rattle.tj_chan.specs.declared.chat.ChatAsk.TheVariants as ask
use Rattle.tj_chan.specs.declared.rows.PromiseRow.{PromiseRow}
use Rattle.tj_chan.specs.declared.body.Due.TheVariants as due
use Rattle.tj_chan.specs.declared.body.ChanBody.{ChanBody}
use Rattle.tj_body.specs.declared.ask.Ask.TheVariants as asked
use Rattle.tj_chan.proofs.Lists.Runs.{found_entry, after_found}
use Rattle.tj_chan.proofs.Linked.Links.{AreRowsOf, IsStageOf, task_of, IsReadyFor, IsPointFor}
use Rattle.tj_chan.proofs.Linked.Steps.{program, IsLinked, AskIsLinked, AnswersAreLinked}
use Rattle.tj_chan.proofs.Lists.Apart.{is_same_self, same_turned}
use Rattle.tj_chan.proofs.Lists.Kept.{in_last}
use Rattle.tj_chan.proofs.Linked.Rows.{FoundRow, row_found, row_missing}
use Rattle.tj_chan.proofs.Linked.RowsWith.{item_reference, rows_with}
use Rattle.tj_chan.proofs.Asks.Faults.{fault_linked, left_open}

-- a channel stands once more in a list that it is put behind
pub times_more : (c : Channel) (ds : List Channel) → times c (ds ++ c ∷ []) ≡ suc (times c ds)
times_more c [] = ap (λ b. cond b 1 0) (is_same_self c)
times_more c (d ∷ ds) =
    ap (λ z. cond (is_same c d) (suc z) z) (times_more c ds) ∙ out (is_same c d) (times c ds) where
      out : (b : Bool) (n : ℕ) → cond b (suc (suc n)) (suc n) ≡ suc (cond b (suc n) n)
      out true n = refl
      out false n = refl

-- and another as often as before
pub times_other : (c d : Channel) (ds : List Channel) → is_same d c ≡ false → times d (ds ++ c ∷ []) ≡ times d ds
times_other c d [] h = ap (λ b. cond b 1 0) h
times_other c d (e ∷ es) h = ap (λ z. cond (is_same d e) (suc z) z) (times_other c d es h)

module _ {C : Type 0} (rules : ChatRules C) (root : C) (strict : Bool) where
  abbrev P : Program (ChanBody C)
  P = program rules root strict

  -- a receive
  pub receives_linked : (n : ℕ) → AskIsLinked rules root strict (ask.Recv n)
  receives_linked n U t p b s y allowed ready w at = by (slice_get p.channels n) refl where
    IsAt : Point (ChanBody C) → Type 0
    IsAt q = IsPointOf P.rules U (task_of t) q

    after : Turn C → Point (ChanBody C)
    after u = after_ask strict u.ask (record b { body = u.body })

    by : (o : Option Channel) → slice_get p.channels n ≡ o → IsLinked rules root strict U t (after_receive o p)
    by None h = fault_linked rules root strict U t p b s (record s { due = due.Nothing }) ready w cause.Kind
        (subst (λ x. IsAt (after (receive_turn x s)))
        (row_missing p.channels p.received b.references y.apart p.ends s.rows ready.body.rows n h) at)
    by (Some c) h = test (nat_lt (times c p.received) c.items) refl where
      x : FoundRow p.channels p.ends p.received b.references s.rows n c
      x = row_found p.channels p.received b.references y.apart p.ends s.rows ready.body.rows n c h

      r : PromiseRow
      r = x.row

      asked_so : r.asked ≡ times c p.received
      asked_so = x.is_first.is_row.asked refl

      more : PromiseRow
      more = record r { asked = suc r.asked }

      next : ChanBody C
      next = record (changed more s) { due = due.Item }

      turned : Bool → Turn C
      turned z = cond z (turn (asked.Get (r.base + r.asked)) due.Item (changed more s)) (fault s)

      there : (z : Bool) → nat_lt (times c p.received) c.items ≡ z → IsAt (after (turned z))
      there z e = subst (λ k. IsAt (after (turned k))) ((λ i. nat_lt (asked_so i) (x.is_first.is_row.items i)) ∙ e)
          (subst (λ k. IsAt (after (receive_turn k s))) x.at at)

      reference_is : reference_at b.name b.references (r.base + r.asked) ≡ to_promise (item c (times c p.received))
          → IsAt (after (turned true))
          → IsAt (with_wait false (item c (times c p.received)) (record b { body = next }))
      reference_is e g = subst (λ (z : Reference). IsAt (after_get false z.sort z.name (record b { body = next }))) e g

      rows : AreRowsOf p.channels p.ends (p.received ++ c ∷ []) b.references next.rows
      rows = rows_with p.channels p.received b.references y.apart p.ends s.rows ready.body.rows c x.here r more
          x.is_first refl p.ends (p.received ++ c ∷ []) (λ d e. refl)
          (λ d e. times_other c d p.received (same_turned c d e))
          (λ d i. ⊎_elim (λ j. ready.body.rows.known d j) (λ e. subst (λ z. IsIn z p.channels) (sym e) x.here)
          (in_last d c p.received i)) (record {
            first = x.is_first.is_row.first;
            items = x.is_first.is_row.items;
            base = x.is_first.is_row.base;
            held = λ e. x.is_first.is_row.held refl;
            sent = λ e. x.is_first.is_row.sent refl;
            asked = λ e. ap suc asked_so ∙ sym (times_more c p.received);
          })

      test : (z : Bool) → nat_lt (times c p.received) c.items ≡ z
          → IsLinked rules root strict U t (cond z
          (record p { stage = receives c (times c p.received); received = p.received ++ c ∷ [] })
          (after_fault cause.Kind p))
      test false e = fault_linked rules root strict U t p b s (record s { due = due.Nothing }) ready w cause.Kind
          (there false e)
      test true e = (
        with_wait false (item c (times c p.received)) (record b { body = next }),
        reference_is (ap (λ k. reference_at b.name b.references (r.base + k)) asked_so
            ∙ item_reference p.channels p.received b.references y.apart p.ends s.rows ready.body.rows b.name c r
            x.is_first (times c p.received) (ltb-true (times c p.received) c.items e)) (there true e),
        record {
          of_task = ready.of_task;
          at_stage = (refl, refl, record { chatter = ready.body.chatter; places = ready.body.places; rows = rows });
          holds = ready.holds;
          owed = ready.owed;
        },
        left_open rules root strict t p b ready.is_open w,
      )

  -- what becomes of an item that is waited for
  pub answers_linked : AnswersAreLinked rules root strict
  answers_linked U t p c i none e l = by (U (item c i)) refl where
    IsAt : Point (ChanBody C) → Type 0
    IsAt q = IsPointOf P.rules U (task_of t) q

    b : Point (ChanBody C)
    b = l.0

    f : IsPointFor rules p b
    f = l.2

    at_stage : IsStageOf rules p (receives c i) b
    at_stage = subst (λ z. IsStageOf rules p z b) e f.at_stage

    holds : b.holds ≡ held_in (receives c i) p.ends
    holds = f.holds ∙ ap (λ z. held_in z p.ends) e

    owed : b.owed ≡ []
    owed = f.owed ∙ ap (λ z. owed_in z p.ends) e

    ready : IsReadyFor p b b.body
    ready = record {
      of_task = f.of_task;
      is_open = ap has_ended e;
      body = at_stage.2;
      holds = holds;
      owed = owed;
    }

    by : (o : Option Entry) → U (item c i) ≡ o
        → IsLinked rules root strict U t (after_found c i (found_entry o) p)
    by None g = l
    by (Some entry.Broken) g = fault_linked rules root strict U t p b b.body b.body ready l.3 (cause.Broken (item c i))
        (reads_on P.rules U (task_of t) b (item c i) false entry.Broken l.1 at_stage.0 g)
    by (Some (entry.Value (value.Ref r))) g = absurd (none (item c i) r g)
    by (Some (entry.Value (value.Num v))) g = (
      history.with_answer (told.Num v) b,
      reads_on P.rules U (task_of t) b (item c i) false (entry.Value (value.Num v)) l.1 at_stage.0 g,
      record {
        of_task = f.of_task;
        at_stage = (
          told.Num v,
          counted (told.Num v) b.body,
          refl,
          ap (λ d. turn_at rules d (told.Num v) (counted (told.Num v) b.body)) at_stage.1,
          record {
            chatter = ready.body.chatter;
            places = let z = ready.body.places in omega arith;
            rows = ready.body.rows;
          },
        );
        holds = holds;
        owed = owed;
      },
      left_open rules root strict t p b ready.is_open l.3,
    )
