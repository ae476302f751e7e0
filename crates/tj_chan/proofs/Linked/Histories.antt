-- Runs are linked, step by step, where asks and answers are; and so are histories.
use Rattle.std.proofs.Common.{◌≡◌, ℕ, zero, suc, ◌*◌, Bool, false, inl, inr}
use Rattle.std.proofs.Common.{Option, Some, None, refl, sym, ap, ◌∙◌, subst, arith}
use Rattle.tj_base.specs.ForkOrder.{Name}
use Rattle.tj_body.specs.Programs.{Program, AreLawful}
use Rattle.tj_body.specs.History.{Assignment, start, after_ask}
use Rattle.tj_body.specs.Points.{IsPointOf, HasStopped}
use Rattle.tj_body.specs.declared.ask.Answer.TheVariants as told
use Rattle.tj_body.specs.declared.point.Entry.{Entry}
use Rattle.tj_body.specs.declared.point.Entry.TheVariants as entry
use Rattle.tj_body.specs.declared.point.Value.TheVariants as value
use Rattle.tj_body.specs.declared.point.Point.{Point}
use Rattle.tj_body.proofs.Lists.{in_map}
use Rattle.tj_body.proofs.Histories.Points.{asks_on, whole}
use Rattle.tj_chan.specs.Chats.{IsNextChat}
use Rattle.tj_chan.specs.Channels.{ChatRules, Channel, ChannelState, ChatStage, answered, receives}
use Rattle.tj_chan.specs.Channels.{ChatTask, ChatPoint, chat_start, item}
use Rattle.tj_chan.specs.ChannelRounds.{left_of, has_ended}
use Rattle.tj_chan.specs.ChannelOutcomes.{held_in, owed_in}
use Rattle.tj_chan.specs.ChannelLaws.{AreLawfulChats}
use Rattle.tj_chan.specs.ChanBodies.{Turn, ask_turn, turn_at, counted}
use Rattle.tj_chan.specs.declared.chat.ChatAsk.{ChatAsk}
use Rattle.tj_chan.specs.declared.body.ChanBody.{ChanBody}
use Rattle.tj_chan.proofs.Lists.Runs.{to_come, cut_off, value_of, finds_in, found_entry, found_in}
use Rattle.tj_chan.proofs.Lists.Runs.{run_stage, run_after, run_of, IsFit}
use Rattle.tj_chan.proofs.Linked.Links.{task_of, IsStageOf, IsPointFor, IsReadyFor, IsEntryFor, IsWritten}
use Rattle.tj_chan.proofs.Linked.Steps.{program, HasNoReferences, IsLinked, AskIsLinked, AnswersAreLinked}
use Rattle.tj_chan.proofs.Linked.Steps.{RunsAreLinked, HistoriesAreLinked}
use Rattle.tj_chan.proofs.Lists.Kept.{IsAliveAt, IsSound, run_sound}
use Rattle.tj_chan.proofs.Lists.Grows.{HasHalted, run_halts}
use Rattle.tj_chan.proofs.Linked.Begins.{begin_are}

module _ {C : Type 0} (rules : ChatRules C) (root : C) (strict : Bool) where
  abbrev P : Program (ChanBody C)
  P = program rules root strict

  -- a task's start
  starts_linked : (U : Assignment) (t : ChatTask C) → IsLinked rules root strict U t (chat_start t)
  starts_linked U t = (
    start (task_of t),
    (0, refl),
    record {
      of_task = (refl, refl, refl, refl, refl);
      at_stage = (
        told.Start,
        counted told.Start (task_of t).body,
        refl,
        refl,
        record { chatter = refl; places = omega arith; rows = begin_are t.name t.given t.passed },
      );
      holds = refl;
      owed = refl;
    },
    record {
      told = λ q e i. absurd i;
      written = λ w i e j l f. let m = in_map (left_of false) w t.given j in
          inr (
            m.0,
            m.1,
            ap (λ (x : Channel × ChannelState). x.0) (sym m.2),
            subst (λ (x : Channel × ChannelState). IsEntryFor (found_in x.1 i) e) m.2 f,
          );
      plain = λ q r i. i;
    },
  )

  module _ (lawful : AreLawfulChats rules) (asks : (x : ChatAsk C) → AskIsLinked rules root strict x)
      (answers : AnswersAreLinked rules root strict) where
    step_linked : (U : Assignment) → HasNoReferences rules root strict U → (t : ChatTask C) → IsFit rules t → (k : ℕ)
        → (st : ChatStage) → (run_after rules (finds_in U) k t).stage ≡ st
        → IsLinked rules root strict U t (run_after rules (finds_in U) k t)
        → IsLinked rules root strict U t (run_stage rules (finds_in U) st (run_after rules (finds_in U) k t))
    step_linked U h t f k (answered a) e l =
        asks (rules.asks p.chatter a) U t q b next (s.0.tidy) n.placed ready l.3 at where
          p : ChatPoint C
          p = run_after rules (finds_in U) k t

          s : IsSound rules t p
          s = run_sound rules lawful (finds_in U) k t f

          b : Point (ChanBody C)
          b = l.0

          alive : IsAliveAt rules (answered a) p
          alive = subst (λ z. IsAliveAt rules z p) e s.1

          n : IsNextChat rules.channels rules.awaits rules.left rules.asks rules.then p.chatter a
          n = lawful p.chatter a alive.0

          q : ChatPoint C
          q = record p { chatter = rules.then p.chatter a }

          stage : IsStageOf rules p (answered a) b
          stage = subst (λ z. IsStageOf rules p z b) e l.2.at_stage

          settled : ChanBody C
          settled = stage.1

          next : ChanBody C
          next = record settled { chatter = rules.then p.chatter a }

          ready : IsReadyFor q b next
          ready = record {
            of_task = l.2.of_task;
            is_open = ap has_ended e;
            body = record { chatter = refl; places = stage.4.places; rows = stage.4.rows };
            holds = l.2.holds ∙ ap (λ z. held_in z p.ends) e;
            owed = l.2.owed ∙ ap (λ z. owed_in z p.ends) e;
          }

          turns : turn_at rules b.body.due stage.0 (counted stage.0 b.body) ≡ ask_turn (rules.asks p.chatter a) next
          turns = stage.3 ∙ (λ i. ask_turn (rules.asks (stage.4.chatter i) a)
              (record settled { chatter = rules.then (stage.4.chatter i) a }))

          at : IsPointOf P.rules U (task_of t) (after_ask strict (ask_turn (rules.asks p.chatter a) next).ask
              (record b { body = (ask_turn (rules.asks p.chatter a) next).body }))
          at = subst
              (λ (u : Turn C). IsPointOf P.rules U (task_of t) (after_ask strict u.ask (record b { body = u.body })))
              turns (asks_on P.rules U (task_of t) b stage.0 l.1 stage.2)
    step_linked U h t f k (receives c i) e l = answers U t (run_after rules (finds_in U) k t) c i h e l
    step_linked U h t f k st e l = l

    pub runs_linked : RunsAreLinked rules root strict
    runs_linked U zero t h f = starts_linked U t
    runs_linked U (suc k) t h f =
        step_linked U h t f k (run_after rules (finds_in U) k t).stage refl (runs_linked U k t h f)

    -- nothing is found where there is no entry
    no_entry : (U : Assignment) → HasNoReferences rules root strict U → (q : Name) → found_entry (U q) ≡ to_come
        → U q ≡ None
    no_entry U h q e = by (U q) refl where
      by : (o : Option Entry) → U q ≡ o → U q ≡ None
      by None g = g
      by (Some entry.Broken) g = let z : cut_off ≡ to_come = ap found_entry (sym g) ∙ e in cc
      by (Some (entry.Value (value.Num v))) g = let z : value_of v ≡ to_come = ap found_entry (sym g) ∙ e in cc
      by (Some (entry.Value (value.Ref r))) g = absurd (h q r g)

    halted : (U : Assignment) → HasNoReferences rules root strict U → (p : ChatPoint C) (b : Point (ChanBody C))
        → (st : ChatStage) → HasHalted (finds_in U) st → IsStageOf rules p st b → HasStopped U b
    halted U h p b (answered a) g s = absurd g
    halted U h p b (receives c i) g s = inr (item c i, false, s.0, no_entry U h (item c i) g)
    halted U h p b st g s = inl (_, s)

    module _ (obeys : AreLawful P.rules) where
      pub histories_linked : HistoriesAreLinked rules root strict
      histories_linked U t h f pr =
          let k = 2 * suc (rules.left t.chatter) in
          let p = run_of rules (finds_in U) t in
          let l = runs_linked U k t h f in
          let s = halted U h p l.0 p.stage (run_halts rules lawful (finds_in U) t f) l.2.at_stage in
          let e = whole P.rules obeys U (task_of t) pr l.0 l.1 s in
          (subst (IsPointFor rules p) e l.2, subst (IsWritten t p) e l.3)
