-- How a chatter's task and its body's task go on beside each other, as statements: step by step, and so over histories.
use Rattle.std.proofs.Common.{◌≡◌, ℕ, suc, Bool, Some}
use Rattle.tj_base.specs.ForkOrder.{Name}
use Rattle.tj_body.specs.Programs.{Program}
use Rattle.tj_body.specs.History.{Assignment, history, after_ask}
use Rattle.tj_body.specs.Rounds.{given}
use Rattle.tj_body.specs.Points.{IsIn, IsPointOf, IsProper}
use Rattle.tj_body.specs.declared.point.Point.{Point}
use Rattle.tj_body.specs.declared.point.Reference.{Reference}
use Rattle.tj_body.specs.declared.point.Entry.TheVariants as entry
use Rattle.tj_body.specs.declared.point.Value.TheVariants as value
use Rattle.tj_chan.specs.Chats.{IsChatAsk}
use Rattle.tj_chan.specs.Channels.{ChatRules, Channel, ChatTask, ChatPoint, receives, after_chat_ask}
use Rattle.tj_chan.specs.declared.chat.ChatAsk.{ChatAsk}
use Rattle.tj_chan.specs.ChannelRounds.{root_chat}
use Rattle.tj_chan.specs.ChannelLaws.{bodies_of}
use Rattle.tj_chan.specs.ChanBodies.{root_body, ask_turn}
use Rattle.tj_chan.specs.declared.body.ChanBody.{ChanBody}
use Rattle.tj_chan.proofs.Lists.Runs.{finds_in, after_found, run_after, run_of, run_family, IsTidy, IsFit}
use Rattle.tj_chan.proofs.Linked.Links.{task_of, IsPointFor, IsReadyFor, IsWritten}

module _ {C : Type 0} (rules : ChatRules C) (root : C) (strict : Bool) where
  -- the program of the root's body
  abbrev pub program : Program (ChanBody C)
  program = bodies_of rules strict (root_body root)

  -- the assignment of round n
  abbrev pub V : ℕ → Assignment
  V n = given program n

  -- no cell of the assignment has a reference as its value
  abbrev pub HasNoReferences : Assignment → Type 0
  HasNoReferences U = (q : Name) (r : Reference) → ¬ (U q ≡ Some (entry.Value (value.Ref r)))

  -- the body's task has a point that stands for this one
  abbrev pub IsLinked : Assignment → ChatTask C → ChatPoint C → Type 0
  IsLinked U t p = (b : Point (ChanBody C)) × IsPointOf program.rules U (task_of t) b × IsPointFor rules p b
      × IsWritten t p b

  -- what the body makes of the chatter's ask comes to a point that stands for what the ask makes of the chatter's
  abbrev pub AskIsLinked : ChatAsk C → Type 0
  AskIsLinked x = (U : Assignment) (t : ChatTask C) (p : ChatPoint C) (b : Point (ChanBody C)) (s : ChanBody C)
      → IsTidy p → IsChatAsk rules.channels rules.awaits rules.left x → IsReadyFor p b s → IsWritten t p b
      → IsPointOf program.rules U (task_of t)
      (after_ask strict (ask_turn x s).ask (record b { body = (ask_turn x s).body }))
      → IsLinked U t (after_chat_ask x p)

  -- a value that the body's task waits for comes to it as the item comes to the chatter's
  abbrev pub AnswersAreLinked : Type 0
  AnswersAreLinked = (U : Assignment) (t : ChatTask C) (p : ChatPoint C) (c : Channel) (i : ℕ) → HasNoReferences U
      → p.stage ≡ receives c i → IsLinked U t p → IsLinked U t (after_found c i (finds_in U c i) p)

  -- each point of a run of a fit task has a point of the body's task that stands for it
  abbrev pub RunsAreLinked : Type 0
  RunsAreLinked = (U : Assignment) (k : ℕ) (t : ChatTask C) → HasNoReferences U → IsFit rules t
      → IsLinked U t (run_after rules (finds_in U) k t)

  -- the history of the body's task stands for the whole run
  abbrev pub HistoriesAreLinked : Type 0
  HistoriesAreLinked = (U : Assignment) (t : ChatTask C) → HasNoReferences U → IsFit rules t
      → IsProper program.rules (task_of t)
      → IsPointFor rules (run_of rules (finds_in U) t) (history program.rules U (task_of t))
      × IsWritten t (run_of rules (finds_in U) t) (history program.rules U (task_of t))

  -- the channel is opened by a task of the runs over the assignment of round m
  abbrev pub IsOpenedIn : ℕ → Channel → Type 0
  IsOpenedIn m c = (t : ChatTask C) × IsIn t (run_family rules (finds_in (V m)) (suc m) (root_chat root))
      × IsIn c (run_of rules (finds_in (V m)) t).opened
