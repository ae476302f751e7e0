-- Channels are lists: a program of chatters, each made a body, means what channels as lists say.
use Rattle.std.proofs.Common.{Bool}
use Rattle.tj_body.specs.Asks as asks
use Rattle.tj_body.specs.declared.ask.Answer.{Answer}
use Rattle.tj_chan.specs.Channels.{ChatRules}
use Rattle.tj_chan.specs.ChannelLaws.{AreLawfulChats, ChannelsAreLists}
use Rattle.tj_chan.specs.ChanBodies.{chan_places, chan_awaits, chan_left, chan_asks, chan_then}
use Rattle.tj_chan.specs.declared.body.ChanBody.{ChanBody}
use Rattle.tj_chan.specs.declared.chat.ChatAsk.{ChatAsk}
use Rattle.tj_chan.specs.declared.chat.ChatAsk.TheVariants as ask
use Rattle.tj_chan.proofs.Linked.Steps.{AskIsLinked}
use Rattle.tj_chan.proofs.Linked.Histories.{histories_linked}
use Rattle.tj_chan.proofs.Linked.Meaning.{is_meant}
use Rattle.tj_chan.proofs.Asks.Faults.{emits_linked, ends_linked, fails_linked}
use Rattle.tj_chan.proofs.Asks.Opens.{opens_linked}
use Rattle.tj_chan.proofs.Asks.Receives.{receives_linked, answers_linked}
use Rattle.tj_chan.proofs.Asks.Sends.{sends_linked}
use Rattle.tj_chan.proofs.Asks.Spawns.{spawns_linked}

module _ {C : Type 0} (rules : ChatRules C) where
  -- each ask is linked
  pub asks_linked : (root : C) (strict : Bool) (x : ChatAsk C) → AskIsLinked rules root strict x
  asks_linked root strict (ask.Open k) = opens_linked rules root strict k
  asks_linked root strict (ask.Send c v) = sends_linked rules root strict c v
  asks_linked root strict (ask.Recv c) = receives_linked rules root strict c
  asks_linked root strict (ask.Spawn c pass give) = spawns_linked rules root strict c pass give
  asks_linked root strict (ask.Emit i) = emits_linked rules root strict i
  asks_linked root strict (ask.End v) = ends_linked rules root strict v
  asks_linked root strict (ask.Fail f) = fails_linked rules root strict f

  -- so rounds over bodies are rounds over lists, and mean what they mean
  pub lists_are_meant : AreLawfulChats rules
      → ((b : ChanBody C) (a : Answer)
      → asks.Obeys chan_places (chan_awaits rules) (chan_left rules) (chan_asks rules) (chan_then rules) b a)
      → ChannelsAreLists rules
  lists_are_meant lawful obeys root fresh strict N =
      is_meant rules lawful root strict fresh obeys
      (histories_linked rules root strict lawful (asks_linked root strict) (answers_linked rules root strict) obeys) N
