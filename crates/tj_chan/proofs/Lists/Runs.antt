-- Histories over what is found of an item: what a task's history needs of lists is, for the items that it asks for,
-- whether they are sent, cut off or to come. So a history over lists and one over an assignment are of one kind.
use Rattle.std.proofs.Common.{◌≡◌, ◌⊎◌, ℕ, zero, suc, ◌+◌, ◌*◌, ◌<◌, ◌≤◌, Bool, true, false, List, [], ◌∷◌}
use Rattle.std.proofs.Common.{length, Option, Some, None}
use Rattle.std.specs.Prelude.{ℤ, slice_get}
use Rattle.std.specs.List.{flat_map}
use Rattle.tj_base.specs.ForkOrder.{Name}
use Rattle.tj_base.specs.declared.cause.Cause.TheVariants as cause
use Rattle.tj_body.specs.History.{Assignment}
use Rattle.tj_body.specs.Points.{IsIn}
use Rattle.tj_body.specs.Steps.{after_steps}
use Rattle.tj_body.specs.declared.point.Entry.{Entry}
use Rattle.tj_body.specs.declared.point.Entry.TheVariants as entry
use Rattle.tj_body.specs.declared.point.Value.TheVariants as value
use Rattle.tj_chan.specs.Chats.{most_channels, IsFreshChat}
use Rattle.tj_chan.specs.Channels.{ChatRules, Channel, SendingEnd, ChannelState, Lists, item, is_same}
use Rattle.tj_chan.specs.Channels.{ChatStage, answered, receives, ended, failed, ChatTask, ChatPoint, chat_start}
use Rattle.tj_chan.specs.Channels.{with_answer, after_fault, after_chat_ask}
use Rattle.tj_chan.specs.declared.chat.ChatAnswer.TheVariants as answer

-- what is found of an item
pub data Found : Type 0 where
  to_come : Found
  cut_off : Found
  value_of : ℤ → Found

-- what is found of each item of each channel
abbrev pub Finds : Type 0
Finds = Channel → ℕ → Found

-- what a list without the item tells, and one with it
abbrev pub found_by : (is_cut : Bool) → Option ℤ → Found
found_by is_cut (Some v) = value_of v
found_by true None = cut_off
found_by false None = to_come

-- what the state of a channel tells of its item i
abbrev pub found_in : ChannelState → ℕ → Found
found_in s i = found_by s.is_cut (slice_get s.sent i)

-- what lists tell
abbrev pub finds_of : Lists → Finds
finds_of L c i = found_in (L c) i

-- what an entry tells; no item becomes a reference
abbrev pub found_entry : Option Entry → Found
found_entry None = to_come
found_entry (Some entry.Broken) = cut_off
found_entry (Some (entry.Value (value.Num v))) = value_of v
found_entry (Some (entry.Value (value.Ref r))) = to_come

-- what an assignment tells
abbrev pub finds_in : Assignment → Finds
finds_in V c i = found_entry (V (item c i))

module _ {C : Type 0} where
  -- what was found is the answer, or fails the task, or it waits on
  abbrev pub after_found : Channel → ℕ → Found → ChatPoint C → ChatPoint C
  after_found c i to_come p = p
  after_found c i cut_off p = after_fault (cause.Broken (item c i)) p
  after_found c i (value_of v) p = with_answer (answer.Num v) p

  module _ (rules : ChatRules C) where
    -- one step from this stage
    abbrev pub run_stage : Finds → ChatStage → ChatPoint C → ChatPoint C
    run_stage F (answered a) p =
        after_chat_ask (rules.asks p.chatter a) (record p { chatter = rules.then p.chatter a })
    run_stage F (receives c i) p = after_found c i (F c i) p
    run_stage F (ended v) p = p
    run_stage F (failed f) p = p

    -- the point after k steps
    abbrev pub run_after : Finds → ℕ → ChatTask C → ChatPoint C
    run_after F k t = after_steps (λ p. run_stage F p.stage p) k (chat_start t)

    -- the point at which the task stops
    abbrev pub run_of : Finds → ChatTask C → ChatPoint C
    run_of F t = run_after F (2 * suc (rules.left t.chatter)) t

    -- the task and those that come from it by at most d spawns after one another
    abbrev pub run_family : Finds → ℕ → ChatTask C → List (ChatTask C)
    run_family F zero t = t ∷ []
    run_family F (suc d) t = t ∷ flat_map (run_family F d) (run_of F t).children

-- G has what F has
abbrev pub IsFoundIn : Finds → Finds → Type 0
IsFoundIn F G = (c : Channel) (i : ℕ) → (F c i ≡ to_come) ⊎ (G c i ≡ F c i)

-- F and G are one on the items of this channel
abbrev pub AreOneOn : Finds → Finds → Channel → Type 0
AreOneOn F G c = (i : ℕ) → i < c.items → F c i ≡ G c i

-- no item of one channel is one of the other
abbrev pub AreApart : Channel → Channel → Type 0
AreApart c d = (i j : ℕ) → i < c.items → j < d.items → ¬ (item c i ≡ item d j)

-- two channels are one, or are told apart and have no item in common
abbrev pub AreOneOrApart : Channel → Channel → Type 0
AreOneOrApart c d = (c ≡ d) ⊎ ((is_same c d ≡ false) × AreApart c d)

-- no two of the ends are those of one channel
abbrev pub AreEndsOnce : List SendingEnd → Type 0
AreEndsOnce [] = Unit {0}
AreEndsOnce (e ∷ es) = ((f : SendingEnd) → IsIn f es → is_same e.channel f.channel ≡ false) × AreEndsOnce es

-- What holds at each point of a task with this name, whatever is found: its channels were opened by those above it or
-- by itself and have items, two of them are one or apart, and it holds ends of its channels, none twice.
pub record AreTidy (name : Name) (channels : List Channel) (ends : List SendingEnd) (made : ℕ) (opened : List Channel)
    : Type 0 where
  pub scoped : (c : Channel) → IsIn c channels
      → (length c.opener < length name) ⊎ ((c.opener ≡ name) × (c.made_before + c.items ≤ made))
  pub some : (c : Channel) → IsIn c channels → 0 < c.items
  pub apart : (c d : Channel) → IsIn c channels → IsIn d channels → AreOneOrApart c d
  pub holds : (e : SendingEnd) → IsIn e ends → IsIn e.channel channels
  pub once : AreEndsOnce ends
  pub opened_by : (c : Channel) → IsIn c opened → IsIn c channels × (c.opener ≡ name)

-- the point is so
abbrev pub IsTidy : {C : Type 0} → ChatPoint C → Type 0
IsTidy p = AreTidy p.name p.channels p.ends p.made p.opened

-- A task is fit for a run: its chatter has asked nothing and has its channels, which are few, and its start is tidy.
-- The root is, and so is each child that a lawful chatter spawns.
pub record IsFit {C : Type 0} (rules : ChatRules C) (t : ChatTask C) : Type 0 where
  pub fresh : IsFreshChat rules.channels rules.awaits rules.left (length t.passed) t.chatter
  pub few : length t.passed ≤ most_channels
  pub tidy : IsTidy (chat_start t)
