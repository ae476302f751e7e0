-- How promises and places stand for channels: a channel is the row of the promises of its items, the unset ones are
-- owned by the holder of its end, and a list of values sent is the entries of the items in front.
use Rattle.std.proofs.Common.{◌≡◌, ◌⊎◌, ℕ, suc, ◌+◌, ◌<◌, Bool, true, false, List, [], ◌∷◌, ◌++◌, map, length}
use Rattle.std.proofs.Common.{Option, Some, None, inl, inr}
use Rattle.std.specs.Prelude.{cond, slice_get}
use Rattle.std.specs.List.{flat_map}
use Rattle.tj_base.specs.ForkOrder.{Name}
use Rattle.tj_body.specs.History.{to_promise}
use Rattle.tj_body.specs.Points.{IsIn}
use Rattle.tj_body.specs.declared.ask.Answer.{Answer}
use Rattle.tj_body.specs.declared.point.Reference.{Reference}
use Rattle.tj_body.specs.declared.point.Entry.{Entry}
use Rattle.tj_body.specs.declared.point.Entry.TheVariants as entry
use Rattle.tj_body.specs.declared.point.Value.TheVariants as value
use Rattle.tj_body.specs.declared.point.Close.TheVariants as close
use Rattle.tj_body.specs.declared.point.PointStage.TheVariants as stage
use Rattle.tj_body.specs.declared.point.Task.{Task}
use Rattle.tj_body.specs.declared.point.Point.{Point}
use Rattle.tj_body.proofs.Lists.{in_left, in_right, in_either}
use Rattle.tj_chan.specs.Channels.{ChatRules, Channel, SendingEnd, ChannelState, is_same, item, items_of, all_unsent}
use Rattle.tj_chan.specs.Channels.{ChatStage, answered, receives, ended, failed, ChatTask, ChatPoint, end_of, times}
use Rattle.tj_chan.specs.ChannelRounds.{leaves, has_ended}
use Rattle.tj_chan.specs.ChannelOutcomes.{owed_in, held_in}
use Rattle.tj_chan.specs.ChanBodies.{counted, turn_at, chat_turn}
use Rattle.tj_chan.specs.declared.rows.PromiseRow.{PromiseRow}
use Rattle.tj_chan.specs.declared.body.Due.TheVariants as due
use Rattle.tj_chan.specs.declared.body.ChanBody.{ChanBody}
use Rattle.tj_chan.proofs.Lists.Runs.{found_in, found_by, Found, to_come, cut_off, value_of}

-- the references to a channel's promises
abbrev pub references_of : Channel → List Reference
references_of c = map to_promise (items_of c)

-- where the channel stands first among these, and past the last where it isn't there
abbrev pub channel_place : Channel → List Channel → ℕ
channel_place c [] = 0
channel_place c (d ∷ ds) = cond (is_same c d) 0 (suc (channel_place c ds))

-- how many values are sent by the end, if there is one
abbrev pub sent_by : Option SendingEnd → ℕ
sent_by None = 0
sent_by (Some e) = length e.sent

-- whether there is an end
abbrev pub is_held : Option SendingEnd → Bool
is_held None = false
is_held (Some e) = true

-- the row of a channel with which a task begins that is passed it behind those that were seen
abbrev pub begin_row : (given : List SendingEnd) → (seen : List Channel) → (base : ℕ) → Channel → PromiseRow
begin_row given seen base c = record {
  first = channel_place c seen;
  base = base;
  items = c.items;
  sent = sent_by (end_of c given);
  asked = 0;
  holds = is_held (end_of c given);
}

-- the rows with which a task begins that is passed these channels, behind those that were seen
abbrev pub begin_rows : (given : List SendingEnd) → (seen : List Channel) → (base : ℕ) → List Channel → List PromiseRow
begin_rows given seen base [] = []
begin_rows given seen base (c ∷ cs) = begin_row given seen base c
    ∷ begin_rows given (seen ++ c ∷ []) (base + c.items) cs

module _ {C : Type 0} where
  -- the body with which a task begins
  abbrev pub body_of : ChatTask C → ChanBody C
  body_of t = record {
    chatter = t.chatter;
    rows = begin_rows t.given [] 1 t.passed;
    places = suc (length (flat_map references_of t.passed));
    due = due.Start;
  }

  -- a task over channels as a task of the runtime
  abbrev pub task_of : ChatTask C → Task (ChanBody C)
  task_of t = record {
    name = t.name;
    body = body_of t;
    passed = flat_map references_of t.passed;
    handed = all_unsent t.given;
  }

-- The row is that of the channel with this place: its promises stand in the list of references from `base` on, and
-- where the channel stands here first, the row tells of its end and of what was asked for.
pub record IsRowOf (channels : List Channel) (ends : List SendingEnd) (received : List Channel)
    (references : List Reference) (k : ℕ) (c : Channel) (r : PromiseRow) : Type 0 where
  pub first : r.first ≡ channel_place c channels
  pub items : r.items ≡ c.items
  pub base : (i : ℕ) → i < c.items → slice_get references (r.base + i) ≡ Some (to_promise (item c i))
  pub held : k ≡ r.first → r.holds ≡ is_held (end_of c ends)
  pub sent : k ≡ r.first → r.holds ≡ true → r.sent ≡ sent_by (end_of c ends)
  pub asked : k ≡ r.first → r.asked ≡ times c received

-- each channel has its row
pub record AreRowsOf (channels : List Channel) (ends : List SendingEnd) (received : List Channel)
    (references : List Reference) (rows : List PromiseRow) : Type 0 where
  pub count : length rows ≡ length channels
  pub each : (k : ℕ) (c : Channel) → slice_get channels k ≡ Some c
      → (r : PromiseRow) × (slice_get rows k ≡ Some r) × IsRowOf channels ends received references k c r
  pub known : (c : Channel) → IsIn c received → IsIn c channels

module _ {C : Type 0} where
  -- the body stands for what the point says of its chatter and its channels
  pub record IsBodyOf (p : ChatPoint C) (references : List Reference) (b : ChanBody C) : Type 0 where
    pub chatter : b.chatter ≡ p.chatter
    pub places : b.places ≡ length references
    pub rows : AreRowsOf p.channels p.ends p.received references b.rows

  -- the two points tell the same of their task's name, of what it made and of what it printed
  abbrev pub AreOfOneTask : ChatPoint C → Point (ChanBody C) → Type 0
  AreOfOneTask p b = (b.name ≡ p.name) × (b.made ≡ p.made) × (b.promises ≡ flat_map items_of p.opened)
      × (b.children ≡ map task_of p.children) × (b.prints ≡ p.prints)

  -- The body's task stands for the point, where its body may be that which it is settled to.
  pub record IsReadyFor (p : ChatPoint C) (b : Point (ChanBody C)) (settled : ChanBody C) : Type 0 where
    pub of_task : AreOfOneTask p b
    pub is_open : has_ended p.stage ≡ false
    pub body : IsBodyOf p b.references settled
    pub holds : b.holds ≡ all_unsent p.ends
    pub owed : b.owed ≡ []

  module _ (rules : ChatRules C) where
    -- The stage of the body's task is that of the point. Where the chatter is to be answered, the body comes to that
    -- with the answer which its task has: it is settled, with the channel in its rows that was opened last.
    abbrev pub IsStageOf : ChatPoint C → ChatStage → Point (ChanBody C) → Type 0
    IsStageOf p (answered a) b = (d : Answer) × (settled : ChanBody C) × (b.stage ≡ stage.Answered d)
        × (turn_at rules b.body.due d (counted d b.body) ≡ chat_turn rules a settled)
        × IsBodyOf p b.references settled
    IsStageOf p (receives c i) b = (b.stage ≡ stage.Waits (item c i) false) × (b.body.due ≡ due.Item)
        × IsBodyOf p b.references b.body
    IsStageOf p (ended v) b = b.stage ≡ stage.Closed (close.Done (value.Num v))
    IsStageOf p (failed f) b = b.stage ≡ stage.Closed (close.Failed f)

    -- the point of the body's task stands for that of the chatter's task
    pub record IsPointFor (p : ChatPoint C) (b : Point (ChanBody C)) : Type 0 where
      pub of_task : AreOfOneTask p b
      pub at_stage : IsStageOf p p.stage b
      pub holds : b.holds ≡ held_in p.stage p.ends
      pub owed : b.owed ≡ owed_in p.stage p.ends

-- the entry says what was found of an item
abbrev pub IsEntryFor : Found → Entry → Type 0
IsEntryFor to_come e = ⊥
IsEntryFor cut_off e = e ≡ entry.Broken
IsEntryFor (value_of v) e = e ≡ entry.Value (value.Num v)

-- the entry is that of an item of what is left of these channels
abbrev pub IsToldOf : List (Channel × ChannelState) → Name → Entry → Type 0
IsToldOf left q e = (w : Channel × ChannelState) × (i : ℕ) × IsIn w left × (i < w.0.items) × (q ≡ item w.0 i)
    × IsEntryFor (found_in w.1 i) e

-- the entry is a result under this name, or it is that of an item of what is left of channels
abbrev pub IsToldBy : Name → List (Channel × ChannelState) → Name → Entry → Type 0
IsToldBy name left q e = (q ≡ name) ⊎ IsToldOf left q e

-- so it is when some of what is left is told anew, and the rest stays
pub told_on : (name : Name) (rest old new : List (Channel × ChannelState)) (q : Name) (e : Entry)
    → (IsToldOf old q e → IsToldOf new q e) → IsToldBy name (rest ++ old) q e → IsToldBy name (rest ++ new) q e
told_on name rest old new q e on (inl h) = inl h
told_on name rest old new q e on (inr v) = by (in_either v.0 rest old v.2) where
  by : IsIn v.0 rest ⊎ IsIn v.0 old → IsToldBy name (rest ++ new) q e
  by (inl j) = inr (v.0, v.1, in_left v.0 rest new j, v.3, v.4, v.5)
  by (inr j) =
      let w = on (v.0, v.1, j, v.3, v.4, v.5) in inr (w.0, w.1, in_right w.0 rest new w.2, w.3, w.4, w.5)

-- What a task with this name has written is its result and what it leaves of channels, and what it leaves it has
-- written, or had it with an end that it was given.
pub record AreWritesFor (given : List SendingEnd) (name : Name) (left : List (Channel × ChannelState))
    (writes : List (Name × Entry)) : Type 0 where
  pub told : (q : Name) (e : Entry) → IsIn (q, e) writes → IsToldBy name left q e
  pub written : (w : Channel × ChannelState) (i : ℕ) (e : Entry) → IsIn w left → i < w.0.items
      → IsEntryFor (found_in w.1 i) e → IsIn (item w.0 i, e) writes
      ⊎ ((g : SendingEnd) × IsIn g given × (g.channel ≡ w.0) × IsEntryFor (found_by false (slice_get g.sent i)) e)
  pub plain : (q : Name) (r : Reference) → ¬ IsIn (q, entry.Value (value.Ref r)) writes

-- so it is of the task, at these points
abbrev pub IsWritten : {C : Type 0} → ChatTask C → ChatPoint C → Point (ChanBody C) → Type 0
IsWritten t p b = AreWritesFor t.given p.name (leaves p) b.writes
