-- Each allowed event keeps the facts.
use Rattle.std.proofs.Common.{ℕ}
use Rattle.tj_events.specs.declared.event.Event.{Event}
use Rattle.tj_events.specs.declared.event.Event.TheVariants.{Make, Fork, Hand, Close, Raise, Publish, LoadOthers}
use Rattle.tj_events.specs.declared.event.Event.TheVariants.{LoadCount, ReadOwner, ReadWait, ReadOwnerAgain, Alarm}
use Rattle.tj_events.specs.declared.event.Event.TheVariants.{Settle, Unwait, Lower}
use Rattle.tj_events.specs.CoreState.{CoreState}
use Rattle.tj_events.specs.Events.{Allowed, after}
use Rattle.tj_events.specs.CoreFacts.{CoreFacts}
use Rattle.tj_events.specs.Laws.{EventKeepsFacts}
use Rattle.tj_events.proofs.Graph.Watches.{IsKept}
use Rattle.tj_events.proofs.Events.RunEvents.{keeps_make, keeps_fork, keeps_hand, keeps_close, keeps_raise}
use Rattle.tj_events.proofs.Events.WaitEnds.{keeps_unwait, keeps_lower}
use Rattle.tj_events.proofs.Events.PublishEvent.{keeps_publish}
use Rattle.tj_events.proofs.Events.WalkReads.{keeps_load_others, keeps_load_count, keeps_read_owner, keeps_read_wait}
use Rattle.tj_events.proofs.Events.WalkReads.{keeps_read_again}
use Rattle.tj_events.proofs.Events.WalkEnds.{keeps_alarm, keeps_settle}

-- after an allowed event the facts hold, and what goes on went on
pub kept_by_event : (N : ℕ) (s : CoreState) (e : Event) → CoreFacts s → Allowed N s e → IsKept s (after s e)
kept_by_event N s (Make t) x a = keeps_make s x t a.0
kept_by_event N s (Fork t) x a = keeps_fork s x t a.0
kept_by_event N s (Hand t p c) x a = keeps_hand s x t a.0 N p c a
kept_by_event N s (Close t p) x a = keeps_close s x t a.0 N p a
kept_by_event N s (Raise t) x a = keeps_raise s x t a
kept_by_event N s (Publish t p) x a = keeps_publish s x t p N a
kept_by_event N s (LoadOthers t) x a = keeps_load_others s x t N a
kept_by_event N s (LoadCount t) x a = keeps_load_count s x t N a
kept_by_event N s (ReadOwner t) x a = keeps_read_owner s x t N a
kept_by_event N s (ReadWait t) x a = keeps_read_wait s x t N a
kept_by_event N s (ReadOwnerAgain t) x a = keeps_read_again s x t N a
kept_by_event N s (Alarm t) x a = keeps_alarm s x t N a
kept_by_event N s (Settle t) x a = keeps_settle s x t N a
kept_by_event N s (Unwait t) x a = keeps_unwait s x N t a
kept_by_event N s Lower x a = keeps_lower s x a

-- one allowed event keeps the facts
pub facts_after_event : EventKeepsFacts
facts_after_event N s e x a = (kept_by_event N s e x a).0
