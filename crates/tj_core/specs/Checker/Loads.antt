-- The loads of each task's last walk, which stay when the walk has ended.
use Rattle.std.specs.Prelude.{ℕ, suc}
use Rattle.tj_events.specs.declared.event.Event.{Event}
use Rattle.tj_events.specs.declared.event.Event.TheVariants.{Make, Fork, Hand, Close, Raise, Publish, LoadOthers}
use Rattle.tj_events.specs.declared.event.Event.TheVariants.{LoadCount, ReadOwner, ReadWait, ReadOwnerAgain, Alarm}
use Rattle.tj_events.specs.declared.event.Event.TheVariants.{Settle, Unwait, Lower}
use Rattle.tj_base.specs.Puts.{put}

-- the loads with one more of t
abbrev pub one_load : (ℕ → ℕ) → ℕ → ℕ → ℕ
one_load loads t = put loads t (suc (loads t))

-- the loads after an event: each read of an owner or of its wait is one, counted from the publish on
abbrev pub loads_after : (ℕ → ℕ) → Event → ℕ → ℕ
loads_after loads (Make t) = loads
loads_after loads (Fork t) = loads
loads_after loads (Hand t p c) = loads
loads_after loads (Close t p) = loads
loads_after loads (Raise t) = loads
loads_after loads (Publish t p) = put loads t.0 0
loads_after loads (LoadOthers t) = loads
loads_after loads (LoadCount t) = loads
loads_after loads (ReadOwner t) = one_load loads t.0
loads_after loads (ReadWait t) = one_load loads t.0
loads_after loads (ReadOwnerAgain t) = one_load loads t.0
loads_after loads (Alarm t) = loads
loads_after loads (Settle t) = loads
loads_after loads (Unwait t) = loads
loads_after loads Lower = loads
