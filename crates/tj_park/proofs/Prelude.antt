-- The names that most proofs of this crate cite, passed on from one place. Declares nothing.
pub use Rattle.atomic_table.specs.Table.{rest}
pub use Rattle.std.proofs.Common.{Bool, Err, IfErr, IfOk, IfSome, List, None, Ok, OnOk, Option, Result, Some, [], ap}
pub use Rattle.std.proofs.Common.{arith, cond, drop, eq-eqb, false, get_or, inl, inr, length, map, nat_eq, ne_eqb, pos}
pub use Rattle.std.proofs.Common.{refl, subst, suc, sym, take, true, ℕ, ⊎_elim, ◌*◌, ◌++◌, ◌+◌, ◌-◌, ◌<◌, ◌∙◌, ◌∷◌, ◌≡◌}
pub use Rattle.std.proofs.Common.{◌≢◌, ◌≤◌, ◌⊎◌}
pub use Rattle.tj_base.specs.ForkOrder.{Name, child}
pub use Rattle.tj_base.specs.declared.cell.CellId.{CellId}
pub use Rattle.tj_body.proofs.Lists.{begins_self, in_either, in_left, in_right}
pub use Rattle.tj_body.specs.History.{to_promise, to_task}
pub use Rattle.tj_body.specs.NameLaws.{OrderedHasSame}
pub use Rattle.tj_body.specs.Names.{in_order}
pub use Rattle.tj_body.specs.Points.{Begins, IsIn}
pub use Rattle.tj_body.specs.Programs.{Program, program_of}
pub use Rattle.tj_body.specs.RoundPoints.{Becomes, WritesBecome}
pub use Rattle.tj_body.specs.declared.ask.Answer.{Answer}
pub use Rattle.tj_body.specs.declared.point.Close.{Close}
pub use Rattle.tj_body.specs.declared.point.Entry.{Entry}
pub use Rattle.tj_body.specs.declared.point.Point.{Point}
pub use Rattle.tj_body.specs.declared.point.Reference.{Reference}
pub use Rattle.tj_cells.proofs.SameViews.{more_in_front, more_same}
pub use Rattle.tj_cells.specs.FilledCells.{MayFill, MayGiveUp, WillBecome, became}
pub use Rattle.tj_cells.specs.MadeCells.{IsMade, makes_promise}
pub use Rattle.tj_events.specs.Events.{raised_by_way}
pub use Rattle.tj_events.specs.declared.walk.Way.{Way}
pub use Rattle.tj_park.specs.ChildViews.{Claimed}
pub use Rattle.tj_park.specs.Endings.{MayFinish, result_of}
pub use Rattle.tj_park.specs.Inner.Breaks.{HasBroken, MayBreak}
pub use Rattle.tj_park.specs.Inner.Closings.{MayCloseResult}
pub use Rattle.tj_park.specs.Inner.JoinViews.{IsAdded, LooksOn, TakesBack, join_steps, push_behind}
pub use Rattle.tj_park.specs.ParkViews.{HasFoundChains}
pub use Rattle.tj_park.specs.Records.{HasNoRecord}
pub use Rattle.tj_park.specs.Wakes.{HasWoken, MayWake, MayWakeTasks, WakesAll, wake_notes}
pub use Rattle.tj_words.proofs.Holders.HeldChanges.{held_task}
pub use Rattle.tj_words.proofs.Holders.HeldTasks.{none_some, one_some}
pub use Rattle.tj_words.proofs.Holders.NotedEntries.{noted_here}
pub use Rattle.tj_words.proofs.SeatLoads.KnowsMoreOn.{more_itself, more_on, tail_on}
pub use Rattle.tj_words.proofs.Seating.Merging.{begins_at}
pub use Rattle.tj_words.proofs.Stores.SeatLists.{inside}
pub use Rattle.tj_words.proofs.Waiters.LiveSteps.{backing_idle, backing_running, backing_token}
pub use Rattle.tj_words.specs.Calls.ChainSteps.{rest_of, without_push}
pub use Rattle.tj_words.specs.Calls.DrawViews.{without_due}
pub use Rattle.tj_words.specs.Calls.ExchangeViews.{Swaps, missed}
pub use Rattle.tj_words.specs.Calls.LiveViews.{HasSlot, MayLowerLive, MayRaiseLive, MayRelease, SlotsOf, live_raised}
pub use Rattle.tj_words.specs.Calls.LiveViews.{lowered_with, released}
pub use Rattle.tj_words.specs.Calls.OwnerViews.{gave_up}
pub use Rattle.tj_words.specs.Calls.ParkSteps.{with_tokens}
pub use Rattle.tj_words.specs.Calls.TakenRecords.{custody_of, took_record}
pub use Rattle.tj_words.specs.LawParts.Chains.{head_of, parked_phase}
pub use Rattle.tj_words.specs.LawParts.Holding.{held_in}
pub use Rattle.tj_words.specs.LawParts.LiveCount.{Backing, DoesRun, HasAlarmed, Holds}
pub use Rattle.tj_words.specs.LawParts.NamedCells.{finish_cells, record_cells}
pub use Rattle.tj_words.specs.LawParts.Telling.{FinishSays, HasName, TellsStage}
pub use Rattle.tj_words.specs.LawParts.TreeWords.{AreCells, IsCell}
pub use Rattle.tj_words.specs.SeatViews.KnownEntries.{HasSeen, IsToBecome, ToldBy}
pub use Rattle.tj_words.specs.SeatViews.KnowsMore.{IsTailOf, KnowsMore}
pub use Rattle.tj_words.specs.SeatViews.SeatSteps.{SeatMe}
pub use Rattle.tj_words.specs.SeatViews.TaskLists.{hold, let_go}
pub use Rattle.tj_words.specs.Words.Heads.{head_word}
pub use Rattle.tj_words.specs.Words.Lists.{AreApart, cell, numbers, without}
pub use Rattle.tj_words.specs.declared.head.Head.{Head}
pub use Rattle.tj_words.specs.declared.phase.Phase.{Phase}
pub use Rattle.tj_record.specs.declared.record.Finish.{Finish}
pub use Rattle.tj_record.specs.declared.record.Rec.{Rec}
pub use Rattle.tj_record.specs.TaskRecords.{ended_record}
pub use Rattle.tj_words.specs.declared.view.Custody.{Custody}
pub use Rattle.tj_words.specs.declared.view.Filled.{Filled}
pub use Rattle.tj_words.specs.declared.view.Rest.{Rest}
pub use Rattle.tj_words.specs.declared.view.View.{View}
pub use lib.ListN.{get_elem?}
pub use mathlib.Core.Option.{some, some-injective}
