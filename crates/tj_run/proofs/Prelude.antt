-- The names that most proofs of this crate cite, passed on from one place. Declares nothing.
pub use Rattle.atomic_table.specs.Table.{rest}
pub use Rattle.std.proofs.Common.{Bool, Err, IfErr, IfOk, IfSome, List, None, Ok, Option, Result, Some, [], ap}
pub use Rattle.std.proofs.Common.{append_assoc, arith, cond, drop, eq-eqb, false, get_or, inl, inr, length, map, nat_eq}
pub use Rattle.std.proofs.Common.{ne_eqb, refl, rules, subst, suc, sym, true, w64, zero, ℕ, ℤ, ⊎_elim, ◌*◌, ◌++◌, ◌+◌}
pub use Rattle.std.proofs.Common.{◌-◌, ◌<◌, ◌^◌, ◌∙◌, ◌∷◌, ◌≡◌, ◌≢◌, ◌≤◌, ◌⊎◌}
pub use Rattle.std.proofs.Crossing.{send}
pub use Rattle.std.proofs.lemmas.Int.{to_z-of_z}
pub use Rattle.std.specs.Bool.{◌==◌}
pub use Rattle.std.specs.List.{AllByRecursion}
pub use Rattle.tj_base.specs.ForkOrder.{Name}
pub use Rattle.tj_base.specs.declared.cause.Trouble.{Trouble}
pub use Rattle.tj_base.specs.declared.cell.CellId.{CellId}
pub use Rattle.tj_base.specs.declared.cell.Sort.{Sort}
pub use Rattle.tj_base.specs.declared.value.Pay.{Pay}
pub use Rattle.tj_body.proofs.Lists.{begins_self, in_either, in_left, in_right, to_map}
pub use Rattle.tj_body.specs.Asks.{IsPaid}
pub use Rattle.tj_body.specs.History.{after_ask, after_failure, after_read, next_name, owned_in, reference}
pub use Rattle.tj_body.specs.History.{reference_at, to_promise, to_task, value_at, with_wait}
pub use Rattle.tj_body.specs.Inner.AskSteps.{join_of}
pub use Rattle.tj_body.specs.NameLaws.{NamesTellCells, Unhanded, hand_cell, hand_cells, has_cell, no_promise, not_owned}
pub use Rattle.tj_body.specs.NameLaws.{without_cell}
pub use Rattle.tj_body.specs.Points.{Begins, IsGoodAt, IsIn, most_places}
pub use Rattle.tj_body.specs.Programs.{Program, program_of}
pub use Rattle.tj_body.specs.RoundPoints.{AsksArePlaced, Becomes, IsOfRounds, PointsAreGood, PointsAsk, PointsRead}
pub use Rattle.tj_body.specs.RoundPoints.{TasksStart, ThingsInRounds, WritesBecome}
pub use Rattle.tj_body.specs.Table.{table_asks, table_awaits, table_left, table_places, table_then}
pub use Rattle.tj_body.specs.declared.ask.Answer.{Answer}
pub use Rattle.tj_body.specs.declared.ask.Ask.{Ask}
pub use Rattle.tj_body.specs.declared.point.Entry.{Entry}
pub use Rattle.tj_body.specs.declared.point.Point.{Point}
pub use Rattle.tj_body.specs.declared.point.Reference.{Reference}
pub use Rattle.tj_body.specs.declared.point.Task.{Task}
pub use Rattle.tj_body.specs.declared.point.Value.{Value}
pub use Rattle.tj_cells.proofs.SameViews.{more_same}
pub use Rattle.tj_cells.proofs.TaskNotes.{let_go_other}
pub use Rattle.tj_cells.specs.FilledCells.{IsFilledWith, MayFill, MayGiveUp, became}
pub use Rattle.tj_cells.specs.MadeCells.{IsMade, MayMake}
pub use Rattle.tj_events.specs.declared.walk.Way.{Way}
pub use Rattle.tj_detect.specs.Blocks.{MayBlock, does_after, doing}
pub use Rattle.tj_detect.specs.declared.blocking.Verdict.{Verdict}
pub use Rattle.tj_park.proofs.BreakSteps.{may_wake_closed, without_first}
pub use Rattle.tj_park.proofs.NothingToCome.{nothing_same}
pub use Rattle.tj_park.specs.ChildViews.{Claimed, MayReleaseChild, MayShelve, released_child, shelved}
pub use Rattle.tj_park.specs.Endings.{MayFinish}
pub use Rattle.tj_park.specs.ParkViews.{GaveBack, HasParked, LeftTask, MayParkTask}
pub use Rattle.tj_park.specs.Records.{HasNoRecord}
pub use Rattle.tj_park.specs.Wakes.{HasWoken, MayWake, WakesAll}
pub use Rattle.tj_run.specs.Inner.Answers.{with_reference as record_with}
pub use Rattle.tj_run.specs.Inner.Carried.{IsAsked, IsClosing, IsOpen, IsRunning, IsWaiting, RunsTask, Stands}
pub use Rattle.tj_run.specs.Inner.Children.{MayGiveEach, gave_each, with_child}
pub use Rattle.tj_run.specs.Inner.Going.{Goes, GoesOn, Lacks}
pub use Rattle.tj_run.specs.Inner.Pieces.{AreKept, child_record, fill_at, fill_of, held_at, hurt_of, numbered}
pub use Rattle.tj_run.specs.Inner.Turns.{TurnsTo}
pub use Rattle.tj_run.specs.Inner.Waits.{Blocked, ComesBack, IsHeldAs, IsLeft, waits_at}
pub use Rattle.tj_run.specs.Leaving.{HasStopped, Leaves}
pub use Rattle.tj_run.specs.Runs.{HasLots}
pub use Rattle.tj_run.specs.Workers.{IsFree, IsWorkers, about_table, table_program}
pub use Rattle.tj_run.specs.declared.next.Next.{Next}
pub use Rattle.tj_run.specs.declared.why.Left.{Left}
pub use Rattle.tj_run.specs.declared.why.Why.{Why}
pub use Rattle.tj_words.proofs.Holders.HeldTasks.{none_some, one_some}
pub use Rattle.tj_words.proofs.Meaning.MeaningGrows.{cell_on, pairs_map, stands_on, tells_on}
pub use Rattle.tj_words.proofs.SeatLoads.KnowsMoreOn.{more_itself, more_on, tail_on}
pub use Rattle.tj_words.proofs.Stores.SeatLists.{inside}
pub use Rattle.tj_words.proofs.Waiters.ChainLists.{no_some, same_some}
pub use Rattle.tj_words.specs.Calls.DrawViews.{without_due}
pub use Rattle.tj_words.specs.Calls.LiveViews.{HasSlot, MayEnd, ended}
pub use Rattle.tj_words.specs.Calls.OwnerViews.{gave_up}
pub use Rattle.tj_words.specs.Calls.TakenRecords.{custody_of}
pub use Rattle.tj_words.specs.Calls.WaitViews.{now_does}
pub use Rattle.tj_words.specs.Law.{IsRooted}
pub use Rattle.tj_words.specs.LawParts.FirstState.{first_view}
pub use Rattle.tj_words.specs.LawParts.Holding.{held_in}
pub use Rattle.tj_words.specs.LawParts.LiveCount.{HasAlarmed, Holds}
pub use Rattle.tj_words.specs.LawParts.Lots.{least_lot}
pub use Rattle.tj_words.specs.LawParts.Meaning.{HasCell}
pub use Rattle.tj_words.specs.LawParts.NamedCells.{fill_cells, finish_cells, hurt_cells, record_cells}
pub use Rattle.tj_words.specs.LawParts.ShownState.{reference_of}
pub use Rattle.tj_words.specs.LawParts.Telling.{ArePairs, FillSays, HasName, HeldSays, HurtSays, Tells, TellsStage}
pub use Rattle.tj_words.specs.LawParts.TreeWords.{AreCells, IsCell}
pub use Rattle.tj_words.specs.SeatViews.KnownEntries.{HasSeen}
pub use Rattle.tj_words.specs.SeatViews.KnowsMore.{IsTailOf, KnowsMore}
pub use Rattle.tj_words.specs.SeatViews.SeatSteps.{SeatMe}
pub use Rattle.tj_words.specs.SeatViews.SeenWords.{FindsNothing, seen_word}
pub use Rattle.tj_words.specs.SeatViews.TaskLists.{hold, let_go, note, noted}
pub use Rattle.tj_words.specs.SeatViews.TreeReads.{HasReadTree, KnowsTask}
pub use Rattle.tj_words.specs.SeatViews.Views.{left_half, note_of, saw_rest}
pub use Rattle.tj_words.specs.Steps.QuietSteps.{does_first}
pub use Rattle.tj_words.specs.Steps.StepEvents.{MayAct}
pub use Rattle.tj_words.specs.Steps.WalkSteps.{way_by}
pub use Rattle.tj_words.specs.Words.Lists.{All, AreApart, cell, numbers, without}
pub use Rattle.tj_record.specs.declared.record.Fill.{Fill}
pub use Rattle.tj_record.specs.declared.record.Finish.{Finish}
pub use Rattle.tj_record.specs.declared.record.Held.{Held}
pub use Rattle.tj_record.specs.declared.record.Hurt.{Hurt}
pub use Rattle.tj_record.specs.declared.record.Rec.{Rec}
pub use Rattle.tj_words.specs.declared.table.Laid.{Laid}
pub use Rattle.tj_words.specs.declared.view.Custody.{Custody}
pub use Rattle.tj_words.specs.declared.view.Does.{Does}
pub use Rattle.tj_words.specs.declared.view.View.{View}
pub use mathlib.Core.Option.{some-injective, some-ne-none}
