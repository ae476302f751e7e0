-- The names that most proofs of this crate cite, passed on from one place. Declares nothing.
pub use Rattle.atomic_table.proofs.Lists.{at_longer, at_map, at_set, at_snoc, exchanged, set_again, set_else, set_here}
pub use Rattle.atomic_table.specs.Table.{Act, State, Step, carried_after, gives, homes_after, keeps, opening}
pub use Rattle.atomic_table.specs.Table.{put_back, rest, step, takes}
pub use Rattle.tj_log.specs.Asks.{Allows}
pub use Rattle.tj_log.specs.Runs.{IsPlain}
pub use Rattle.tj_log.specs.Shown.{SeatShown}
pub use Rattle.std.proofs.Common.{Bool, List, None, Option, Some, [], ap, append_assoc, arith, cond, eq-eqb, eqb, false}
pub use Rattle.std.proofs.Common.{get_or, get_or-set_other, get_or-set_same, if◌then◌else◌, inl, inr, le-ltb, length}
pub use Rattle.std.proofs.Common.{length-append, length-set, ltb-false, ltb-true, map, min, nat_eq, nat_lt, ne_eqb}
pub use Rattle.std.proofs.Common.{refl, replicate, set, subst, suc, sym, true, zero, ℕ, ⊎_elim, ◌%◌, ◌&&◌, ◌*◌, ◌++◌}
pub use Rattle.std.proofs.Common.{◌+◌, ◌-◌, ◌/◌, ◌<◌, ◌==◌, ◌^◌, ◌||◌, ◌↔◌, ◌∙◌, ◌∷◌, ◌≡◌, ◌≢◌, ◌≤◌, ◌⊎◌}
pub use Rattle.std.specs.Slots.{slots_items}
pub use Rattle.tj_base.proofs.Puts.{at_put, put_else, put_here}
pub use Rattle.tj_base.specs.ForkOrder.{Name, before, child}
pub use Rattle.tj_base.specs.Puts.{put}
pub use Rattle.tj_base.specs.declared.cell.CellId.{CellId}
pub use Rattle.tj_base.specs.declared.cell.Sort.{Sort}
pub use Rattle.tj_body.proofs.Lists.{begins_self, begins_trans, in_either, in_left, in_map, in_right, to_map}
pub use Rattle.tj_body.proofs.RoundPoints.{entries_are_one}
pub use Rattle.tj_body.specs.History.{history, owned, reference, to_task}
pub use Rattle.tj_body.specs.Laws.{AreDistinct, IsFullWhere, IsLast, RestsAtMeaning}
pub use Rattle.tj_body.specs.Points.{Begins, IsIn}
pub use Rattle.tj_body.specs.Programs.{Program, program_of}
pub use Rattle.tj_body.specs.RoundPoints.{Becomes, InRounds, TasksStart}
pub use Rattle.tj_body.specs.Rounds.{IsFull, cells, given, last_round, tasks}
pub use Rattle.tj_body.specs.declared.ask.Answer.{Answer}
pub use Rattle.tj_body.specs.declared.point.Close.{Close}
pub use Rattle.tj_body.specs.declared.point.Entry.{Entry}
pub use Rattle.tj_body.specs.declared.point.Point.{Point}
pub use Rattle.tj_body.specs.declared.point.Reference.{Reference}
pub use Rattle.tj_body.specs.declared.point.Value.{Value}
pub use Rattle.tj_events.specs.CoreFacts.{CoreFacts}
pub use Rattle.tj_events.specs.CoreState.{CellStage, CellState, CoreState, Runs, alarmed, blank, fresh, is_task, maker}
pub use Rattle.tj_events.specs.CoreState.{name, owner, parked, present, raised, root_alone, running, stage, wait_of}
pub use Rattle.tj_events.specs.CoreState.{waits, walks}
pub use Rattle.tj_events.specs.Events.{Allowed, MayCount, MayReadAgain, MayReadOthers, MayReadOwner, after, count_read}
pub use Rattle.tj_events.specs.Events.{is_owner, others_read, owner_found, owner_read, raised_by_way, restage, staged}
pub use Rattle.tj_events.specs.Events.{start_walk, wait_found, way_if, way_of_wait, with_new}
pub use Rattle.tj_events.specs.Laws.{EventKeepsFacts}
pub use Rattle.tj_events.specs.StateLaws.{AlarmsAreOnCycles, CyclesAreWatched}
pub use Rattle.tj_events.specs.WalkLaws.{OthersAreFew}
pub use Rattle.tj_events.specs.declared.event.Event.{Event}
pub use Rattle.tj_events.specs.declared.walk.LastRead.TheVariants.{SawOwner, SawWait}
pub use Rattle.tj_events.specs.declared.walk.Walker.{Walker}
pub use Rattle.tj_events.specs.declared.walk.Way.{Way}
pub use Rattle.tj_tree.proofs.Trees.{IsJump-of, node_of-child}
pub use Rattle.tj_tree.specs.Forks.{Fork, Forks, HasTask, IsHistory}
pub use Rattle.tj_tree.specs.Nodes.{jump_from, node_of}
pub use Rattle.tj_tree.specs.declared.node.Node.{Node}
pub use Rattle.tj_tree.specs.declared.node.NodeId.{NodeId}
pub use Rattle.tj_words.specs.AtRest.ClosedCells.{AreAlarmsOnCycles, AreAtRest, AreCyclesAlarmed, IsPromise, IsShown}
pub use Rattle.tj_words.specs.AtRest.ClosedCells.{IsStill, Leads, Owns, Waits}
pub use Rattle.tj_words.specs.AtRest.RestMeaning.{names}
pub use Rattle.tj_words.specs.AtRest.RestShown.{AreSlots}
pub use Rattle.tj_words.specs.AtRest.RestingSeats.{MayRest}
pub use Rattle.tj_words.specs.CallLaws.CallRuns.{AreAskedMoments, IsAskedStep, events_by, joined, phase_events}
pub use Rattle.tj_words.specs.CallLaws.CallRuns.{takes_new, under}
pub use Rattle.tj_words.specs.CallLaws.CallSteps.{MakesWith}
pub use Rattle.tj_words.specs.CallLaws.RestedRuns.{AreMoments, IsCallStep, IsSplit, IsTableStep, Ruled, last_moment}
pub use Rattle.tj_words.specs.CallLaws.StepCalls.{StepCall, place_of, told_by}
pub use Rattle.tj_words.specs.Calls.ChainSteps.{push_exchange, rest_of, shut_swap, with_next, without_push}
pub use Rattle.tj_words.specs.Calls.DrawViews.{FindsCell, MayDraw, MayGive, draw_step, drawn_next, drew, gave_owner}
pub use Rattle.tj_words.specs.Calls.DrawViews.{mark, new_dues, new_hand, new_task, new_tasks, owns_also, runs_on}
pub use Rattle.tj_words.specs.Calls.DrawViews.{without_due}
pub use Rattle.tj_words.specs.Calls.EntryViews.{MayPutOnce, PutsOnce}
pub use Rattle.tj_words.specs.Calls.ExchangeViews.{KnowsTable, MayClearFrom, MayGoBack, MaySwap, MayWake, Swaps}
pub use Rattle.tj_words.specs.Calls.ExchangeViews.{phase_swap, went_back}
pub use Rattle.tj_words.specs.Calls.LiveViews.{IfRecord, LaysChild, MayEnd, MayRelease, Shelves, SlotsOf, came_home}
pub use Rattle.tj_words.specs.Calls.LiveViews.{ended, lowered_with, raised_with, released}
pub use Rattle.tj_words.specs.Calls.OwnerViews.{MayPutOwner, PutsOwner, gave_up}
pub use Rattle.tj_words.specs.Calls.MetCells.{Meets, SeesOwner, SeesPhase, met, owner_load, phase_load}
pub use Rattle.tj_words.specs.Calls.ParkSteps.{FirstTold, new_push, with_tokens}
pub use Rattle.tj_words.specs.Calls.PhaseViews.{PutsPhase}
pub use Rattle.tj_words.specs.Calls.TakenRecords.{IsKnownRecord, took_record}
pub use Rattle.tj_words.specs.Calls.WaitViews.{now_does, published}
pub use Rattle.tj_words.specs.Calls.WalkViews.{IsWalking, MayLoadOwner, MayRaise, lowered, owner_seen, turned}
pub use Rattle.tj_words.specs.Calls.WalkViews.{walk_load, walk_with}
pub use Rattle.tj_words.specs.AtRest.ShownCells.{AreCellsOf, cell_of, maker_in, task_in}
pub use Rattle.tj_words.specs.Inner.TreeDraws.{IsDrawnInto, forks_after}
pub use Rattle.tj_words.specs.Law.{IsRooted, IsSeat, IsSeatOf, Law, Rule, seat_part}
pub use Rattle.tj_words.specs.LawParts.Chains.{AreLinked, Chains, HasGrown, IsFirstIn, IsParkedOn, IsPush, IsRest}
pub use Rattle.tj_words.specs.LawParts.Chains.{head_of, parked_phase}
pub use Rattle.tj_words.specs.LawParts.Contents.{Contents, SeatsHave, WordsSay, bits_in, contents_of, core_shown}
pub use Rattle.tj_words.specs.LawParts.Contents.{drawn_in, hand_of, held_of, home_of, made_of, owned_of, seats_have}
pub use Rattle.tj_words.specs.LawParts.Contents.{tag_in, words_say}
pub use Rattle.tj_words.specs.LawParts.Custodies.{Custodies, IsCustody, IsHeld, IsKept, IsLaid, LiesAtHome, OwnedLists}
pub use Rattle.tj_words.specs.LawParts.FirstState.{first_slots, first_view, first_words, root_record}
pub use Rattle.tj_words.specs.LawParts.Hands.{Hands, IsInHand, IsMarkedRight, IsThere, hand_in, hand_phase, making}
pub use Rattle.tj_words.specs.LawParts.Holding.{IsEmpty, Slots, find_in, held_in, home_in, made_by, or_else, owned_by}
pub use Rattle.tj_words.specs.LawParts.Holding.{phase_of, record_in}
pub use Rattle.tj_words.specs.LawParts.LiveCount.{Backing, BackingOf, DoesRun, DoesWalk, HasAlarmed, HasWake}
pub use Rattle.tj_words.specs.LawParts.LiveCount.{HasWakeToCome, Holds, IsBacked, IsLively, LiveCount, live_part}
pub use Rattle.tj_words.specs.LawParts.LiveCount.{live_tasks}
pub use Rattle.tj_words.specs.LawParts.Lots.{IsSpent, IsWithinLot, Lots, WithinLot, all_lots, least_lot}
pub use Rattle.tj_words.specs.LawParts.Meaning.{IsFilled, IsNamedThere, IsToldRecord, IsWritten, Meaning, StandsIn}
pub use Rattle.tj_words.specs.LawParts.NamedCells.{AreThere, NamesCells, does_cells, read_cells, record_cells}
pub use Rattle.tj_words.specs.LawParts.NamedCells.{trail_cells, walk_cells}
pub use Rattle.tj_words.specs.LawParts.OnceWords.{HasInHand, OnceWords, Stands}
pub use Rattle.tj_words.specs.LawParts.RecordPhases.{IsRecordIn, RecordsFit, WaitersOwn, WaitsFor}
pub use Rattle.tj_words.specs.LawParts.ShownState.{answer_stage, does_stage, first_owner, hand_stage, new_stage}
pub use Rattle.tj_words.specs.LawParts.ShownState.{owner_shown, phase_sort, reference_of, sort_shown, stage_shown}
pub use Rattle.tj_words.specs.LawParts.ShownState.{stage_there, state_shown}
pub use Rattle.tj_words.specs.LawParts.Stops.{IsStored, Stops}
pub use Rattle.tj_words.specs.LawParts.Telling.{ArePairs, BitsSay, FillSays, FinishSays, HasName, HeldSays, Tells}
pub use Rattle.tj_words.specs.LawParts.Telling.{TellsStage, tag_of}
pub use Rattle.tj_words.specs.LawParts.TreeWords.{AreCells, Births, IsCell, IsDue, IsForkTree, IsOfTree, TreeWords}
pub use Rattle.tj_words.specs.LawParts.TreeWords.{depth_word, jump_word, parent_word, tree_word}
pub use Rattle.tj_words.specs.SeatViews.FullMeaning.{stop_load}
pub use Rattle.tj_words.specs.SeatViews.KnownEntries.{HasSeen, ToldBy}
pub use Rattle.tj_words.specs.SeatViews.SeatSteps.{IsCount, SeatMe, live_load, plain_load}
pub use Rattle.tj_words.specs.SeatViews.SeenWords.{FindsWord, IsTaskIn, MayReadTree, NextTold, SeesOnce, ShowsNode}
pub use Rattle.tj_words.specs.SeatViews.SeenWords.{head_load, next_load, seen_word}
pub use Rattle.tj_words.specs.SeatViews.TaskLists.{hold, let_go, noted}
pub use Rattle.tj_words.specs.SeatViews.TreeReads.{HasReadTree, IsLater}
pub use Rattle.tj_words.specs.SeatViews.Views.{IsIdle, both, left_half, noted_step, right_half, spent}
pub use Rattle.tj_words.specs.Steps.OwnerSteps.{draw_event, next_reference}
pub use Rattle.tj_words.specs.Steps.QuietSteps.{KeepsHoldings, LoadsOnly, does_first}
pub use Rattle.tj_words.specs.Steps.StepEvents.{IsBegun, MayAct, wait_in}
pub use Rattle.tj_words.specs.Steps.TableRuns.{state_of}
pub use Rattle.tj_words.specs.Steps.WalkSteps.{MayWait, is_task_sort, way_by}
pub use Rattle.tj_words.specs.Words.Codes.{Codes, IsPhaseWord}
pub use Rattle.tj_words.specs.Words.Heads.{head_in, head_word, shut_word}
pub use Rattle.tj_words.specs.Words.Lists.{All, Any, AreApart, Each, OfSeat, cell, numbers, total, without}
pub use Rattle.tj_words.specs.Words.Offsets.{count_at, head_at, live_at, next_at, once_at, others_at, own_at, phase_at}
pub use Rattle.tj_words.specs.Words.Offsets.{stop_at, word}
pub use Rattle.tj_words.specs.Words.Owners.{owner_in}
pub use Rattle.tj_words.specs.Words.Phases.{phase_in, phase_word}
pub use Rattle.tj_words.specs.declared.closed.RestCell.{RestCell}
pub use Rattle.tj_words.specs.declared.head.Head.{Head}
pub use Rattle.tj_words.specs.declared.head.Head.TheVariants.{Empty, Shut, Task}
pub use Rattle.tj_words.specs.declared.offsets.Once.{Once}
pub use Rattle.tj_words.specs.declared.offsets.Once.TheVariants.{Tag}
pub use Rattle.tj_words.specs.declared.phase.Phase.{Phase}
pub use Rattle.tj_words.specs.declared.phase.Phase.TheVariants.{Unborn, Waiting}
pub use Rattle.tj_words.specs.declared.phase.Walk.{Walk}
pub use Rattle.tj_record.specs.declared.record.Fill.{Fill}
pub use Rattle.tj_record.specs.declared.record.Finish.{Finish}
pub use Rattle.tj_record.specs.declared.record.Rec.{Rec}
pub use Rattle.tj_words.specs.declared.table.Key.{Key}
pub use Rattle.tj_words.specs.declared.view.About.{About}
pub use Rattle.tj_words.specs.declared.view.Custody.{Custody}
pub use Rattle.tj_words.specs.declared.view.Does.{Does}
pub use Rattle.tj_words.specs.declared.view.Due.{Due}
pub use Rattle.tj_words.specs.declared.view.Filled.{Filled}
pub use Rattle.tj_words.specs.declared.view.Found.{Found}
pub use Rattle.tj_words.specs.declared.view.Hand.{Hand}
pub use Rattle.tj_words.specs.declared.view.Push.{Push}
pub use Rattle.tj_words.specs.declared.view.Rest.{Rest}
pub use Rattle.tj_words.specs.declared.view.SeenWord.{SeenWord}
pub use Rattle.tj_words.specs.declared.view.View.{View}
pub use lib.ListN.{get_elem?, length-replicate}
pub use lib.Seq.{map-set}
pub use mathlib.Core.Logic.{dite}
pub use mathlib.Core.Option.{none, some, some-injective, some-ne-none}
pub use native.Mathlib.Decide.{dec_le, ℕ_discrete}
pub use prog.Atomic.{either}
