-- The names that most proofs of this crate cite, passed on from one place. Declares nothing.
pub use Rattle.std.proofs.Common.{Bool, List, None, Some, [], ap, arith, false, inl, inr, length, nat_le, refl, subst}
pub use Rattle.std.proofs.Common.{suc, sym, true, ℕ, ⊎_elim, ◌*◌, ◌+◌, ◌-◌, ◌<◌, ◌^◌, ◌↔◌, ◌∙◌, ◌∷◌, ◌≡◌, ◌≢◌, ◌≤◌, ◌⊎◌}
pub use Rattle.tj_base.specs.declared.cell.CellId.{CellId}
pub use Rattle.tj_body.specs.Programs.{Program}
pub use Rattle.tj_events.specs.CoreState.{present}
pub use Rattle.tj_events.specs.Events.{EndsWalk, MayCount, MayReadOwner, count_read, is_owner, others_read, owner_read}
pub use Rattle.tj_events.specs.Events.{start_walk, way_if}
pub use Rattle.tj_events.specs.declared.walk.LastRead.TheVariants.{Counted, Passed, SawOthers}
pub use Rattle.tj_events.specs.declared.walk.Walker.{Walker}
pub use Rattle.tj_events.specs.declared.walk.Way.{Way}
pub use Rattle.tj_events.specs.declared.walk.Way.TheVariants.{Along, Other}
pub use Rattle.tj_detect.specs.Blocks.{Blocks, EndsWith, IsLoad, IsWalkOf, MayBlock, does_after, doing, tokens_given}
pub use Rattle.tj_detect.specs.Blocks.{walk_again, walk_count, walk_first, walk_others, walk_owner, walk_wait}
pub use Rattle.tj_detect.specs.Inner.WalkHops.{Comes, Hops, IsAtCount, WalksOn, WalksWith, passed_on}
pub use Rattle.tj_detect.specs.declared.blocking.Hop.TheVariants.{Ended, Next, Own}
pub use Rattle.tj_detect.specs.declared.blocking.Verdict.{Verdict}
pub use Rattle.tj_detect.specs.declared.blocking.Verdict.TheVariants.{Alarm, Skipped, Walked}
pub use Rattle.tj_tree.proofs.Readings.{GoesOn_trans, InEachTree_on, IsKnown_on}
pub use Rattle.tj_tree.proofs.Skew.{moves-ranks}
pub use Rattle.tj_tree.proofs.Walks.{above_trans}
pub use Rattle.tj_tree.specs.Forks.{name_of}
pub use Rattle.tj_tree.specs.Inner.Moves.{IsAtOrAbove}
pub use Rattle.tj_tree.specs.Nodes.{InEachTree, move_from, node_of}
pub use Rattle.tj_tree.specs.Walk.{GoesOn}
pub use Rattle.tj_tree.specs.declared.node.Node.{Node}
pub use Rattle.tj_tree.specs.declared.node.NodeId.{NodeId}
pub use Rattle.tj_words.proofs.Holders.HeldTasks.{one_some}
pub use Rattle.tj_words.proofs.SeatLoads.LaterSeats.{later_itself, later_on}
pub use Rattle.tj_words.specs.Calls.WaitViews.{alarmed, now_does, published}
pub use Rattle.tj_words.specs.Calls.WalkViews.{IsWalking, MayLoadWait, read_on, turned, walk_with}
pub use Rattle.tj_words.specs.LawParts.Holding.{held_in}
pub use Rattle.tj_words.specs.SeatViews.TreeReads.{MayLook, TreeShown}
pub use Rattle.tj_words.specs.Words.Owners.{owner_number}
pub use Rattle.tj_words.specs.declared.view.Custody.{Custody}
pub use Rattle.tj_words.specs.declared.view.Does.{Does}
pub use Rattle.tj_words.specs.declared.view.View.{View}
