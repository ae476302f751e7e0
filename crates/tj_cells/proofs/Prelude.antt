-- The names that most proofs of this crate cite, passed on from one place. Declares nothing.
pub use Rattle.std.proofs.Common.{Bool, List, None, Option, Some, [], ap, arith, cond, eq-eqb, inl, inr, length, ne_eqb}
pub use Rattle.std.proofs.Common.{refl, subst, sym, true, ℕ, ⊎_elim, ◌++◌, ◌+◌, ◌-◌, ◌∙◌, ◌∷◌, ◌≡◌, ◌≢◌, ◌≤◌}
pub use Rattle.tj_base.specs.declared.cell.Sort.{Sort}
pub use Rattle.tj_body.proofs.Lists.{begins_self, begins_trans}
pub use Rattle.tj_body.specs.Points.{Begins, IsIn}
pub use Rattle.tj_body.specs.Programs.{Program, program_of}
pub use Rattle.tj_body.specs.declared.point.Entry.{Entry}
pub use Rattle.tj_body.specs.declared.point.Reference.{Reference}
pub use Rattle.tj_cells.specs.FilledCells.{became}
pub use Rattle.tj_cells.specs.Inner.MakingSteps.{child_jump_of, dues_left}
pub use Rattle.tj_cells.specs.MadeCells.{IsMade}
pub use Rattle.tj_cells.specs.SeenValues.{saw_value}
pub use Rattle.tj_tree.specs.Nodes.{InEachTree, node_of}
pub use Rattle.tj_tree.specs.declared.node.Node.{Node}
pub use Rattle.tj_words.proofs.Holders.NotedEntries.{noted_here}
pub use Rattle.tj_words.proofs.SeatLoads.LaterSeats.{later_on}
pub use Rattle.tj_words.proofs.Seating.Merging.{begins_at}
pub use Rattle.tj_words.proofs.Stores.OnceStores.{due_still}
pub use Rattle.tj_words.proofs.Stores.SeatLists.{inside}
pub use Rattle.tj_words.proofs.Stores.TableWords.{same_word}
pub use Rattle.tj_words.specs.Calls.DrawViews.{new_dues, new_task, runs_on, without_due, wrote_word}
pub use Rattle.tj_words.specs.LawParts.Holding.{held_in}
pub use Rattle.tj_words.specs.LawParts.Telling.{BitsSay, tag_of}
pub use Rattle.tj_words.specs.LawParts.TreeWords.{IsCell, IsDue}
pub use Rattle.tj_words.specs.SeatViews.KnowsMore.{KnowsMore}
pub use Rattle.tj_words.specs.SeatViews.TaskLists.{noted}
pub use Rattle.tj_words.specs.Words.Lists.{All}
pub use Rattle.tj_words.specs.Words.Values.{fill_in, tag_word}
pub use Rattle.tj_record.specs.declared.record.Fill.{Fill}
pub use Rattle.tj_record.specs.declared.record.Rec.{Rec}
pub use Rattle.tj_words.specs.declared.view.Custody.{Custody}
pub use Rattle.tj_words.specs.declared.view.Due.{Due}
pub use Rattle.tj_words.specs.declared.view.View.{View}
