-- The names that most proofs of this crate cite, passed on from one place. Declares nothing.
pub use Rattle.std.proofs.Common.{Bool, Err, IfOk, List, None, Ok, Option, Result, Some, [], ap, append-nil}
pub use Rattle.std.proofs.Common.{append_assoc, arith, drop, false, get_or, inl, inr, length, length-append, map, refl}
pub use Rattle.std.proofs.Common.{replicate, reverse, rules, subst, suc, sym, true, zero, ℕ, ◌++◌, ◌+◌, ◌-◌, ◌<◌, ◌∙◌}
pub use Rattle.std.proofs.Common.{◌∷◌, ◌≡◌, ◌≤◌, ◌⊎◌}
pub use Rattle.std.proofs.lemmas.List.Sorted.{IsPermutation-sym}
pub use Rattle.std.specs.List.{AllByRecursion}
pub use Rattle.std.specs.Option.{option_map}
pub use Rattle.std.specs.Prelude.{codes}
pub use Rattle.tj_base.specs.ForkOrder.{Name, child}
pub use Rattle.tj_base.specs.Texts.{name_text, parts_text}
pub use Rattle.tj_body.proofs.Lists.{in_either, in_left, in_map, in_right}
pub use Rattle.tj_body.specs.History.{history, owned, to_task}
pub use Rattle.tj_body.specs.Laws.{AreDistinct}
pub use Rattle.tj_body.specs.Names.{in_order}
pub use Rattle.tj_body.specs.Points.{Begins, IsIn}
pub use Rattle.tj_body.specs.Programs.{Program, program_of}
pub use Rattle.tj_body.specs.Rounds.{meaning, tasks}
pub use Rattle.tj_body.specs.declared.ask.Answer.{Answer}
pub use Rattle.tj_body.specs.declared.point.Point.{Point}
pub use Rattle.tj_body.specs.declared.point.PointStage.{PointStage}
pub use Rattle.tj_body.specs.declared.point.Reference.{Reference}
pub use Rattle.tj_mean.proofs.Lists.Elements.{some_is}
pub use Rattle.tj_mean.proofs.Lists.KeyedLists.{same_permuted}
pub use Rattle.tj_mean.proofs.MeaningNames.{meaning_distinct}
pub use Rattle.tj_mean.proofs.Outcomes.ToldOutcomes.{any_order, told_name}
pub use Rattle.tj_mean.specs.Inner.ToldOrder.{AreToldInSomeOrder}
pub use Rattle.tj_mean.specs.Outcomes.{AreTold, Waits, ending_of, stopped_of}
pub use Rattle.tj_mean.specs.declared.outcome.Link.{Link}
pub use Rattle.tj_mean.specs.declared.stopped.Stopped.{Stopped}
pub use Rattle.tj_report.specs.Inner.CellNames.{name_in, next_name}
pub use Rattle.tj_report.specs.Inner.CellNamesBy.{name_by}
pub use Rattle.tj_report.specs.Inner.WalkedReports.{AreToldBelow, IsBefore}
pub use Rattle.tj_report.specs.Inner.ToldRecords.{IsEndBelow, IsFinishBelow, IsRecordBelow, ending_by, finished_by}
pub use Rattle.tj_report.specs.Inner.ToldRecords.{told_by}
pub use Rattle.tj_mean.specs.ReportTexts.{line_feed, link_text}
pub use Rattle.tj_words.specs.AtRest.ClosedCells.{AreNamed, IsShown}
pub use Rattle.tj_words.specs.AtRest.RestMeaning.{AreRecordsOf, AreWordsOf, TellsHistory, names}
pub use Rattle.tj_words.specs.LawParts.TreeWords.{IsCell}
pub use Rattle.tj_words.specs.declared.closed.RestCell.{RestCell}
pub use Rattle.tj_record.specs.declared.record.Finish.{Finish}
pub use Rattle.tj_record.specs.declared.record.Held.{Held}
pub use Rattle.tj_record.specs.declared.record.Rec.{Rec}
pub use lib.ListN.{get_elem?}
pub use mathlib.Core.Option.{some, some-injective}
