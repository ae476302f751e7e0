-- Lemmas of this crate that many of its proofs cite, passed on from one place. Declares nothing.
pub use Rattle.tj_words.proofs.Cells.CellFacts.{cell_born, sort_is, wait_shown}
pub use Rattle.tj_words.proofs.Cells.CellNames.{AreApartByName, are_cells, born_apart, cell_of_name, last_at, name_of}
pub use Rattle.tj_words.proofs.Cells.HandChanges.{IsAlike, births_on, custody_on, hands_on, names_on, once_on, tree_on}
pub use Rattle.tj_words.proofs.Cells.MadeThings.{made_few}
pub use Rattle.tj_words.proofs.Cells.MoreDues.{once_more}
pub use Rattle.tj_words.proofs.Cells.SeatHands.{hand_finds, hand_put, makes_none, makes_one, making_put}
pub use Rattle.tj_words.proofs.Events.OwnerSteps.{ActsOn, ClosesPromise, ClosesResult, DrawsCell, GivesOwner}
pub use Rattle.tj_words.proofs.Events.OwnerSteps.{HandsPromise}
pub use Rattle.tj_words.proofs.Events.ShownCells.{cell_blank, cell_there, owner_out, shown_is, stage_out}
pub use Rattle.tj_words.proofs.Events.ShownParts.{Parts, owned_parts, parts_of, shown_by}
pub use Rattle.tj_words.proofs.Events.StepEvents.{IsEventStep, IsHeldWith, IsQuietStep, IsToldBy, KeepsCells}
pub use Rattle.tj_words.proofs.Events.StepEvents.{ShowsEvent, ShowsNothing, core_of}
pub use Rattle.tj_words.proofs.Events.StepFacts.{facts_after, facts_quiet}
pub use Rattle.tj_words.proofs.Events.WalkSteps.{IsMoved, KeepsOthers, Proceeds, ReadsOn}
pub use Rattle.tj_words.proofs.Holders.HeldTasks.{at_index, hand_found, held_first, held_listed, held_rest, index_is}
pub use Rattle.tj_words.proofs.Holders.HeldTasks.{none_some, none_unless, one_some}
pub use Rattle.tj_words.proofs.Holders.HomeSlots.{home_else_out, home_out}
pub use Rattle.tj_words.proofs.Holders.NotedPairs.{IsNoted, noted_same}
pub use Rattle.tj_words.proofs.Holders.NotedTasks.{holder_named, holder_seat, holder_within, noted_is}
pub use Rattle.tj_words.proofs.Holders.RecordSteps.{kept_fit, out_fit}
pub use Rattle.tj_words.proofs.Holders.SeatTasks.{at_two, find_changed, find_put, find_same, held_alone, hold_else}
pub use Rattle.tj_words.proofs.Holders.SeatTasks.{hold_held, hold_here, made_held_by, owned_held_by, put_is, put_kept}
pub use Rattle.tj_words.proofs.Holders.SeatTasks.{put_self}
pub use Rattle.tj_words.proofs.Holders.TaskPlaces.{begun_out, begun_there, custody, does_shown, does_stage_there}
pub use Rattle.tj_words.proofs.Holders.TaskPlaces.{hand_seat, has_none, held_drawn, held_here, home_there, list_owned}
pub use Rattle.tj_words.proofs.Holders.TaskPlaces.{makes_nothing, stage_held, unheld, waiter_owned}
pub use Rattle.tj_words.proofs.Meaning.LawMeant.{ground_of, known_of, law_meant}
pub use Rattle.tj_words.proofs.Meaning.MeaningGrows.{AreFilledIn, FilledIn, Meant, grew_wider, meaning_grows, wider}
pub use Rattle.tj_words.proofs.Phases.PhaseStores.{left_seat, left_stores, phase_stores}
pub use Rattle.tj_words.proofs.SeatLoads.Learning.{IsSo, knowing_of}
pub use Rattle.tj_words.proofs.SeatLoads.LoadSteps.{Learns, knows_so, law_allowed, load_allowed, total_fits}
pub use Rattle.tj_words.proofs.Seating.Splitting.{total_set}
pub use Rattle.tj_words.proofs.Stores.LawChanges.{law_kept}
pub use Rattle.tj_words.proofs.Stores.OnceStores.{once_stored, tree_words_stored}
pub use Rattle.tj_words.proofs.Stores.SeatContents.{seats_same, seats_set, set_seats}
pub use Rattle.tj_words.proofs.Stores.SeatLists.{back, each_else, each_set, inside, of_seat_else, of_seat_here}
pub use Rattle.tj_words.proofs.Stores.SeatLists.{of_seat_set, same_field, word_here, words_same}
pub use Rattle.tj_words.proofs.Stores.SlotStores.{Acts, StoresWith, acts_giving, acts_keeping, acts_taking}
pub use Rattle.tj_words.proofs.Stores.SlotStores.{store_word_with}
pub use Rattle.tj_words.proofs.Stores.StepContents.{call_stores_with, stored, stored_with}
pub use Rattle.tj_words.proofs.Stores.StoreSteps.{MayStand, Stores, put_else, put_here, rule_stores, step_allowed}
pub use Rattle.tj_words.proofs.Stores.StoreSteps.{store_word}
pub use Rattle.tj_words.proofs.Stores.StoredWords.{put_word, put_word_cell, put_word_word, said}
pub use Rattle.tj_words.proofs.Stores.TableWords.{Count, Live, Own, TableWord, index}
pub use Rattle.tj_words.proofs.Waiters.ChainLists.{any_without_push, no_some, none_or, rest_is, rest_some, same_some}
pub use Rattle.tj_words.proofs.Waiters.ChainSeats.{chains_out, chains_seats, push_kept}
