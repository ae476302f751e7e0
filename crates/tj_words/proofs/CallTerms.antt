-- Names that the answers of the calls cite, passed on from one place. Declares nothing.
pub use Rattle.tj_words.proofs.Prelude.{FirstTold, IsCount, IsPhaseWord, IsWalking, MayDraw, MayRaise, NextTold}
pub use Rattle.tj_words.proofs.Prelude.{PutsOwner, SeesOnce, SeesOwner, SeesPhase, ap, arith, count_at, count_read}
pub use Rattle.tj_words.proofs.Prelude.{draw_step, head_in, head_word, inl, min, next_load, none, owner_in, owner_load}
pub use Rattle.tj_words.proofs.Prelude.{owner_seen, phase_in, phase_load, phase_swap, plain_load, program_of}
pub use Rattle.tj_words.proofs.Prelude.{push_exchange, refl, step, subst, suc, sym, wait_found, wait_in, walk_load}
pub use Rattle.tj_words.proofs.Prelude.{word, ◌+◌, ◌∙◌, ◌≡◌, ◌≤◌}
pub use Rattle.tj_log.specs.declared.entry.Did.TheVariants.{Add, Exchange, Load, Store, Sub}
pub use Rattle.tj_words.proofs.Calls.ToldSteps.{down_is, phase_told, told_step, up_is}
pub use Rattle.tj_words.proofs.SeatLoads.LoggedSteps.{exchange_hit, exchange_missed, is_logged}
pub use Rattle.tj_words.proofs.Stores.CellSteps.{its_cell, once_back}
pub use Rattle.tj_words.specs.Inner.IndexWords.{cell_at, once_of}
