-- What only proofs and private functions speak of. Of the public clauses only `wakes` does, by ChainSentences.
pub mod ChainSentences
pub mod TreeDraws
pub mod IndexWords
pub mod CellTold
