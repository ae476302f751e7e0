pub mod LineNumbers
pub mod JumpsDoubled
pub mod CyclesApart
pub mod ToldParts
pub mod ToldOnce
pub mod NothingWrong
pub mod Placed
pub mod CycleOwners
pub mod LedToCycles
pub mod DebtsOnce
pub mod BrokenCells
pub mod Found
pub mod Origins
pub mod NamedCells
pub mod CellsTold
pub mod TasksTold
pub mod Setters
pub mod Permuted
pub mod Forests
pub mod FindingsGrouped
pub mod Ranked
pub mod Planted
pub mod Roots
pub mod BelowCauses
pub mod Claims
pub mod FirstEchoes
pub mod LedOn
pub mod Follows
pub mod CausesSorted
pub mod RanksMore
pub mod ChainsBegun
pub mod PutsAfter
mod ChainEnds
pub mod WentsRight
pub mod ReasonsTold
mod NotedThings
pub mod PlacedTasks
mod HandedTwice
mod OwnersKept
pub mod LetsTold
mod PromisesKept
mod RanksBefore
mod InTurn
mod CyclesFirst
