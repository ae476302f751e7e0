-- What an ask and its answer make of the record, the point and what the seat knows.
pub mod AskedSteps
pub mod FoundValues
pub mod MadePromises
pub mod NewThings
pub mod NextAsks
pub mod PointSteps
pub mod PureAsks
pub mod SetPromises
