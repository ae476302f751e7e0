-- A store or an exchange of PHASE keeps the law.
pub mod PhaseStores
pub mod NotedWaits
pub mod PhaseSteps
pub mod WaitStores
pub mod MarkedPromises
pub mod Departures
pub mod ReadyStores
pub mod EndedStores
pub mod ParkedStores
pub mod HomeComings
pub mod PhaseExchanges
