-- Each event keeps the facts.
pub mod EachEvent
pub mod EventEffects
pub mod NextEvents
pub mod PublishEvent
pub mod RunEvents
pub mod WaitEnds
pub mod WalkEnds
pub mod WalkReads
pub mod LegalRuns
pub mod LegalCycles
