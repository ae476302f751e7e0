-- What tasks do with one another, as it is noted.
pub mod ActTasks
pub mod ActsAgree
pub mod EndedTasks
pub mod ForkNumbers
pub mod LineIndexes
pub mod MeantLines
pub mod NotedAsks
pub mod NotedRounds
pub mod ReachedActs
pub mod SeenActs
