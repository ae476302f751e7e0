-- What the record of a task has, and what it has at its start.
pub mod TaskRecords
pub mod StartRecords
