pub mod MadeCells
pub mod Inner
pub mod FilledCells
pub mod SeenValues
pub mod ValueLogs
pub mod CallLogs
