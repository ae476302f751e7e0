pub mod GeneratedRuns
