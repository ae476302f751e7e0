pub mod TaskLaws
