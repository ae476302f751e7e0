-- Bodies for tests.
pub mod ShyAsks
