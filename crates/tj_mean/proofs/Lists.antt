-- Elements of lists, their indexes and orders.
pub mod Elements
pub mod KeyedLists
pub mod Ends
pub mod NameOrder
pub mod Maps
