pub mod ToldNews
pub mod ToldLoads
pub mod ToldLinks
pub mod Hearing
pub mod Observers
pub mod SeenNews
pub mod EndedNews
