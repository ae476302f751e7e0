pub mod KeptNews
