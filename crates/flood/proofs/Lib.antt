pub mod Arrays
pub mod Cycles
pub mod Made
