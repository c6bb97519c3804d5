pub mod Fault
pub mod Words
