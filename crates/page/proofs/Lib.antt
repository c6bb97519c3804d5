pub mod Writing
pub mod Growing
pub mod Slotting
