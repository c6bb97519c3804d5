pub mod Mixing
pub mod Written
