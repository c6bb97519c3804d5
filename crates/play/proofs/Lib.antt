pub mod Asked
pub mod Clamped
pub mod Gathered
pub mod Performed
