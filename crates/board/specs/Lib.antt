pub mod Begun
pub mod Settled
pub mod View
