pub mod Asks
pub mod Makes
pub mod Performs
pub mod Places
