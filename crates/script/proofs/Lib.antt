pub mod Counted
pub mod Decimal
pub mod Hex
pub mod Runs
