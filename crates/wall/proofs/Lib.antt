pub mod Asking
pub mod Calls
pub mod Slots
