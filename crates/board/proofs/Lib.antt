pub mod Begins
pub mod Boards
pub mod Marking
pub mod Records
pub mod Slots
