pub mod Words
pub mod Numbers
pub mod Troubles
pub mod Lines
pub mod Shown
pub mod Worked
