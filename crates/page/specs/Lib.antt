pub mod Sheet
pub mod Call
pub mod Pages
