pub mod Table
pub mod Reading
pub mod Laying
pub mod Bytes
pub mod Spelled
pub mod Listing
