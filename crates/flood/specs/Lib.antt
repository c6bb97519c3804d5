pub mod Fit
pub mod View
