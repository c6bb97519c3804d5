pub mod Figures
pub mod Splitting
pub mod ReadBack
