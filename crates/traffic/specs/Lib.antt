pub mod Inside
pub mod View
pub mod Posting
pub mod Occupied
pub mod Offers
pub mod Choosing
pub mod Sweeping
pub mod Stepping
