mod Landing
mod Narrowed
mod Room
mod Short
