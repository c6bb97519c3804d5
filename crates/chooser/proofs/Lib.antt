pub mod PortSets
pub mod Picks
