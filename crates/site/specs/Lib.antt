pub mod PairSites
pub mod Halls
pub mod Windows
