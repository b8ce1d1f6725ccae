pub mod Breaks
pub mod Examples
