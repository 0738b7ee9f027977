pub mod Founds
pub mod Views
pub mod Standings
pub mod Turns
