pub mod Areas
pub mod Letters
pub mod Moves
pub mod Runs
