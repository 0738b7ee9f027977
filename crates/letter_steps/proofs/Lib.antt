mod Digits
pub mod Moves
