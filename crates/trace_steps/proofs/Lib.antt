pub mod Grounds
pub mod Rounds
