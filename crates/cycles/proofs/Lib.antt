mod Turns
pub mod Names
