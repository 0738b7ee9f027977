pub mod Reach
pub mod Steps
pub mod Walked
