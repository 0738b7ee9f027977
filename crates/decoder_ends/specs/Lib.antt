pub mod States
pub mod Ends
