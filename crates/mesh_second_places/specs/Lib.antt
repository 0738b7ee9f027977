pub mod Areas
pub mod Walks
