pub mod Tree
pub mod Above
pub mod Machine
pub mod Reduced
