pub mod Parts
pub mod Linking
pub mod Steps
pub mod Whole
pub mod Nested
pub mod Moves
