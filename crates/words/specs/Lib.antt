pub mod Word
pub mod Toured
pub mod Brackets
pub mod Entered
pub mod Position
