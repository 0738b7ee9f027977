mod Bits
pub mod Marks
mod Spread
pub mod Reach
pub mod Steps
pub mod Follow
mod Merged
pub mod Round
pub mod Walk
pub mod Ruled
pub mod Complete
pub mod Toured
pub mod Positions
