pub mod Bounds
pub mod Nesting
pub mod Lengths
pub mod Sizes
pub mod Turns
pub mod Runs
mod Within
mod Held
pub mod Encoding
pub mod Decoding
