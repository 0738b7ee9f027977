pub mod Encoded
pub mod Passes
