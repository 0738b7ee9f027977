pub mod Bits
pub mod Labels
