pub mod Starts
pub mod Stacked
pub mod Bits
pub mod Labels
pub mod Tops
pub mod Loops
pub mod DeadEnds
