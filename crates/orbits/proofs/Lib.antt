pub mod Order
pub mod Tally
pub mod Cycle
pub mod Sizes
pub mod Transversal
pub mod Chord
pub mod Stack
pub mod Decode
pub mod Match
pub mod Tour
pub mod Merge
mod Number
pub mod Span
pub mod Euler
pub mod Maps
pub mod Faces
pub mod Inverse
