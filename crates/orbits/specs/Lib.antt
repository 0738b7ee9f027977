pub mod Permutation
pub mod Chord
pub mod Stack
pub mod Tour
