pub mod Marking
mod Zeros
