mod Ahead
mod Rising
mod Along
mod Face
mod Outer
pub mod Marking
