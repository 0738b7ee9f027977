mod Vertices
mod Walk
mod Planar
mod Loops
mod Connected
pub mod Built
