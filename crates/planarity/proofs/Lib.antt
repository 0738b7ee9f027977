pub mod Touring
mod Diagrams
pub mod Vertices
pub mod Planar
pub mod SameVertex
mod Examples
