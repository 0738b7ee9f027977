pub mod Letters
pub mod Positions
pub mod Plans
pub mod Bracketing
pub mod Opened
pub mod OpenEdges
pub mod Nesting
mod WordDarts
pub mod Mates
pub mod Numbered
pub mod Darts
mod Lists
pub mod Rotation
pub mod Vertices
pub mod Leaves
pub mod Validity
mod Counts
pub mod Found
