mod Permutations
pub mod Isomorphisms
pub mod Renumberings
pub mod Walk
pub mod Connected
pub mod Carried
pub mod Standard
pub mod Faces
