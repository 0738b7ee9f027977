pub mod Strolls
pub mod Climbs
pub mod Places
pub mod Meshes
