mod Labelled
mod Letters
pub mod MeshSizes
pub mod Meshes
pub mod Coders
pub mod Records
pub mod MeshRecords
pub mod Demand3
