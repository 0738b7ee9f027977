pub mod Equality
mod Turn
pub mod Told
