pub mod Regions
pub mod Stacks
pub mod Letters
