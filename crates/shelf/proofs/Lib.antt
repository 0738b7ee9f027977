pub mod Refusals
pub mod Walking
