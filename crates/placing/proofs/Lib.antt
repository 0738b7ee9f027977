pub mod Refusals
mod Storing
