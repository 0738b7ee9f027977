pub mod Naming
mod Area
