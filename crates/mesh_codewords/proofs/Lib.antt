pub mod Codes
mod Windows
