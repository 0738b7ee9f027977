mod Codes
pub mod Lit
mod Leaves
mod Taking
pub mod Flags
pub mod Bare
mod Seconds
pub mod Reading
