pub mod Examples
pub mod Above
pub mod Trees
pub mod Reading
pub mod Nesting
pub mod Reduced
