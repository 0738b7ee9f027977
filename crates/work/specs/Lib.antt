pub mod Map
pub mod Area
pub mod Letters
