pub mod Examples
pub mod Crossings
pub mod Tests
pub mod Nodes
pub mod Types
pub mod Rules
pub mod Written
