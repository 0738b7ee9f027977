pub mod Dual
pub mod Views
pub mod Walks
pub mod Seconds
pub mod Declining
pub mod Turns
