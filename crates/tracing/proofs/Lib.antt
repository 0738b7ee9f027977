pub mod Places
pub mod Positions
pub mod Puts
pub mod Stepping
pub mod Declining
pub mod Visits
pub mod Whole
