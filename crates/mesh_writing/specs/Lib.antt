pub mod Laid
pub mod Recorded
