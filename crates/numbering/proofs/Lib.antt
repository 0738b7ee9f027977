pub mod Numbers
pub mod Marking
pub mod Entries
pub mod Stepping
pub mod Whole
