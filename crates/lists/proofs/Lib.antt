pub mod Calls
pub mod Split
pub mod Records
pub mod Lists
