mod Descents
mod Lists
pub mod Steps
mod Turning
