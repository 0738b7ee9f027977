pub mod Place
pub mod Told
