mod Fill
pub mod Payload
pub mod Padding
mod Labels
