pub mod Unpack
pub mod Payload
pub mod Types
pub mod Groups
pub mod Letters
