pub mod Payloads
pub mod Outcomes
