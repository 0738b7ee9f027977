pub mod Steps
mod Rest
