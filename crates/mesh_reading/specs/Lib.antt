pub mod Read
pub mod Stages
