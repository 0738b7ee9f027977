pub mod Strolls
