pub mod Isomorphism
