pub mod Faces
mod Halves
pub mod Firsts
pub mod Declining
mod Turns
