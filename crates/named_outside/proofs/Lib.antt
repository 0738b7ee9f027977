pub mod Faces
