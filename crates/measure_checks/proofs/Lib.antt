pub mod Refusing
mod Copying
