pub mod Coder
pub mod Framed
