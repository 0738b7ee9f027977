pub mod Window
pub mod Numbers
