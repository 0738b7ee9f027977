pub mod Stands
pub mod Cut
pub mod Turn
