pub mod Round
pub mod Stands
pub mod Alike
pub mod Walk
pub mod Trail
