pub mod Checked
pub mod Exact
