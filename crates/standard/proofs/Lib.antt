pub mod Numbering
pub mod Entries
pub mod Linking
pub mod Nesting
pub mod BareLeaf
pub mod DeadEnds
pub mod Valid
