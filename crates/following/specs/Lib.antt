pub mod Half
