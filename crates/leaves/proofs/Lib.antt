pub mod Clips
pub mod Slices
pub mod Items
