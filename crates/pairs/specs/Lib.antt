pub mod Links
pub mod Iters
pub mod Entries
