pub mod Cuts
pub mod Shorter
