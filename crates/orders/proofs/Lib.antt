pub mod Patterns
pub mod Maps
