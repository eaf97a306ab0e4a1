pub mod Spans
pub mod Pools
pub mod Kept
pub mod Tables
pub mod Branches
pub mod Stores
pub mod Reads
