pub mod Noting
pub mod Runs
pub mod Writing
