pub mod Checks
pub mod Costs
pub mod Made
pub mod Build
pub mod Nodes
pub mod Pairs
