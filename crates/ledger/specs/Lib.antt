pub mod Ledgers
pub mod Reports
