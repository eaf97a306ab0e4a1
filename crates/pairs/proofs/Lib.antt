pub mod Places
pub mod Inserts
pub mod Grown
pub mod Drafts
pub mod Laws
