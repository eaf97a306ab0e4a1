pub mod Places
pub mod Putting
pub mod Laws
