pub mod Small
pub mod Fits
pub mod Rows
pub mod Builds
