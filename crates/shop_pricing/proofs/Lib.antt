pub mod Setting
pub mod Bounds
pub mod Runs
