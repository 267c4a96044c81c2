pub mod Stepping
pub mod Fresh
pub mod SoFar
pub mod Served
