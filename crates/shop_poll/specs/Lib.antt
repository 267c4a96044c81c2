pub mod Servings
pub mod Workers
pub mod Lanes
pub mod Runs
