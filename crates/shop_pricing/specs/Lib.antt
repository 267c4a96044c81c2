pub mod Bounds
pub mod Changes
pub mod Fills
pub mod Totals
