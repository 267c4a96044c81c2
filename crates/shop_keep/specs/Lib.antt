pub mod Appends
pub mod Turns
pub mod Kept
pub mod Files
pub mod Workers
pub mod Sessions
pub mod Moves
pub mod Runs
