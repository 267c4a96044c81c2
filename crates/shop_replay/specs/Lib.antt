pub mod Replays
pub mod Tries
pub mod Approvals
pub mod Again
