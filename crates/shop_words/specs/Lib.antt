pub mod Parser
pub mod Options
pub mod Values
pub mod Commands
pub mod Kept
pub mod Polled
