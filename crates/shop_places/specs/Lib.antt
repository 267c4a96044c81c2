pub mod Counts
pub mod Listening
pub mod Visits
pub mod Spots
pub mod Tickets
pub mod Since
pub mod Places
pub mod Outcomes
