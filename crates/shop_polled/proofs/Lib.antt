pub mod Fronts
pub mod Polls
pub mod Meetings
