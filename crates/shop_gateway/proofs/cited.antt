pub mod Notings
pub mod Requests
pub mod Verdicts
