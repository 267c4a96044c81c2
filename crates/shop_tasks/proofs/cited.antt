pub mod InTurn
pub mod Sent
pub mod Stations
