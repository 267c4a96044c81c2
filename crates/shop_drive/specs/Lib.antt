pub mod Turns
pub mod Tallies
pub mod Drives
pub mod Meanings
