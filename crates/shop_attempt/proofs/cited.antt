pub mod Settles
pub mod Looks
pub mod Marks
pub mod Writes
