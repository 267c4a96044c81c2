pub mod ListEnds
pub mod Extends
pub mod Versions
pub mod Shortest
pub mod Legality
pub mod Codes
