pub mod Keys
pub mod Lines
pub mod LineLinks
pub mod Caches
pub mod Ends
