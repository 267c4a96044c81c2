pub mod Reads
pub mod Counting
pub mod Names
pub mod Lists
