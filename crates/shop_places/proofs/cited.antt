pub mod Counts
pub mod Going
