pub mod Torn
pub mod Moments
