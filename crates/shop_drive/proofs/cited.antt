pub mod Charges
pub mod Failures
pub mod Moments
