pub mod Keeping
pub mod cited
