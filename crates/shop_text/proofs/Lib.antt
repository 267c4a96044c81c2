pub mod Dates
pub mod cited
pub mod Extends
mod Spelled
