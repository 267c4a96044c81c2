pub mod Records
pub mod Standing
pub mod Runs
pub mod Looking
pub mod Scanning
pub mod Creating
pub mod Opening
pub mod Appending
