pub mod Chains
pub mod Gathered
pub mod Totals
pub mod Units
pub mod Windows
