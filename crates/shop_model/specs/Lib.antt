pub mod rows
pub mod asked
pub mod population
pub mod trade
pub mod lists
pub mod pages
