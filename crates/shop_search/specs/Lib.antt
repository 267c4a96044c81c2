pub mod Order
pub mod Keys
pub mod Lists
pub mod Namings
pub mod Titles
pub mod Growing
pub mod Filings
