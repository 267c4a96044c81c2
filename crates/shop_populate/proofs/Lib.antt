pub mod Followers
pub mod RowFacts
pub mod LastExists
pub mod Opening
