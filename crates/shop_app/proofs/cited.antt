pub mod Alone
pub mod Chosen
pub mod NewShops
pub mod ServeLemmas
pub mod Ends
pub mod Places
