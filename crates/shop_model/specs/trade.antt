pub mod Money
pub mod Carts
pub mod Buyers
pub mod Stocks
pub mod Taxes
pub mod Sales
pub mod Mending
pub mod Adding
