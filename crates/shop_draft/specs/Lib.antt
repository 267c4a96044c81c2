pub mod Outs
pub mod Drawing
pub mod Templates
pub mod Links
pub mod Pages
pub mod Customers
