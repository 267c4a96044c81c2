pub mod cited
mod Heads
mod Pairs
mod Splices
mod Tails
mod UserTexts
mod Woven
