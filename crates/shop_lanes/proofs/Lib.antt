mod Spots
mod Since
mod Pools
mod Turns
mod Waits
