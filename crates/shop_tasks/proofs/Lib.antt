pub mod cited
mod Calls
mod Connections
mod Tasks
