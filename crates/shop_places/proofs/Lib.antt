pub mod cited
mod Progress
mod Steps
