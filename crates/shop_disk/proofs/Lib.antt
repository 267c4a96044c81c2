pub mod cited
mod MemoryFiles
mod MemoryStates
