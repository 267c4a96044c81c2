pub mod Images
pub mod DiskStates
pub mod Calls
pub mod MemoryFiles
pub mod MemoryStates
pub mod MemoryView
pub mod MemoryLaws
pub mod FileStates
