pub mod TaskValues
pub mod Tasks
pub mod Tills
pub mod StationValues
pub mod Serves
pub mod InTurn
