pub mod Labels
pub mod Keys
pub mod Same
pub mod Acts
pub mod Drawing
pub mod MayChange
pub mod Logs
pub mod Lawful
