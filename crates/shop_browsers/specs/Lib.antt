pub mod Mixes
pub mod Browsers
pub mod Requests
pub mod Adding
pub mod Shown
pub mod Scanned
pub mod BrowserView
