pub mod Scales
pub mod ScaleView
pub mod Words
pub mod DrawingView
pub mod Population
