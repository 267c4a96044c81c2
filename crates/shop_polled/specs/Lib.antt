pub mod Streams
pub mod Pieces
pub mod BytesInView
pub mod BytesOutView
pub mod Meetings
pub mod Polls
pub mod Lives
pub mod Connections
