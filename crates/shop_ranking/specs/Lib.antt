pub mod Order
pub mod Standing
pub mod StandingBest
pub mod StandingNewest
