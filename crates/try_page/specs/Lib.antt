pub mod Reading
pub mod Verdicts
pub mod Once
pub mod Tally
pub mod Spot
